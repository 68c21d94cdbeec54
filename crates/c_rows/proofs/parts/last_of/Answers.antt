use Rattle.std.proofs.Common.{subst, sym, refl, take, slice_index_or}
use Rattle.std.proofs.lemmas.List.{take_more}
use Rattle.c_rows.specs.Parts.{IsLast}
use Rattle.c_rows.proofs.parts.last_of.Goals as goal

pub loop-k-preserved : goal.loop-k-preserved
loop-k-preserved c = record {
  done =
      subst (λ objects. IsLast c.args.most objects c.last_with-last.result)
      (sym (take_more c.args.objects.now c.loop-k.k c.index-objects-k.result c.loop-k-test.true))
      (c.last_with-last.ensures (take c.loop-k.k c.args.objects.now)
      (slice_index_or c.args.objects.now c.loop-k.k c.index-objects-k.result) refl c.loop-k.invariant.done);
}
