-- A bucket page that was tidy stays so.
use Rattle.std.proofs.Common.{inr}
use Rattle.id_chains.proofs.TidyLemmas.{bucket_kept}
use Rattle.id_chains.proofs.places.fn.put_at.edit.Goals as goal

pub returns : goal.returns
returns g c = record {
  replaced = c.set_entry.ensures.replaced;
  tidy = λ content is within.
      bucket_kept g.row.D c.args.page.now c.set_entry.new.page content is
      (c.set_entry.ensures.kind content is)
      (λ tidy. c.set_entry.ensures.tidy content is within (inr tidy));
}
