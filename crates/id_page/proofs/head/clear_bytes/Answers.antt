-- Each byte is cleared after those before it.
use Rattle.std.proofs.Common.{◌∙◌, arith, inl, inr, refl, ⊎_elim, ◌+◌, ◌≤◌}
use Rattle.block_bytes.specs.Laws.{number_at-put_other}
use Rattle.bucket_page.proofs.Places.{cleared_more}
use Rattle.id_page.proofs.head.clear_bytes.Goals as goal

pub loop-k-init : goal.loop-k-init
loop-k-init c = record {
  size = c.told-page;
  from = omega arith;
  cleared = λ j from below. absurd (omega (arith, from, below));
  others = λ n at clear. refl;
}

pub loop-k-preserved : goal.loop-k-preserved
loop-k-preserved c =
    let before = c.loop-k.invariant in
    let k = c.loop-k.k in
    let at = c.args.at in
    let many = c.args.many in record {
      size = c.write_u8.array_long;
      from = omega (arith, before.from);
      cleared = rw c.write_u8.ensures (cleared_more at k c.loop-k.page (omega arith) before.cleared);
      others = λ n to clear. rw c.write_u8.ensures (number_at-put_other n to 1 k 0 c.loop-k.page (omega arith)
          (⊎_elim (λ (h : to + n ≤ at). inl (omega (arith, h, before.from)))
          (λ (h : at + many ≤ to). inr (omega (arith, h))) clear)) ∙ before.others n to clear;
    }
