-- Each step takes the last object.
use Rattle.std.proofs.Common.{◌≡◌, ◌∙◌, ◌+◌, ◌-◌, ℕ, List, Some, ap, arith, inl, inr, length, sym, take}
use Rattle.std.proofs.lemmas.List.{take_all}
use Rattle.block_bytes.specs.Numbers.{number_at}
use Rattle.bucket_page.specs.Layout.{Entry}
use Rattle.id_page.proofs.LeafReading.{count_of_leaf}
use Rattle.id_page.proofs.Lists.{kept_at_last, taken_less}
use Rattle.id_page.proofs.leaf_parts.keep_objects.Goals as goal

pub loop-place-init : goal.loop-place-init
loop-place-init g c = record {
  from = omega arith;
  upto = inl (omega arith);
  many = omega arith;
  kept = λ objects is. is ∙ ap (λ (os : List Entry). Some os)
      (sym (take_all (length objects - (c.args.many - c.args.many)) objects (omega arith)));
  tidy = λ was. was;
}

pub loop-place-preserved : goal.loop-place-preserved
loop-place-preserved g c =
    let before = c.loop-place.invariant in
    let place = c.loop-place.place in
    let many = c.args.many in record {
      from = omega (arith, before.from);
      upto = inr (omega arith);
      many = omega (arith, before.from, before.many, c.pop_object.ensures.count);
      kept = λ objects is.
          let long : number_at 2 2 c.args.page.now ≡ length objects =
          count_of_leaf g.row.D c.args.page.now objects is in
          let n : ℕ = length objects - (place + 1 - many) in
          let on : length objects - (place - many) ≡ n + 1 = omega (arith, before.from, long) in
          c.pop_object.ensures.popped (take (n + 1) objects)
          (before.kept objects is ∙ ap (λ (i : ℕ). Some (take i objects)) on)
          ∙ ap (λ (os : List Entry). Some os) (taken_less objects n (omega (arith, on)));
      tidy = λ was. c.pop_object.ensures.tidy (before.tidy was);
    }

pub returns-clause-kept : goal.returns-clause-kept
returns-clause-kept g c = λ objects is.
    let last = c.loop-place.invariant in
    last.kept objects is ∙ ap (λ (os : List Entry). Some os)
    (kept_at_last objects c.args.many c.loop-place.place (number_at 2 2 c.args.page.now)
    (count_of_leaf g.row.D c.args.page.now objects is) last.from (omega arith) last.upto)
