-- The objects are compared, and the pages are put together.
use Rattle.std.proofs.Common.{◌≡◌, ◌∙◌, ◌++◌, ℕ, List, All, ap, inr, sym, subst, arith, length}
use Rattle.std.specs.FinMap.{entries, len-entries}
use Rattle.std.specs.Prelude.{IsPermutation}
use Rattle.std.proofs.lemmas.Bool.Decides.{nat_tests}
use Rattle.std.proofs.lemmas.List.Sorted.{length_permutation}
use Rattle.page_file.specs.declared.fault.Fault.TheVariants as fault
use Rattle.layer_pages.specs.Checked.{odd_page}
use Rattle.box_math.specs.Bounds.{IsBox}
use Rattle.box_math.specs.Objects.{bounds_of}
use Rattle.bucket_page.specs.Layout.{Entry}
use Rattle.layer_pages.proofs.checking.pages_of_both.Goals as goal

pub returns-then-len-count-clause-stands : goal.returns-then-len-count-clause-stands
returns-then-len-count-clause-stands g c = λ objects count_is held_are listed_are.
    absurd (c.if-len-count.true
    (omega (
      arith,
      c.len.ensures,
      c.args.tree.pairs.ok.0,
      length_permutation c.args.tree.pairs.items (entries objects) held_are,
      len-entries objects,
      count_is,
    )))

pub returns-then-not-have_same-clause-stands : goal.returns-then-not-have_same-clause-stands
returns-then-not-have_same-clause-stands g c = λ objects count_is held_are listed_are.
    let yes = c.have_same.ensures.found objects
    (subst (λ (os : List Entry). IsPermutation os (entries objects)) (sym c.as_mut_slice.ensures.value)
    held_are)
    (subst (λ (os : List Entry). IsPermutation os (entries objects)) (sym c.as_mut_slice-2.ensures.value)
    listed_are) in
    absurd (cc)

pub returns-then-len-count-clause-damage : goal.returns-then-len-count-clause-damage
returns-then-len-count-clause-damage g c =
    let other : ¬ (length c.args.tree.pairs.items ≡ c.args.count) =
    λ same. c.if-len-count.true (omega (arith, c.len.ensures, c.args.tree.pairs.ok.0, same)) in
    let odd : 2 ≡ odd_page c.args.ids_root c.args.count c.args.tree.pairs.items = grind (arith, nat_tests) in
    inr (ap fault.Damaged odd)

pub returns-then-not-have_same-clause-damage : goal.returns-then-not-have_same-clause-damage
returns-then-not-have_same-clause-damage g c =
    let same : length c.args.tree.pairs.items ≡ c.args.count = sym c.args.tree.pairs.ok.0 ∙ sym c.len.ensures
    ∙ c.if-len-count.false in
    let odd : c.args.ids_root ≡ odd_page c.args.ids_root c.args.count c.args.tree.pairs.items =
    grind (arith, nat_tests) in
    inr (ap fault.Damaged odd)

pub returns-clause-joined : goal.returns-clause-joined
returns-clause-joined g c =
    let P : Entry → Type 0 = λ o. IsBox g.row.D (bounds_of o.1) in
    record {
      same = subst (λ (os : List Entry). IsPermutation os c.args.table.pairs.items)
          c.as_mut_slice.ensures.value
          (subst (λ (os : List Entry). IsPermutation c.as_mut_slice.result.now os)
          c.as_mut_slice-2.ensures.value (c.have_same.ensures.same c.if-not-have_same.false));
      boxes = subst (λ (os : List Entry). All P os) c.as_mut_slice.ensures.value
          (c.have_same.ensures.boxes c.if-not-have_same.false);
      many = sym c.args.tree.pairs.ok.0 ∙ sym c.len.ensures ∙ c.if-len-count.false;
      pages_are = c.in_ok-extend_from_slice.ensures.items
          ∙ ap (λ (list : List ℕ). c.args.tree.pages.items ++ list) c.as_slice.ensures.value;
    }
