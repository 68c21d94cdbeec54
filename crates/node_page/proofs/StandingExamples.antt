-- Worked examples of trees in pages: which stand where their nodes are spelled, and which stand nowhere. No
-- other proof rests on them.
use Rattle.std.proofs.lemmas.Bool.{cases_eq}
use Rattle.std.proofs.lemmas.Bool.Decides.{nat_tests}
use Rattle.std.proofs.Common.{Bool, true, false, cond, eqb, ◌+◌, ◌≤◌, ⊎_elim, subst, ◌≡◌, ℕ, refl, arith}
use Rattle.tree_node.specs.Trees.{end, more, child, occurs_in}
use Rattle.tree_node.proofs.TreeExamples.{box, left, right, tree}
use Rattle.node_page.specs.Standing.{HasNode, PageMap, RowStands, Stands}

-- ---- what stands

-- where its three nodes are spelled, the tree stands
it_stands : (dims : ℕ) (pages : PageMap) → HasNode dims pages 5 1 tree.row → HasNode dims pages 3 0 left
    → HasNode dims pages 4 0 right → Stands dims pages tree
it_stands dims pages root first second = record {
  root = root;
  below = (omega arith, first, (refl, (refl, tt)), (omega arith, second, (refl, (refl, tt)), tt));
  distinct = λ n. ⊎_elim
      (λ (is : 3 ≡ n). subst (λ k. occurs_in k tree ≤ 1) is (omega arith))
      (λ (not_3 : ¬ (3 ≡ n)). ⊎_elim
      (λ (is : 4 ≡ n). subst (λ k. occurs_in k tree ≤ 1) is (omega arith))
      (λ (not_4 : ¬ (4 ≡ n)). let a : eqb 3 n ≡ false = grind (arith, nat_tests) in
      let b : eqb 4 n ≡ false = grind (arith, nat_tests) in rw (a, b) (at_most_one (eqb 5 n)))
      (cases_eq 4 n))
      (cases_eq 3 n);
}
  where
    at_most_one : (b : Bool) → cond b 1 0 + 0 ≤ 1
    at_most_one true = omega arith
    at_most_one false = omega arith

-- ---- what stands nowhere

-- a tree with a page twice
a_page_twice_stands_nowhere : (dims : ℕ) (pages : PageMap)
    → Stands dims pages
    (record {
      page = 5;
      level = 1;
      row = more (child (box 0 0 0 1) 3 left) (more (child (box 2 2 3 2) 3 right) end);
    }) → ⊥
a_page_twice_stands_nowhere dims pages h = absurd (omega (arith, h.distinct 3))

-- objects above the leaves
an_object_above_the_leaves_stands_nowhere : (dims : ℕ) (pages : PageMap) → RowStands dims pages 1 left → ⊥
an_object_above_the_leaves_stands_nowhere dims pages h = absurd (omega (arith, h.0))

-- children of a leaf
a_child_of_a_leaf_stands_nowhere : (dims : ℕ) (pages : PageMap) → RowStands dims pages 0 tree.row → ⊥
a_child_of_a_leaf_stands_nowhere dims pages h = absurd (omega (arith, h.0))
