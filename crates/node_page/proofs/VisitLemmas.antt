-- Pages visited one after the other.
use Rattle.std.proofs.Common.{◌≡◌, ◌∙◌, ℕ, zero, suc, ◌+◌, ◌<◌, Bool, true, false, cond, eqb, List, [], ◌∷◌}
use Rattle.std.proofs.Common.{◌++◌, length, get_or, replicate, refl, sym, ap, subst, inl, inr, arith}
use Rattle.std.proofs.Common.{get_or-set_other, get_or-set_same, length-append}
use Rattle.std.proofs.Math.ListN.{set, length-set}
use Rattle.std.proofs.lemmas.Bool.{cases_eq}
use Rattle.std.proofs.lemmas.Bool.Decides.{nat_tests}
use Rattle.tree_node.proofs.PositionLemmas.{total-append}
use Rattle.node_page.specs.Visits.{AreMarked, times_in, unmarked}

here_once : (a b : ℕ) → a ≡ b → ◌≡◌ {A = ℕ} (cond (eqb a b) 1 0) 1
here_once a b e = grind (arith, nat_tests)

not_here : (a b : ℕ) → ¬ (a ≡ b) → ◌≡◌ {A = ℕ} (cond (eqb a b) 1 0) 0
not_here a b differs = grind (arith, nat_tests)

-- one page more
pub times_more : (n page : ℕ) (list : List ℕ)
    → times_in n (list ++ page ∷ []) ≡ times_in n list + cond (eqb page n) 1 0
times_more n page list = let both = total-append (λ (k : ℕ). cond (eqb k n) 1 0) list (page ∷ []) in
    omega (arith, both)

-- none is visited
no_marks : (n k : ℕ) → get_or (replicate n false) k false ≡ false
no_marks zero k = refl
no_marks (suc n) zero = refl
no_marks (suc n) (suc k) = no_marks n k

all_unmarked : (n : ℕ) → unmarked (replicate n false) ≡ n
all_unmarked zero = refl
all_unmarked (suc n) = omega (arith, all_unmarked n)

replicated : (n : ℕ) → length (replicate n false) ≡ n
replicated zero = refl
replicated (suc n) = omega (arith, replicated n)

pub none_visited : (n : ℕ) (list : List ℕ) (marks : List Bool) → list ≡ [] → marks ≡ replicate n false
    → AreMarked list marks
none_visited n list marks none marked =
    subst (λ (xs : List ℕ). AreMarked xs marks) (sym none)
    (subst (λ (ms : List Bool). AreMarked [] ms) (sym marked) (record {
      once = λ k. omega arith;
      marked =
          λ k. (
            λ (is : get_or (replicate n false) k false ≡ true). let never : false ≡ true = sym (no_marks n k)
                ∙ is in cc,
            λ some. absurd (omega (arith, some)),
          );
      many = omega (arith, all_unmarked n, replicated n);
    }))

one_less : (marks : List Bool) (k : ℕ) → k < length marks → get_or marks k false ≡ false
    → unmarked (set marks k true) + 1 ≡ unmarked marks
one_less [] k lt is = absurd (omega (arith, lt))
one_less (mark ∷ marks) zero lt is = (let e : 0 + unmarked marks + 1 ≡ 1 + unmarked marks = omega arith in e)
    ∙ ap (λ (b : Bool). cond b 0 1 + unmarked marks) (sym is)
one_less (mark ∷ marks) (suc k) lt is = omega (arith, one_less marks k (omega (arith, lt)) is)

-- one page more is visited
module _ (list : List ℕ) (marks : List Bool) (page : ℕ) (so_far : AreMarked list marks)
    (within : page < length marks) (clear : get_or marks page false ≡ false) where
  pub not_before : times_in page list ≡ 0
  not_before = elim (cases_eq (times_in page list) 0) [
    | inl none ↦ none
    | inr some ↦ let marked = (so_far.marked page).1 (omega (arith, some)) in
        let never : false ≡ true = sym clear ∙ marked in cc
  ]

  pub one_visited : AreMarked (list ++ page ∷ []) (set marks page true)
  one_visited = record {
    once = λ n. elim (cases_eq page n) [
      | inl is ↦ let none : times_in n list ≡ 0 = subst (λ (k : ℕ). times_in k list ≡ 0) is not_before in
          omega (arith, times_more n page list, here_once page n is, none)
      | inr differs ↦ omega (arith, times_more n page list, not_here page n differs, so_far.once n)
    ];
    marked = λ n. elim (cases_eq page n) [
      | inl is ↦ (
        λ marked. omega (arith, times_more n page list, here_once page n is),
        λ some. subst (λ (k : ℕ). get_or (set marks page true) k false ≡ true) is
            (get_or-set_same marks page true false within),
      )
      | inr differs ↦ (
        λ (marked : get_or (set marks page true) n false ≡ true). let some =
            (so_far.marked n).0
            (sym (get_or-set_other marks page n true false (λ same. differs (sym same))) ∙ marked) in
            omega (arith, times_more n page list, not_here page n differs, some),
        λ (some : 0 < times_in n (list ++ page ∷ [])). get_or-set_other marks page n true false
            (λ same. differs (sym same))
            ∙ (so_far.marked n).1 (omega (arith, times_more n page list, not_here page n differs, some)),
      )
    ];
    many = omega (
      arith,
      so_far.many,
      one_less marks page within clear,
      length-append list (page ∷ []),
      length-set marks page true,
    );
  }
