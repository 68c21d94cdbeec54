-- What a change of one part of the pages leaves of the others.
use Rattle.std.proofs.Common.{Option, None, ◌≡◌, ◌⊎◌, ◌∙◌, ℕ, zero, suc, ◌<◌, ◌≤◌, IsSome, true, false, refl}
use Rattle.std.proofs.Common.{sym, ap, subst, ⊎_elim, inl, inr, arith}
use Rattle.std.proofs.lemmas.Bool.Decides.{nat_tests}
use Rattle.std.specs.Prelude.{is_some}
use Rattle.node_page.specs.Parts.{AllPagesMove, IsAllOf, Moves, MovesBeside, MovesInTurn, OnePageMoves, Part}
use Rattle.node_page.specs.Parts.{StayingMoves, TheRestStays, both, one_page}
use Rattle.node_page.specs.Standing.{PageMap}

pub none_or_some : (n : ℕ) → (n ≡ 0) ⊎ (0 < n)
none_or_some zero = inl refl
none_or_some (suc n) = inr (omega arith)

-- a page that is there is not missing
pub there_not_missing : {X : Type 0} (o : Option X) → IsSome o → o ≡ None → ⊥
there_not_missing o is none = let no : false ≡ true = sym (ap is_some none) ∙ is in absurd (cc)

-- a page that is there and none of a change is none of those that came
pub not_new : (old new : PageMap) (was now : Part) (n : ℕ) → Moves old new was now → was n ≡ 0
    → IsSome (old n) → now n ≡ 0
not_new old new was now n moves apart there = ⊎_elim
    (λ (none : now n ≡ 0). none)
    (λ (some : 0 < now n). absurd (there_not_missing (old n) there (moves.came n apart some)))
    (none_or_some (now n))

-- ---- the same, counted in another way, and of equal pages

pub moves_same : (old new : PageMap) (was was' now now' : Part) → ((n : ℕ) → was n ≡ was' n)
    → ((n : ℕ) → now n ≡ now' n) → Moves old new was now → Moves old new was' now'
moves_same old new was was' now now' before after h = record {
  outside = λ n p q. h.outside n (before n ∙ p) (after n ∙ q);
  came = λ n p q. h.came n (before n ∙ p) (omega (arith, after n, q));
  went = λ n p q. h.went n (omega (arith, before n, p)) (after n ∙ q);
  live = λ n p. h.live n (omega (arith, after n, p));
  once = λ n. omega (arith, after n, h.once n);
}

pub moves_from : (old mid new : PageMap) (was now : Part) → ((n : ℕ) → mid n ≡ old n) → Moves mid new was now
    → Moves old new was now
moves_from old mid new was now same h = record {
  outside = λ n p q. h.outside n p q ∙ same n;
  came = λ n p q. sym (same n) ∙ h.came n p q;
  went = h.went;
  live = h.live;
  once = h.once;
}

pub all_of_same : (pages : PageMap) (a b : Part) → ((n : ℕ) → a n ≡ b n) → IsAllOf pages a → IsAllOf pages b
all_of_same pages a b same h = record {
  once = λ n. omega (arith, same n, h.once n);
  live = λ n p. h.live n (omega (arith, same n, p));
  used = λ n is. omega (arith, same n, h.used n is);
}

pub all_of_kept : (old new : PageMap) (a : Part) → ((n : ℕ) → new n ≡ old n) → IsAllOf old a → IsAllOf new a
all_of_kept old new a same h = record {
  once = h.once;
  live = λ n p. subst IsSome (sym (same n)) (h.live n p);
  used = λ n is. h.used n (subst IsSome (same n) is);
}

-- ---- changes in turn

pub staying_moves : StayingMoves
staying_moves old new part same once live = record {
  outside = λ n p q. same n;
  came = λ n p q. absurd (omega (arith, p, q));
  went = λ n p q. absurd (omega (arith, p, q));
  live = λ n p. subst IsSome (sym (same n)) (live n p);
  once = once;
}

pub moves_in_turn : MovesInTurn
moves_in_turn old mid new a b c h k = record {
  outside =
      λ n p q. ⊎_elim (λ (none : b n ≡ 0). k.outside n none q ∙ h.outside n p none)
      (λ (some : 0 < b n). k.went n some q ∙ sym (h.came n p some)) (none_or_some (b n));
  came = λ n p q. ⊎_elim (λ (none : b n ≡ 0). sym (h.outside n p none) ∙ k.came n none q)
      (λ (some : 0 < b n). h.came n p some) (none_or_some (b n));
  went = λ n p q. ⊎_elim (λ (none : b n ≡ 0). k.outside n none q ∙ h.went n p none)
      (λ (some : 0 < b n). k.went n some q) (none_or_some (b n));
  live = k.live;
  once = k.once;
}

-- ---- beside a rest

pub the_rest_stays : TheRestStays
the_rest_stays old new was now rest moves live apart n there =
    let gone : now n ≡ 0 = not_new old new was now n moves (omega (arith, apart n, there)) (live n there) in
    (moves.outside n (omega (arith, apart n, there)) gone, gone)

module _ (old new : PageMap) (was now rest : Part) (moves : Moves old new was now)
    (live : (n : ℕ) → 0 < rest n → IsSome (old n)) (apart : (n : ℕ) → both was rest n ≤ 1) where
  once_beside : (n : ℕ) → both now rest n ≤ 1
  once_beside n = ⊎_elim
      (λ (none : rest n ≡ 0). omega (arith, none, moves.once n))
      (λ (some : 0 < rest n). omega
      (arith, (the_rest_stays old new was now rest moves live apart n some).1, apart n))
      (none_or_some (rest n))

  live_beside : (n : ℕ) → 0 < both now rest n → IsSome (new n)
  live_beside n there = ⊎_elim
      (λ (none : rest n ≡ 0). moves.live n (omega (arith, there, none)))
      (λ (some : 0 < rest n). subst IsSome
      (sym (the_rest_stays old new was now rest moves live apart n some).0) (live n some))
      (none_or_some (rest n))

  framed : Moves old new (both was rest) (both now rest)
  framed = record {
    outside = λ n p q. moves.outside n (omega (arith, p)) (omega (arith, q));
    came = λ n p q. moves.came n (omega (arith, p)) (omega (arith, p, q));
    went = λ n p q. moves.went n (omega (arith, p, q)) (omega (arith, q));
    live = live_beside;
    once = once_beside;
  }

  used_beside : ((n : ℕ) → IsSome (old n) → 0 < both was rest n) → (n : ℕ) → IsSome (new n)
      → 0 < both now rest n
  used_beside used n is = ⊎_elim
      (λ (none : now n ≡ 0). ⊎_elim
      (λ (never : was n ≡ 0). let before = used n (subst IsSome (moves.outside n never none) is) in
      omega (arith, before, never))
      (λ (gone : 0 < was n). absurd (there_not_missing (new n) is (moves.went n gone none)))
      (none_or_some (was n)))
      (λ (some : 0 < now n). omega (arith, some))
      (none_or_some (now n))

pub moves_beside : MovesBeside
moves_beside old new was now rest moves live apart = framed old new was now rest moves live apart

pub all_pages_move : AllPagesMove
all_pages_move old new was now rest all moves =
    let live : (n : ℕ) → 0 < rest n → IsSome (old n) = λ n there. all.live n (omega (arith, there)) in
    record {
      once = once_beside old new was now rest moves live all.once;
      live = live_beside old new was now rest moves live all.once;
      used = used_beside old new was now rest moves live all.once all.used;
    }

-- ---- one page

only : (page n : ℕ) → 0 < one_page page n → n ≡ page
only page n some = grind (arith, nat_tests)

other : (page n : ℕ) → one_page page n ≡ 0 → ¬ (n ≡ page)
other page n none = grind (arith, nat_tests)

at_most_one : (page n : ℕ) → one_page page n ≤ 1
at_most_one page n = grind (arith, nat_tests)

pub one_page_moves : OnePageMoves
one_page_moves old new page same = (
  λ free there. record {
    outside = λ n none apart. same n (other page n apart);
    came = λ n none here. subst (λ k. old k ≡ None) (sym (only page n here)) free;
    went = λ n here none. absurd (omega (arith, here));
    live = λ n here. subst (λ k. IsSome (new k)) (sym (only page n here)) there;
    once = at_most_one page;
  },
  λ there. record {
    outside = λ n none apart. same n (other page n apart);
    came = λ n none here. absurd (omega (arith, none, here));
    went = λ n here none. absurd (omega (arith, none, here));
    live = λ n here. subst (λ k. IsSome (new k)) (sym (only page n here)) there;
    once = at_most_one page;
  },
  λ gone. record {
    outside = λ n none apart. same n (other page n none);
    came = λ n none here. absurd (omega (arith, here));
    went = λ n here none. subst (λ k. new k ≡ None) (sym (only page n here)) gone;
    live = λ n here. absurd (omega (arith, here));
    once = λ n. omega arith;
  },
)

pub ruleset part_laws =
    (one_page_moves, staying_moves, moves_in_turn, moves_beside, the_rest_stays, all_pages_move)
