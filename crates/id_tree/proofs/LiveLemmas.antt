-- How many pages are live, and by how many a change makes them more.
use Rattle.std.proofs.Common.{◌≡◌, ◌∙◌, ℕ, zero, suc, ◌+◌, ◌-◌, ◌<◌, ◌≤◌, Bool, true, false, cond, eqb}
use Rattle.std.proofs.Common.{◌||◌}
use Rattle.std.proofs.Common.{Option, Some, None, IsSome, is_some, List, [], ◌∷◌, length, refl, sym, ap}
use Rattle.std.proofs.Common.{⊎_elim, arith}
use Rattle.std.specs.List.{AllByRecursion, IsDistinct}
use Rattle.std.specs.Set.{is_member}
use Rattle.std.proofs.lemmas.Bool.{cases_eq, cases_lt}
use Rattle.std.proofs.lemmas.Bool.Decides.{nat_tests}
use Rattle.box_math.specs.Measures.{sum_over}
use Rattle.box_math.proofs.Growth.{sum_over-le}
use Rattle.page_file.specs.Chains.{chain_count, chain_within, eq_other}
use Rattle.page_file.specs.Live.{lives}
use Rattle.page_cache.specs.Cache.{IsPageMap, blocks_behind, free_count_of, free_of, next_of, pages}
use Rattle.page_cache.specs.Laws.{a_page_is_live_or_free, free_pages_are_distinct, numbers_are_few}
use Rattle.page_cache.specs.declared.cache.PageCache.{PageCache}
use Rattle.node_page.specs.Checked.{named_pages}
use Rattle.node_page.specs.Parts.{Moves, Part, both, one_page}
use Rattle.node_page.specs.Standing.{PageMap}
use Rattle.node_page.proofs.CountLemmas.{sum_both, sum_listed, sum_of_all}

-- ---- lists of pages

member_named : (xs : List ℕ) (n : ℕ) → is_member eqb xs n ≡ true → 0 < named_pages xs n
member_named [] n e = absurd (cc)
member_named (x ∷ xs) n e = ⊎_elim
    (λ (is : n ≡ x). let one : ◌≡◌ {A = ℕ} (cond (eqb x n) 1 0) 1 = grind (arith, nat_tests, is) in
    omega (arith, one))
    (λ (other : ¬ (n ≡ x)).
    let rest = member_named xs n (sym (ap (λ (t : Bool). t || is_member eqb xs n) (eq_other n x other)) ∙ e)
    in
    omega (arith, rest))
    (cases_eq n x)

none_named : (xs : List ℕ) (n : ℕ) → is_member eqb xs n ≡ false → named_pages xs n ≡ 0
none_named [] n e = refl
none_named (x ∷ xs) n e = ⊎_elim
    (λ (is : n ≡ x). let yes : eqb n x ≡ true = grind (arith, nat_tests, is) in
    let both : true ≡ false = sym (ap (λ (t : Bool). t || is_member eqb xs n) yes) ∙ e in absurd (cc))
    (λ (other : ¬ (n ≡ x)).
    let rest = none_named xs n (sym (ap (λ (t : Bool). t || is_member eqb xs n) (eq_other n x other)) ∙ e) in
    let no : ◌≡◌ {A = ℕ} (cond (eqb x n) 1 0) 0 = grind (arith, nat_tests, other) in
    omega (arith, rest, no))
    (cases_eq n x)

apart_none : (x n : ℕ) (xs : List ℕ) → x ≡ n → AllByRecursion (λ (y : ℕ). eqb x y ≡ false) xs
    → named_pages xs n ≡ 0
apart_none x n [] is apart = refl
apart_none x n (y ∷ ys) is apart =
    let differs : eqb x y ≡ false = apart.0 in
    let no : ◌≡◌ {A = ℕ} (cond (eqb y n) 1 0) 0 = grind (arith, nat_tests, is, differs) in
    omega (arith, no, apart_none x n ys is apart.1)

named_once : (xs : List ℕ) (n : ℕ) → IsDistinct eqb xs → named_pages xs n ≤ 1
unfolding IsDistinct
named_once [] n distinct = omega arith
named_once (x ∷ xs) n distinct = ⊎_elim
    (λ (is : x ≡ n). let one : ◌≡◌ {A = ℕ} (cond (eqb x n) 1 0) 1 = grind (arith, nat_tests, is) in
    omega (arith, one, apart_none x n xs is distinct.0))
    (λ (other : ¬ (x ≡ n)). let no : ◌≡◌ {A = ℕ} (cond (eqb x n) 1 0) 0 = grind (arith, nat_tests, other) in
    omega (arith, no, named_once xs n distinct.1))
    (cases_eq x n)

one_there : (limit page : ℕ) → page < limit → 1 ≤ sum_over limit (one_page page)
one_there zero page within = absurd (omega (arith, within))
one_there (suc limit) page within = ⊎_elim
    (λ (is : page ≡ limit). let here : ◌≡◌ {A = ℕ} (cond (eqb page limit) 1 0) 1 =
    grind (arith, nat_tests, is) in
    omega (arith, here))
    (λ (other : ¬ (page ≡ limit)). omega (arith, one_there limit page (omega (arith, within, other))))
    (cases_eq page limit)

-- a list of pages below a limit
listed_within : (limit : ℕ) (xs : List ℕ) → ((n : ℕ) → 0 < named_pages xs n → n < limit)
    → length xs ≤ sum_over limit (named_pages xs)
listed_within limit [] within = omega arith
listed_within limit (x ∷ xs) within =
    let here : ◌≡◌ {A = ℕ} (cond (eqb x x) 1 0) 1 = grind (arith, nat_tests) in
    omega (
      arith,
      sum_both limit (one_page x) (named_pages xs),
      one_there limit x (within x (omega (arith, here))),
      listed_within limit xs (λ n some. within n (omega (arith, some))),
    )

-- ---- a part within numbers

module _ (next : ℕ) (part : Part) (once : (n : ℕ) → part n ≤ 1) (low : (n : ℕ) → n < 2 → part n ≡ 0)
    (high : (n : ℕ) → next ≤ n → part n ≡ 0) where
  below_limit : (limit : ℕ) → sum_over limit part ≤ limit - 2
  below_limit zero = omega arith
  below_limit (suc limit) = ⊎_elim
      (λ (under : limit < 2). omega (arith, under, low limit under, below_limit limit))
      (λ (over : 2 ≤ limit). omega (arith, over, once limit, below_limit limit))
      (cases_lt limit 2)

  below_next : (limit : ℕ) → sum_over limit part ≤ next - 2
  below_next zero = omega arith
  below_next (suc limit) = ⊎_elim
      (λ (under : limit < next). omega (arith, under, below_limit (suc limit)))
      (λ (over : next ≤ limit). omega (arith, high limit over, below_next limit))
      (cases_lt limit next)

-- ---- live pages

abbrev live : PageMap → Part
live pages n = cond (is_some (pages n)) 1 0

live_one : (page : Option (List ℕ)) → IsSome page → ◌≡◌ {A = ℕ} (cond (is_some page) 1 0) 1
live_one None some = absurd (cc)
live_one (Some bytes) some = refl

live_few : (page : Option (List ℕ)) → cond (is_some page) 1 0 ≤ 1
live_few None = omega arith
live_few (Some bytes) = omega arith

live_none : (page : Option (List ℕ)) → page ≡ None → ◌≡◌ {A = ℕ} (cond (is_some page) 1 0) 0
live_none None none = refl
live_none (Some bytes) none = absurd (cc)

is_live : (page : Option (List ℕ)) → 0 < cond (is_some page) 1 0 → IsSome page
is_live None some = absurd (omega (arith, some))
is_live (Some bytes) some = refl

some_or_none : (page : Option (List ℕ)) (X : Type 0) → (IsSome page → X) → (page ≡ None → X) → X
some_or_none None X some none = none refl
some_or_none (Some bytes) X some none = some refl

module _ {B A : Type 0} {m : _} where
  module _ (cache : PageCache B A m) (map : IsPageMap cache) where
    free_counted : length (free_of cache) ≡ free_count_of cache
    free_counted =
        chain_count (blocks_behind cache) cache.file.header.next cache.file.header.count
        cache.file.header.first
        map.free

    free_within : (n : ℕ) → is_member eqb (free_of cache) n ≡ true → (3 ≤ n) × (n < next_of cache)
    free_within n member =
        chain_within (blocks_behind cache) cache.file.header.next cache.file.header.count
        cache.file.header.first map.free n member

    named_within : (n : ℕ) → 0 < named_pages (free_of cache) n → (3 ≤ n) × (n < next_of cache)
    named_within n some = case (is_member eqb (free_of cache) n) refl
      where
        case : (t : Bool) → is_member eqb (free_of cache) n ≡ t → (3 ≤ n) × (n < next_of cache)
        case true e = free_within n e
        case false e = absurd (omega (arith, some, none_named (free_of cache) n e))

    free_or_live : Part
    free_or_live = both (live (pages cache)) (named_pages (free_of cache))

    -- each number given out is that of a live page or of a free one
    live_at_least : next_of cache ≤ 2 + free_count_of cache + sum_over (next_of cache) (live (pages cache))
    live_at_least =
        omega (
          arith,
          free_counted,
          sum_listed (next_of cache) (free_of cache),
          sum_both (next_of cache) (live (pages cache)) (named_pages (free_of cache)),
          sum_of_all (next_of cache) (both (live (pages cache)) (named_pages (free_of cache)))
              (λ n low below. ⊎_elim
              (λ (there : IsSome (pages cache n)). let one = live_one (pages cache n) there in
              omega (arith, one))
              (λ (free : is_member eqb (free_of cache) n ≡ true).
              let some = member_named (free_of cache) n free in omega (arith, some))
              (a_page_is_live_or_free cache n low below)),
        )

    -- and of no other
    live_at_most : (limit : ℕ) → next_of cache ≤ limit
        → sum_over limit (live (pages cache)) + free_count_of cache + 2 ≤ next_of cache
    live_at_most limit wide =
        omega (
          arith,
          (numbers_are_few cache).0,
          free_counted,
          listed_within limit (free_of cache) (λ n some. let within = named_within n some in
              omega (arith, within.1, wide)),
          sum_both limit (live (pages cache)) (named_pages (free_of cache)),
          below_next (next_of cache) (both (live (pages cache)) (named_pages (free_of cache))) once low high
              limit,
        )
      where
        once : (n : ℕ) → both (live (pages cache)) (named_pages (free_of cache)) n ≤ 1
        once n = some_or_none (pages cache n) (both (live (pages cache)) (named_pages (free_of cache)) n ≤ 1)
            (λ there.
            let none =
            none_named (free_of cache) n (lives (blocks_behind cache) cache.file.header n there).not_free
            in
            omega (arith, none, live_few (pages cache n)))
            (λ none.
            let single = named_once (free_of cache) n (free_pages_are_distinct cache map) in
            omega (arith, single, live_none (pages cache n) none))

        low : (n : ℕ) → n < 2 → both (live (pages cache)) (named_pages (free_of cache)) n ≡ 0
        low n under = ⊎_elim
            (λ (is : both (live (pages cache)) (named_pages (free_of cache)) n ≡ 0). is)
            (λ (some : ¬ (both (live (pages cache)) (named_pages (free_of cache)) n ≡ 0)). ⊎_elim
            (λ (none : named_pages (free_of cache) n ≡ 0).
            let there = is_live (pages cache n) (omega (arith, some, none)) in
            absurd (omega (arith, under, (lives (blocks_behind cache) cache.file.header n there).low)))
            (λ (named : ¬ (named_pages (free_of cache) n ≡ 0)).
            absurd (omega (arith, under, (named_within n (omega (arith, named))).0)))
            (cases_eq (named_pages (free_of cache) n) 0))
            (cases_eq (both (live (pages cache)) (named_pages (free_of cache)) n) 0)

        high : (n : ℕ) → next_of cache ≤ n → both (live (pages cache)) (named_pages (free_of cache)) n ≡ 0
        high n over =
            ⊎_elim
            (λ (no : named_pages (free_of cache) n ≡ 0).
            some_or_none (pages cache n) (both (live (pages cache)) (named_pages (free_of cache)) n ≡ 0)
            (λ there. absurd
            (omega (arith, over, (lives (blocks_behind cache) cache.file.header n there).below)))
            (λ gone. omega (arith, live_none (pages cache n) gone, no)))
            (λ (named : ¬ (named_pages (free_of cache) n ≡ 0)).
            absurd (omega (arith, over, (named_within n (omega (arith, named))).1)))
            (cases_eq (named_pages (free_of cache) n) 0)

  -- a change of one part makes as many more live as that part has more
  pub part_grows : (old new : PageCache B A m) (was now : Part) → IsPageMap old → IsPageMap new
      → next_of old ≤ next_of new → Moves (pages old) (pages new) was now
      → ((n : ℕ) → 0 < was n → IsSome (pages old n)) → ((n : ℕ) → was n ≤ 1)
      → next_of new + free_count_of old + sum_over (next_of new) was
      ≤ next_of old + free_count_of new + sum_over (next_of new) now
  part_grows old new was now before after wider moves there once =
      omega (
        arith,
        live_at_least new after,
        live_at_most old before (next_of new) wider,
        sum_both (next_of new) (live (pages new)) was,
        sum_both (next_of new) (live (pages old)) now,
        sum_over-le (next_of new) (both (live (pages new)) was) (both (live (pages old)) now)
            (λ n under. at n),
      )
    where
      at : (n : ℕ) → both (live (pages new)) was n ≤ both (live (pages old)) now n
      at n = ⊎_elim
          (λ (out : was n ≡ 0). ⊎_elim
          (λ (gone : now n ≡ 0).
          let same = ap {B = ℕ} (λ (page : Option (List ℕ)). cond (is_some page) 1 0)
          (moves.outside n out gone) in
          omega (arith, same, out, gone))
          (λ (here : ¬ (now n ≡ 0)). omega (arith, out, here, live_few (pages new n)))
          (cases_eq (now n) 0))
          (λ (in_it : ¬ (was n ≡ 0)).
          let one = live_one (pages old n) (there n (omega (arith, in_it))) in
          ⊎_elim
          (λ (gone : now n ≡ 0).
          let none = live_none (pages new n) (moves.went n (omega (arith, in_it)) gone) in
          omega (arith, none, one, once n))
          (λ (here : ¬ (now n ≡ 0)). omega (arith, one, once n, here, live_few (pages new n)))
          (cases_eq (now n) 0))
          (cases_eq (was n) 0)
