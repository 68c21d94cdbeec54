-- The elements of the first places of a page: how many there are, which, and one more.
use Rattle.std.specs.Prelude.{◌≡◌, ℕ, ◌+◌, ◌<◌, List, [], ◌∷◌, ◌++◌, length, get_or, refl}
use Rattle.std.proofs.Common.{arith, ◌∙◌}
use Rattle.std.proofs.lemmas.List.FromFn.{map-range_with_len_more, length-map-range_with_len}
use Rattle.std.proofs.lemmas.List.FromFn.{get_or-map-range_with_len, fill_by_all}
use Rattle.block_bytes.specs.Places.{first_places}

pub first_places-none : {X : Type 0} (at : ℕ → X) → first_places at 0 ≡ []
unfolding first_places
first_places-none at = refl

pub first_places-more : {X : Type 0} (at : ℕ → X) (n : ℕ)
    → first_places at (n + 1) ≡ first_places at n ++ at n ∷ []
unfolding first_places
first_places-more at n = map-range_with_len_more at 0 n n (omega arith)

pub length-first_places : {X : Type 0} (at : ℕ → X) (n : ℕ) → length (first_places at n) ≡ n
unfolding first_places
length-first_places at n = length-map-range_with_len at 0 n

pub get_or-first_places : {X : Type 0} (at : ℕ → X) (n i : ℕ) (other : X) → i < n
    → get_or (first_places at n) i other ≡ at i
unfolding first_places
get_or-first_places at n i other lt = get_or-map-range_with_len at 0 n i i other lt (omega arith)

-- a list of just the elements that stand there
pub first_places-are : {X : Type 0} (at : ℕ → X) (n : ℕ) (xs : List X) (other : X) → length xs ≡ n
    → ((k : ℕ) → k < n → get_or xs k other ≡ at k) → xs ≡ first_places at n
unfolding first_places
first_places-are at n xs other size each = fill_by_all at xs n other size each

-- two pages with the same elements in these places
pub first_places-same : {X : Type 0} (at to : ℕ → X) (n : ℕ) (other : X) → ((k : ℕ) → k < n → at k ≡ to k)
    → first_places at n ≡ first_places to n
first_places-same at to n other same =
    first_places-are to n (first_places at n) other (length-first_places at n)
    (λ k lt. get_or-first_places at n k other lt ∙ same k lt)

-- how many elements there are, and which
pub ruleset places = (length-first_places, get_or-first_places)
