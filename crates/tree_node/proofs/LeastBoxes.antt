-- The least box round some entries, one entry on.
use Rattle.std.proofs.Common.{◌≡◌, ℕ, zero, suc, ◌+◌, ◌<◌, List, [], ◌∷◌, ◌++◌, length, take, get_or, refl}
use Rattle.std.proofs.Common.{ap, ◌∙◌, arith}
use Rattle.std.proofs.lemmas.List.{take_more}
use Rattle.box_math.specs.Bounds.{Bounds, join_of}
use Rattle.box_math.proofs.BoxLaws.{join_of-associates}
use Rattle.tree_node.specs.Nodes.{Item}
use Rattle.tree_node.specs.Boxes.{box_round, least_box}

box_round-more : (dims : ℕ) (b : Bounds) (xs : List Item) (x : Item)
    → box_round dims b (xs ++ x ∷ []) ≡ join_of dims (box_round dims b xs) x.bounds
box_round-more dims b [] x = refl
box_round-more dims b (y ∷ xs) x = box_round-more dims (join_of dims b y.bounds) xs x

pub least_box-more : (dims : ℕ) (xs : List Item) (x : Item) → 0 < length xs
    → least_box dims (xs ++ x ∷ []) ≡ join_of dims (least_box dims xs) x.bounds
unfolding least_box
least_box-more dims [] x some = absurd (omega arith)
least_box-more dims (y ∷ xs) x some = box_round-more dims y.bounds xs x

pub box_of_one : (dims : ℕ) (xs : List Item) (d : Item) → 0 < length xs
    → least_box dims (take 1 xs) ≡ (get_or xs 0 d).bounds
unfolding least_box
box_of_one dims [] d some = absurd (omega arith)
box_of_one dims (x ∷ xs) d some = refl

pub box_of_more : (dims : ℕ) (xs : List Item) (i : ℕ) (d : Item) → 0 < i → i < length xs
    → least_box dims (take (i + 1) xs) ≡ join_of dims (least_box dims (take i xs)) (get_or xs i d).bounds
box_of_more dims xs i d some within =
    ap (least_box dims) (take_more xs i d within)
    ∙ least_box-more dims (take i xs) (get_or xs i d) (some_taken i xs some within)
  where
    some_taken : (i : ℕ) (xs : List Item) → 0 < i → i < length xs → 0 < length (take i xs)
    some_taken zero xs p q = absurd (omega (arith, p))
    some_taken (suc i) [] p q = absurd (omega (arith, q))
    some_taken (suc i) (x ∷ xs) p q = omega arith

box_round-join : (dims : ℕ) (a b : Bounds) (xs : List Item)
    → box_round dims (join_of dims a b) xs ≡ join_of dims a (box_round dims b xs)
box_round-join dims a b [] = refl
box_round-join dims a b (x ∷ xs) = ap (λ c. box_round dims c xs) (join_of-associates dims a b x.bounds)
    ∙ box_round-join dims a (join_of dims b x.bounds) xs

-- one entry before the others
pub least_box-cons : (dims : ℕ) (x : Item) (xs : List Item) → 0 < length xs
    → least_box dims (x ∷ xs) ≡ join_of dims x.bounds (least_box dims xs)
unfolding least_box
least_box-cons dims x [] some = absurd (omega arith)
least_box-cons dims x (y ∷ xs) some = box_round-join dims x.bounds y.bounds xs

-- one entry alone
pub least_box-one : (dims : ℕ) (x : Item) → least_box dims (x ∷ []) ≡ x.bounds
unfolding least_box
least_box-one dims x = refl
