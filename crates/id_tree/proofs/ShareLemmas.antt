-- What two nodes have, cut in two in the middle.
use Rattle.std.proofs.Common.{◌≡◌, ◌∙◌, ℕ, ◌+◌, ◌-◌, ◌/◌, ◌<◌, ◌≤◌, Bool, Some, List, [], ◌∷◌, ◌++◌, length}
use Rattle.std.proofs.Common.{get_or, take, drop, All, refl, sym, ap, ⊎_elim, arith, length-append}
use Rattle.std.proofs.Math.Seq.{drop-append-add, take-append-add}
use Rattle.std.proofs.lemmas.Bool.{cases_lt}
use Rattle.std.proofs.lemmas.List.{drop-append-le, get_or_append_left, get_or-append-add}
use Rattle.std.proofs.lemmas.List.{take-append-le}
use Rattle.std.proofs.lemmas.List.Elements.{All-head, All-tail, All-weaker}
use Rattle.bucket_page.specs.Layout.{Entry}
use Rattle.id_page.specs.Fork.{ForkContent, Link, fork_at}
use Rattle.id_page.specs.Leaf.{leaf_at, most_objects}
use Rattle.id_page.proofs.ForkReading.{count_of_fork}
use Rattle.id_page.proofs.LeafReading.{count_of_leaf}
use Rattle.id_tree.specs.Cutting.{CutsFork, CutsLeaf}
use Rattle.id_tree.specs.Halving.{from_key, under_key}
use Rattle.id_tree.specs.Joining.{HaveRoom, IsBalanced}
use Rattle.id_tree.specs.Tree.{least_objects}
use Rattle.id_tree.proofs.CutLemmas.{sizes_there}
use Rattle.id_tree.proofs.HalvingLemmas.{all_below_key, both_lengths, skip_under, step_under}
use Rattle.id_tree.proofs.PartingLemmas.{under-append}

-- ---- keys around the one that parts two leaves

-- a key with not all below it is not above the one that all are below
key_low : (key between : ℕ) (xs : List Entry) → length (under_key key xs) < length xs
    → All (λ o. o.0 < between) xs → key < between
key_low key between [] few less = absurd (omega (arith, few))
key_low key between (x ∷ xs) few less = ⊎_elim
    (λ (lt : x.0 < key). key_low key between xs (omega (arith, few, ap length (step_under key x xs lt)))
    (All-tail (λ (o : Entry). o.0 < between) x xs less))
    (λ (le : key ≤ x.0). let high : x.0 < between = All-head (λ (o : Entry). o.0 < between) x xs less in
    omega (arith, le, high))
    (cases_lt x.0 key)

key_high : (key between : ℕ) (ys : List Entry) → 0 < length (under_key key ys) → All (λ o. between ≤ o.0) ys
    → between < key
key_high key between [] some from = absurd (omega (arith, some))
key_high key between (y ∷ ys) some from = ⊎_elim
    (λ (lt : y.0 < key). let low : between ≤ y.0 = All-head (λ (o : Entry). between ≤ o.0) y ys from in
    omega (arith, lt, low))
    (λ (le : key ≤ y.0). key_high key between ys (omega (arith, some, ap length (skip_under key y ys le)))
    (All-tail (λ (o : Entry). between ≤ o.0) y ys from))
    (cases_lt y.0 key)

none_below : (key between : ℕ) (ys : List Entry) → key ≤ between → All (λ o. between ≤ o.0) ys
    → length (under_key key ys) ≡ 0
none_below key between [] le from = refl
none_below key between (y ∷ ys) le from =
    let low : between ≤ y.0 = All-head (λ (o : Entry). between ≤ o.0) y ys from in
    ap length (skip_under key y ys (omega (arith, le, low)))
    ∙ none_below key between ys le (All-tail (λ (o : Entry). between ≤ o.0) y ys from)

all_under_key : (key between : ℕ) (xs : List Entry) → between ≤ key → All (λ o. o.0 < between) xs
    → length (under_key key xs) ≡ length xs
all_under_key key between xs le less = all_below_key key xs
    (All-weaker (λ (o : Entry). o.0 < between) (λ (o : Entry). o.0 < key) (λ o lt. omega (arith, lt, le)) xs
    less)

module _ (between : ℕ) (xs ys : List Entry) (less : All (λ o. o.0 < between) xs)
    (from : All (λ o. between ≤ o.0) ys) where
  sum : (key : ℕ) → length (under_key key (xs ++ ys)) ≡ length (under_key key xs) + length (under_key key ys)
  sum key = ap length (under-append key xs ys) ∙ length-append (under_key key xs) (under_key key ys)

  -- the middle is in the first leaf, in the second one, or between both
  pub middle_first : (key many : ℕ) → many < length xs → length (under_key key xs) ≡ many
      → length (under_key key (xs ++ ys)) ≡ many
  middle_first key many few is =
      let low = key_low key between xs (omega (arith, few, is)) less in
      omega (arith, sum key, is, none_below key between ys (omega (arith, low)) from)

  pub middle_second : (key many : ℕ) → length xs < many → length (under_key key ys) ≡ many - length xs
      → length (under_key key (xs ++ ys)) ≡ many
  middle_second key many some is =
      let high = key_high key between ys (omega (arith, some, is)) from in
      omega (arith, sum key, is, some, all_under_key key between xs (omega (arith, high)) less)

  pub middle_between : length (under_key between (xs ++ ys)) ≡ length xs
  middle_between =
      omega (
        arith,
        sum between,
        none_below between between ys (omega arith) from,
        all_under_key between
            between xs (omega arith) less,
      )

-- ---- halves

-- more than fits into one page, in two halves
pub record AreHalves (least most n m : ℕ) : Type 0 where
  pub first_some : least < n
  pub first_few : n ≤ most
  pub second_some : least < m
  pub second_few : m ≤ most

pub halves : (least most a b n m : ℕ) → least + least + 2 ≤ most → a ≤ most → b ≤ most → most < a + b
    → n ≡ (a + b) / 2 → n + m ≡ a + b → AreHalves least most n m
halves least most a b n m half few_a few_b many is all =
    record {
      first_some = omega arith;
      first_few = omega arith;
      second_some = omega arith;
      second_few =
          omega arith;
    }

module _ (dims : ℕ) (xs ys : List Entry) (key a b : ℕ) (few_a : a ≤ most_objects dims)
    (few_b : b ≤ most_objects dims) (many : most_objects dims < a + b) (a_is : a ≡ length xs)
    (b_is : b ≡ length ys)
    (middle : length (under_key key (xs ++ ys)) ≡ (a + b) / 2) where
  pub leaf_halves : AreHalves (least_objects dims) (most_objects dims) (length (under_key key (xs ++ ys)))
      (length (from_key key (xs ++ ys)))
  leaf_halves = halves (least_objects dims) (most_objects dims) a b (length (under_key key (xs ++ ys)))
      (length (from_key key (xs ++ ys))) (sizes_there dims b (omega (arith, few_a, many)) few_b).half few_a few_b many middle
      (omega (arith, both_lengths key (xs ++ ys), a_is, b_is, length-append xs ys))

  pub leaf_shared : (edge : Bool) (first second : List ℕ)
      → leaf_at dims first ≡ Some (under_key key (xs ++ ys))
      → leaf_at dims second ≡ Some (from_key key (xs ++ ys)) → CutsLeaf dims edge (xs ++ ys) key first second
  leaf_shared edge first second under from = record {
    under = under;
    from = from;
    large = omega (arith, leaf_halves.first_some);
    some = omega (arith, leaf_halves.second_some);
    rest = λ off. omega (arith, leaf_halves.second_some);
  }

  pub leaf_balanced : (first second : List ℕ) → leaf_at dims first ≡ Some (under_key key (xs ++ ys))
      → leaf_at dims second ≡ Some (from_key key (xs ++ ys)) → IsBalanced dims 0 first second
  leaf_balanced first second under from = record {
    first_leaf =
        λ low. omega
        (arith, leaf_halves.first_some, count_of_leaf dims first (under_key key (xs ++ ys)) under);
    first_fork = λ up. absurd (omega (arith, up));
    second_leaf =
        λ low. omega
        (arith, leaf_halves.second_some, count_of_leaf dims second (from_key key (xs ++ ys)) from);
    second_fork = λ up. absurd (omega (arith, up));
  }

  pub leaf_roomy : (first second : List ℕ) → leaf_at dims first ≡ Some (under_key key (xs ++ ys))
      → leaf_at dims second ≡ Some (from_key key (xs ++ ys))
      → length xs + length ys + 2 ≤ most_objects dims + most_objects dims → HaveRoom dims first second
  leaf_roomy first second under from few = record {
    few_first = omega (
      arith,
      few,
      a_is,
      b_is,
      middle,
      count_of_leaf dims first (under_key key (xs ++ ys)) under,
    );
    few_second = omega (
      arith,
      few,
      a_is,
      b_is,
      middle,
      both_lengths key (xs ++ ys),
      length-append xs ys,
      count_of_leaf dims second (from_key key (xs ++ ys)) from,
    );
  }

-- ---- forks

module _ (dims level : ℕ) (edge : Bool) (xs ys : List Link) (key many : ℕ) (first second : List ℕ)
    (total : 340 < length xs + length ys) (few : many ≤ 340) (half : 85 < many)
    (rest : many + 85 < length xs + length ys) where
  long : length (xs ++ ys) ≡ length xs + length ys
  long = length-append xs ys

  pub fork_first : many < length xs → ((other : Link) → key ≡ (get_or xs many other).0)
      → fork_at dims first ≡ Some (record { level = level; links = take many xs })
      → fork_at dims second ≡ Some (record { level = level; links = drop many xs ++ ys })
      → CutsFork dims level edge (xs ++ ys) key first second
  fork_first within key_is upto beyond = record {
    many = many;
    key_is = λ other. ap (λ (l : Link). l.0) (get_or_append_left xs ys other many within)
        ∙ sym (key_is other);
    upto = upto ∙ ap (λ (ls : List Link). Some (record { level = level; links = ls }))
        (sym (take-append-le many xs ys (omega (arith, within))));
    beyond = beyond ∙ ap (λ (ls : List Link). Some (record { level = level; links = ls }))
        (sym (drop-append-le many xs ys (omega (arith, within))));
    large = omega (arith, half);
    some = omega (arith, rest, long);
    rest = λ off. omega (arith, rest, long);
  }

  pub fork_second : (n : ℕ) → many ≡ length xs + n → ((other : Link) → key ≡ (get_or ys n other).0)
      → fork_at dims first ≡ Some (record { level = level; links = xs ++ take n ys })
      → fork_at dims second ≡ Some (record { level = level; links = drop n ys })
      → CutsFork dims level edge (xs ++ ys) key first second
  fork_second n is key_is upto beyond = record {
    many = many;
    key_is = λ other. ap (λ k. (get_or (xs ++ ys) k other).0) is
        ∙ ap (λ (l : Link). l.0) (get_or-append-add xs ys n other) ∙ sym (key_is other);
    upto = upto ∙ ap (λ (ls : List Link). Some (record { level = level; links = ls }))
        (sym (ap (λ k. take k (xs ++ ys)) is ∙ take-append-add xs ys n));
    beyond = beyond ∙ ap (λ (ls : List Link). Some (record { level = level; links = ls }))
        (sym (ap (λ k. drop k (xs ++ ys)) is ∙ drop-append-add xs ys n));
    large = omega (arith, half);
    some = omega (arith, rest, long);
    rest = λ off. omega (arith, rest, long);
  }

-- as their pages count them
pub fork_balanced : (dims level : ℕ) (first second : List ℕ) (c d : ForkContent) → 0 < level
    → fork_at dims first ≡ Some c → fork_at dims second ≡ Some d → 85 < length c.links → 85 < length d.links
    → IsBalanced dims level first second
fork_balanced dims level first second c d high is_first is_second many rest = record {
  first_leaf = λ low. absurd (omega (arith, low, high));
  first_fork = λ up. omega (arith, many, count_of_fork dims first c is_first);
  second_leaf = λ low. absurd (omega (arith, low, high));
  second_fork = λ up. omega (arith, rest, count_of_fork dims second d is_second);
}
