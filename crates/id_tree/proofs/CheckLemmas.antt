-- What a check of a tree finds, step by step.
use Rattle.std.proofs.Common.{◌≡◌, ◌∙◌, ℕ, zero, suc, ◌+◌, ◌-◌, ◌<◌, ◌≤◌, ◌&&◌, ◌==◌, Bool, true, false, cond}
use Rattle.std.proofs.Common.{eqb, Option, Some, None, List, [], ◌∷◌, ◌++◌, length, get_or, take, drop, All}
use Rattle.std.proofs.Common.{rules, refl, sym, ap, subst, ⊎_elim, arith, append_assoc, length-append}
use Rattle.std.proofs.lemmas.Bool.{cases_eq}
use Rattle.std.proofs.lemmas.Bool.Decides.{nat_tests}
use Rattle.std.proofs.lemmas.List.{append-nil, drop_more, get_or-append-add, length-take-le, take_all}
use Rattle.std.proofs.lemmas.List.{take_more}
use Rattle.std.proofs.lemmas.List.Elements.{All-append, All-cons, All-head, All-weaker}
use Rattle.std.specs.BTreeSet.{BTreeSet}
use Rattle.bucket_page.specs.Layout.{Entry}
use Rattle.page_cache.specs.Cache.{IsHonest, given, looks_of}
use Rattle.page_cache.specs.Calls.{AsksUntil}
use Rattle.page_cache.specs.declared.cache.PageCache.{PageCache}
use Rattle.id_page.specs.Fork.{ForkContent, Link, fork_at}
use Rattle.id_page.proofs.ForkReading.{same_link, some_link}
use Rattle.id_words.specs.Seen.{SeesOne}
use Rattle.id_words.specs.Objects.{times_in}
use Rattle.id_words.proofs.ObjectLemmas.{times-append}
use Rattle.node_page.specs.Checked.{named_pages}
use Rattle.node_page.specs.Standing.{PageMap}
use Rattle.node_page.proofs.VisitLemmas.{times_more}
use Rattle.id_tree.specs.Checked.{AddsChildren, AddsNode, AddsObjects, FindsFork, FindsLeaf, IsRange}
use Rattle.id_tree.specs.Checked.{MayAdd, MayBeLeaf, StandsFrom, most_identifier}
use Rattle.id_tree.specs.Rows.{Begins, joined, part_at}
use Rattle.id_tree.specs.Tree.{HasNode, IsFilled, IsParted, Parts, Row, end, more, object, child}
use Rattle.id_tree.specs.Tree.{RowStands, at_edge, fork_in, leaf_in, least_objects, links_of}
use Rattle.id_tree.specs.Tree.{objects_in, occurs}
use Rattle.id_tree.proofs.CutLemmas.{FirstChild, Parted, first_child, part_at_place}
use Rattle.id_tree.proofs.NodeLemmas.{leaf_pages, no_links, node_stays, objects_of_row, occurs_here, row_of}
use Rattle.id_tree.proofs.NodeLemmas.{row_of_filled, row_of_parted, row_of_stands, row_stays}
use Rattle.id_tree.proofs.ObjectLemmas.{all_left, all_right, is_other, is_same}
use Rattle.id_tree.proofs.RowLemmas.{behind_from, between, filled-behind, filled-joined, links-joined}
use Rattle.id_tree.proofs.RowLemmas.{objects-joined, occurs-joined, parted-behind, parted-joined}
use Rattle.id_tree.proofs.RowLemmas.{stands-behind, stands-front, stands-joined}
use Rattle.id_tree.proofs.WayLemmas.{edge_of}

-- ---- the objects of a leaf

pub objects_none : (low top : ℕ) (pairs : List Entry) (seen : BTreeSet ℕ)
    → AddsObjects low top [] pairs pairs seen seen
objects_none low top pairs seen =
    record {
      pairs_are = sym (append-nil pairs);
      from = search rules;
      upto = search rules;
      seen_are =
          λ id. omega arith;
    }

pub objects_one : (low top : ℕ) (objects before pairs next : List Entry)
    (seen_before seen seen_next : BTreeSet ℕ) (x : Entry)
    → AddsObjects low top objects before pairs seen_before seen → low ≤ x.0 → x.0 ≤ top
    → next ≡ pairs ++ x ∷ []
    → SeesOne seen seen_next x.0 → AddsObjects low top (objects ++ x ∷ []) before next seen_before seen_next
objects_one low top objects before pairs next seen_before seen seen_next x so_far le_low le_top pushed sees =
    record {
      pairs_are = pushed ∙ ap (λ (ps : List Entry). ps ++ x ∷ []) so_far.pairs_are
          ∙ append_assoc before objects (x ∷ []);
      from = All-append (λ (o : Entry). low ≤ o.0) objects (x ∷ []) so_far.from
          (All-cons (λ (o : Entry). low ≤ o.0) x [] le_low (search rules));
      upto = All-append (λ (o : Entry). o.0 ≤ top) objects (x ∷ []) so_far.upto
          (All-cons (λ (o : Entry). o.0 ≤ top) x [] le_top (search rules));
      seen_are = λ id. let times = times-append id objects (x ∷ []) in
          omega (arith, sees id, so_far.seen_are id, times);
    }

-- an object in a place is not among those before it, where none is there twice
pub place_times : (id place : ℕ) (xs : List Entry) (other : Entry) → place < length xs
    → times_in id (take place xs) + cond (eqb (get_or xs place other).0 id) 1 0 ≤ times_in id xs
place_times id place [] other lt = absurd (omega (arith, lt))
place_times id zero (x ∷ xs) other lt = omega arith
place_times id (suc place) (x ∷ xs) other lt =
    omega (arith, place_times id place xs other (omega (arith, lt)))

-- ---- bounds

-- what is from one number to another has these in order
in_order : (from upto : ℕ) (xs : List Entry) → 0 < length xs → All (λ o. from ≤ o.0) xs
    → All (λ o. o.0 ≤ upto) xs → from ≤ upto
in_order from upto [] some low high = absurd (omega (arith, some))
in_order from upto (x ∷ xs) some low high =
    let a : from ≤ x.0 = All-head (λ (o : Entry). from ≤ o.0) x xs low in
    let b : x.0 ≤ upto = All-head (λ (o : Entry). o.0 ≤ upto) x xs high in
    omega (arith, a, b)

not_last : (edge : Bool) (place count : ℕ) → place < count → (edge && (place == count)) ≡ false
not_last true place count lt = off place count lt
  where
    off : (a b : ℕ) → a < b → (a == b) ≡ false
    off a b h = grind (arith, nat_tests)
not_last false place count lt = refl

no_objects : (dims : ℕ) (pages : PageMap) (level : ℕ) (row : Row) → 0 < level → RowStands dims pages level row
    → length (links_of row) ≡ 0 → objects_in row ≡ []
no_objects dims pages level row high stands none =
    ap objects_in (no_links dims pages level row high stands none)

-- ---- a child more

module _ (dims : ℕ) (pages : PageMap) (level : ℕ) (edge : Bool) (low top : ℕ) (links : List Link) (place : ℕ)
    (before pairs pairs_next : List Entry) (list_before list list_mid list_next : List ℕ)
    (seen_before seen seen_next : BTreeSet ℕ)
    (p from upto : ℕ) (high : 0 < level) (within : place < length links)
    (so : AddsChildren dims pages level edge low top links place before pairs list_before list seen_before
    seen)
    (node : AddsNode dims pages p (level - 1) (edge && (place + 1 == length links)) from upto pairs pairs_next
    list_mid list_next seen seen_next) (visited : list_mid ≡ list ++ p ∷ [])
    (range : IsRange links place low top from upto) (p_is : p ≡ (get_or links place some_link).1) where
  key : ℕ
  key = (get_or links place some_link).0

  whole : Row
  whole = joined so.row (more (child (get_or links place some_link).0 p node.row) end)

  long : length (links_of so.row) ≡ place
  long = ap length so.links_are ∙ length-take-le place links (omega (arith, within))

  whole_objects : objects_in whole ≡ objects_in so.row ++ objects_in node.row
  unfolding whole
  whole_objects = objects-joined so.row (more (child (get_or links place some_link).0 p node.row) end)
      ∙ ap (λ (xs : List Entry). objects_in so.row ++ xs) (append-nil (objects_in node.row))

  whole_occurs : (n : ℕ) → occurs n whole ≡ occurs n so.row + (cond (eqb p n) 1 0 + occurs n node.row)
  unfolding whole
  whole_occurs n =
      omega (arith, occurs-joined n so.row (more (child (get_or links place some_link).0 p node.row) end))

  whole_links : links_of whole ≡ take (place + 1) links
  unfolding whole
  whole_links = links-joined so.row (more (child (get_or links place some_link).0 p node.row) end)
      ∙ ap (λ (ls : List Link). ls ++ ((get_or links place some_link).0, p) ∷ []) so.links_are
      ∙ ap (λ (l : Link). take place links ++ l ∷ [])
      (same_link (get_or links place some_link) (get_or links place some_link).0 p refl p_is)
      ∙ sym (take_more links place some_link within)

  -- the first child is from where its fork is, and each other one from its key on
  low_from : low ≤ from
  low_from = ⊎_elim
      (λ (none : place ≡ 0). omega (arith, range.first none))
      (λ (some : ¬ (place ≡ 0)).
      let later : 0 < place = omega (arith, some) in
      let less = between low (get_or links place some_link).0 (objects_in so.row) (so.some later) so.from
      (so.under within some_link later) in
      omega (arith, less, range.later later some_link))
      (cases_eq place 0)

  from_upto : from ≤ upto
  from_upto = in_order from upto (objects_in node.row) node.stands.some node.stands.from node.upto

  -- all before are below what is above this child
  below_next : (bound : ℕ) → upto < bound → All (λ o. o.0 < bound) (objects_in so.row)
  below_next bound lt = ⊎_elim
      (λ (none : place ≡ 0). subst (λ (xs : List Entry). All (λ o. o.0 < bound) xs)
      (sym (no_objects dims pages level so.row high so.below (long ∙ none))) (search rules))
      (λ (some : ¬ (place ≡ 0)).
      let later : 0 < place = omega (arith, some) in
      let key_is = range.later later some_link in
      All-weaker (λ (o : Entry). o.0 < (get_or links place some_link).0) (λ (o : Entry). o.0 < bound)
      (λ o less. omega (arith, less, key_is, from_upto, lt)) (objects_in so.row)
      (so.under within some_link later))
      (cases_eq place 0)

  child_below : RowStands dims pages level (more (child (get_or links place some_link).0 p node.row) end)
  child_below = (high, node.stands.low_page, node.stands.some, node.stands.node, node.stands.below, tt)

  whole_parted : IsParted whole
  unfolding whole
  whole_parted = parted-joined dims pages level (get_or links place some_link).0 so.row
      (more (child (get_or links place some_link).0 p node.row) end) high so.below refl so.parted
      (node.stands.parted, tt, tt)
      (λ k q b l is.
      let later : 0 < place = positive k q b l is in
      record {
        lesser = so.under within some_link later;
        from = subst (λ (xs : List Entry). All (λ o. (get_or links place some_link).0 ≤ o.0) xs)
            (sym (append-nil (objects_in node.row)))
            (subst (λ k. All (λ o. k ≤ o.0) (objects_in node.row)) (range.later later some_link)
            node.stands.from);
      })
    where
      positive : (k q : ℕ) (b l : Row) → so.row ≡ more (child k q b) l → 0 < place
      positive k q b l is = let some = ap (λ (r : Row). length (links_of r)) is in omega (arith, some, long)

  whole_filled : IsFilled dims level (edge && (place + 1 == length links)) whole
  unfolding whole
  whole_filled = filled-joined dims level (edge && (place + 1 == length links)) so.row
      (child (get_or links place some_link).0 p node.row) end
      (subst (λ e. IsFilled dims level e so.row) (not_last edge place (length links) within) so.filled)
      (node.stands.large, node.stands.filled, tt)

  all_of : (P : Entry → Type 0) → All P (objects_in so.row) → All P (objects_in node.row)
      → All P (objects_in whole)
  all_of P a b = subst (λ (xs : List Entry). All P xs) (sym whole_objects)
      (All-append P (objects_in so.row) (objects_in node.row) a b)

  pub adds_more : AddsChildren dims pages level edge low top links (place + 1) before pairs_next list_before
      list_next seen_before seen_next
  unfolding whole
  adds_more = record {
    row = whole;
    links_are = whole_links;
    below = stands-joined dims pages level so.row
        (more (child (get_or links place some_link).0 p node.row) end) so.below child_below;
    parted = whole_parted;
    filled = whole_filled;
    some = λ later. omega (
      arith,
      node.stands.some,
      ap length whole_objects,
      length-append (objects_in so.row)
          (objects_in node.row),
    );
    from = all_of (λ (o : Entry). low ≤ o.0) so.from
        (All-weaker (λ (o : Entry). from ≤ o.0) (λ (o : Entry). low ≤ o.0)
        (λ o le. omega (arith, le, low_from)) (objects_in node.row) node.stands.from);
    under = λ next other later.
        let bound = range.inner next other in
        all_of (λ (o : Entry). o.0 < (get_or links (place + 1) other).0)
        (below_next (get_or links (place + 1) other).0 (omega (arith, bound)))
        (All-weaker (λ (o : Entry). o.0 ≤ upto) (λ (o : Entry). o.0 < (get_or links (place + 1) other).0)
        (λ o le. omega (arith, le, bound)) (objects_in node.row) node.upto);
    upto = λ all.
        let is_top = range.last (omega (arith, all, within)) in
        all_of (λ (o : Entry). o.0 ≤ top)
        (All-weaker (λ (o : Entry). o.0 < upto + 1) (λ (o : Entry). o.0 ≤ top)
        (λ o lt. omega (arith, lt, is_top)) (objects_in so.row) (below_next (upto + 1) (omega arith)))
        (All-weaker (λ (o : Entry). o.0 ≤ upto) (λ (o : Entry). o.0 ≤ top) (λ o le. omega (arith, le, is_top))
        (objects_in node.row) node.upto);
    adds = record {
      pairs_are = node.adds.pairs_are ∙ ap (λ (ps : List Entry). ps ++ objects_in node.row) so.adds.pairs_are
          ∙ append_assoc before (objects_in so.row) (objects_in node.row)
          ∙ ap (λ (xs : List Entry). before ++ xs) (sym whole_objects);
      pages_are =
          λ n. omega (
            arith,
            node.adds.pages_are n,
            ap (named n) visited,
            times_more n p list,
            so.adds.pages_are n,
            whole_occurs n,
          );
      seen_are =
          λ id. omega (
            arith,
            node.adds.seen_are id,
            so.adds.seen_are id,
            ap (times_in id) whole_objects,
            times-append id
                (objects_in so.row) (objects_in node.row),
          );
    };
  }
    where
      named : ℕ → List ℕ → ℕ
      named n xs = named_pages xs n

pub adds_none : (dims : ℕ) (pages : PageMap) (level : ℕ) (edge : Bool) (low top : ℕ) (links : List Link)
    (pairs : List Entry) (list : List ℕ) (seen : BTreeSet ℕ) → 0 < length links
    → AddsChildren dims pages level edge low top links 0 pairs pairs list list seen seen
adds_none dims pages level edge low top links pairs list seen some = record {
  row = end;
  links_are = none_taken links;
  below = tt;
  parted = tt;
  filled = tt;
  some = λ never. absurd (omega (arith, never));
  from = search rules;
  under = λ within other later. absurd (omega (arith, later));
  upto = λ all. absurd (omega (arith, all, some));
  adds = record
      { pairs_are = sym (append-nil pairs); pages_are = λ n. omega arith; seen_are = λ id. omega arith };
}
  where
    none_taken : (xs : List Link) → ◌≡◌ {A = List Link} [] (take 0 xs)
    none_taken [] = refl
    none_taken (x ∷ xs) = refl

-- ---- rows that stand in the same pages

pub record SameBelow (a b : Row) : Type 0 where
  pub occurs_same : (n : ℕ) → occurs n a ≡ occurs n b
  pub objects_same : objects_in a ≡ objects_in b

links_in : Option ForkContent → List Link
links_in None = []
links_in (Some c) = c.links

entries_in : Option (List Entry) → List Entry
entries_in None = []
entries_in (Some xs) = xs

same_forks : (dims : ℕ) (pages : PageMap) (level : ℕ) (a b : Row) → 0 < level → RowStands dims pages level a
    → RowStands dims pages level b → links_of a ≡ links_of b → SameBelow a b
unfolding links_in entries_in
same_forks dims pages level end end high on_a on_b same =
    record { occurs_same = λ n. refl; objects_same = refl }
same_forks dims pages level end (more (object i o) r) high on_a on_b same =
    absurd (omega (arith, high, on_b.0))
same_forks dims pages level end (more (child k p x) r) high on_a on_b same = absurd (cc)
same_forks dims pages level (more (object i o) r) b high on_a on_b same = absurd (omega (arith, high, on_a.0))
same_forks dims pages level (more (child k p x) r) end high on_a on_b same = absurd (cc)
same_forks dims pages level (more (child k p x) r) (more (object i o) q) high on_a on_b same =
    absurd (omega (arith, high, on_b.0))
same_forks dims pages level (more (child k p x) r) (more (child l q y) s) high on_a on_b same =
    let page : p ≡ q = ap (λ (ls : List Link). (get_or ls 0 (0, 0)).1) same in
    let rest = same_forks dims pages level r s high on_a.5 on_b.5 (ap (λ (ls : List Link). drop 1 ls) same) in
    let there : HasNode dims pages p (level - 1) y =
    subst (λ n. HasNode dims pages n (level - 1) y) (sym page) on_b.3 in
    let below : SameBelow x y = ⊎_elim
    (λ (low : level - 1 ≡ 0). record {
      occurs_same = λ n. leaf_pages dims pages x n (subst (λ h. RowStands dims pages h x) low on_a.4)
          ∙ sym (leaf_pages dims pages y n (subst (λ h. RowStands dims pages h y) low on_b.4));
      objects_same = ap entries_in (sym (on_a.3.leaf low) ∙ there.leaf low);
    })
    (λ (up : ¬ (level - 1 ≡ 0)).
    let above : 0 < level - 1 = omega (arith, up) in
    same_forks dims pages (level - 1) x y above on_a.4 on_b.4
    (ap links_in (sym (on_a.3.fork above) ∙ there.fork above)))
    (cases_eq (level - 1) 0) in
    record {
      occurs_same = λ n. let here : ◌≡◌ {A = ℕ} (cond (eqb p n) 1 0) (cond (eqb q n) 1 0) =
          ap (λ k. cond (eqb k n) 1 0) page in omega (arith, here, below.occurs_same n, rest.occurs_same n);
      objects_same = ap (λ (xs : List Entry). xs ++ objects_in r) below.objects_same
          ∙ ap (λ (xs : List Entry). objects_in y ++ xs) rest.objects_same;
    }

-- ---- the next child of a fork that stands

from_there : (dims : ℕ) (pages : PageMap) (level key : ℕ) (l r : Row) → 0 < level → 0 < length (links_of l)
    → RowStands dims pages level l → Begins key r → IsParted (joined l r)
    → All (λ o. key ≤ o.0) (objects_in r)
from_there dims pages level key end r high some stands begins parted = absurd (omega (arith, some))
from_there dims pages level key (more (object i b) l) r high some stands begins parted =
    absurd (omega (arith, high, stands.0))
from_there dims pages level key (more (child k p b) l) r high some stands begins parted =
    behind_from dims pages level key k p b l r high stands.5 begins parted

pub record NextMay (dims : ℕ) (pages : PageMap) (p level : ℕ) (edge : Bool) (from upto : ℕ)
    (list list_mid : List ℕ) (seen : BTreeSet ℕ) : Type 0 where
  pub below : Row
  pub may : MayAdd dims pages p level edge from upto below list_mid seen
  pub unvisited : named_pages list p ≡ 0

module _ (dims : ℕ) (pages : PageMap) (page level : ℕ) (edge : Bool) (low top : ℕ) (row : Row)
    (links : List Link) (place : ℕ) (before pairs : List Entry) (list_before list : List ℕ)
    (seen_before seen : BTreeSet ℕ) (p : ℕ)
    (high : 0 < level) (may : MayAdd dims pages page level edge low top row list_before seen_before)
    (links_is : links_of row ≡ links) (within : place < length links)
    (so : AddsChildren dims pages level edge low top links place before pairs list_before list seen_before
    seen) (p_is : p ≡ (get_or links place some_link).1) where
  cut : Parted row place
  cut = part_at_place dims pages level row place high may.stands.below

  on_right : RowStands dims pages level cut.right
  on_right = stands-behind dims pages level cut.left cut.right
      (subst (RowStands dims pages level) cut.is may.stands.below)

  on_left : RowStands dims pages level cut.left
  on_left = stands-front dims pages level cut.left cut.right
      (subst (RowStands dims pages level) cut.is may.stands.below)

  same_left : SameBelow so.row cut.left
  same_left = same_forks dims pages level so.row cut.left high so.below on_left
      (so.links_are ∙ ap (take place) (sym links_is) ∙ sym cut.links_left)

  right_links : links_of cut.right ≡ get_or links place some_link ∷ drop (place + 1) links
  right_links = cut.links_right ∙ ap (drop place) links_is ∙ drop_more links place some_link within

  head : FirstChild cut.right (get_or links place some_link).0
  head = first_child dims pages level cut.right (get_or links place some_link) (drop (place + 1) links) high
      on_right right_links

  right_is : cut.right ≡ more (child (get_or links place some_link).0 p head.below) head.rest
  right_is =
      let at : head.page ≡ (get_or links place some_link).1 =
      ap (λ (ls : List Link). (get_or ls 0 (0, 0)).1) (sym (ap links_of head.is) ∙ right_links) in
      head.is ∙ ap (λ q. more (child (get_or links place some_link).0 q head.below) head.rest) (at ∙ sym p_is)

  tail : RowStands dims pages level (more (child (get_or links place some_link).0 p head.below) head.rest)
  tail = subst (RowStands dims pages level) right_is on_right

  whole_is : row ≡ joined cut.left (more (child (get_or links place some_link).0 p head.below) head.rest)
  whole_is = cut.is ∙ ap (joined cut.left) right_is

  all_parted : IsParted
      (joined cut.left (more (child (get_or links place some_link).0 p head.below) head.rest))
  all_parted = subst IsParted whole_is may.stands.parted

  tail_parted : IsParted (more (child (get_or links place some_link).0 p head.below) head.rest)
  tail_parted = parted-behind cut.left (more (child (get_or links place some_link).0 p head.below) head.rest)
      all_parted

  tail_filled : IsFilled dims level edge
      (more (child (get_or links place some_link).0 p head.below) head.rest)
  tail_filled = filled-behind dims level edge cut.left
      (more (child (get_or links place some_link).0 p head.below) head.rest)
      (subst (IsFilled dims level edge) whole_is may.stands.filled)

  left_long : length (links_of cut.left) ≡ place
  left_long = ap length (cut.links_left ∙ ap (take place) links_is)
      ∙ length-take-le place links (omega (arith, within))

  all_links : links ≡ links_of cut.left ++ ((get_or links place some_link).0, p) ∷ links_of head.rest
  all_links = sym links_is ∙ ap links_of whole_is
      ∙ links-joined cut.left (more (child (get_or links place some_link).0 p head.below) head.rest)

  count_is : length links ≡ place + 1 + length (links_of head.rest)
  count_is =
      omega (
        arith,
        ap length all_links,
        length-append (links_of cut.left)
            (((get_or links place some_link).0, p) ∷ links_of head.rest),
        left_long,
      )

  edge_is : (edge && (place + 1 == length links)) ≡ at_edge edge head.rest
  edge_is = edge_of dims pages level high head.rest edge place (length links) tail.5 count_is

  row_objects : objects_in row ≡ objects_in cut.left ++ (objects_in head.below ++ objects_in head.rest)
  row_objects = ap objects_in whole_is ∙ objects-joined cut.left
      (more (child (get_or links place some_link).0 p head.below) head.rest)

  row_occurs : (n : ℕ) → occurs n row ≡ occurs n
      cut.left + (cond (eqb p n) 1 0 + occurs n head.below + occurs n head.rest)
  row_occurs n =
      omega (
        arith,
        ap (occurs n) whole_is,
        occurs-joined n cut.left
            (more (child (get_or links place some_link).0 p head.below) head.rest),
      )

  own : (P : Entry → Type 0) → All P (objects_in row) → All P (objects_in head.below)
  own P all = all_left P (objects_in head.below) (objects_in head.rest)
      (all_right P (objects_in cut.left) (objects_in head.below ++ objects_in head.rest)
      (subst (λ (xs : List Entry). All P xs) row_objects all))

  -- the key of the next one is not zero
  pub no_zero : place + 1 < length links → ((other : Link) → (get_or links (place + 1) other).0 ≡ 0) → ⊥
  no_zero next zero_key = by_rest head.rest tail.5 tail_parted.1 count_is all_links
    where
      by_rest : (rest : Row) → RowStands dims pages level rest → Parts (objects_in head.below) rest
          → length links ≡ place + 1 + length (links_of rest)
          → links ≡ links_of cut.left ++ ((get_or links place some_link).0, p) ∷ links_of rest → ⊥
      by_rest end stands parts count is = omega (arith, count, next)
      by_rest (more (object i o) r) stands parts count is = absurd (omega (arith, high, stands.0))
      by_rest (more (child k q b) r) stands parts count is =
          let key_is : (get_or links (place + 1) some_link).0 ≡ k =
          ap (λ (ls : List Link). (get_or ls (place + 1) some_link).0) is
          ∙ ap (λ m.
          (get_or (links_of cut.left ++ ((get_or links place some_link).0, p) ∷ (k, q) ∷ links_of r)
          (m + 1) some_link).0) (sym left_long)
          ∙ ap (λ (l : Link). l.0)
          (get_or-append-add (links_of cut.left) (((get_or links place some_link).0, p) ∷ (k, q) ∷ links_of r)
          1 some_link) in
          let room = between 0 k (objects_in head.below) tail.2
          (All-weaker (λ (o : Entry). o.0 < k) (λ (o : Entry). 0 ≤ o.0) (λ o lt. omega arith)
          (objects_in head.below) parts.0) parts.0 in
          omega (arith, room, key_is, zero_key some_link)

  module _ (list_mid : List ℕ) (from upto : ℕ) (range : IsRange links place low top from upto)
      (visited : list_mid ≡ list ++ p ∷ []) where
    child_from : All (λ o. from ≤ o.0) (objects_in head.below)
    child_from = ⊎_elim
        (λ (none : place ≡ 0). subst (λ k. All (λ o. k ≤ o.0) (objects_in head.below))
        (sym (range.first none)) (own (λ (o : Entry). low ≤ o.0) may.stands.from))
        (λ (some : ¬ (place ≡ 0)).
        let later : 0 < place = omega (arith, some) in
        let behind = from_there dims pages level (get_or links place some_link).0 cut.left
        (more (child (get_or links place some_link).0 p head.below) head.rest) high
        (omega (arith, left_long, later)) on_left refl all_parted in
        subst (λ k. All (λ o. k ≤ o.0) (objects_in head.below)) (sym (range.later later some_link))
        (all_left (λ (o : Entry). (get_or links place some_link).0 ≤ o.0) (objects_in head.below)
        (objects_in head.rest) behind))
        (cases_eq place 0)

    child_upto : upto < most_identifier → All (λ o. o.0 ≤ upto) (objects_in head.below)
    child_upto small = by_rest head.rest tail.5 tail_parted.1 count_is all_links
      where
        by_rest : (rest : Row) → RowStands dims pages level rest → Parts (objects_in head.below) rest
            → length links ≡ place + 1 + length (links_of rest)
            → links ≡ links_of cut.left ++ ((get_or links place some_link).0, p) ∷ links_of rest
            → All (λ o. o.0 ≤ upto) (objects_in head.below)
        by_rest end stands parts count is =
            let is_top = range.last (omega (arith, count)) in
            subst (λ k. All (λ o. o.0 ≤ k) (objects_in head.below)) (sym is_top)
            (own (λ (o : Entry). o.0 ≤ top) (may.upto (omega (arith, small, is_top))))
        by_rest (more (object i o) r) stands parts count is = absurd (omega (arith, high, stands.0))
        by_rest (more (child k q b) r) stands parts count is =
            let bound = range.inner (omega (arith, count)) some_link in
            let key_is : (get_or links (place + 1) some_link).0 ≡ k =
            ap (λ (ls : List Link). (get_or ls (place + 1) some_link).0) is
            ∙ ap (λ m.
            (get_or (links_of cut.left ++ ((get_or links place some_link).0, p) ∷ (k, q) ∷ links_of r)
            (m + 1) some_link).0) (sym left_long)
            ∙ ap (λ (l : Link). l.0)
            (get_or-append-add (links_of cut.left)
            (((get_or links place some_link).0, p) ∷ (k, q) ∷ links_of r) 1 some_link) in
            All-weaker (λ (o : Entry). o.0 < k) (λ (o : Entry). o.0 ≤ upto)
            (λ o lt. omega (arith, lt, key_is, bound)) (objects_in head.below) parts.0

    next_once : (n : ℕ) → named_pages list n + part_at p head.below n ≤ 1
    next_once n = omega (arith, may.once n, row_occurs n, so.adds.pages_are n, same_left.occurs_same n)

    pub next_may : NextMay dims pages p (level - 1) (edge && (place + 1 == length links)) from upto list
        list_mid seen
    next_may = record {
      below = head.below;
      may = record {
        stands = record {
          low_page = tail.1;
          node = tail.3;
          below = tail.4;
          parted = tail_parted.0;
          filled = subst (λ e. IsFilled dims (level - 1) e head.below) (sym edge_is) tail_filled.1;
          some = tail.2;
          large = λ off. tail_filled.0 (sym edge_is ∙ off);
          from = child_from;
        };
        upto = child_upto;
        once = λ n. omega (arith, next_once n, ap (named n) visited, times_more n p list);
        single = λ id. omega (
          arith,
          may.single id,
          so.adds.seen_are id,
          ap (times_in id) same_left.objects_same,
          ap (times_in id) row_objects,
          times-append id (objects_in cut.left) (objects_in head.below ++ objects_in head.rest),
          times-append id (objects_in head.below) (objects_in head.rest),
        );
      };
      unvisited = let here = occurs_here p in omega (arith, next_once p, here);
    }
      where
        named : ℕ → List ℕ → ℕ
        named n xs = named_pages xs n

-- ---- a whole node

pub least_flat : (dims : ℕ) → dims ≡ 2 → 37 ≡ least_objects dims
unfolding least_objects
least_flat dims is = sym (ap (λ b. cond b 37 29) (is_same dims 2 is))

pub least_solid : (dims : ℕ) → ¬ (dims ≡ 2) → 29 ≡ least_objects dims
unfolding least_objects
least_solid dims other = sym (ap (λ b. cond b 37 29) (is_other dims 2 other))

-- a leaf with these objects
pub leaf_adds : (dims : ℕ) (pages : PageMap) (page level : ℕ) (edge : Bool) (low top : ℕ) (bytes : List ℕ)
    (before pairs : List Entry) (list : List ℕ) (seen_before seen : BTreeSet ℕ) → level ≡ 0 → 2 < page
    → pages page ≡ Some bytes
    → FindsLeaf dims edge low top bytes before pairs seen_before seen
    → AddsNode dims pages page level edge low top before pairs list list seen_before seen
leaf_adds dims pages page level edge low top bytes before pairs list seen_before seen is_low low_page there
    f =
    let objects = objects_of_row f.objects in
    let stands = row_of_stands dims pages f.objects in
    record {
      row = row_of f.objects;
      stands = record {
        low_page = low_page;
        node = record {
          leaf = λ low. ap (leaf_in dims) there ∙ f.is ∙ ap (λ (xs : List Entry). Some xs) (sym objects);
          fork = λ up. absurd (omega (arith, up, is_low));
        };
        below = subst (λ l. RowStands dims pages l (row_of f.objects)) (sym is_low) stands;
        parted = row_of_parted f.objects;
        filled = row_of_filled dims level edge f.objects;
        some = omega (arith, f.some, ap length objects);
        large = λ off. record {
          leaf = λ low. let many = f.large off in omega (arith, many, ap length objects);
          fork =
              λ up. absurd (omega (arith, up, is_low));
        };
        from = subst (λ (xs : List Entry). All (λ o. low ≤ o.0) xs) (sym objects) f.adds.from;
      };
      upto = subst (λ (xs : List Entry). All (λ o. o.0 ≤ top) xs) (sym objects) f.adds.upto;
      adds = record {
        pairs_are = f.adds.pairs_are ∙ ap (λ (xs : List Entry). before ++ xs) (sym objects);
        pages_are = λ n. omega (arith, leaf_pages dims pages (row_of f.objects) n stands);
        seen_are = λ id. omega (arith, f.adds.seen_are id, ap (times_in id) objects);
      };
    }

-- the leaf that stands in the page
pub may_be_leaf : (dims : ℕ) (pages : PageMap) (page level : ℕ) (edge : Bool) (low top : ℕ) (row : Row)
    (list : List ℕ) (seen : BTreeSet ℕ) → level ≡ 0 → MayAdd dims pages page level edge low top row list seen
    → MayBeLeaf dims edge low top (objects_in row) seen
may_be_leaf dims pages page level edge low top row list seen is_low may =
    record {
      some = may.stands.some;
      large = λ off. (may.stands.large off).leaf is_low;
      from =
          may.stands.from;
      upto = may.upto;
      single = may.single;
    }

-- all children of a fork
at_end : (edge : Bool) (place count : ℕ) → place ≡ count → (edge && (place == count)) ≡ edge
at_end true place count is = same place count is
  where
    same : (a b : ℕ) → a ≡ b → (a == b) ≡ true
    same a b h = grind (arith, nat_tests)
at_end false place count is = refl

pub adds_all : (dims : ℕ) (pages : PageMap) (page level : ℕ) (edge : Bool) (low top : ℕ) (bytes : List ℕ)
    (place : ℕ) (before pairs : List Entry) (list_before list : List ℕ) (seen_before seen : BTreeSet ℕ)
    → 0 < level → 2 < page → pages page ≡ Some bytes
    → (f : FindsFork dims level edge bytes) → length f.links ≡ place
    → AddsChildren dims pages level edge low top f.links place before pairs list_before list seen_before seen
    → AddsNode dims pages page level edge low top before pairs list_before list seen_before seen
adds_all dims pages page level edge low top bytes place before pairs list_before list seen_before seen high
    low_page there f all so =
    let links = so.links_are ∙ take_all place f.links (omega (arith, all)) in
    record {
      row = so.row;
      stands = record {
        low_page = low_page;
        node = record {
          leaf = λ is_low. absurd (omega (arith, is_low, high));
          fork = λ up. ap (fork_in dims) there ∙ f.is ∙ ap
              (λ (ls : List Link). Some (record { level = level; links = ls })) (sym links);
        };
        below = so.below;
        parted = so.parted;
        filled = subst (λ e. IsFilled dims level e so.row) (at_end edge place (length f.links) (sym all))
            so.filled;
        some = so.some (omega (arith, f.some, all));
        large = λ off. record {
          leaf = λ is_low. absurd (omega (arith, is_low, high));
          fork = λ up. let many = f.large off in
              omega (arith, many, ap length links);
        };
        from = so.from;
      };
      upto = so.upto (omega (arith, all));
      adds = so.adds;
    }

-- the links of a row are those of its page
pub links_found : (dims : ℕ) (pages : PageMap) (page level : ℕ) (row : Row) (bytes : List ℕ)
    (links : List Link) → 0 < level → HasNode dims pages page level row → pages page ≡ Some bytes
    → fork_at dims bytes ≡ Some (record { level = level; links = links }) → links_of row ≡ links
unfolding links_in
links_found dims pages page level row bytes links high node there is =
    ap links_in (sym (node.fork high) ∙ ap (fork_in dims) there ∙ is)

-- ---- the same pages

within_on : (dims : ℕ) (old new : PageMap) (page level : ℕ) (edge : Bool) (low : ℕ) (row : Row)
    → ((n : ℕ) → new n ≡ old n) → StandsFrom dims old page level edge low row
    → StandsFrom dims new page level edge low row
within_on dims old new page level edge low row same s = record {
  low_page = s.low_page;
  node = node_stays dims old new page level row (same page) s.node;
  below = row_stays dims old new level row (λ n at. same n) s.below;
  parted = s.parted;
  filled = s.filled;
  some = s.some;
  large = s.large;
  from = s.from;
}

pub node_on : (dims : ℕ) (old new : PageMap) (page level : ℕ) (edge : Bool) (low top : ℕ)
    (before pairs : List Entry) (list_before list : List ℕ) (seen_before seen : BTreeSet ℕ)
    → ((n : ℕ) → new n ≡ old n)
    → AddsNode dims new page level edge low top before pairs list_before list seen_before seen
    → AddsNode dims old page level edge low top before pairs list_before list seen_before seen
node_on dims old new page level edge low top before pairs list_before list seen_before seen same a = record {
  row = a.row;
  stands = within_on dims new old page level edge low a.row (λ n. sym (same n)) a.stands;
  upto = a.upto;
  adds = a.adds;
}

pub may_on : (dims : ℕ) (old new : PageMap) (page level : ℕ) (edge : Bool) (low top : ℕ) (row : Row)
    (list : List ℕ) (seen : BTreeSet ℕ) → ((n : ℕ) → new n ≡ old n)
    → MayAdd dims old page level edge low top row list seen
    → MayAdd dims new page level edge low top row list seen
may_on dims old new page level edge low top row list seen same m =
    record {
      stands = within_on dims old new page level edge low row same m.stands;
      upto = m.upto;
      once =
          m.once;
      single = m.single;
    }

-- ---- so far

module _ {B A : Type 0} {m : _} where
  pub record Checking (dims level : ℕ) (edge : Bool) (low top : ℕ) (bytes : List ℕ)
      (old now : PageCache B A m) (place : ℕ) (before pairs : List Entry) (list_before list : List ℕ)
      (seen_before seen : BTreeSet ℕ) (marks_before marks : ℕ)
      : Type 0 where
    pub asks : AsksUntil old now None
    pub found : IsHonest old → (f : FindsFork dims level edge bytes)
        → AddsChildren dims (given old) level edge low top f.links place before pairs list_before list
        seen_before seen
    pub numbers : marks ≡ marks_before
    pub looks : looks_of now + length list_before ≤ looks_of old + length list
