-- A full child cut in two has room.
use Rattle.id_tree.specs.Cutting.{Plans, Cuts, SpellsNode}
use Rattle.id_tree.proofs.TidyLemmas.{as_tidy_on, both_tidy_on}
use Rattle.id_tree.proofs.SwapLemmas.{KeepsBounds, Renamed, Swapped, Swaps, swapped, swapped_written}
use Rattle.std.proofs.Common.{◌≡◌, ◌∙◌, ℕ, ◌+◌, ◌-◌, ◌<◌, ◌≤◌, Bool, false, cond, eqb, Some, IsSome, List}
use Rattle.std.proofs.Common.{◌∷◌, ◌++◌, length, All, refl, sym, ap, subst, ⊎_elim, arith, append_assoc}
use Rattle.std.proofs.Common.{length-append}
use Rattle.std.proofs.lemmas.Bool.{cases_eq}
use Rattle.std.proofs.lemmas.List.{append-nil}
use Rattle.std.proofs.lemmas.List.Edits.{insert-append_right}
use Rattle.std.specs.List.{insert}
use Rattle.bucket_page.specs.Layout.{Entry}
use Rattle.id_page.specs.Fork.{ForkContent, Link, fork_at, with_links}
use Rattle.page_file.specs.Pages.{SameBut}
use Rattle.node_page.specs.Parts.{Moves}
use Rattle.node_page.specs.Standing.{PageMap}
use Rattle.node_page.proofs.PartLemmas.{moves_from, there_not_missing}
use Rattle.id_tree.specs.Rows.{NodeStands, joined, part_at}
use Rattle.id_tree.specs.Steps.{Keeps, MakesHalves, MakesRoom, MayHalve, MaySplit}
use Rattle.id_tree.specs.Writes.{GivesAndPuts}
use Rattle.id_tree.specs.Tree.{HasNode, IsFilled, IsParted, Row, end, more, child, RowStands, at_edge}
use Rattle.id_tree.specs.Tree.{fork_in, leaf_in, links_of, objects_in, occurs}
use Rattle.id_tree.proofs.CutLemmas.{node_fits}
use Rattle.id_tree.proofs.NodeLemmas.{below_there, is_there, node_there, not_there, occurs_here, row_stays}
use Rattle.id_tree.proofs.NodeLemmas.{stands_same}
use Rattle.id_tree.proofs.ObjectLemmas.{keeps_within}
use Rattle.id_tree.proofs.RowLemmas.{joined-joined, links-joined, objects-joined, passes-more}
use Rattle.id_tree.proofs.WayLemmas.{child_stands, links_here, objects_here, on_tail, place_here, times_below}

-- a child more after one of a list
link_more : (front rest : List Link) (here new : Link)
    → insert (front ++ here ∷ rest) (length front + 1) new ≡ front ++ here ∷ new ∷ rest
link_more front rest here new =
    let one : length front + 1 - length front ≡ 1 = omega arith in
    insert-append_right front (here ∷ rest) (length front) (length front + 1) new refl (omega arith)
    ∙ ap (λ k. front ++ insert (here ∷ rest) k new) one

-- a page with the bytes of a node has that node
pub node_of_bytes : (dims : ℕ) (pages : PageMap) (page level : ℕ) (row : Row) (bytes : List ℕ)
    → SpellsNode dims level row bytes → pages page ≡ Some bytes → HasNode dims pages page level row
node_of_bytes dims pages page level row bytes spells there = record {
  leaf = λ low. ap (leaf_in dims) there ∙ spells.leaf low;
  fork = λ high. ap (fork_in dims) there ∙ spells.fork high;
}

-- the child may be cut
pub may_halve : (dims : ℕ) (pages : PageMap) (page level : ℕ) (edge : Bool) (row : Row) (id p place : ℕ)
    (last : Bool) → (may : MaySplit dims pages page level edge row id p place last)
    → MayHalve dims pages p (level - 1) last may.way.below
may_halve dims pages page level edge row id p place last may =
    subst (λ e. MayHalve dims pages p (level - 1) e may.way.below) (sym may.last_is) (record {
      stands = child_stands dims pages page level edge id p row may.high may.stands may.way;
      full = may.full;
      single = λ q. omega (
        arith,
        may.single q,
        times_below dims pages page level edge id p row may.high may.stands may.way
            q,
      );
    })

pub may_halve_same : (dims : ℕ) (old new : PageMap) (page level : ℕ) (edge : Bool) (row : Row)
    (id p place : ℕ) (last : Bool) → ((n : ℕ) → new n ≡ old n)
    → (may : MaySplit dims old page level edge row id p place last)
    → MayHalve dims new p (level - 1) last may.way.below
may_halve_same dims old new page level edge row id p place last same may =
    let m = may_halve dims old page level edge row id p place last may in
    record {
      stands = stands_same dims old new p (level - 1) last may.way.below same m.stands;
      full =
          m.full;
      single = m.single;
    }

module _ (dims : ℕ) (old mid new : PageMap) (page level : ℕ) (edge : Bool) (row : Row) (id p place : ℕ)
    (last : Bool) (key number : ℕ) (first second : List ℕ)
    (may : MaySplit dims old page level edge row id p place last)
    (cut : Cuts dims (level - 1) last may.way.below key first second)
    (given : GivesAndPuts old mid p number first second) where
  was : Row
  was = more (child may.way.key p may.way.below) end

  now : Row
  now = more (child may.way.key p cut.left) (more (child key number cut.right) end)

  whole : Row
  whole = joined may.way.front
      (joined (more (child may.way.key p cut.left) (more (child key number cut.right) end)) may.way.rest)

  tail_stands : RowStands dims old level (more (child may.way.key p may.way.below) may.way.rest)
  tail_stands = on_tail dims old page level edge id p row may.high may.stands may.way

  inner : NodeStands dims old p (level - 1) (at_edge edge may.way.rest) may.way.below
  inner = child_stands dims old page level edge id p row may.high may.stands may.way

  -- the pages below the child stay
  below_stays : (n : ℕ) → 0 < occurs n may.way.below → mid n ≡ old n
  below_stays n at = given.others n
      (λ is. there_not_missing (old n) (below_there dims old (level - 1) may.way.below n inner.below at)
      (ap old is ∙ given.fresh))
      (λ is. let one : ◌≡◌ {A = ℕ} (cond (eqb p n) 1 0) 1 = ap (λ k. cond (eqb p k) 1 0) is
      ∙ occurs_here p in omega (arith, one, at, inner.once n))

  unused : part_at p may.way.below number ≡ 0
  unused = ⊎_elim
      (λ (e : part_at p may.way.below number ≡ 0). e)
      (λ (some : ¬ (part_at p may.way.below number ≡ 0)). absurd
      (there_not_missing (old number) (there (omega (arith, some))) given.fresh))
      (cases_eq (part_at p may.way.below number) 0)
    where
      there : 0 < part_at p may.way.below number → IsSome (old number)
      there some = ⊎_elim
          (λ (is : p ≡ number). absurd (given.apart (sym is)))
          (λ (other : ¬ (p ≡ number)). let no = not_there p number other in
          below_there dims old (level - 1) may.way.below number inner.below (omega (arith, some, no)))
          (cases_eq p number)

  counts : (n : ℕ) → occurs n now ≡ occurs n was + cond (eqb number n) 1 0
  unfolding was now
  counts n = omega (arith, cut.counts n)

  was_part : (n : ℕ) → occurs n was ≡ part_at p may.way.below n
  unfolding was
  was_part n = omega arith

  once : (n : ℕ) → occurs n now ≤ 1
  once n = ⊎_elim
      (λ (is : number ≡ n). let none : part_at p may.way.below n ≡ 0 = ap (part_at p may.way.below) (sym is)
      ∙ unused in let one : ◌≡◌ {A = ℕ} (cond (eqb number n) 1 0) 1 =
      ap (λ k. cond (eqb number k) 1 0) (sym is) ∙ occurs_here number in
      omega (arith, counts n, was_part n, none, one))
      (λ (other : ¬ (number ≡ n)). let no = not_there number n other in
      omega (arith, counts n, was_part n, no, inner.once n))
      (cases_eq number n)

  cut_moves : Moves old mid (λ n. occurs n was) (λ n. occurs n now)
  cut_moves = record {
    outside = λ n none gone. given.others n
        (λ is. let one : ◌≡◌ {A = ℕ} (cond (eqb number n) 1 0) 1 = ap (λ k. cond (eqb number k) 1 0) is
        ∙ occurs_here number in omega (arith, one, gone, counts n))
        (λ is. let one : ◌≡◌ {A = ℕ} (cond (eqb p n) 1 0) 1 = ap (λ k. cond (eqb p k) 1 0) is
        ∙ occurs_here p in omega (arith, one, none, was_part n));
    came = λ n none some. ⊎_elim
        (λ (is : number ≡ n). ap old (sym is) ∙ given.fresh)
        (λ (other : ¬ (number ≡ n)). let no = not_there number n other in
        absurd (omega (arith, none, some, no, counts n)))
        (cases_eq number n);
    went = λ n some none. absurd (omega (arith, some, none, counts n));
    live = λ n some. ⊎_elim
        (λ (is : n ≡ number). subst (λ k. IsSome (mid k)) (sym is)
        (is_there (mid number) second given.there_second))
        (λ (off : ¬ (n ≡ number)). ⊎_elim
        (λ (is : n ≡ p). subst (λ k. IsSome (mid k)) (sym is) (is_there (mid p) first given.there_first))
        (λ (off_child : ¬ (n ≡ p)).
        let no = not_there number n (λ is. off (sym is)) in
        let no_child = not_there p n (λ is. off_child (sym is)) in
        subst IsSome (sym (given.others n off off_child))
        (below_there dims old (level - 1) may.way.below n inner.below
        (omega (arith, some, counts n, was_part n, no, no_child))))
        (cases_eq n p))
        (cases_eq n number);
    once = once;
  }

  cut_stands : RowStands dims mid level now
  unfolding now
  cut_stands = (
    may.high,
    tail_stands.1,
    cut.some_left,
    node_of_bytes dims mid p (level - 1) cut.left first cut.spells_left given.there_first,
    row_stays dims old mid (level - 1) cut.left (λ n at. below_stays n (omega (arith, at, cut.counts n)))
        (cut.below_left old inner.below),
    (
      may.high,
      given.low,
      cut.some_right,
      node_of_bytes dims mid number (level - 1) cut.right second cut.spells_right given.there_second,
      row_stays dims old mid (level - 1) cut.right (λ n at. below_stays n (omega (arith, at, cut.counts n)))
          (cut.below_right old inner.below),
      tt,
    ),
  )

  cut_parted : IsParted now
  unfolding now
  cut_parted = (
    cut.parted_left,
    (cut.lesser, subst (λ xs. All (λ o. key ≤ o.0) xs) (sym (append-nil (objects_in cut.right))) cut.from),
    (cut.parted_right, tt, tt),
  )

  cut_filled : IsFilled dims level (at_edge edge may.way.rest) now
  unfolding now
  cut_filled = (
    (λ off. cut.large_left),
    cut.filled_left,
    (
      (λ off. cut.large_right (may.last_is ∙ off)),
      subst (λ e. IsFilled dims (level - 1) e cut.right)
          may.last_is cut.filled_right,
      tt,
    ),
  )

  -- the objects of both halves are those of the child
  was_objects : objects_in was ≡ objects_in may.way.below
  unfolding was
  was_objects = append-nil (objects_in may.way.below)

  now_objects : objects_in now ≡ objects_in cut.left ++ objects_in cut.right
  unfolding now
  now_objects = ap (λ (xs : List Entry). objects_in cut.left ++ xs) (append-nil (objects_in cut.right))

  bounds : KeepsBounds may.way.front was now may.way.rest may.way.key
  bounds = record {
    below = λ k begins all. subst (λ xs. All (λ o. o.0 < k) xs) (sym now_objects)
        (cut.keeps.below k (subst (λ xs. All (λ o. o.0 < k) xs) was_objects all));
    from = λ q r b l e all. subst (λ xs. All (λ o. may.way.key ≤ o.0) xs) (sym now_objects)
        (cut.keeps.from may.way.key (subst (λ xs. All (λ o. may.way.key ≤ o.0) xs) was_objects all));
  }

  swaps : Swaps dims old mid level (at_edge edge may.way.rest) was now
  unfolding was now
  swaps = record {
    first = may.way.key;
    began = refl;
    begins = refl;
    stands = cut_stands;
    parted = cut_parted;
    filled =
        cut_filled;
    moves = cut_moves;
  }

  split_swapped : Swapped dims old mid page level edge row whole
  unfolding was now whole swaps
  split_swapped = swapped dims old mid page level edge row may.way.front was now may.way.rest may.high
      may.way.is may.stands swaps bounds

  -- the links of the fork with one more
  split_links : insert (links_of row) (place + 1) (key, number) ≡ links_of whole
  unfolding now whole
  split_links =
      let at : length (links_of may.way.front) ≡ place =
      place_here dims old page level edge id p row may.high may.stands may.way ∙ sym may.place_is in
      ap (λ k. insert (links_of row) (k + 1) (key, number)) (sym at)
      ∙ ap (λ (xs : List Link). insert xs (length (links_of may.way.front) + 1) (key, number))
      (links_here dims old page level edge id p row may.high may.stands may.way)
      ∙ link_more (links_of may.way.front) (links_of may.way.rest) (may.way.key, p) (key, number)
      ∙ sym (links-joined may.way.front (joined now may.way.rest))

  split_keeps : Keeps (objects_in row) (objects_in whole)
  unfolding now whole
  split_keeps =
      let here = objects_here dims old page level edge id p row may.high may.stands may.way in
      let now_is : objects_in whole ≡ objects_in may.way.front
      ++ ((objects_in cut.left ++ objects_in cut.right) ++ objects_in may.way.rest)
      = objects-joined may.way.front (joined now may.way.rest)
      ∙ ap (λ (xs : List Entry). objects_in may.way.front ++ xs)
      (sym (append_assoc (objects_in cut.left) (objects_in cut.right) (objects_in may.way.rest))) in
      subst (λ xs. Keeps xs (objects_in whole)) (sym here)
      (subst (Keeps (objects_in may.way.front ++ (objects_in may.way.below ++ objects_in may.way.rest)))
      (sym now_is)
      (keeps_within (objects_in may.way.front) (objects_in may.way.below)
      (objects_in cut.left ++ objects_in cut.right) (objects_in may.way.rest) cut.keeps))

  module _ (fork : List ℕ)
      (fork_is : fork_at dims fork ≡ Some (record { level = level; links = links_of row }))
      (others : SameBut page mid new)
      (named : (c : ForkContent) → fork_at dims fork ≡ Some c
      → fork_in dims (new page) ≡ Some (with_links c (insert c.links (place + 1) (key, number)))) where
    renamed : Renamed dims old new page level edge row whole
    renamed = swapped_written dims old mid new page level edge row whole may.high may.stands split_swapped
        others
        (named (record { level = level; links = links_of row }) fork_is
        ∙ ap (λ (xs : List Link). Some (record { level = level; links = xs })) split_links)

    wider : length (links_of row) + 1 ≤ length (links_of whole)
    unfolding now whole
    wider =
        let before = ap length (links_here dims old page level edge id p row may.high may.stands may.way) in
        let after = ap length (links-joined may.way.front (joined now may.way.rest)) in
        omega (
          arith,
          before,
          after,
          length-append (links_of may.way.front)
              ((may.way.key, p) ∷ links_of may.way.rest),
          length-append (links_of may.way.front)
              (links_of (joined now may.way.rest)),
        )

    -- the half where the identifier is has room
    pub room_left : id < key → MakesHalves dims old new page level edge row id p false
    unfolding now whole
    room_left less = record {
      room = record {
        now = whole;
        stands = renamed.stands;
        keeps = split_keeps;
        wide = omega (arith, wider);
        moves = renamed.moves;
        way = record {
          front = may.way.front;
          key = may.way.key;
          below = cut.left;
          rest = more (child key number cut.right) may.way.rest;
          is = refl;
          passes = may.way.passes;
          stops = less;
        };
        room = cut.room_left (node_fits dims old p (level - 1) may.way.below inner.node);
        last_is = refl;
      };
      wider = wider;
    }

    pub room_right : key ≤ id → MakesHalves dims old new page level edge row id number last
    unfolding now whole
    room_right le = record {
      room = record {
        now = whole;
        stands = renamed.stands;
        keeps = split_keeps;
        wide = omega (arith, wider);
        moves = renamed.moves;
        way = record {
          front = joined may.way.front (more (child may.way.key p cut.left) end);
          key = key;
          below = cut.right;
          rest = may.way.rest;
          is = sym (joined-joined may.way.front (more (child may.way.key p cut.left) end)
              (more (child key number cut.right) may.way.rest));
          passes = passes-more id may.way.key key p may.way.front cut.left may.way.passes le;
          stops = may.way.stops;
        };
        room = cut.room_right (node_fits dims old p (level - 1) may.way.below inner.node);
        last_is = may.last_is;
      };
      wider = wider;
    }

-- ---- pages that are there

pub given_live : (old mid : PageMap) (p number page : ℕ) (first second : List ℕ)
    → GivesAndPuts old mid p number first second → IsSome (old page) → ¬ (page ≡ p) → IsSome (mid page)
given_live old mid p number page first second given live apart =
    subst IsSome
    (sym (given.others page (λ is. there_not_missing (old page) live (ap old is ∙ given.fresh)) apart))
    live

pub child_live : (dims : ℕ) (pages : PageMap) (page level : ℕ) (edge : Bool) (row : Row) (id p place : ℕ)
    (last : Bool) → MaySplit dims pages page level edge row id p place last → IsSome (pages p)
child_live dims pages page level edge row id p place last may =
    node_there dims pages p (level - 1) may.way.below
    (child_stands dims pages page level edge id p row may.high may.stands may.way).node

pub place_within : (dims : ℕ) (pages : PageMap) (page level : ℕ) (edge : Bool) (row : Row) (id p place : ℕ)
    (last : Bool) → MaySplit dims pages page level edge row id p place last → place < length (links_of row)
place_within dims pages page level edge row id p place last may =
    let at = place_here dims pages page level edge id p row may.high may.stands may.way in
    let long = ap length (links_here dims pages page level edge id p row may.high may.stands may.way) in
    omega (
      arith,
      at,
      may.place_is,
      long,
      length-append (links_of may.way.front)
          ((may.way.key, p) ∷ links_of may.way.rest),
    )

pub live_same : (old was : PageMap) (page : ℕ) → ((n : ℕ) → was n ≡ old n) → IsSome (old page)
    → IsSome (was page)
live_same old was page same live = subst IsSome (sym (same page)) live

-- ---- the same pages

-- with the same way, as it computes
abbrev pub split_again : (dims : ℕ) (old new : PageMap) (page level : ℕ) (edge : Bool) (row : Row)
    (id p place : ℕ) (last : Bool) → ((n : ℕ) → new n ≡ old n)
    → MaySplit dims old page level edge row id p place last
    → MaySplit dims new page level edge row id p place last
split_again dims old new page level edge row id p place last same s = record {
  stands = stands_same dims old new page level edge row same s.stands;
  high = s.high;
  room = s.room;
  single = s.single;
  way = s.way;
  full = s.full;
  place_is = s.place_is;
  last_is = s.last_is;
}

pub makes_from : (dims : ℕ) (old mid new : PageMap) (page level : ℕ) (edge : Bool) (row : Row) (id below : ℕ)
    (last : Bool) → ((n : ℕ) → mid n ≡ old n) → MakesRoom dims mid new page level edge row id below last
    → MakesRoom dims old new page level edge row id below last
makes_from dims old mid new page level edge row id below last same m = record {
  now = m.now;
  stands = m.stands;
  keeps = m.keeps;
  wide = m.wide;
  moves = moves_from old mid new (part_at page row) (part_at page m.now) same m.moves;
  way = m.way;
  room = m.room;
  last_is = m.last_is;
}

pub halves_from : (dims : ℕ) (old mid new : PageMap) (page level : ℕ) (edge : Bool) (row : Row) (id below : ℕ)
    (last : Bool) → ((n : ℕ) → mid n ≡ old n) → MakesHalves dims mid new page level edge row id below last
    → MakesHalves dims old new page level edge row id below last
unfolding makes_from
halves_from dims old mid new page level edge row id below last same m = record {
  room = makes_from dims old mid new page level edge row id below last same m.room;
  wider = m.wider;
}

module _ {dims : ℕ} {old new : PageMap} {level : ℕ} {last : Bool} {row below : Row} {fork : List ℕ} {key : ℕ}
    {first second : List ℕ} where
  pub plans_same : Plans dims old level last row below fork key first second → ((n : ℕ) → new n ≡ old n)
      → Plans dims new level last row below fork key first second
  plans_same p same = record {
    fork_is = p.fork_is;
    fork_tidy = as_tidy_on dims old new fork same p.fork_tidy;
    cuts = p.cuts;
    cut_tidy = both_tidy_on dims old new first second same p.cut_tidy;
  }
