-- Children of a fork next to one another, that became others.
use Rattle.std.proofs.Common.{◌≡◌, ◌∙◌, ℕ, ◌+◌, ◌<◌, ◌≤◌, Bool, cond, eqb, Some, IsSome, List, ◌++◌, All}
use Rattle.std.proofs.Common.{refl, sym, ap, subst, ⊎_elim, arith}
use Rattle.std.proofs.lemmas.Bool.{cases_eq}
use Rattle.std.proofs.lemmas.List.Elements.{All-append}
use Rattle.bucket_page.specs.Layout.{Entry}
use Rattle.page_file.specs.Pages.{SameBut}
use Rattle.node_page.specs.Parts.{Moves, Part, both}
use Rattle.node_page.specs.Standing.{PageMap}
use Rattle.node_page.proofs.PartLemmas.{moves_beside, moves_same, the_rest_stays}
use Rattle.id_page.specs.Fork.{Link}
use Rattle.id_tree.specs.Rows.{Begins, NodeStands, joined, part_at}
use Rattle.id_tree.specs.Tree.{IsFilled, IsParted, Row, end, more, object, child, RowStands, at_edge, fork_in}
use Rattle.id_tree.specs.Tree.{links_of, objects_in, occurs}
use Rattle.id_tree.proofs.NodeLemmas.{occurs_here, part_there, row_stays, there_of_fork}
use Rattle.id_tree.proofs.ObjectLemmas.{all_left, all_right}
use Rattle.id_tree.proofs.RowLemmas.{AreApart, behind_from, filled-behind, filled-front, filled-joined}
use Rattle.id_tree.proofs.RowLemmas.{front_below, joined-end, objects-joined, occurs-joined, parted-behind}
use Rattle.id_tree.proofs.RowLemmas.{parted-front, parted-joined, stands-behind, stands-front, stands-joined}

-- children became others: both begin at the same key, and the new ones stand
pub record Swaps (dims : ℕ) (old new : PageMap) (level : ℕ) (edge : Bool) (was now : Row) : Type 0 where
  pub first : ℕ
  pub began : Begins first was
  pub begins : Begins first now
  pub stands : RowStands dims new level now
  pub parted : IsParted now
  pub filled : IsFilled dims level edge now
  pub moves : Moves old new (λ n. occurs n was) (λ n. occurs n now)

-- their objects keep to the keys around them
pub record KeepsBounds (front was now rest : Row) (first : ℕ) : Type 0 where
  pub below : (key : ℕ) → Begins key rest → All (λ o. o.0 < key) (objects_in was)
      → All (λ o. o.0 < key) (objects_in now)
  pub from : (k p : ℕ) (b l : Row) → front ≡ more (child k p b) l → All (λ o. first ≤ o.0) (objects_in was)
      → All (λ o. first ≤ o.0) (objects_in now)

-- what is left of a row
pub record Swapped (dims : ℕ) (old new : PageMap) (page level : ℕ) (edge : Bool) (row now : Row) : Type 0
  where
    pub below : RowStands dims new level now
    pub parted : IsParted now
    pub filled : IsFilled dims level edge now
    pub moves : Moves old new (part_at page row) (part_at page now)
    pub same : new page ≡ old page

begins_more : (key : ℕ) (row rest : Row) → Begins key row → Begins key (joined row rest)
begins_more key end rest begins = absurd begins
begins_more key (more (object id kept) r) rest begins = absurd begins
begins_more key (more (child k p b) r) rest begins = begins

module _ (dims : ℕ) (old new : PageMap) (page level : ℕ) (edge : Bool) (row front was now rest : Row)
    (high : 0 < level) (is : row ≡ joined front (joined was rest))
    (s : NodeStands dims old page level edge row) (w : Swaps dims old new level (at_edge edge rest) was now)
    (k : KeepsBounds front was now rest w.first) where
  whole : Row
  whole = joined front (joined now rest)

  stands_all : RowStands dims old level (joined front (joined was rest))
  stands_all = subst (RowStands dims old level) is s.below

  parted_all : IsParted (joined front (joined was rest))
  parted_all = subst IsParted is s.parted

  filled_all : IsFilled dims level edge (joined front (joined was rest))
  filled_all = subst (IsFilled dims level edge) is s.filled

  on_front : RowStands dims old level front
  on_front = stands-front dims old level front (joined was rest) stands_all

  on_rest : RowStands dims old level rest
  on_rest = stands-behind dims old level was rest
      (stands-behind dims old level front (joined was rest) stands_all)

  on_was : RowStands dims old level was
  on_was = stands-front dims old level was rest
      (stands-behind dims old level front (joined was rest) stands_all)

  -- all pages but those of the children that changed
  beside : Part
  beside n = cond (eqb page n) 1 0 + (occurs n front + occurs n rest)

  counted : (n : ℕ) → both (λ n. occurs n was) beside n ≡ part_at page row n
  unfolding beside
  counted n =
      omega (arith, occurs-joined n front (joined was rest), occurs-joined n was rest, ap (occurs n) is)

  total : (n : ℕ) → both (λ n. occurs n now) beside n ≡ part_at page whole n
  unfolding beside whole
  total n = omega (arith, occurs-joined n front (joined now rest), occurs-joined n now rest)

  there : (n : ℕ) → 0 < beside n → IsSome (old n)
  unfolding beside
  there n some = part_there dims old page level edge row n s (omega (arith, some, counted n))

  apart : (n : ℕ) → both (λ n. occurs n was) beside n ≤ 1
  apart n = omega (arith, counted n, s.once n)

  stays : (n : ℕ) → 0 < beside n → new n ≡ old n
  stays n some =
      (the_rest_stays old new (λ n. occurs n was) (λ n. occurs n now) beside w.moves there apart n some).0

  swapped_stands : RowStands dims new level whole
  unfolding beside whole
  swapped_stands = stands-joined dims new level front (joined now rest)
      (row_stays dims old new level front (λ n at. stays n (omega (arith, at))) on_front)
      (stands-joined dims new level now rest w.stands
      (row_stays dims old new level rest (λ n at. stays n (omega (arith, at))) on_rest))

  begins_rest : (key : ℕ) → Begins key rest → AreApart now rest key
  begins_rest key begins =
      let tail = parted-behind front (joined was rest) parted_all in
      record {
        lesser = k.below key begins (front_below dims old level key was rest high on_was begins tail);
        from = from_there was w.began on_was tail;
      }
    where
      from_there : (was : Row) → Begins w.first was → RowStands dims old level was
          → IsParted (joined was rest) → All (λ o. key ≤ o.0) (objects_in rest)
      from_there end began stands tail = absurd began
      from_there (more (object id kept) r) began stands tail = absurd began
      from_there (more (child q p b) r) began stands tail =
          behind_from dims old level key q p b r rest high stands.5 begins tail

  parted_tail : IsParted (joined now rest)
  parted_tail =
      by_rest rest begins_rest (parted-behind was rest (parted-behind front (joined was rest) parted_all))
      on_rest
    where
      by_rest : (rest : Row) → ((key : ℕ) → Begins key rest → AreApart now rest key) → IsParted rest
          → RowStands dims old level rest → IsParted (joined now rest)
      by_rest end apart parted stands = subst IsParted (sym (joined-end now)) w.parted
      by_rest (more (object id kept) r) apart parted stands = absurd (omega (arith, high, stands.0))
      by_rest (more (child q p b) r) apart parted stands =
          parted-joined dims new level q now (more (child q p b) r) high w.stands refl w.parted parted
          (λ k2 p2 b2 l2 e. apart q refl)

  swapped_parted : IsParted whole
  unfolding whole
  swapped_parted = parted-joined dims old level w.first front (joined now rest) high on_front
      (begins_more w.first now rest w.begins) (parted-front front (joined was rest) parted_all) parted_tail
      (λ q p b l e. record {
        lesser = front_below dims old level w.first front (joined was rest) high on_front
            (begins_more w.first was rest w.began) parted_all;
        from =
            let P = λ (o : Entry). w.first ≤ o.0 in
            let before : All P (objects_in was ++ objects_in rest) =
            subst (λ xs. All P xs) (objects-joined was rest) (from_front q p b l e) in
            subst (λ xs. All P xs) (sym (objects-joined now rest))
            (All-append P (objects_in now) (objects_in rest)
            (k.from q p b l e (all_left P (objects_in was) (objects_in rest) before))
            (all_right P (objects_in was) (objects_in rest) before));
      })
    where
      from_front : (q p : ℕ) (b l : Row) → front ≡ more (child q p b) l
          → All (λ o. w.first ≤ o.0) (objects_in (joined was rest))
      from_front q p b l e =
          let all : IsParted (joined (more (child q p b) l) (joined was rest)) =
          subst (λ f. IsParted (joined f (joined was rest))) e parted_all in
          let stands : RowStands dims old level (more (child q p b) l) =
          subst (RowStands dims old level) e on_front in
          behind_from dims old level w.first q p b l (joined was rest) high stands.5
          (begins_more w.first was rest w.began) all

  swapped_filled : IsFilled dims level edge whole
  unfolding whole
  swapped_filled = by_shape was now w.began w.begins filled_all w.filled
    where
      tail : (now : Row) (at_rest : Row) → IsFilled dims level (at_edge edge at_rest) now
          → IsFilled dims level edge at_rest → IsFilled dims level edge (joined now at_rest)
      tail now end on_now behind = subst (IsFilled dims level edge) (sym (joined-end now)) on_now
      tail now (more b r) on_now behind = filled-joined dims level edge now b r on_now behind

      by_shape : (was now : Row) → Begins w.first was → Begins w.first now
          → IsFilled dims level edge (joined front (joined was rest))
          → IsFilled dims level (at_edge edge rest) now
          → IsFilled dims level edge (joined front (joined now rest))
      by_shape end now began begins all filled = absurd began
      by_shape (more (object id kept) r) now began begins all filled = absurd began
      by_shape (more (child q p b) r) end began begins all filled = absurd begins
      by_shape (more (child q p b) r) (more (object id kept) t) began begins all filled = absurd begins
      by_shape (more (child q p b) r) (more (child q' p' b') t) began begins all filled =
          let behind = filled-behind dims level edge (more (child q p b) r) rest
          (filled-behind dims level edge front (joined (more (child q p b) r) rest) all) in
          filled-joined dims level edge front (child q' p' b') (joined t rest)
          (filled-front dims level edge front (child q p b) (joined r rest) all)
          (tail (more (child q' p' b') t) rest filled behind)

  pub swapped : Swapped dims old new page level edge row (joined front (joined now rest))
  unfolding beside whole
  swapped = record {
    below = swapped_stands;
    parted = swapped_parted;
    filled = swapped_filled;
    moves = moves_same old new (both (λ n. occurs n was) beside) (part_at page row)
        (both (λ n. occurs n now) beside) (part_at page whole) counted total
        (moves_beside old new (λ n. occurs n was) (λ n. occurs n now) beside w.moves there apart);
    same = stays page (omega (arith, occurs_here page));
  }

-- a fork whose page names the same children stands still
pub swapped_as_is : (dims : ℕ) (old new : PageMap) (page level : ℕ) (edge : Bool) (row now : Row) → 0 < level
    → NodeStands dims old page level edge row → links_of now ≡ links_of row
    → Swapped dims old new page level edge row now → NodeStands dims new page level edge now
swapped_as_is dims old new page level edge row now high s links w = record {
  low = s.low;
  node = record {
    leaf = λ low. absurd (omega (arith, low, high));
    fork = λ up. ap (fork_in dims) w.same ∙ s.node.fork up
        ∙ ap (λ (xs : List Link). Some (record { level = level; links = xs })) (sym links);
  };
  below = w.below;
  parted = w.parted;
  filled = w.filled;
  once = w.moves.once;
}

-- and one whose page was written with the new ones
pub record Renamed (dims : ℕ) (old new : PageMap) (page level : ℕ) (edge : Bool) (row now : Row) : Type 0
  where
    pub stands : NodeStands dims new page level edge now
    pub moves : Moves old new (part_at page row) (part_at page now)

pub swapped_written : (dims : ℕ) (old mid new : PageMap) (page level : ℕ) (edge : Bool) (row now : Row)
    → 0 < level → NodeStands dims old page level edge row
    → Swapped dims old mid page level edge row now → SameBut page mid new
    → fork_in dims (new page) ≡ Some (record { level = level; links = links_of now })
    → Renamed dims old new page level edge row now
swapped_written dims old mid new page level edge row now high s w others there = record {
  stands = record {
    low = s.low;
    node = record { leaf = λ low. absurd (omega (arith, low, high)); fork = λ up. there };
    below = row_stays dims mid new level now (λ n at. others n (off n at)) w.below;
    parted = w.parted;
    filled = w.filled;
    once = w.moves.once;
  };
  moves = record {
    outside =
        λ n none gone. others n
        (λ is. let one : ◌≡◌ {A = ℕ} (cond (eqb page n) 1 0) 1 = ap (λ k. cond (eqb page k) 1 0) is
        ∙ occurs_here page in omega (arith, one, none)) ∙ w.moves.outside n none gone;
    came = w.moves.came;
    went = λ n some none. others n
        (λ is. let one : ◌≡◌ {A = ℕ} (cond (eqb page n) 1 0) 1 = ap (λ k. cond (eqb page k) 1 0) is
        ∙ occurs_here page in omega (arith, one, none)) ∙ w.moves.went n some none;
    live = λ n some. ⊎_elim
        (λ (is : n ≡ page). subst (λ k. IsSome (new k)) (sym is) (there_of_fork dims (new page) _ there))
        (λ (other : ¬ (n ≡ page)). subst IsSome (sym (others n other)) (w.moves.live n some))
        (cases_eq n page);
    once = w.moves.once;
  };
}
  where
    off : (n : ℕ) → 0 < occurs n now → ¬ (n ≡ page)
    off n at is = let one : ◌≡◌ {A = ℕ} (cond (eqb page n) 1 0) 1 = ap (λ k. cond (eqb page k) 1 0) is
        ∙ occurs_here page in omega (arith, one, at, w.moves.once n)
