-- Ways that the identifiers from one to another share, and a leaf that takes objects of them one after the
-- other.
use Rattle.std.proofs.Common.{◌≡◌, ◌∙◌, ℕ, ◌+◌, ◌-◌, ◌<◌, ◌≤◌, ◌++◌, ◌∷◌, [], Bool, true, false, Some, None}
use Rattle.std.proofs.Common.{All, List, length, get_or, take, refl, sym, ap, subst, arith, length-append}
use Rattle.std.proofs.lemmas.List.{get_or-append-add, length-take-le}
use Rattle.std.proofs.lemmas.List.Elements.{All-head, All-tail}
use Rattle.bucket_page.specs.Layout.{Entry}
use Rattle.page_file.specs.Pages.{SameBut}
use Rattle.id_page.specs.Fork.{Link, route_place}
use Rattle.id_page.specs.Leaf.{most_objects}
use Rattle.node_page.specs.Standing.{PageMap}
use Rattle.id_words.specs.Objects.{kept_in}
use Rattle.id_tree.specs.Changes.{Sets}
use Rattle.id_tree.specs.Rows.{At, NodeStands, Passes, Reaches, Stops, here, down, joined}
use Rattle.id_tree.specs.Runs.{HasRun, IsFromTo, IsUpto, Spans, TakesAll, spans_here, spans_down}
use Rattle.id_tree.specs.Steps.{Becomes, Step, Turns, adds}
use Rattle.id_tree.specs.Tree.{IdTree, IsLarge, Row, end, more, object, child, RowStands, TreeStands, at_edge}
use Rattle.id_tree.specs.Tree.{leaf_in, links_of, objects_in}
use Rattle.id_tree.proofs.AddLemmas.{sets_here}
use Rattle.id_tree.proofs.LeafLemmas.{leaf_becomes}
use Rattle.id_tree.proofs.NodeLemmas.{objects_of_row, row_of}
use Rattle.id_tree.proofs.ObjectLemmas.{adds_last}
use Rattle.id_tree.proofs.PlaceLemmas.{last_in}
use Rattle.id_tree.proofs.PutLemmas.{IsLast}
use Rattle.id_tree.proofs.RootLemmas.{root_stands, sets_of}
use Rattle.id_tree.proofs.WayLemmas.{by_child, child_large, child_stands, child_turned, links_here, on_tail}
use Rattle.id_tree.proofs.WayLemmas.{place_here}

-- ---- the identifiers of a span

-- the way passes what that of a lesser identifier passes
passes_too : (from id : ℕ) (front : Row) (key : ℕ) → from ≤ id → Passes from front key → Passes id front key
passes_too from id end key le passes = tt
passes_too from id (more (object i o) rest) key le passes = passes_too from id rest key le passes
passes_too from id (more (child k p below) rest) key le passes =
    (omega (arith, passes.0, le), passes_too from id rest key le passes.1)

-- and stops where that of a greater one stops
pub stops_too : (id upto : ℕ) (rest : Row) → id ≤ upto → Stops upto rest → Stops id rest
stops_too id upto end le stops = tt
stops_too id upto (more (object i o) rest) le stops = tt
stops_too id upto (more (child k p below) rest) le stops = omega (arith, stops, le)

-- so one between them has the same way
way_too : (from upto id page : ℕ) (row : Row) → from ≤ id → id ≤ upto → (way : At from page row)
    → Stops upto way.rest → At id page row
way_too from upto id page row low high way stops = record {
  front = way.front;
  key = way.key;
  below = way.below;
  rest = way.rest;
  is = way.is;
  passes = passes_too from id way.front way.key low way.passes;
  stops = stops_too id upto way.rest high stops;
}

pub reaches_too : (from upto id level page : ℕ) (row : Row) (leaf : ℕ) (last : Row) → from ≤ id → id ≤ upto
    → Spans from upto level page row leaf last → Reaches id level page row leaf last
unfolding way_too
reaches_too from upto id level page row leaf last low high (spans_here p r) = here p r
reaches_too from upto id level page row leaf last low high (spans_down _ _ below _ _ _ up way stops rest) =
    down level page below leaf row last up (way_too from upto id below row low high way stops)
    (reaches_too from upto id (level - 1) below way.below leaf last low high rest)

-- a leaf of some room is the run of itself
pub run_of_leaf : (dims page level : ℕ) (row : Row) (id upto leaf room : ℕ) → level ≡ 0 → leaf ≡ page
    → length (objects_in row) + room ≤ most_objects dims → HasRun dims page level row id upto leaf room
run_of_leaf dims page level row id upto leaf room low is takes =
    subst (λ (l : ℕ). HasRun dims page l row id upto leaf room) (sym low)
    (subst (λ (n : ℕ). HasRun dims page 0 row id upto n room) (sym is)
    (record { last = row; way = spans_here page row; takes = takes }))

-- the child behind one in a row of links
next_link : (front : List Link) (a b : Link) (rest : List Link) (other : Link)
    → get_or (front ++ a ∷ b ∷ rest) (length front + 1) other ≡ b
next_link front a b rest other = get_or-append-add front (a ∷ b ∷ rest) 1 other

module _ (dims : ℕ) (pages : PageMap) (page level : ℕ) (edge : Bool) (id p : ℕ) (row : Row) (high : 0 < level)
    (s : NodeStands dims pages page level edge row) (way : At id p row) where
  -- the way of the greatest identifier of the child stops there too
  pub stops_upto : (place upto : ℕ) → place ≡ route_place id (links_of row)
      → IsUpto (links_of row) place upto → Stops upto way.rest
  stops_upto place upto at is = by_rest way.rest (links_here dims pages page level edge id p row high s way)
      (on_tail dims pages page level edge id p row high s way).5
    where
      here_is : place ≡ length (links_of way.front)
      here_is = at ∙ sym (place_here dims pages page level edge id p row high s way)

      by_rest : (rest : Row) → links_of row ≡ links_of way.front ++ (way.key, p) ∷ links_of rest
          → RowStands dims pages level rest → Stops upto rest
      by_rest end links stands = tt
      by_rest (more (object i o) r) links stands = tt
      by_rest (more (child k q b) r) links stands =
          let other : Link = (k, q) in
          let all = ap length links in
          let parts = length-append (links_of way.front) ((way.key, p) ∷ (k, q) ∷ links_of r) in
          let less = is other (omega (arith, all, parts, here_is)) in
          let next : get_or (links_of row) (place + 1) other ≡ other =
          ap (λ (xs : List Link). get_or xs (place + 1) other) links
          ∙ ap (λ (n : ℕ). get_or (links_of way.front ++ (way.key, p) ∷ (k, q) ∷ links_of r) (n + 1) other)
          here_is
          ∙ next_link (links_of way.front) (way.key, p) other (links_of r) other in
          subst (λ (x : Link). upto < x.0) next less

  -- the run of the child where an identifier is, is one of the node
  pub run_down : (upto leaf room : ℕ) → Stops upto way.rest
      → HasRun dims p (level - 1) way.below id upto leaf room → HasRun dims page level row id upto leaf room
  run_down upto leaf room stops run = record {
    last = run.last;
    way = spans_down level page p leaf row run.last high way stops run.way;
    takes = run.takes;
  }

-- ---- an object more in the leaf

-- a node became another one by a step in a leaf, to which the same identifiers lead then
record KeepsSpan (dims : ℕ) (old new : PageMap) (from upto page level : ℕ) (edge : Bool) (row : Row)
    (leaf id : ℕ) (step : Step) (xs : List Entry) : Type 0 where
  pub becomes : Becomes dims old new page level edge row id step
  pub last : Row
  pub way : Spans from upto level page becomes.now leaf last
  pub has : objects_in last ≡ xs

spanned : (dims : ℕ) (old new : PageMap) (from upto id : ℕ) (step : Step) (xs : List Entry) (level page : ℕ)
    (row : Row) (leaf : ℕ) (last : Row) (edge : Bool) → from ≤ id → id ≤ upto
    → Spans from upto level page row leaf last → NodeStands dims old page level edge row
    → (edge ≡ false → IsLarge dims level row) → SameBut leaf old new → leaf_in dims (new leaf) ≡ Some xs
    → Turns id step (objects_in last) xs → length (objects_in last) < length xs
    → KeepsSpan dims old new from upto page level edge row leaf id step xs
unfolding way_too leaf_becomes child_turned by_child
spanned dims old new from upto id step xs level page row leaf last edge low high (spans_here p r) s large
    others there turns longer = record {
      becomes = leaf_becomes dims old new leaf edge last id step xs s others there turns
          (omega (arith, longer))
          (λ off. let enough = (large off).leaf refl in omega (arith, enough, longer));
      last = row_of xs;
      way = spans_here leaf (row_of xs);
      has = objects_of_row xs;
    }
spanned dims old new from upto id step xs level page row leaf last edge low high
    (spans_down _ _ below _ _ _ up way stops rest) s large others there turns longer =
    let its = way_too from upto id below row low high way stops in
    let k = spanned dims old new from upto id step xs (level - 1) below way.below leaf last
    (at_edge edge way.rest) low high rest
    (child_stands dims old page level edge id below row up s its)
    (child_large dims old page level edge id below row up s its) others there turns longer in
    record {
      becomes = by_child dims old page level edge id below row up s its new step large k.becomes;
      last = k.last;
      way = spans_down level page below leaf
          (joined way.front (more (child way.key below k.becomes.now) way.rest)) k.last up
          (record {
            front = way.front;
            key = way.key;
            below = k.becomes.now;
            rest = way.rest;
            is = refl;
            passes = way.passes;
            stops = way.stops;
          })
          stops k.way;
      has = k.has;
    }

-- a table with the first of objects that come into a leaf, which takes the others
pub record TakesOne (dims : ℕ) (old new : PageMap) (t : IdTree) (leaf : ℕ) (object : Entry)
    (rest : List Entry) : Type 0 where
  pub sets : Sets dims old new t object.0 object.1
  pub takes : TakesAll dims sets.table leaf rest

-- the leaf of objects that come there
module _ (dims : ℕ) (pages : PageMap) (t : IdTree) (leaf : ℕ) (object : Entry) (rest : List Entry)
    (s : TreeStands dims pages t) (takes : TakesAll dims t leaf (object ∷ rest)) where
  first : IsFromTo takes.from takes.upto object
  first = All-head (IsFromTo takes.from takes.upto) object rest takes.within

  pub leaf_of_run : IsLast dims pages object.0 t.row leaf takes.run.last
  leaf_of_run = last_in dims pages t object.0 leaf takes.run.last s
      (reaches_too takes.from takes.upto object.0 t.level t.page t.row leaf takes.run.last first.0 first.1
      takes.run.way)

  pub room_of_run : length (objects_in takes.run.last) < most_objects dims
  room_of_run = omega (arith, takes.run.takes)

  pub takes_one : (new : PageMap) → kept_in object.0 (objects_in t.row) ≡ None → SameBut leaf pages new
      → leaf_in dims (new leaf) ≡ Some (objects_in takes.run.last ++ object ∷ [])
      → TakesOne dims pages new t leaf object rest
  unfolding sets_here sets_of
  takes_one new none others there =
      let objects = objects_in takes.run.last in
      let pushed = objects ++ object ∷ [] in
      let long : length pushed ≡ length objects + 1 = length-append objects (object ∷ []) in
      let k = spanned dims pages new takes.from takes.upto object.0 (adds object.1) pushed t.level t.page
      t.row leaf takes.run.last true first.0 first.1 takes.run.way (root_stands dims pages t s)
      (λ (never : true ≡ false). absurd (cc)) others there
      (adds_last object.0 object.1 objects (sym leaf_of_run.same ∙ none)) (omega (arith, long)) in
      record {
        sets = sets_here dims pages new t object.0 object.1 s none k.becomes;
        takes = record {
          from = takes.from;
          upto = takes.upto;
          within = All-tail (IsFromTo takes.from takes.upto) object rest takes.within;
          run = record {
            last = k.last;
            way = k.way;
            takes = omega (arith, ap length k.has, long, takes.run.takes);
          };
        };
      }

-- the objects that a run counts come into its leaf
pub counted_run : (dims : ℕ) (t : IdTree) (root from upto leaf room count : ℕ) (objects : List Entry)
    → t.page ≡ root → (0 < room → HasRun dims root t.level t.row from upto leaf room) → ¬ (count ≡ 0)
    → count ≤ room → count ≤ length objects → All (IsFromTo from upto) (take count objects)
    → TakesAll dims t leaf (take count objects)
counted_run dims t root from upto leaf room count objects at runs some few within range =
    let run = subst (λ (n : ℕ). HasRun dims n t.level t.row from upto leaf room) (sym at)
    (runs (omega (arith, some, few))) in
    let size : length (take count objects) ≡ count = length-take-le count objects within in
    record {
      from = from;
      upto = upto;
      within = range;
      run = record { last = run.last; way = run.way; takes = omega (arith, run.takes, few, size) };
    }
