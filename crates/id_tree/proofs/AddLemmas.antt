-- An object added at or below a node.
use Rattle.std.proofs.Common.{◌≡◌, ◌∙◌, ℕ, ◌+◌, ◌-◌, ◌<◌, ◌≤◌, ◌++◌, ◌∷◌, [], Bool, true, false, cond, eqb}
use Rattle.std.proofs.Common.{Some, None, List, length, refl, sym, ap, subst, inr, arith, length-append}
use Rattle.box_math.specs.Objects.{Object}
use Rattle.block_bytes.specs.Numbers.{number_at}
use Rattle.page_file.specs.Pages.{SameBut}
use Rattle.node_page.specs.Parts.{Moves}
use Rattle.node_page.specs.Standing.{PageMap}
use Rattle.node_page.proofs.PartLemmas.{moves_from, moves_in_turn}
use Rattle.id_page.proofs.ForkReading.{count_of_fork}
use Rattle.id_page.proofs.LeafReading.{count_of_leaf}
use Rattle.id_words.specs.Objects.{kept_in, times_in}
use Rattle.id_tree.specs.Changes.{Sets}
use Rattle.id_tree.specs.Rows.{At, HasRoom, NodeStands, part_at}
use Rattle.id_tree.specs.Steps.{Becomes, IsBeneath, IsFullBelow, IsFullTree, Keeps, MakesHalves, MakesRoom}
use Rattle.id_tree.specs.Steps.{MayGrow, MaySplit, Step, adds, Turns, Widens}
use Rattle.id_tree.specs.Writes.{Deepens, NamesNew, Starts}
use Rattle.id_tree.specs.Tree.{HasNode, IdTree, IsLarge, Row, end, more, object, child, RowStands, TreeStands}
use Rattle.id_tree.specs.Tree.{at_edge, fork_in, leaf_in, links_of, objects_in, occurs}
use Rattle.id_tree.proofs.LeafLemmas.{leaf_becomes}
use Rattle.id_tree.proofs.NodeLemmas.{fork_bytes, leaf_bytes, no_links, occurs_here, part_there, row_stays}
use Rattle.id_tree.proofs.NodeLemmas.{some_objects, stands_same}
use Rattle.id_tree.proofs.ObjectLemmas.{adds_last, keeps_equal, turns_after}
use Rattle.std.proofs.lemmas.List.{append-nil}
use Rattle.node_page.proofs.PartLemmas.{there_not_missing}
use Rattle.id_tree.proofs.RootLemmas.{becomes_root, root_stands, rooted, rooted_moves, sets_of}
use Rattle.id_tree.proofs.WayLemmas.{by_child, child_large, child_stands, same_below, some_below, times_below}

-- a leaf that got an object more
pub leaf_grows : (dims : ℕ) (old new : PageMap) (page level : ℕ) (edge : Bool) (row : Row) (id : ℕ)
    (kept : Object) → level ≡ 0 → MayGrow dims old page level edge row → kept_in id (objects_in row) ≡ None
    → SameBut page old new → leaf_in dims (new page) ≡ Some (objects_in row ++ (id, kept) ∷ [])
    → Becomes dims old new page level edge row id (adds kept)
leaf_grows dims old new page level edge row id kept low may absent others there =
    let more_objects : length (objects_in row ++ (id, kept) ∷ []) ≡ length (objects_in row) + 1 =
    length-append (objects_in row) ((id, kept) ∷ []) in
    subst (λ l. Becomes dims old new page l edge row id (adds kept)) (sym low)
    (leaf_becomes dims old new page edge row id (adds kept) (objects_in row ++ (id, kept) ∷ [])
    (subst (λ l. NodeStands dims old page l edge row) low may.stands) others there
    (adds_last id kept (objects_in row) absent) (omega (arith, more_objects))
    (λ off. let large = (may.large off).leaf low in omega (arith, more_objects, large)))

pub grow_same : (dims : ℕ) (old new : PageMap) (page level : ℕ) (edge : Bool) (row : Row)
    → ((n : ℕ) → new n ≡ old n) → MayGrow dims old page level edge row → MayGrow dims new page level edge row
grow_same dims old new page level edge row same m = record {
  stands = stands_same dims old new page level edge row same m.stands;
  room = m.room;
  some = m.some;
  large = m.large;
  single = m.single;
}

-- the child where the identifier is takes the object, if it has room
pub may_grow_below : (dims : ℕ) (pages : PageMap) (page level : ℕ) (edge : Bool) (row : Row) (id p : ℕ)
    → 0 < level → NodeStands dims pages page level edge row → ((q : ℕ) → times_in q (objects_in row) ≤ 1)
    → (way : At id p row) → HasRoom dims (level - 1) way.below
    → MayGrow dims pages p (level - 1) (at_edge edge way.rest) way.below
may_grow_below dims pages page level edge row id p high s single way room = record {
  stands = child_stands dims pages page level edge id p row high s way;
  room = room;
  some = some_below dims pages page level edge id p row high s way;
  large = child_large dims pages page level edge id p row high s way;
  single = λ q. omega (arith, single q, times_below dims pages page level edge id p row high s way q);
}

-- which does not have an identifier that the node has not
pub absent_below : (dims : ℕ) (pages : PageMap) (page level : ℕ) (edge : Bool) (row : Row) (id p : ℕ)
    → 0 < level
    → NodeStands dims pages page level edge row → (way : At id p row) → kept_in id (objects_in row) ≡ None
    → kept_in id (objects_in way.below) ≡ None
absent_below dims pages page level edge row id p high s way absent =
    sym (same_below dims pages page level edge id p row high s way) ∙ absent

pub becomes_from : (dims : ℕ) (old mid new : PageMap) (page level : ℕ) (edge : Bool) (row : Row) (id : ℕ)
    (step : Step) → ((n : ℕ) → mid n ≡ old n) → Becomes dims mid new page level edge row id step
    → Becomes dims old new page level edge row id step
becomes_from dims old mid new page level edge row id step same b = record {
  now = b.now;
  stands = b.stands;
  turns = b.turns;
  some = b.some;
  large = b.large;
  wide = b.wide;
  moves = moves_from old mid new (part_at page row) (part_at page b.now) same b.moves;
}

-- room was made in a child, which then took the object
pub becomes_after : (dims : ℕ) (old mid new : PageMap) (page level : ℕ) (edge : Bool) (row : Row)
    (id below : ℕ) (last : Bool) (kept : Object) → 0 < level → (edge ≡ false → IsLarge dims level row)
    → (made : MakesRoom dims old mid page level edge row id below last)
    → Becomes dims mid new below (level - 1) last made.way.below id (adds kept)
    → Becomes dims old new page level edge row id (adds kept)
becomes_after dims old mid new page level edge row id below last kept high large made b =
    let larger : edge ≡ false → IsLarge dims level made.now = λ off. record {
      leaf = λ low. absurd (omega (arith, low, high));
      fork = λ up. let before = (large off).fork up in omega (arith, before, made.wide);
    } in
    let then = by_child dims mid page level edge id below made.now high made.stands made.way new (adds kept)
    larger
    (subst (λ e. Becomes dims mid new below (level - 1) e made.way.below id (adds kept)) made.last_is b) in
    record {
      now = then.now;
      stands = then.stands;
      turns = turns_after id (adds kept) (objects_in row) (objects_in made.now) (objects_in then.now)
          made.keeps then.turns;
      some = then.some;
      large = then.large;
      wide = omega (arith, made.wide, then.wide);
      moves = moves_in_turn old mid new (part_at page row) (part_at page made.now) (part_at page then.now)
          made.moves then.moves;
    }

-- after which that child may take it
pub may_grow_after : (dims : ℕ) (old mid : PageMap) (page level : ℕ) (edge : Bool) (row : Row) (id below : ℕ)
    (last : Bool) → 0 < level → MayGrow dims old page level edge row
    → (made : MakesRoom dims old mid page level edge row id below last)
    → MayGrow dims mid below (level - 1) last made.way.below
may_grow_after dims old mid page level edge row id below last high may made =
    subst (λ e. MayGrow dims mid below (level - 1) e made.way.below) (sym made.last_is)
    (may_grow_below dims mid page level edge made.now id below high made.stands
    (λ q. omega (arith, made.keeps.times q, may.single q)) made.way made.room)

pub absent_after : (dims : ℕ) (old mid : PageMap) (page level : ℕ) (edge : Bool) (row : Row) (id below : ℕ)
    (last : Bool) → 0 < level → (made : MakesRoom dims old mid page level edge row id below last)
    → kept_in id (objects_in row) ≡ None → kept_in id (objects_in made.way.below) ≡ None
absent_after dims old mid page level edge row id below last high made absent =
    absent_below dims mid page level edge made.now id below high made.stands made.way
    (made.keeps.kept id ∙ absent)

-- how much a node holds, as its page says
pub leaf_counted : (dims : ℕ) (pages : PageMap) (page level : ℕ) (row : Row) (bytes : List ℕ)
    → HasNode dims pages page level row → level ≡ 0 → pages page ≡ Some bytes
    → number_at 2 2 bytes ≡ length (objects_in row)
leaf_counted dims pages page level row bytes node low there =
    count_of_leaf dims bytes (objects_in row)
    (leaf_bytes dims (pages page) bytes (objects_in row) there (node.leaf low))

pub fork_counted : (dims : ℕ) (pages : PageMap) (page level : ℕ) (row : Row) (bytes : List ℕ)
    → HasNode dims pages page level row → 0 < level → pages page ≡ Some bytes
    → number_at 2 2 bytes ≡ length (links_of row)
fork_counted dims pages page level row bytes node high there =
    count_of_fork dims bytes (record { level = level; links = links_of row })
    (fork_bytes dims (pages page) bytes (record { level = level; links = links_of row }) there
    (node.fork high))

-- ---- the root

-- the first object
pub started : (dims : ℕ) (old new : PageMap) (t : IdTree) (id : ℕ) (kept : Object) → TreeStands dims old t
    → length (links_of t.row) ≡ 0 → Starts dims old new t.page (id, kept) → Sets dims old new t id kept
started dims old new t id kept s none w =
    let empty : t.row ≡ end = no_links dims old t.level t.row s.high s.below none in
    let there : leaf_in dims (new w.number) ≡ Some ((id, kept) ∷ []) = ap (leaf_in dims) w.named.there
    ∙ w.leaf in
    let node : HasNode dims new w.number 0 leaf =
    record { leaf = λ low. there; fork = λ high. absurd (omega (arith, high)) } in
    let counts : (n : ℕ) → occurs n leaf ≡ occurs n t.row = λ n. ap (occurs n) (sym empty) in
    let absent : kept_in id (objects_in t.row) ≡ None = ap (λ (r : Row). kept_in id (objects_in r)) empty in
    let root = root_stands dims old t s in
    sets_of dims old new t 1 id (adds kept) kept (more (child 0 w.number leaf) end) refl s (inr absent)
    (record {
      high = omega arith;
      bounded = omega arith;
      stands = rooted dims old new t.page 0 t.level w.number w.bytes t.row leaf root w.named node (refl, tt)
          counts (omega arith) tt tt;
      turns = subst (λ (r : Row). Turns id (adds kept) (objects_in r) ((id, kept) ∷ [])) (sym empty)
          (adds_last id kept [] refl);
      moves = rooted_moves dims old new t.page 0 t.level w.number w.bytes t.row leaf root w.named node
          (refl, tt) counts (omega arith) tt tt;
      wide = λ up. absurd (omega (arith, up));
    })
  where
    leaf : Row
    leaf = more (object id kept) end

-- a root that took the object as it is
unfoldable pub sets_here : (dims : ℕ) (old new : PageMap) (t : IdTree) (id : ℕ) (kept : Object)
    → TreeStands dims old t → kept_in id (objects_in t.row) ≡ None → Becomes dims old new t.page t.level true t.row id (adds kept)
    → Sets dims old new t id kept
sets_here dims old new t id kept s absent b =
    sets_of dims old new t t.level id (adds kept) kept b.now refl s (inr absent)
    (becomes_root dims old new t id (adds kept) refl s b)

pub may_grow_root : (dims : ℕ) (pages : PageMap) (t : IdTree) → TreeStands dims pages t
    → 0 < length (links_of t.row) → length (links_of t.row) < 340
    → MayGrow dims pages t.page t.level true t.row
may_grow_root dims pages t s some room = record {
  stands = root_stands dims pages t s;
  room = record { leaf = λ low. absurd (omega (arith, low, s.high)); fork = λ up. room };
  some = some_objects dims pages t.level t.row s.high s.below some;
  large = λ (never : true ≡ false). absurd (cc);
  single = s.single;
}

-- ---- one level more

module _ (dims : ℕ) (old mid : PageMap) (t : IdTree) (number : ℕ) (bytes : List ℕ) (s : TreeStands dims old t)
    (full : 340 ≤ length (links_of t.row)) (there : old t.page ≡ Some bytes)
    (w : NamesNew dims old mid t.page (t.level + 1) number bytes) where
  node : HasNode dims mid number t.level t.row
  node = record {
    leaf = λ low. absurd (omega (arith, low, s.high));
    fork = λ up. ap (fork_in dims) (w.there ∙ sym there) ∙ s.root.fork up;
  }

  stays : RowStands dims mid t.level t.row
  stays = row_stays dims old mid t.level t.row (λ n at. w.others n
      (λ is. there_not_missing (old n)
      (part_there dims old t.page t.level true t.row n (root_stands dims old t s) (omega (arith, at)))
      (ap old is ∙ w.fresh))
      (λ is. let one : ◌≡◌ {A = ℕ} (cond (eqb t.page n) 1 0) 1 = ap (λ k. cond (eqb t.page k) 1 0) is
      ∙ occurs_here t.page in omega (arith, one, at, s.once n))) s.below

  some : 0 < length (objects_in t.row)
  some = some_objects dims old t.level t.row s.high s.below (omega (arith, full))

  deeper_stands : NodeStands dims mid t.page (t.level + 1) true (more (child 0 number t.row) end)
  deeper_stands = rooted dims old mid t.page t.level t.level number bytes t.row t.row
      (root_stands dims old t s) w node stays (λ n. refl) some s.parted s.filled

  deeper_moves : Moves old mid (part_at t.page t.row) (part_at t.page (more (child 0 number t.row) end))
  deeper_moves = rooted_moves dims old mid t.page t.level t.level number bytes t.row t.row
      (root_stands dims old t s) w node stays (λ n. refl) some s.parted s.filled

  deeper_keeps : Keeps (objects_in t.row) (objects_in (more (child 0 number t.row) end))
  deeper_keeps = keeps_equal (objects_in t.row) (objects_in t.row ++ []) (append-nil (objects_in t.row))

  -- its only child is full
  pub full_below : (id : ℕ) → IsFullBelow dims mid t.page (t.level + 1) (more (child 0 number t.row) end) id
      number
  full_below id = record {
    stands = deeper_stands;
    high = omega arith;
    room = omega arith;
    single = λ q. omega (arith, deeper_keeps.times q, s.single q);
    way = record { front = end; key = 0; below = t.row; rest = end; is = refl; passes = tt; stops = tt };
    full = record { leaf = λ low. absurd (omega (arith, low, s.high)); fork = λ up. full };
    place_is = refl;
    last_is = refl;
  }

  pub absent_deeper : (id : ℕ) → kept_in id (objects_in t.row) ≡ None
      → kept_in id (objects_in (more (child 0 number t.row) end)) ≡ None
  absent_deeper id absent = deeper_keeps.kept id ∙ absent

  -- and once that one was split and took the object, the table has it
  pub sets_deeper : (new : PageMap) (id : ℕ) (kept : Object) → t.level < 6
      → kept_in id (objects_in t.row) ≡ None → Widens dims mid new t.page (t.level + 1)
      (more (child 0 number t.row) end) id (adds kept) → Sets dims old new t id kept
  sets_deeper new id kept low absent w2 = sets_of dims old new t (t.level + 1) id (adds kept) kept
      w2.becomes.now refl s (inr absent) (record {
        high = omega arith;
        bounded = omega (arith, low);
        stands = w2.becomes.stands;
        turns = turns_after id (adds kept) (objects_in t.row) (objects_in t.row ++ [])
            (objects_in w2.becomes.now)
            deeper_keeps w2.becomes.turns;
        moves = moves_in_turn old mid new (part_at t.page t.row)
            (part_at t.page (more (child 0 number t.row) end)) (part_at t.page w2.becomes.now) deeper_moves
            w2.becomes.moves;
        wide = λ up. omega (arith, w2.wider);
      })

-- the same at the root as the code names it
module _ (dims : ℕ) (old mid : PageMap) (t : IdTree) (root level number : ℕ) (at : t.page ≡ root)
    (full : IsFullTree dims old t level) (d : Deepens dims old mid root level number) where
  there : old t.page ≡ Some d.bytes
  there = ap old at ∙ d.was

  named : NamesNew dims old mid t.page (t.level + 1) number d.bytes
  named = subst (λ l. NamesNew dims old mid t.page (l + 1) number d.bytes) full.level_is
      (subst (λ p. NamesNew dims old mid p (level + 1) number d.bytes) (sym at) d.named)

  pub full_below_root : (id : ℕ) → IsFullBelow dims mid root (level + 1) (more (child 0 number t.row) end) id
      number
  full_below_root id =
      subst (λ l. IsFullBelow dims mid root (l + 1) (more (child 0 number t.row) end) id number)
      (sym full.level_is)
      (subst (λ p. IsFullBelow dims mid p (t.level + 1) (more (child 0 number t.row) end) id number) at
      (full_below dims old mid t number d.bytes full.stands full.full there named id))

  pub absent_deep : (id : ℕ) → kept_in id (objects_in t.row) ≡ None
      → kept_in id (objects_in (more (child 0 number t.row) end)) ≡ None
  absent_deep id absent = absent_deeper dims old mid t number d.bytes full.stands full.full there named id
      absent

  pub sets_deep : (new : PageMap) (id : ℕ) (kept : Object) → level < 6 → kept_in id (objects_in t.row) ≡ None
      → Widens dims mid new root (level + 1) (more (child 0 number t.row) end) id (adds kept)
      → Sets dims old new t id kept
  sets_deep new id kept low absent w =
      sets_deeper dims old mid t number d.bytes full.stands full.full there named new id kept
      (omega (arith, low, full.level_is)) absent
      (subst (λ l. Widens dims mid new t.page (l + 1) (more (child 0 number t.row) end) id (adds kept))
      full.level_is
      (subst (λ p. Widens dims mid new p (level + 1) (more (child 0 number t.row) end) id (adds kept))
      (sym at) w))

-- an only child that was split and took an object
pub widens_after : (dims : ℕ) (old mid new : PageMap) (page level : ℕ) (row : Row) (id below : ℕ)
    (last : Bool) (kept : Object) → 0 < level
    → (made : MakesHalves dims old mid page level true row id below last)
    → Becomes dims mid new below (level - 1) last made.room.way.below id (adds kept)
    → Widens dims old new page level row id (adds kept)
widens_after dims old mid new page level row id below last kept high made b =
    let room = made.room in
    let then = by_child dims mid page level true id below room.now high room.stands room.way new (adds kept)
    (λ (never : true ≡ false). absurd (cc))
    (subst (λ e. Becomes dims mid new below (level - 1) e room.way.below id (adds kept)) room.last_is b) in
    record {
      becomes = record {
        now = then.now;
        stands = then.stands;
        turns = turns_after id (adds kept) (objects_in row) (objects_in room.now) (objects_in then.now)
            room.keeps then.turns;
        some = then.some;
        large = then.large;
        wide = omega (arith, made.wider, then.wide);
        moves = moves_in_turn old mid new (part_at page row) (part_at page room.now) (part_at page then.now)
            room.moves then.moves;
      };
      wider = omega (arith, made.wider, then.wide);
    }

-- the half takes the object
pub may_grow_half : (dims : ℕ) (old mid : PageMap) (page level : ℕ) (row : Row) (id child below : ℕ)
    (last : Bool) → (full : IsFullBelow dims old page level row id child)
    → (made : MakesRoom dims old mid page level true row id below last)
    → MayGrow dims mid below (level - 1) last made.way.below
may_grow_half dims old mid page level row id p below last full made =
    subst (λ e. MayGrow dims mid below (level - 1) e made.way.below) (sym made.last_is)
    (may_grow_below dims mid page level true made.now id below full.high made.stands
    (λ q. omega (arith, made.keeps.times q, full.single q)) made.way made.room)

-- ---- the child where the identifier is

module _ (dims : ℕ) (old mid : PageMap) (page level : ℕ) (edge : Bool) (row : Row) (id p place : ℕ)
    (last room : Bool) (high : 0 < level) (same : (n : ℕ) → mid n ≡ old n)
    (may : MayGrow dims old page level edge row)
    (beneath : IsBeneath dims level edge row id p place last room) where
  pub grow_beneath : room ≡ true → MayGrow dims mid p (level - 1) last beneath.way.below
  grow_beneath has = subst (λ e. MayGrow dims mid p (level - 1) e beneath.way.below) (sym beneath.last_is)
      (may_grow_below dims mid page level edge row id p high
      (stands_same dims old mid page level edge row same may.stands) may.single beneath.way
      (beneath.has_room has))

  pub becomes_beneath : (new : PageMap) (kept : Object)
      → Becomes dims mid new p (level - 1) last beneath.way.below id (adds kept)
      → Becomes dims old new page level edge row id (adds kept)
  becomes_beneath new kept b = becomes_from dims old mid new page level edge row id (adds kept) same
      (by_child dims mid page level edge id p row high
      (stands_same dims old mid page level edge row same may.stands) beneath.way new (adds kept) may.large
      (subst (λ e. Becomes dims mid new p (level - 1) e beneath.way.below id (adds kept)) beneath.last_is b))

  pub split_beneath : room ≡ false → MaySplit dims mid page level edge row id p place last
  split_beneath none = record {
    stands = stands_same dims old mid page level edge row same may.stands;
    high = high;
    room = may.room.fork high;
    single = may.single;
    way = beneath.way;
    full = beneath.is_full none;
    place_is = beneath.place_is;
    last_is = beneath.last_is;
  }

-- a node of objects has children, if it is a fork
pub some_links : (dims : ℕ) (pages : PageMap) (level : ℕ) (row : Row) → 0 < level
    → RowStands dims pages level row → 0 < length (objects_in row) → 0 < length (links_of row)
some_links dims pages level end high stands some = some
some_links dims pages level (more (object i o) rest) high stands some = absurd (omega (arith, high, stands.0))
some_links dims pages level (more (child key page below) rest) high stands some = omega arith

-- ---- the root as the code names it

pub started_root : (dims : ℕ) (old new : PageMap) (t : IdTree) (root id : ℕ) (kept : Object) → t.page ≡ root
    → TreeStands dims old t → length (links_of t.row) ≡ 0 → Starts dims old new root (id, kept)
    → Sets dims old new t id kept
started_root dims old new t root id kept at s none w =
    started dims old new t id kept s none (subst (λ p. Starts dims old new p (id, kept)) (sym at) w)

pub grow_root : (dims : ℕ) (pages : PageMap) (t : IdTree) (root level : ℕ) → t.page ≡ root → level ≡ t.level
    → TreeStands dims pages t → 0 < length (links_of t.row) → length (links_of t.row) < 340
    → MayGrow dims pages root level true t.row
grow_root dims pages t root level at is s some room =
    subst (λ l. MayGrow dims pages root l true t.row) (sym is)
    (subst (λ p. MayGrow dims pages p t.level true t.row) at (may_grow_root dims pages t s some room))

pub sets_root : (dims : ℕ) (old new : PageMap) (t : IdTree) (root level id : ℕ) (kept : Object)
    → t.page ≡ root → level ≡ t.level → TreeStands dims old t → kept_in id (objects_in t.row) ≡ None
    → Becomes dims old new root level true t.row id (adds kept) → Sets dims old new t id kept
sets_root dims old new t root level id kept at is s absent b =
    sets_here dims old new t id kept s absent
    (subst (λ p. Becomes dims old new p t.level true t.row id (adds kept)) (sym at)
    (subst (λ l. Becomes dims old new root l true t.row id (adds kept)) is b))
