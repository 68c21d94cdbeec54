-- Objects added one after the other.
use Rattle.std.proofs.Common.{◌≡◌, ◌∙◌, ℕ, ◌+◌, ◌/◌, ◌<◌, ◌≤◌, Bool, true, false, cond, eqb, is_some}
use Rattle.std.proofs.Common.{arith, Some, None, List, [], ◌∷◌, ◌++◌, length, take, drop, get_or, refl, sym}
use Rattle.std.proofs.Common.{ap, subst}
use Rattle.std.proofs.Common.{length-drop}
use Rattle.std.proofs.Math.Seq.{take-add}
use Rattle.std.proofs.lemmas.List.{drop-drop, drop_more, length-take-le, take-append-drop, take_all}
use Rattle.std.specs.FinMap as map
use Rattle.std.specs.FinMap.{FinMap, from_entries, get-from_entries}
use Rattle.std.specs.Cmp.{nat_cmp_total}
use Rattle.std.specs.Ordering.{nat_cmp}
use Rattle.box_math.specs.Objects.{Object}
use Rattle.bucket_page.specs.Layout.{Entry}
use Rattle.page_file.specs.Pages.{SameBut}
use Rattle.page_cache.specs.Cache.{Grows, IsHonest, IsLive, IsPageMap, next_of, pages}
use Rattle.page_cache.specs.Calls.{ChangesUntil, changes_in_turn}
use Rattle.page_cache.specs.declared.cache.PageCache.{PageCache}
use Rattle.node_page.specs.Parts.{Moves}
use Rattle.node_page.proofs.PartLemmas.{moves_from, moves_in_turn, staying_moves}
use Rattle.id_words.proofs.ObjectLemmas.{found_is, occurs_here}
use Rattle.id_words.specs.Objects.{AreNew, kept_in, times_in, with_all}
use Rattle.id_words.proofs.EntryLemmas.{taken_of}
use Rattle.node_page.specs.Standing.{PageMap}
use Rattle.id_page.specs.Leaf.{most_objects}
use Rattle.id_tree.specs.Changes.{Fills, Sets}
use Rattle.id_tree.specs.Runs.{TakesAll}
use Rattle.id_tree.specs.Tidy.{KeepsTidy}
use Rattle.id_tree.specs.Tree.{IdTree, TreeStands, leaf_in, objects_in, objects_of}
use Rattle.id_tree.specs.Tree.{part_of}
use Rattle.id_tree.proofs.FewLemmas.{few_pages}
use Rattle.id_tree.proofs.LiveLemmas.{part_grows}
use Rattle.id_tree.proofs.TidyLemmas.{tidy_in_turn, tidy_same}
use Rattle.id_tree.proofs.NodeLemmas.{node_there, part_there}
use Rattle.id_tree.proofs.RootLemmas.{absent_of, root_stands}
use Rattle.id_tree.proofs.RunLemmas.{leaf_of_run, room_of_run, takes_one}

with_all-append : (m : FinMap nat_cmp Object) (xs ys : List Entry)
    → with_all m (xs ++ ys) ≡ with_all (with_all m xs) ys
with_all-append m [] ys = refl
with_all-append m (x ∷ xs) ys = with_all-append (map.insert m x.0 x.1) xs ys

-- a map with a new object is longer by one
one_longer : (k : FinMap nat_cmp Object) (object : Entry) → map.contains_key k object.0 ≡ false
    → map.len (map.insert k object.0 object.1) ≡ map.len k + 1
one_longer k object absent =
    map.len-insert nat_cmp_total k object.0 object.1
    ∙ ap (λ (b : Bool). cond b (map.len k) (map.len k + 1)) absent

none_found : (q : ℕ) (es : List Entry) → times_in q es ≡ 0 → kept_in q es ≡ None
none_found q [] none = refl
none_found q (e ∷ es) none = step (eqb e.0 q) (times_in q es) none (none_found q es)
  where
    step : (b : Bool) (n : ℕ) → cond b 1 0 + n ≡ 0 → (n ≡ 0 → kept_in q es ≡ None)
        → cond b (Some e.1) (kept_in q es) ≡ None
    step true n none rest = absurd (omega (arith, none))
    step false n none rest = rest (omega (arith, none))

-- objects with an identifier each are as many as their map has
counted : (es : List Entry) → ((q : ℕ) → times_in q es ≤ 1)
    → map.len (from_entries {R = nat_cmp} es) ≡ length es
counted [] once = map.len-empty nat_cmp Object
counted (e ∷ es) once =
    let alone : times_in e.0 es ≡ 0 = omega (arith, once e.0, occurs_here e.0) in
    let rest = counted es (λ q. omega (arith, once q)) in
    let absent : map.contains_key (from_entries {R = nat_cmp} es) e.0 ≡ false =
    ap is_some (get-from_entries nat_cmp_total es e.0 ∙ found_is e.0 es ∙ none_found e.0 es alone) in
    let more = one_longer (from_entries {R = nat_cmp} es) e absent in
    omega (arith, more, rest)

pub as_many : (dims : ℕ) (pages : PageMap) (t : IdTree) → TreeStands dims pages t
    → map.len (objects_of t) ≡ length (objects_in t.row)
as_many dims pages t stands = counted (objects_in t.row) stands.single

-- some of the objects are new where all are
new_front : (m : FinMap nat_cmp Object) (xs ys : List Entry) → AreNew m (xs ++ ys) → AreNew m xs
new_front m [] ys new = tt
new_front m (x ∷ xs) ys new = (new.0, new_front (map.insert m x.0 x.1) xs ys new.1)

pub new_taken : (m : FinMap nat_cmp Object) (count : ℕ) (objects : List Entry) → AreNew m objects
    → AreNew m (take count objects)
new_taken m count objects new = new_front m (take count objects) (drop count objects)
    (subst (AreNew m) (sym (take-append-drop count objects)) new)

-- and the others are then
new_behind : (m : FinMap nat_cmp Object) (xs ys : List Entry) → AreNew m (xs ++ ys)
    → AreNew (with_all m xs) ys
new_behind m [] ys new = new
new_behind m (x ∷ xs) ys new = new_behind (map.insert m x.0 x.1) xs ys new.1

-- a map with new objects is longer by so many
longer_by : (m : FinMap nat_cmp Object) (xs : List Entry) → AreNew m xs
    → map.len (with_all m xs) ≡ map.len m + length xs
longer_by m [] new = omega arith
longer_by m (x ∷ xs) new =
    let rest = longer_by (map.insert m x.0 x.1) xs new.1 in
    let one = one_longer m x new.0 in
    omega (arith, rest, one)

-- a table with one object more is one with all of a list of one
pub fills_one : (dims : ℕ) (old new : PageMap) (t : IdTree) (object : Entry)
    → Sets dims old new t object.0 object.1 → Fills dims old new t (object ∷ [])
fills_one dims old new t object set =
    record {
      table = set.table;
      page = set.page;
      stands = set.stands;
      objects = set.objects;
      moves =
          set.moves;
    }

pub fills_from : (dims : ℕ) (old mid new : PageMap) (t : IdTree) (objects : List Entry)
    → ((n : ℕ) → mid n ≡ old n) → Fills dims mid new t objects → Fills dims old new t objects
fills_from dims old mid new t objects same f =
    record {
      table = f.table;
      page = f.page;
      stands = f.stands;
      objects = f.objects;
      moves =
          moves_from old mid new (part_of t) (part_of f.table) same f.moves;
    }

-- the objects from a place on, the first by itself
rest_is : (objects : List Entry) (count : ℕ) (object : Entry) → count < length objects
    → object ≡ get_or objects count object → drop count objects ≡ object ∷ drop (count + 1) objects
rest_is objects count object within is = drop_more objects count object within
    ∙ ap (λ (o : Entry). o ∷ drop (count + 1) objects) (sym is)

pub first_of : (objects : List Entry) (count : ℕ) (object : Entry) → count < length objects
    → object ≡ get_or objects count object → object ∷ [] ≡ take 1 (drop count objects)
first_of objects count object within is = sym (ap (take 1) (rest_is objects count object within is))

-- and the first of all is new where all are
pub first_new : (m : FinMap nat_cmp Object) (objects : List Entry) (object : Entry) → 0 < length objects
    → object ≡ get_or objects 0 object → AreNew m objects → map.contains_key m object.0 ≡ false
first_new m objects object some is new = (subst (AreNew m) (rest_is objects 0 object some is) new).0

module _ {B A : Type 0} {m : _} where
  -- the table with the objects so far
  pub record Filled (dims : ℕ) (old now : PageCache B A m) (t : IdTree) (objects : List Entry)
      (count : ℕ) : Type 0 where
    pub table : IdTree
    pub page : table.page ≡ t.page
    pub stands : TreeStands dims (pages now) table
    pub map_is : IsPageMap now
    pub has : objects_of table ≡ with_all (objects_of t) (take count objects)
    pub rest : AreNew (objects_of table) (drop count objects)
    pub moves : Moves (pages old) (pages now) (part_of t) (part_of table)
    pub tidy : KeepsTidy dims (pages old) (pages now)
    pub count_is : map.len (objects_of table) ≡ map.len (objects_of t) + count

  pub record Filling (dims root : ℕ) (old now : PageCache B A m) (objects : List Entry) (count : ℕ) : Type 0
    where
      pub changes : ChangesUntil old now None
      pub left : IsPageMap old → (t : IdTree) → t.page ≡ root → TreeStands dims (pages old) t
          → AreNew (objects_of t) objects → Filled dims old now t objects count

  none_filled : (dims : ℕ) (cache : PageCache B A m) (t : IdTree) (objects : List Entry) → IsPageMap cache
      → TreeStands dims (pages cache) t → AreNew (objects_of t) objects → Filled dims cache cache t objects 0
  none_filled dims cache t objects sound stands new = record {
    table = t;
    page = refl;
    stands = stands;
    map_is = sound;
    has = refl;
    rest = new;
    moves = staying_moves (pages cache) (pages cache) (part_of t) (λ n. refl) stands.once
        (λ n here. part_there dims (pages cache) t.page t.level _ t.row n
        (root_stands dims (pages cache) t stands) here);
    tidy = tidy_same dims (pages cache) (pages cache) (λ n. refl);
    count_is = omega arith;
  }

  pub filling_begins : (dims root : ℕ) (cache : PageCache B A m) (objects : List Entry)
      → ChangesUntil cache cache None → Filling dims root cache cache objects 0
  filling_begins dims root cache objects changes = record {
    changes = changes;
    left = λ sound t at stands new. none_filled dims cache t objects sound stands new;
  }

  -- so many of the other objects were added
  pub filled_on : {dims : ℕ} {old now : PageCache B A m} {t : IdTree} {objects : List Entry} {count : ℕ}
      (f : Filled dims old now t objects count) (new : PageCache B A m) (more : ℕ) (added : List Entry)
      → count + more ≤ length objects → added ≡ take more (drop count objects) → IsPageMap new
      → KeepsTidy dims (pages now) (pages new) → Fills dims (pages now) (pages new) f.table added
      → Filled dims old new t objects (count + more)
  filled_on {dims} {old} {now} {t} {objects} {count} f new more added within is sound tidy next =
      let others = drop count objects in
      let parts : others ≡ added ++ drop more others =
      sym (take-append-drop more others) ∙ ap (λ (xs : List Entry). xs ++ drop more others) (sym is) in
      let fresh = subst (AreNew (objects_of f.table)) parts f.rest in
      let size : length added ≡ more =
      ap length is ∙ length-take-le more others (omega (arith, within, length-drop count objects)) in
      let long = longer_by (objects_of f.table) added
      (new_front (objects_of f.table) added (drop more others) fresh) in
      let same = ap (λ (k : FinMap nat_cmp Object). map.len k) next.objects in
      record {
        table = next.table;
        page = next.page ∙ f.page;
        stands = next.stands;
        map_is = sound;
        has = next.objects ∙ ap (λ (k : FinMap nat_cmp Object). with_all k added) f.has
            ∙ sym (with_all-append (objects_of t) (take count objects) added)
            ∙ ap (with_all (objects_of t)) (ap (λ (xs : List Entry). take count objects ++ xs) is
            ∙ sym (take-add count more objects));
        rest = subst (λ (k : FinMap nat_cmp Object). AreNew k (drop (count + more) objects))
            (sym next.objects)
            (subst (AreNew (with_all (objects_of f.table) added)) (drop-drop more count objects)
            (new_behind (objects_of f.table) added (drop more others) fresh));
        moves = moves_in_turn (pages old) (pages now) (pages new) (part_of t) (part_of f.table)
            (part_of next.table) f.moves next.moves;
        tidy = tidy_in_turn dims (pages old) (pages now) (pages new) f.tidy tidy;
        count_is = omega (arith, same, long, size, f.count_is);
      }

  pub fills_on : {dims root : ℕ} {old now : PageCache B A m} {objects : List Entry} {count : ℕ}
      (so_far : Filling dims root old now objects count) (new : PageCache B A m) (more most : ℕ)
      (others : List Entry) → others ≡ take most (drop count objects) → more ≤ length others
      → count + more ≤ length objects
      → ChangesUntil now new None
      → (IsPageMap now → (t : IdTree) → t.page ≡ root → TreeStands dims (pages now) t
      → AreNew (objects_of t) others → IsPageMap new)
      → (IsPageMap now → (t : IdTree) → t.page ≡ root → TreeStands dims (pages now) t
      → AreNew (objects_of t) others → KeepsTidy dims (pages now) (pages new))
      → (IsPageMap now → (t : IdTree) → t.page ≡ root → TreeStands dims (pages now) t
      → AreNew (objects_of t) others → Fills dims (pages now) (pages new) t (take more others))
      → Filling dims root old new objects (count + more)
  fills_on {dims} {root} {old} {now} {objects} {count} so_far new more most others is few within changes sound
      tidy fills =
      record {
        changes = changes_in_turn old now new None so_far.changes changes;
        left = λ sound_old t at stands fresh.
            let f = so_far.left sound_old t at stands fresh in
            let rest = subst (AreNew (objects_of f.table)) (sym is)
            (new_taken (objects_of f.table) most (drop count objects) f.rest) in
            filled_on f new more (take more others) within
            (ap (take more) is
            ∙ taken_of more most (drop count objects) (subst (λ (es : List Entry). more ≤ length es) is few))
            (sound f.map_is f.table (f.page ∙ at) f.stands rest)
            (tidy f.map_is f.table (f.page ∙ at) f.stands rest)
            (fills f.map_is f.table (f.page ∙ at) f.stands rest);
      }

  -- all of them
  pub all_of : {dims : ℕ} {old now : PageCache B A m} {t : IdTree} {objects : List Entry} {count : ℕ}
      → length objects ≤ count → Filled dims old now t objects count
      → Fills dims (pages old) (pages now) t objects
  all_of {dims} {old} {now} {t} {objects} {count} all f = record {
    table = f.table;
    page = f.page;
    stands = f.stands;
    objects = f.has ∙ ap (with_all (objects_of t)) (take_all count objects all);
    moves = f.moves;
  }

  -- so far the pages are few
  pub few_so_far : (dims root : ℕ) (old now : PageCache B A m) (objects : List Entry) (count : ℕ)
      → count ≤ length objects → Filling dims root old now objects count → IsPageMap old → (t : IdTree)
      → t.page ≡ root → TreeStands dims (pages old) t → AreNew (objects_of t) objects
      → Grows ((map.len (objects_of t) + length objects) / 28 + 7) old now
  few_so_far dims root old now objects count within so_far sound t at stands new =
      let f = so_far.left sound t at stands new in
      let grows =
      part_grows old now (part_of t) (part_of f.table) sound f.map_is so_far.changes.next f.moves
      (λ n here. part_there dims (pages old) t.page t.level true t.row n
      (root_stands dims (pages old) t stands) here)
      stands.once in
      let few = few_pages dims (next_of now) (pages now) f.table f.stands in
      omega (arith, grows, few, as_many dims (pages now) f.table f.stands, f.count_is, within)

  -- ---- objects pushed into one leaf

  -- the table with the objects so far, of which the leaf takes the others
  pub record Pushed (dims leaf : ℕ) (old now : PageCache B A m) (t : IdTree) (objects : List Entry)
      (count : ℕ) : Type 0 where
    pub filled : Filled dims old now t objects count
    pub takes : TakesAll dims filled.table leaf (drop count objects)

  pub record Pushing (dims leaf : ℕ) (old now : PageCache B A m) (objects : List Entry) (count : ℕ) : Type 0
    where
      pub changes : ChangesUntil old now None
      pub left : IsPageMap old → (t : IdTree) → TreeStands dims (pages old) t → TakesAll dims t leaf objects
          → AreNew (objects_of t) objects → Pushed dims leaf old now t objects count

  pub pushing_begins : (dims leaf : ℕ) (cache : PageCache B A m) (objects : List Entry)
      → ChangesUntil cache cache None → Pushing dims leaf cache cache objects 0
  unfolding none_filled
  pushing_begins dims leaf cache objects changes = record {
    changes = changes;
    left = λ sound t stands takes new.
        record { filled = none_filled dims cache t objects sound stands new; takes = takes };
  }

  -- the next object is new, and comes into the leaf
  pub record IsNext (dims leaf : ℕ) (now : PageCache B A m) (t : IdTree) (object : Entry)
      (rest : List Entry) : Type 0 where
    pub stands : TreeStands dims (pages now) t
    pub map_is : IsPageMap now
    pub takes : TakesAll dims t leaf (object ∷ rest)
    pub absent : map.contains_key (objects_of t) object.0 ≡ false

  pub next_pushed : {dims leaf : ℕ} {old now : PageCache B A m} {t : IdTree} {objects : List Entry}
      {count : ℕ} (object : Entry) → count < length objects → object ≡ get_or objects count object
      → (p : Pushed dims leaf old now t objects count)
      → IsNext dims leaf now p.filled.table object (drop (count + 1) objects)
  next_pushed {dims} {leaf} {old} {now} {t} {objects} {count} object within is p =
      let f = p.filled in
      let parts = rest_is objects count object within is in
      record {
        stands = f.stands;
        map_is = f.map_is;
        takes = subst (TakesAll dims f.table leaf) parts p.takes;
        absent = (subst (AreNew (objects_of f.table)) parts f.rest).0;
      }

  -- and is pushed
  pub pushes_on : {dims leaf : ℕ} {old now : PageCache B A m} {objects : List Entry} {count : ℕ}
      (so_far : Pushing dims leaf old now objects count) (object : Entry) (new : PageCache B A m)
      → count < length objects → object ≡ get_or objects count object → ChangesUntil now new None
      → (IsPageMap now → IsLive now leaf → IsPageMap new)
      → (IsHonest now → (xs : List Entry) → leaf_in dims (pages now leaf) ≡ Some xs
      → length xs < most_objects dims → KeepsTidy dims (pages now) (pages new))
      → (IsHonest now → IsLive now leaf → SameBut leaf (pages now) (pages new))
      → (IsHonest now → (xs : List Entry) → leaf_in dims (pages now leaf) ≡ Some xs
      → length xs < most_objects dims → leaf_in dims (pages new leaf) ≡ Some (xs ++ object ∷ []))
      → Pushing dims leaf old new objects (count + 1)
  unfolding filled_on fills_one
  pushes_on {dims} {leaf} {old} {now} {objects} {count} so_far object new within is changes sound tidy others
      written =
      record {
        changes = changes_in_turn old now new None so_far.changes changes;
        left = λ sound_old t stands takes fresh.
            let p = so_far.left sound_old t stands takes fresh in
            let f = p.filled in
            let rest = drop (count + 1) objects in
            let next = next_pushed object within is p in
            let last = next.takes.run.last in
            let leaf_is = leaf_of_run dims (pages now) f.table leaf object rest f.stands next.takes in
            let here = leaf_is.stands.node.leaf refl in
            let room = room_of_run dims (pages now) f.table leaf object rest f.stands next.takes in
            let honest = f.map_is.honest in
            let live = node_there dims (pages now) leaf 0 last leaf_is.stands.node in
            let one = takes_one dims (pages now) f.table leaf object rest f.stands next.takes (pages new)
            (absent_of f.table object.0 next.absent) (others honest live)
            (written honest (objects_in last) here room) in
            record {
              filled = filled_on f new 1 (object ∷ []) (omega (arith, within))
                  (first_of objects count object within is) (sound f.map_is live) (tidy honest (objects_in last) here room)
                  (fills_one dims (pages now) (pages new) f.table object one.sets);
              takes = one.takes;
            };
      }
