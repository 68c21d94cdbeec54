-- The place of an identifier that a search found, and what a change there makes of the table.
use Rattle.std.proofs.Common.{◌≡◌, ◌∙◌, ℕ, ◌+◌, ◌≤◌, ◌++◌, ◌∷◌, [], Bool, true, false, Option, Some}
use Rattle.std.proofs.Common.{None, length, is_some, refl, sym, ap, subst, inl, inr, ⊎_elim, arith}
use Rattle.std.proofs.Common.{length-append}
use Rattle.std.specs.FinMap as map
use Rattle.std.specs.List.{swap_remove}
use Rattle.box_math.specs.Objects.{Object}
use Rattle.page_file.specs.Pages.{SameBut}
use Rattle.node_page.specs.Standing.{PageMap}
use Rattle.id_words.specs.Objects.{kept_in, times_in}
use Rattle.id_tree.specs.Changes.{Removes, Sets}
use Rattle.id_tree.specs.Joining.{HasSpare}
use Rattle.id_tree.specs.Rows.{IsBelow, IsLeafPlace, IsSoughtIn, LeadsToLeaf, Reaches}
use Rattle.id_tree.specs.Steps.{adds, drops}
use Rattle.id_tree.specs.Tree.{IdTree, Row, TreeStands, leaf_in, objects_in, objects_of}
use Rattle.id_tree.proofs.AddLemmas.{sets_here}
use Rattle.id_tree.proofs.LeafLemmas.{leaf_becomes, reached, reached_above}
use Rattle.id_tree.proofs.ObjectLemmas.{adds_last}
use Rattle.id_tree.proofs.PartingLemmas.{some_object}
use Rattle.id_tree.proofs.PutLemmas.{IsLast, last_stands}
use Rattle.id_tree.proofs.RemoveLemmas.{leaf_shrinks, removes_of}
use Rattle.id_tree.proofs.RootLemmas.{has, root_stands}
use Rattle.id_tree.proofs.SeekLemmas.{kept_of}

-- ---- a place found

-- the leaf to which a way leads from the root
pub last_in : (dims : ℕ) (pages : PageMap) (t : IdTree) (id leaf : ℕ) (last : Row) → TreeStands dims pages t
    → Reaches id t.level t.page t.row leaf last → IsLast dims pages id t.row leaf last
last_in dims pages t id leaf last s way =
    last_stands dims pages id t.level t.page t.row leaf last true way (root_stands dims pages t s)

pub few_in : (dims : ℕ) (pages : PageMap) (t : IdTree) (id leaf : ℕ) (last : Row) → TreeStands dims pages t
    → IsLast dims pages id t.row leaf last → (q : ℕ) → times_in q (objects_in last) ≤ 1
few_in dims pages t id leaf last s is q = omega (arith, is.few q, s.single q)

-- what a search in it answers is what the table has
module _ (dims : ℕ) (pages : PageMap) (t : IdTree) (root id leaf : ℕ) (last : Row) (at : t.page ≡ root)
    (s : TreeStands dims pages t) (leads : Reaches id t.level root t.row leaf last) where
  way : Reaches id t.level t.page t.row leaf last
  way = subst (λ p. Reaches id t.level p t.row leaf last) (sym at) leads

  pub is_last : IsLast dims pages id t.row leaf last
  is_last = last_in dims pages t id leaf last s way

  pub sought_is : (place : ℕ) (kept : Option Object) → IsSoughtIn id (objects_in last) place kept
      → kept ≡ map.get (objects_of t) id
  sought_is place None none = sym (has t id ∙ is_last.same ∙ none)
  sought_is place (Some kept) found = sym (has t id ∙ is_last.same
      ∙ kept_of id place kept (objects_in last) found (few_in dims pages t id leaf last s is_last id))

  pub sought_at : (place : ℕ) (kept : Option Object) → IsSoughtIn id (objects_in last) place kept
      → IsLeafPlace t id leaf place
  sought_at place kept found = record {
    there = λ object is. record {
      last = last;
      way = way;
      has = subst (IsSoughtIn id (objects_in last) place) (sought_is place kept found ∙ is) found;
      is = sym (has t id) ∙ is;
    };
    missing = λ none. inr (record { last = last; way = way });
  }

-- where the root has no child
pub nowhere_is : (t : IdTree) (id : ℕ) → kept_in id (objects_in t.row) ≡ None
    → None ≡ map.get (objects_of t) id
nowhere_is t id none = sym (has t id ∙ none)

pub nowhere_at : (t : IdTree) (id place : ℕ) → kept_in id (objects_in t.row) ≡ None
    → IsLeafPlace t id 0 place
nowhere_at t id place none = record {
  there = λ object is. absurd (let no = nowhere_is t id none ∙ is in cc);
  missing = λ none. inl refl;
}

-- ---- the leaf of a place

-- a way leads to it, if there is one
pub leads_there : (t : IdTree) (id leaf place : ℕ) → IsLeafPlace t id leaf place → ¬ (leaf ≡ 0)
    → LeadsToLeaf t id leaf
leads_there t id leaf place at some = by_get (map.get (objects_of t) id) refl
  where
    by_get : (kept : Option Object) → map.get (objects_of t) id ≡ kept → LeadsToLeaf t id leaf
    by_get (Some kept) is = let below = at.there kept is in record { last = below.last; way = below.way }
    by_get None none = ⊎_elim
        (λ (nowhere : leaf ≡ 0). absurd (some nowhere))
        (λ (leads : LeadsToLeaf t id leaf). leads)
        (at.missing none)

-- an identifier that the table has is in a place
pub record IsKept (t : IdTree) (id leaf place : ℕ) : Type 0 where
  pub kept : Object
  pub is : map.get (objects_of t) id ≡ Some kept
  pub below : IsBelow t.page t.level id t.row leaf place kept

pub kept_at : (t : IdTree) (id leaf place : ℕ) → IsLeafPlace t id leaf place
    → map.contains_key (objects_of t) id ≡ true → IsKept t id leaf place
kept_at t id leaf place at there = by_get (map.get (objects_of t) id) refl
  where
    by_get : (kept : Option Object) → map.get (objects_of t) id ≡ kept → IsKept t id leaf place
    by_get (Some kept) is = record { kept = kept; is = is; below = at.there kept is }
    by_get None none = absurd (let no : map.contains_key (objects_of t) id ≡ false = ap is_some none in cc)

-- which is no page of zero
pub kept_low : (dims : ℕ) (pages : PageMap) (t : IdTree) (id leaf place : ℕ) → TreeStands dims pages t
    → IsKept t id leaf place → leaf ≡ 0 → ⊥
kept_low dims pages t id leaf place s k none =
    let is = last_in dims pages t id leaf k.below.last s k.below.way in
    omega (arith, is.stands.low, none)

-- ---- a change there

-- the leaf has an object more
pub sets_pushed : (dims : ℕ) (old new : PageMap) (t : IdTree) (id leaf : ℕ) (kept : Object)
    → TreeStands dims old t → kept_in id (objects_in t.row) ≡ None → (l : LeadsToLeaf t id leaf)
    → SameBut leaf old new → leaf_in dims (new leaf) ≡ Some (objects_in l.last ++ (id, kept) ∷ [])
    → Sets dims old new t id kept
sets_pushed dims old new t id leaf kept s none l others there =
    let objects = objects_in l.last in
    let pushed = objects ++ (id, kept) ∷ [] in
    let long : length pushed ≡ length objects + 1 = length-append objects ((id, kept) ∷ []) in
    let is = last_in dims old t id leaf l.last s l.way in
    sets_here dims old new t id kept s none
    (reached dims old new id (adds kept) t.level t.page t.row leaf l.last true l.way (root_stands dims old t s)
    (λ (never : true ≡ false). absurd (cc))
    (λ edge stands large. leaf_becomes dims old new leaf edge l.last id (adds kept) pushed stands others there
    (adds_last id kept objects (sym is.same ∙ none)) (omega (arith, long))
    (λ off. let enough = (large off).leaf refl in omega (arith, enough, long))))

-- the leaf lost the object in the place
pub removes_taken : (dims : ℕ) (old new : PageMap) (t : IdTree) (id leaf place : ℕ) → TreeStands dims old t
    → (k : IsKept t id leaf place) → ((edge : Bool) → HasSpare dims 0 edge k.below.last)
    → SameBut leaf old new
    → leaf_in dims (new leaf) ≡ Some (swap_remove (objects_in k.below.last) place some_object)
    → Removes dims old new t id
removes_taken dims old new t id leaf place s k spare others there =
    let last = k.below.last in
    let is = last_in dims old t id leaf last s k.below.way in
    let turned = reached_above dims old new id drops t.level t.page t.row leaf last true s.high k.below.way
    (root_stands dims old t s) (λ (never : true ≡ false). absurd (cc))
    (λ edge stands large. leaf_shrinks dims old new leaf edge last id place k.kept
    (record { stands = stands; spare = spare edge; single = few_in dims old t id leaf last s is })
    k.below.has others there) in
    let then = turned.becomes in
    removes_of dims old new t t.level id then.now s (record {
      high = s.high;
      bounded = s.bounded;
      stands = then.stands;
      turns = then.turns;
      moves = then.moves;
      wide = λ up. let two = s.wide up in omega (arith, two, ap length turned.links);
    })
