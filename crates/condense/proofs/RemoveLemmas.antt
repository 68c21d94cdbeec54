-- What a removal answers, from what its steps ensure.
use Rattle.std.proofs.Common.{Result, Ok, Err, IfOk, IfErr, OnErr, IsErrAnd, List, [], ◌≡◌, ◌∙◌, ℕ, ◌≤◌}
use Rattle.std.proofs.Common.{◌∷◌, IfSome, IsSome, None, Option, Some, refl, sym, subst}
use Rattle.std.specs.List.Sorted.{IsPermutation}
use Rattle.box_math.specs.Objects.{Object}
use Rattle.page_file.specs.Fault.{IsOfDevice}
use Rattle.page_file.specs.declared.fault.Fault.{Fault}
use Rattle.tree_node.specs.declared.node.Root.{Root}
use Rattle.tree_node.specs.Nodes.{Item}
use Rattle.tree_node.specs.Boxes.{RowHasBoxes}
use Rattle.tree_node.specs.Shape.{HasShape}
use Rattle.tree_node.specs.Trees.{Tree, objects_in}
use Rattle.node_page.specs.Standing.{PageMap, Stands}
use Rattle.node_page.proofs.StandingLemmas.{one_tree_stands}
use Rattle.reinsert.specs.Inserted.{IsRootOf}
use Rattle.reinsert.specs.Placed.{Held}
use Rattle.condense.specs.Removed.{CanRemove, RemovesTo, TookOut}
use Rattle.condense.specs.Taken.{HasTaken}
use Rattle.condense.proofs.ObjectLemmas.{removal_keeps_objects}
use Rattle.condense.proofs.ShapeLemmas.{removal_keeps_shape}

-- the tree at the new root has its shape, and its objects are those before but for the one
pub keeps_all : (r : Result Root Fault) (X : Type 0) (dims most : ℕ) (m m' : PageMap)
    (elsewhere : ℕ → ℕ) (id : ℕ) (removed : Object) (t : Tree) → 4 ≤ most → HasShape dims most t
    → RowHasBoxes dims t.row
    → IfOk r (λ after. X × RemovesTo dims most m m' elsewhere id removed t after)
    → IfOk r
    (λ after. (new : Tree) → IsRootOf after new → Stands dims m' new
    → HasShape dims most new × IsPermutation ((id, removed) ∷ objects_in new.row) (objects_in t.row))
keeps_all (Ok after) X dims most m m' elsewhere id removed t enough shape boxes done = λ new at stands.
    let d = done.1 in
    let same : d.new ≡ new = one_tree_stands dims m' d.new new (d.at.page ∙ sym at.page) d.stands stands in
    let kept = (removal_keeps_shape dims most elsewhere id removed t d.new d.removal enough boxes shape).0 in
    let objects = removal_keeps_objects dims most elsewhere id removed t d.new d.removal in
    subst (λ (x : Tree). HasShape dims most x
    × IsPermutation ((id, removed) ∷ objects_in x.row) (objects_in t.row)) same (kept, objects)
keeps_all (Err e) X dims most m m' elsewhere id removed t enough shape boxes done = tt

pub map_ok : {A E : Type 0} (r : Result A E) (X : Type 0) (P Q : A → Type 0) → IfOk r (λ a. X × P a)
    → ((a : A) → P a → Q a) → IfOk r (λ a. X × Q a)
map_ok (Ok a) X P Q h f = (h.0, f a h.1)
map_ok (Err e) X P Q h f = tt

-- what was taken out below the root
pub took_out : (dims most : ℕ) (m m1 : PageMap) (root : Root) (t : Tree) (elsewhere : ℕ → ℕ) (id : ℕ)
    (removed : Object) (held0 held : List Held) (items : List Item) → CanRemove dims m root t elsewhere
    → held0 ≡ []
    → HasTaken dims most m m1 root.level id removed t.row held0 held items
    → TookOut dims most m m1 root t elsewhere id removed held items
took_out dims most m m1 root t elsewhere id removed held0 held items can none done = record {
  can = can;
  taken = subst (λ (hs : List Held). HasTaken dims most m m1 t.level id removed t.row hs held items) none
      (subst (λ l. HasTaken dims most m m1 l id removed t.row held0 held items) (sym can.at.level) done);
}

-- a refusal is handed on
pub on_err : {T E : Type 0} (r : Result T E) (X : Type 0) → X → OnErr r X
on_err (Ok x) X h = tt
on_err (Err e) X h = h

pub refused_so : {T : Type 0} (r : Result T Fault) (f : Fault) (P : Fault → Type 0)
    → IsErrAnd r (λ e. e ≡ f) → P f → IsErrAnd r P
refused_so (Ok x) f P is p = elim is [ ]
refused_so (Err e) f P is p = subst P (sym is) p

pub no_damage : {A : Type 0} (r : Result A Fault) (P : Fault → Type 0) → IfErr r IsOfDevice
    → ((f : Fault) → IsOfDevice f → P f) → IfErr r P
no_damage (Ok a) P h f = tt
no_damage (Err e) P h f = f e h

pub map_err : {A E : Type 0} (r : Result A E) (P Q : E → Type 0) → IfErr r P → ((e : E) → P e → Q e)
    → IfErr r Q
map_err (Ok a) P Q h f = tt
map_err (Err e) P Q h f = f e h

-- what is none is not some
pub never_some : {A : Type 0} (o : Option A) → ((x : A) → o ≡ Some x → ⊥) → IsSome o → ⊥
never_some None never is = absurd (cc)
never_some (Some x) never is = never x refl

pub some_weaker : {A : Type 0} (o : Option A) (P Q : A → Type 0) → ((x : A) → P x → Q x) → IfSome o P
    → IfSome o Q
some_weaker None P Q f h = tt
some_weaker (Some x) P Q f h = f x h

pub some_both : {A : Type 0} (o : Option A) (P Q R : A → Type 0) → IfSome o P → IfSome o Q
    → ((x : A) → P x → Q x → R x) → IfSome o R
some_both None P Q R p q both = tt
some_both (Some x) P Q R p q both = both x p q
