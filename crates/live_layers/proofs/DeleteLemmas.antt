-- Why the deletion of an object is refused, and what one that is not does to the table.
use Rattle.std.proofs.Common.{◌≡◌, ◌∙◌, ℕ, List, [], ◌∷◌, false, not, Option, Some, None, refl, sym, ap, inl}
use Rattle.std.proofs.Common.{inr}
use Rattle.std.specs.Prelude.{◌⊎◌, is_some}
use Rattle.std.specs.FinMap.{contains_key, get}
use Rattle.box_math.specs.Objects.{Object}
use Rattle.plain_table.specs.Commands.Command.{Delete}
use Rattle.plain_table.specs.Laws.{a_change_makes_another_table}
use Rattle.plain_table.specs.Step.{Answer, after, first_refusal, missing_refusals, refusal_of}
use Rattle.plain_table.specs.Step.Answer.{Boxes, Refused}
use Rattle.plain_table.specs.Table.{Layer, Table, layer_at, no_object, object_at}
use Rattle.plain_table.specs.declared.refusal.Refusal.{Refusal}
use Rattle.plain_table.specs.declared.refusal.Refusal.TheVariants as refusal
use Rattle.store_law.specs.Lawful.{IsFault}
use Rattle.live_layers.specs.Questions.{IsNamed, IsReply}
use Rattle.live_layers.proofs.TakeLemmas.{its_object}

-- ---- an object

-- the object of the first row of an answer
abbrev first_object : Answer → Object
first_object (Boxes (row ∷ rows)) = row.1
first_object a = no_object

-- one that is answered is its own
pub object_answered : (rose : Type 0) (why : Option Refusal) (id : ℕ) (its o : Object)
    → IsReply rose why (Boxes ((id, its) ∷ [])) (Boxes ((id, o) ∷ [])) → (why ≡ None) × (o ≡ its)
object_answered rose None id its o (inl e) = (refl, ap first_object e)
object_answered rose (Some r) id its o (inl e) = absurd (cc)
object_answered rose why id its o (inr never) = absurd never

pub none_answered : (rose : Type 0) (why : Option Refusal) (rows : List (ℕ × Object)) (r : Refusal)
    → IsReply rose why (Boxes rows) (Refused r) → (why ≡ Some r) ⊎ IsFault rose r
none_answered rose None rows r (inl e) = absurd (cc)
none_answered rose (Some s) rows r (inl e) = inl (cc)
none_answered rose why rows r (inr failed) = inr failed

module _ (layer : Layer) (id : ℕ) where
  absent : contains_key layer.objects id ≡ false
      → first_refusal (missing_refusals layer id) ≡ Some refusal.NoObject
  absent e = rw e refl

  -- an object that is not missing is there
  pub is_there : first_refusal (missing_refusals layer id) ≡ None
      → get layer.objects id ≡ Some (object_at layer id)
  is_there none = case (get layer.objects id) refl
    where
      case : (found : Option Object) → get layer.objects id ≡ found
          → get layer.objects id ≡ Some (object_at layer id)
      case None e = let no : Some refusal.NoObject ≡ None = sym (absent (ap is_some e)) ∙ none in absurd (cc)
      case (Some o) e = e ∙ ap Some (its_object layer id o e)

  pub has_object : (rose : Type 0) (o : Object)
      → IsReply rose (first_refusal (missing_refusals layer id)) (Boxes ((id, object_at layer id) ∷ []))
      (Boxes ((id, o) ∷ [])) → get layer.objects id ≡ Some o
  has_object rose o reply =
      let is =
      object_answered rose (first_refusal (missing_refusals layer id)) id (object_at layer id) o reply in
      is_there is.0 ∙ ap Some (sym is.1)

-- ---- the table

module _ (t : Table) (name : List ℕ) (id : ℕ) (named : IsNamed t name) where
  pub as_missing : refusal_of t (Delete name id) ≡ first_refusal (missing_refusals (layer_at t name) id)
  as_missing = named (missing_refusals (layer_at t name) id)

  pub not_missing : (rose : Type 0) (o : Object)
      → IsReply rose (first_refusal (missing_refusals (layer_at t name) id))
      (Boxes ((id, object_at (layer_at t name) id) ∷ [])) (Boxes ((id, o) ∷ []))
      → refusal_of t (Delete name id) ≡ None
  not_missing rose o reply = as_missing
      ∙ (object_answered rose (first_refusal (missing_refusals (layer_at t name) id)) id
      (object_at (layer_at t name) id) o reply).0

  pub it_shrinks : refusal_of t (Delete name id) ≡ None → ¬ (after t (Delete name id) ≡ t)
  it_shrinks none =
      a_change_makes_another_table t (Delete name id) (ap (λ (o : Option Refusal). not (is_some o)) none)
