-- What is told of the layer of a name, or why nothing is.
use Rattle.std.proofs.Common.{◌≡◌, ◌∙◌, ℕ, Bool, List, [], Some, None, inl, inr, subst, sym}
use Rattle.std.specs.Prelude.{Result, Ok, Err, IfErr, IfOk, IsErrAnd}
use Rattle.plain_table.specs.Step.{first_refusal, layer_refusals}
use Rattle.plain_table.specs.Table.{Table}
use Rattle.plain_table.specs.declared.refusal.Refusal.{Refusal}
use Rattle.store_law.specs.Lawful.{IsFault}
use Rattle.live_layers.specs.Outlines.{IsOfName}
use Rattle.live_layers.specs.Questions.{IsNamed, IsToldOr}

module _ {T : Type 0} (rose : Type 0) (refusals : List (Bool × Refusal)) (P : T → Type 0) where
  -- a condition refuses it
  pub tells_refused : (result : Result T Refusal) (r : Refusal) → IsErrAnd result (λ e. e ≡ r)
      → first_refusal refusals ≡ Some r → IsToldOr rose refusals P result
  tells_refused (Ok x) r is why = elim is [ ]
  tells_refused (Err e) r is why = inl (subst (λ (x : Refusal). first_refusal refusals ≡ Some x) (sym is) why)

  -- a fault refuses it
  pub tells_fault : (result : Result T Refusal) (r : Refusal) → IsErrAnd result (λ e. e ≡ r)
      → IsFault rose r → IsToldOr rose refusals P result
  tells_fault (Ok x) r is fault = elim is [ ]
  tells_fault (Err e) r is fault = inr (subst (λ (x : Refusal). IsFault rose x) (sym is) fault)

  -- either of both does, or nothing
  pub tells : (result : Result T Refusal) → first_refusal refusals ≡ None → IfOk result P
      → IfErr result (IsFault rose) → IsToldOr rose refusals P result
  tells (Ok x) none p fault = (none, p)
  tells (Err e) none p fault = inr fault

  -- the same by other conditions of the same first refusal
  pub tells_so : (others : List (Bool × Refusal)) (result : Result T Refusal)
      → first_refusal refusals ≡ first_refusal others → IsToldOr rose others P result
      → IsToldOr rose refusals P result
  tells_so others (Ok x) same h = (same ∙ h.0, h.1)
  tells_so others (Err e) same (inl why) = inl (same ∙ why)
  tells_so others (Err e) same (inr fault) = inr fault

-- a layer has the name
pub tells_named : {T : Type 0} (rose : Type 0) (t : Table) (name : List ℕ) (P : T → Type 0)
    (result : Result T Refusal) → IsNamed t name → IfOk result P → IfErr result (IsFault rose)
    → IsOfName rose t name P result
tells_named rose t name P result named = tells rose (layer_refusals t name []) P result (named [])
