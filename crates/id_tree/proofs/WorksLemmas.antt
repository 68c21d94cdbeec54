-- Steps of a change one after the other.
use Rattle.std.proofs.Common.{◌≡◌, ℕ, IsErrAnd, Result, Ok, Err, sym, subst}
use Rattle.page_file.specs.Fault.{IsOfDevice}
use Rattle.page_file.specs.declared.fault.Fault.{Fault}
use Rattle.page_cache.specs.Cache.{IsPageMap, pages}
use Rattle.page_cache.specs.declared.cache.PageCache.{PageCache}
use Rattle.id_tree.specs.Tidy.{KeepsTidy}
use Rattle.id_tree.specs.Works.{Finds, Works}
use Rattle.id_tree.proofs.TidyLemmas.{tidy_in_turn, tidy_same}

module _ {B A : Type 0} {m : _} where
  -- a step that is refused with this fault
  pub works_refused : {T : Type 0} {dims : ℕ} {old new : PageCache B A m} {r : Result T Fault}
      {Made : T → Type 0} {Refused : Fault → Type 0} (f : Fault) → IsErrAnd r (λ e. e ≡ f) → IsPageMap new
      → Refused f → Works dims old new r Made Refused
  works_refused {r = Ok x} f is sound why = elim is [ ]
  works_refused {r = Err e} {Refused = R} f is sound why =
      record { sound = sound; tidy = tt; made = tt; faults = subst R (sym is) why }

  -- as one that it takes is
  pub works_handed : {S T : Type 0} {dims : ℕ} {old mid new : PageCache B A m} {r : Result T Fault} {f : Fault}
      {Made : S → Type 0} {Then : T → Type 0} {Refused So : Fault → Type 0}
      → Works dims mid new (Err f) Made Refused → IsErrAnd r (λ e. e ≡ f) → (Refused f → So f)
      → Works dims old new r Then So
  works_handed {f = f} w is so = works_refused f is w.sound (so w.faults)

  -- the same step, said in another way
  pub works_same : {T : Type 0} {dims : ℕ} {old new : PageCache B A m} {r : Result T Fault}
      {Made Then : T → Type 0} {Refused So : Fault → Type 0} → Works dims old new r Made Refused
      → ((x : T) → Made x → Then x) → ((f : Fault) → Refused f → So f) → Works dims old new r Then So
  works_same {r = Ok x} w then so = record { sound = w.sound; tidy = w.tidy; made = then x w.made; faults = tt }
  works_same {r = Err f} w then so = record { sound = w.sound; tidy = tt; made = tt; faults = so f w.faults }

  -- a step behind one that kept the pages tidy
  pub works_after : {T : Type 0} {dims : ℕ} {old mid new : PageCache B A m} {r : Result T Fault}
      {Made Then : T → Type 0} {Refused So : Fault → Type 0} → Works dims mid new r Made Refused
      → KeepsTidy dims (pages old) (pages mid) → ((x : T) → Made x → Then x)
      → ((f : Fault) → Refused f → So f) → Works dims old new r Then So
  works_after {dims = D} {old = old} {mid = mid} {new = new} {r = Ok x} w tidy then so = record {
    sound = w.sound;
    tidy = tidy_in_turn D (pages old) (pages mid) (pages new) tidy w.tidy;
    made = then x w.made;
    faults = tt;
  }
  works_after {r = Err f} w tidy then so =
      record { sound = w.sound; tidy = tt; made = tt; faults = so f w.faults }

  -- one that ends so behind it
  pub works_done : {S T : Type 0} {dims : ℕ} {old mid new : PageCache B A m} {x : S} {y : T} {Made : S → Type 0}
      {Then : T → Type 0} {Refused So : Fault → Type 0} → Works dims mid new (Ok x) Made Refused
      → KeepsTidy dims (pages old) (pages mid) → Then y → Works dims old new (Ok y) Then So
  works_done {dims = D} {old = old} {mid = mid} {new = new} w tidy done = record {
    sound = w.sound;
    tidy = tidy_in_turn D (pages old) (pages mid) (pages new) tidy w.tidy;
    made = done;
    faults = tt;
  }

  -- and behind one that only asked
  pub works_from : {T : Type 0} {dims : ℕ} {old mid new : PageCache B A m} {r : Result T Fault}
      {Made Then : T → Type 0} {Refused So : Fault → Type 0} → Works dims mid new r Made Refused
      → ((n : ℕ) → pages mid n ≡ pages old n) → ((x : T) → Made x → Then x)
      → ((f : Fault) → Refused f → So f) → Works dims old new r Then So
  works_from {dims = D} {old = old} {mid = mid} w same then so =
      works_after w (tidy_same D (pages old) (pages mid) same) then so

-- what was asked for was refused, or is this
pub finds_none : {T : Type 0} {r : Result T Fault} {Found : T → Type 0} (f : Fault) → IsErrAnd r (λ e. e ≡ f)
    → IsOfDevice f → Finds r Found
finds_none {r = Ok x} f is of = elim is [ ]
finds_none {r = Err e} f is of = record { found = tt; faults = subst IsOfDevice (sym is) of }
