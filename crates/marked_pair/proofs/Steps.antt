-- What a call's answer makes of the base.
use Rattle.std.proofs.Common.{◌≡◌, ◌∙◌, ℕ, ◌<◌, Bool, true, false, List, sym, ap, subst}
use Rattle.std.specs.Prelude.{Result, Ok, Err, OnOk, OnErr}
use Rattle.block_device.specs.Device.{Blocks, Torn, written}
use Rattle.block_device.specs.declared.device.DeviceError.{DeviceError}
use Rattle.marked_pair.specs.Mark.{reads_as, unmarked, unmarked_gate, IsMarked}
use Rattle.marked_pair.specs.MarkLaws.{marked_stays, marked_torn, unmarked_plain, unmarked_put, unmarked_torn}

-- another block was written or torn
pub marked_answer : (r : Result (Unit {0}) DeviceError) (i : ℕ) (b : List ℕ) (old new : Blocks) → 0 < i
    → OnOk r (new ≡ written i b old) → OnErr r (Torn i old new) → IsMarked old → IsMarked new
marked_answer (Ok x) i b old new some ok err m = subst IsMarked (sym ok) (marked_stays i b old some m)
marked_answer (Err e) i b old new some ok err m = marked_torn i old new some err m

-- the gate was written with bytes that are shown as these
pub shown_gate : (r : Result (Unit {0}) DeviceError) (x b : List ℕ) (old new : Blocks) → unmarked_gate x ≡ b
    → OnOk r (new ≡ written 0 x old) → OnOk r (unmarked new ≡ written 0 b (unmarked old))
shown_gate (Ok u) x b old new e ok = ap unmarked ok ∙ unmarked_put x old
    ∙ ap (λ (y : List ℕ). written 0 y (unmarked old)) e
shown_gate (Err u) x b old new e ok = tt

-- a block was torn
pub shown_torn : (r : Result (Unit {0}) DeviceError) (i : ℕ) (old new : Blocks) → OnErr r (Torn i old new)
    → OnErr r (Torn i (unmarked old) (unmarked new))
shown_torn (Ok u) i old new err = tt
shown_torn (Err u) i old new err = unmarked_torn i old new err

-- the same after calls that left the base as it was
pub shown_gate_from : (r : Result (Unit {0}) DeviceError) (x b : List ℕ) (old mid new : Blocks) → mid ≡ old
    → unmarked_gate x ≡ b → OnOk r (new ≡ written 0 x mid)
    → OnOk r (unmarked new ≡ written 0 b (unmarked old))
shown_gate_from r x b old mid new same e ok =
    shown_gate r x b old new e (subst (λ (c : Blocks). OnOk r (new ≡ written 0 x c)) same ok)

pub shown_torn_from : (r : Result (Unit {0}) DeviceError) (i : ℕ) (old mid new : Blocks) → mid ≡ old
    → OnErr r (Torn i mid new) → OnErr r (Torn i (unmarked old) (unmarked new))
shown_torn_from r i old mid new same err =
    shown_torn r i old new (subst (λ (c : Blocks). OnErr r (Torn i c new)) same err)

-- a block that does not read as a gate with the mark
pub plain : (t : Bool) (b : List ℕ) → t ≡ reads_as 2 b → t ≡ false → unmarked_gate b ≡ b
plain t b is isnt =
    unmarked_plain b (λ (e : reads_as 2 b ≡ true). let never : true ≡ false = sym e ∙ sym is ∙ isnt in cc)
