-- What an open gate, and one that is shut, say of a stop.
use Rattle.std.proofs.Common.{◌≡◌, ◌∙◌, ℕ, ◌<◌, ◌≤◌, List, [], ◌∷◌, ◌++◌, Bool, true, false, not, nat_lt}
use Rattle.std.proofs.Common.{◌==◌, length, Some, refl, sym, ap, arith, subst, lit<, inr, cond, length-drop}
use Rattle.std.proofs.lemmas.Bool.Decides.{nat_tests}
use Rattle.std.specs.Prelude.{IsSome}
use Rattle.block_device.specs.Device.{Blocks, Torn, block_at}
use Rattle.block_bytes.specs.Numbers.{number_at}
use Rattle.page_file.specs.Layout.{gate_block, gate_text}
use Rattle.page_file.specs.declared.fault.Fault.{Fault}
use Rattle.page_file.specs.declared.fault.Fault.TheVariants.{NotAStore, NotClosed}
use Rattle.page_file.specs.declared.gate.Gate.{Gate}
use Rattle.page_file.specs.declared.gate.Gate.TheVariants.{Shut, Open, Unsure}
use Rattle.page_file.specs.Opening.{IsRefused, failed_check, Check, first_fault, gate_checks, header_checks}
use Rattle.page_file.specs.Stops.{SameButGate, StopNow, StopSince}
use Rattle.page_file.specs.Reading.{length-gate, shut-gate}
use Rattle.page_file.specs.Written.{first_torn}

pub some_blocks : (d : Blocks) → block_at 0 d ≡ gate_block 0 → 0 < length d
some_blocks [] e = absurd (omega (arith, ap length e, length-gate 0))
some_blocks (b ∷ bs) e = omega arith

-- a check that fails, after whatever checks
some_failed : (a : Check) (cs : List Check) → a.0 ≡ true → IsSome (first_fault (a ∷ cs))
some_failed a cs e = subst (λ (t : Bool). IsSome (cond t (Some a.1) (first_fault cs))) (sym e) refl

behind : (a : Check) (cs : List Check) → IsSome (first_fault cs) → IsSome (first_fault (a ∷ cs))
behind a cs some = (λ (t : Bool) (f : Fault). case t some) a.0 a.1
  where
    case : (t : Bool) → IsSome (first_fault cs) → IsSome (cond t (Some a.1) (first_fault cs))
    case true s = refl
    case false s = s

-- blocks whose gate is open are refused
pub fails : (c : Blocks) → block_at 0 c ≡ gate_block 0 → IsRefused c
unfolding failed_check gate_checks
fails c e =
    let zero_byte : number_at 1 8 (block_at 0 c) ≡ 0 = ap (number_at 1 8) e ∙ shut-gate 0 (lit< tt) in
    let not_one : not (number_at 1 8 (block_at 0 c) == 1) ≡ true = ap (λ (x : ℕ). not (x == 1)) zero_byte in
    let text : Check = (not (number_at 8 0 (block_at 0 c) == gate_text), NotAStore) in
    let shut : Check = (not (number_at 1 8 (block_at 0 c) == 1), NotClosed) in
    let rest : List Check = header_checks (length c) (block_at 1 c) in
    behind (nat_lt (length c) 3, NotAStore) (text ∷ (shut ∷ rest))
    (behind text (shut ∷ rest) (some_failed shut rest not_one))

-- a block torn while the gate is open leaves it open
pub still_open : (i : ℕ) (d c : Blocks) → 0 < i → block_at 0 d ≡ gate_block 0 → Torn i d c
    → block_at 0 c ≡ gate_block 0
still_open i d c gt e torn = first_torn i d c torn gt (some_blocks d e) ∙ e

pub stop_open : (gate : Gate) (shown d : Blocks) → gate ≡ Open → StopNow gate shown d
    → block_at 0 d ≡ gate_block 0
stop_open gate shown d e now = subst (λ (x : Gate). StopNow x shown d) e now

pub open_stop : (gate : Gate) (shown c : Blocks) → gate ≡ Open → block_at 0 c ≡ gate_block 0
    → StopNow gate shown c
open_stop gate shown c e now = subst (λ (x : Gate). StopNow x shown c) (sym e) now

pub now_since : (gate : Gate) (shown c : Blocks) → StopNow gate shown c → StopSince gate shown c
now_since Shut shown c now = now
now_since Open shown c now = fails c now
now_since Unsure shown c now = inr now

pub open_is_not_shut : (gate : Gate) → gate ≡ Open → gate ≡ Shut → ⊥
open_is_not_shut gate a b = let e : Open ≡ Shut = sym a ∙ b in cc

-- so are at most two blocks, whatever the first holds
pub few_refused : (d c : Blocks) → length d ≤ 1 → SameButGate c d → IsRefused c
unfolding failed_check
few_refused d c few same =
    let rest = gate_checks (block_at 0 c) ++ header_checks (length c) (block_at 1 c) in
    let short : length c < 3 = omega (arith, few, ap length same, length-drop 1 c, length-drop 1 d) in
    some_failed (nat_lt (length c) 3, NotAStore) rest
    (let e : nat_lt (length c) 3 ≡ true = grind (arith, nat_tests) in e)
