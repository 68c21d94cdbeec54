-- Opening refuses a base with the mark.
use Rattle.std.proofs.Common.{◌≡◌, ℕ, ◌≤◌, Bool, true, false, not, nat_lt, ◌==◌, cond, length, Some, refl, ap}
use Rattle.std.proofs.Common.{arith}
use Rattle.std.specs.Prelude.{Option, IsSome}
use Rattle.std.proofs.lemmas.Bool.Decides.{nat_tests}
use Rattle.block_device.specs.Device.{Blocks, block_at}
use Rattle.block_bytes.specs.Numbers.{number_at}
use Rattle.page_file.specs.Layout.{gate_text}
use Rattle.page_file.specs.Opening.{IsRefused, failed_check, first_fault, gate_checks, header_checks}
use Rattle.page_file.specs.declared.fault.Fault.{Fault}
use Rattle.page_file.specs.declared.fault.Fault.TheVariants.{NotAStore, NotClosed}
use Rattle.marked_pair.specs.Mark.{IsMarked}
use Rattle.marked_pair.specs.MarkLaws.{gate_bytes}

third_fails : (s t u : Bool) (f g h : Fault) (rest : Option Fault) → u ≡ true
    → IsSome (cond s (Some f) (cond t (Some g) (cond u (Some h) rest)))
third_fails true t u f g h rest e = refl
third_fails false true u f g h rest e = refl
third_fails false false true f g h rest e = refl
third_fails false false false f g h rest e = cc

pub marked_refused : (c : Blocks) → IsMarked c → IsRefused c
unfolding failed_check gate_checks
marked_refused c m =
    let byte : number_at 1 8 (block_at 0 c) ≡ 2 = (gate_bytes 2 (block_at 0 c) m.mark).1 in
    let not_one : not (number_at 1 8 (block_at 0 c) == 1) ≡ true = ap (λ (x : ℕ). not (x == 1)) byte in
    third_fails (nat_lt (length c) 3) (not (number_at 8 0 (block_at 0 c) == gate_text))
    (not (number_at 1 8 (block_at 0 c) == 1)) NotAStore NotAStore NotClosed
    (first_fault (header_checks (length c) (block_at 1 c))) not_one

-- as a file that is not closed, where it has the blocks of one
pub marked_not_closed : (c : Blocks) → IsMarked c → 3 ≤ length c → failed_check c ≡ Some NotClosed
unfolding failed_check gate_checks
marked_not_closed c m enough =
    let g = gate_bytes 2 (block_at 0 c) m.mark in
    let many : nat_lt (length c) 3 ≡ false = grind (arith, nat_tests) in
    let text : not (number_at 8 0 (block_at 0 c) == gate_text) ≡ false =
    ap (λ (x : ℕ). not (x == gate_text)) g.0 in
    let not_one : not (number_at 1 8 (block_at 0 c) == 1) ≡ true = ap (λ (x : ℕ). not (x == 1)) g.1 in
    rw (many, text, not_one) refl
