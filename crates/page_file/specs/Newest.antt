-- Opening where no version above one is read, beside the opening of all.
use Rattle.std.proofs.Common.{◌≡◌, ◌∙◌, ℕ, List, Bool, true, false, ◌&&◌, ◌==◌, not, nat_le, nat_lt, Option, Some, None}
use Rattle.std.proofs.Common.{length, refl, ap, arith, cond}
use Rattle.std.proofs.lemmas.Bool.Decides.{nat_tests}
use Rattle.block_device.specs.Device.{Blocks, block_at}
use Rattle.block_bytes.specs.Numbers.{number_at}
use Rattle.page_file.specs.Layout.{IsWithin, gate_text, header_text, header_version, is_known, is_read}
use Rattle.page_file.specs.Layout.{opened_version, version_from}
use Rattle.page_file.specs.Opening.{failed_check, failed_check_up_to, first_fault, gate_checks, header_checks}
use Rattle.page_file.specs.Opening.{header_checks_up_to, header_of_block, is_sound}
use Rattle.page_file.specs.File.{IsHonest, blocks_of, gate_of}
use Rattle.page_file.specs.Laws.{a_shut_file_passes}
use Rattle.page_file.specs.Settled.{passes_from}
use Rattle.page_file.specs.declared.file.PageFile.{PageFile}
use Rattle.page_file.specs.declared.gate.Gate.TheVariants.{Shut}
use Rattle.page_file.specs.declared.fault.Fault.{Fault}
use Rattle.page_file.specs.declared.fault.Fault.TheVariants.{Damaged, NotAStore, NotClosed, WrongVersion}
use Rattle.page_file.specs.declared.header.Version.{Version}
use Rattle.page_file.specs.declared.header.Version.TheVariants.{Three, Two}

-- what is answered, by which of the six checks fail: of the length, of the gate's text and byte, of the
-- header's text, of the version, and of the numbers
abbrev answer : Bool → Bool → Bool → Bool → Bool → Bool → Option Fault
answer few gate unclosed text version numbers =
    cond few (Some NotAStore)
    (cond gate (Some NotAStore)
    (cond unclosed (Some NotClosed)
    (cond text (Some NotAStore)
    (cond version (Some WrongVersion) (cond numbers (Some (Damaged 1)) None)))))

-- where none fails, none does once that of the version does not, either
still_none : (few gate unclosed text version other numbers : Bool) → (version ≡ false → other ≡ false)
    → answer few gate unclosed text version numbers ≡ None → answer few gate unclosed text other numbers ≡ None
still_none true gate unclosed text version other numbers so e = absurd (cc)
still_none false true unclosed text version other numbers so e = absurd (cc)
still_none false false true text version other numbers so e = absurd (cc)
still_none false false false true version other numbers so e = absurd (cc)
still_none false false false false true other numbers so e = absurd (cc)
still_none false false false false false true numbers so e = absurd (let wrong = so refl in cc)
still_none false false false false false false numbers so e = e

-- and where that one does, it alone does
that_alone : (few gate unclosed text version numbers : Bool)
    → answer few gate unclosed text version numbers ≡ None
    → answer few gate unclosed text true numbers ≡ Some WrongVersion
that_alone true gate unclosed text version numbers e = absurd (cc)
that_alone false true unclosed text version numbers e = absurd (cc)
that_alone false false true text version numbers e = absurd (cc)
that_alone false false false true version numbers e = absurd (cc)
that_alone false false false false version numbers e = refl

-- ---- versions

-- one that is read is known, and none above the newest
known_if_read : (newest : Version) (number : ℕ) → not (is_read newest number) ≡ false
    → not (is_known number) ≡ false
known_if_read Two number e = grind (arith, nat_tests)
known_if_read Three number e = e

pub within_if_read : (newest : Version) (number : ℕ) → is_read newest number ≡ true
    → IsWithin newest (version_from number)
within_if_read Two number e = λ two. case (number == 3) refl
  where
    case : (three : Bool) → (number == 3) ≡ three → cond three Three Two ≡ Two
    case false is = refl
    case true is = absurd (grind (arith, nat_tests))
within_if_read Three number e = λ two. absurd (cc)

-- a known one is read exactly where it is none above the newest
read_if_within : (newest : Version) (number : ℕ) → is_known number ≡ true
    → IsWithin newest (version_from number) → not (is_read newest number) ≡ false
read_if_within Two number known within = case (number == 3) refl (within refl)
  where
    case : (three : Bool) → (number == 3) ≡ three → cond three Three Two ≡ Two
        → not (is_read Two number) ≡ false
    case false is two = grind (arith, nat_tests)
    case true is two = absurd (let apart : Three ≡ Two = two in cc)
read_if_within Three number known within = ap not known

unread_if_above : (newest : Version) (number : ℕ) → ¬ (IsWithin newest (version_from number))
    → not (is_read newest number) ≡ true
unread_if_above Two number above = case (number == 3) refl above
  where
    case : (three : Bool) → (number == 3) ≡ three → ¬ (Two ≡ Two → cond three Three Two ≡ Two)
        → not (is_read Two number) ≡ true
    case false is above = absurd (above (λ two. refl))
    case true is above = grind (arith, nat_tests)
unread_if_above Three number above = absurd (above (λ two. absurd (cc)))

-- ---- opening

-- where each version is read, it answers the same
pub all_read : (blocks : Blocks) → failed_check_up_to Three blocks ≡ failed_check blocks
unfolding failed_check failed_check_up_to gate_checks header_checks header_checks_up_to
all_read blocks = refl

-- where no check fails of an opening up to a version, none fails
pub passes_all : (newest : Version) (blocks : Blocks) → failed_check_up_to newest blocks ≡ None
    → failed_check blocks ≡ None
unfolding failed_check failed_check_up_to gate_checks header_checks header_checks_up_to
passes_all newest blocks e =
    let page = block_at 1 blocks in
    still_none (nat_lt (length blocks) 3) (not (number_at 8 0 (block_at 0 blocks) == gate_text))
    (not (number_at 1 8 (block_at 0 blocks) == 1)) (not (number_at 8 0 page == header_text))
    (not (is_read newest (header_version page))) (not (is_known (header_version page)))
    (not (nat_le (number_at 4 12 page) (length blocks) && is_sound (header_of_block page)))
    (known_if_read newest (header_version page)) e

-- and where none fails, none does up to a version exactly where that of the blocks is not above it
pub passes_within : (newest : Version) (blocks : Blocks) → failed_check blocks ≡ None
    → IsWithin newest (opened_version blocks) → failed_check_up_to newest blocks ≡ None
unfolding failed_check failed_check_up_to gate_checks header_checks header_checks_up_to
passes_within newest blocks e within =
    let page = block_at 1 blocks in
    still_none (nat_lt (length blocks) 3) (not (number_at 8 0 (block_at 0 blocks) == gate_text))
    (not (number_at 1 8 (block_at 0 blocks) == 1)) (not (number_at 8 0 page == header_text))
    (not (is_known (header_version page))) (not (is_read newest (header_version page)))
    (not (nat_le (number_at 4 12 page) (length blocks) && is_sound (header_of_block page)))
    (λ known. read_if_within newest (header_version page) (passes_from blocks e).header.known within) e

pub refused_above : (newest : Version) (blocks : Blocks) → failed_check blocks ≡ None
    → ¬ (IsWithin newest (opened_version blocks)) → failed_check_up_to newest blocks ≡ Some WrongVersion
unfolding failed_check failed_check_up_to gate_checks header_checks header_checks_up_to
refused_above newest blocks e above =
    let page = block_at 1 blocks in
    let few = nat_lt (length blocks) 3 in
    let gate = not (number_at 8 0 (block_at 0 blocks) == gate_text) in
    let unclosed = not (number_at 1 8 (block_at 0 blocks) == 1) in
    let text = not (number_at 8 0 page == header_text) in
    let numbers = not (nat_le (number_at 4 12 page) (length blocks) && is_sound (header_of_block page)) in
    ap (λ (t : Bool). answer few gate unclosed text t numbers) (unread_if_above newest (header_version page) above)
    ∙ that_alone few gate unclosed text (not (is_known (header_version page))) numbers e

-- a file whose gate is shut is opened
pub a_shut_file_is_opened : {D : Type 0} {m : _} (file : PageFile D m) → IsHonest file → gate_of file ≡ Shut
    → failed_check_up_to Three (blocks_of file) ≡ None
a_shut_file_is_opened file honest shut = all_read (blocks_of file) ∙ a_shut_file_passes file honest shut
