-- The checks of opening, in their order (our rule, docs/FORMAT.md, "Opening").
use Rattle.std.specs.Prelude.{ℕ, ◌-◌, Bool, ◌&&◌, ◌||◌, ◌==◌, not, nat_le, nat_lt, List, [], ◌∷◌, ◌++◌}
use Rattle.std.specs.Prelude.{length, Option, Some, None, IsSome, if◌then◌else◌}
use Rattle.block_device.specs.Device.{Blocks, block_at}
use Rattle.block_bytes.specs.Numbers.{number_at}
use Rattle.page_file.specs.Layout.{gate_text, header_text, header_version, is_known, is_read, version_from}
use Rattle.page_file.specs.declared.header.Header.{Header}
use Rattle.page_file.specs.declared.header.Version.{Version}
use Rattle.page_file.specs.declared.fault.Fault.{Fault}
use Rattle.page_file.specs.declared.fault.Fault.TheVariants.{Damaged, NotClosed, NotAStore, WrongVersion}

-- the numbers of a header agree: at least the catalog was given out, the first free page is none or one
-- given out after the catalog, there is none exactly where the count is 0, and not more than there are
abbrev pub is_sound : Header → Bool
is_sound h =
    nat_le 3 h.next && ((h.first == 0 || (nat_le 3 h.first && nat_lt h.first h.next))
    && ((if h.first == 0 then h.count == 0 else not (h.count == 0)) && nat_le h.count (h.next - 3)))

-- what a header's block says
abbrev pub header_of_block : List ℕ → Header
header_of_block block =
    record {
      version = version_from (header_version block);
      next = number_at 4 12 block;
      first = number_at 4 16 block;
      count = number_at 4 20 block;
    }

-- a check: the test that a file fails by, and the fault that is answered then
abbrev pub Check : Type 0
Check = Bool × Fault

-- of the gate's block
unfoldable pub gate_checks : List ℕ → List Check
gate_checks block =
    (not (number_at 8 0 block == gate_text), NotAStore)
    ∷ (not (number_at 1 8 block == 1), NotClosed)
    ∷ []

-- of the header's block, in a file of so many blocks
unfoldable pub header_checks : ℕ → List ℕ → List Check
header_checks blocks block =
    (not (number_at 8 0 block == header_text), NotAStore)
    ∷ (not (is_known (header_version block)), WrongVersion)
    ∷ (not (nat_le (number_at 4 12 block) blocks && is_sound (header_of_block block)), Damaged 1)
    ∷ []

-- and where no version above `newest` is read
unfoldable pub header_checks_up_to : Version → ℕ → List ℕ → List Check
header_checks_up_to newest blocks block =
    (not (number_at 8 0 block == header_text), NotAStore)
    ∷ (not (is_read newest (header_version block)), WrongVersion)
    ∷ (not (nat_le (number_at 4 12 block) blocks && is_sound (header_of_block block)), Damaged 1)
    ∷ []

-- all, in their order
abbrev pub checks : Blocks → List Check
checks blocks =
    (nat_lt (length blocks) 3, NotAStore)
    ∷ (gate_checks (block_at 0 blocks) ++ header_checks (length blocks) (block_at 1 blocks))

-- the fault of the first check that fails, if one does
abbrev pub first_fault : List Check → Option Fault
first_fault [] = None
first_fault (c ∷ cs) = if c.0 then Some c.1 else first_fault cs

-- what opening answers for these blocks, None where no check fails
unfoldable pub failed_check : Blocks → Option Fault
failed_check blocks = first_fault (checks blocks)

-- opening refuses these blocks
abbrev pub IsRefused : Blocks → Type 0
IsRefused blocks = IsSome (failed_check blocks)

-- what opening answers for them where no version above `newest` is read: a newer one is refused as one that is
-- not known, in the same place
unfoldable pub failed_check_up_to : Version → Blocks → Option Fault
failed_check_up_to newest blocks =
    first_fault
    ((nat_lt (length blocks) 3, NotAStore)
    ∷ (gate_checks (block_at 0 blocks) ++ header_checks_up_to newest (length blocks) (block_at 1 blocks)))
