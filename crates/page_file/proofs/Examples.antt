-- Worked examples of the blocks of a file as docs/FORMAT.md has them, which of them opening refuses and why,
-- and of its faults. No other proof rests on them. A definition that says another thing than that document is
-- refused here.
use Rattle.std.proofs.Common.{◌≡◌, ◌∙◌, ℕ, List, [], ◌∷◌, ◌++◌, Some, None, Ok, Err, true, false, refl, sym}
use Rattle.std.proofs.Common.{ap, arith, inl, inr, codes, map, replicate}
use Rattle.block_bytes.specs.Numbers.{zeros, number_at, put_number}
use Rattle.block_device.specs.Device.{Blocks}
use Rattle.block_device.specs.declared.device.DeviceError.TheVariants as error
use Rattle.page_file.specs.Fault.{number_of, fault_of, faults_after, HasCause, IsOfDevice, IsDamage}
use Rattle.page_file.specs.Layout.{gate_block, header_block, catalog_block, new_header, free_block}
use Rattle.page_file.specs.Layout.{IsShutGate, IsHeader, kind_of, link_of, opened_version}
use Rattle.page_file.specs.Opening.{failed_check, failed_check_up_to, first_fault, gate_checks, header_checks}
use Rattle.page_file.specs.Opening.{header_checks_up_to, is_sound}
use Rattle.page_file.specs.Opening.{IsRefused}
use Rattle.page_file.specs.declared.fault.Fault.TheVariants.{Memory, Device, Damaged, NotClosed, NotAStore}
use Rattle.page_file.specs.declared.fault.Fault.TheVariants.{WrongVersion, NoPages}
use Rattle.page_file.specs.declared.header.Header.{Header}
use Rattle.page_file.specs.declared.header.Version.{Version}
use Rattle.page_file.specs.declared.header.Version.TheVariants.{Two, Three}

abbrev pub of_version : Version → ℕ → ℕ → ℕ → Header
of_version version next first count =
    record { version = version; next = next; first = first; count = count }

abbrev pub numbers : ℕ → ℕ → ℕ → Header
numbers next first count = of_version Two next first count

-- ---- the blocks as they are written, to their last byte

a_gate_that_is_shut : gate_block 1 ≡ codes "RSTARGAT" ++ 1 ∷ replicate 4087 0
unfolding gate_block put_number zeros
a_gate_that_is_shut = refl

a_gate_that_is_open : gate_block 0 ≡ codes "RSTARGAT" ++ replicate 4088 0
unfolding gate_block put_number zeros
a_gate_that_is_open = refl

-- version 2, next 5, first 4 and count 1, and another one of large numbers
a_header : header_block (numbers 5 4 1) ≡ codes "RSTARHDR" ++ 0 ∷ 2 ∷ 0 ∷ 0 ∷ 0 ∷ 0 ∷ 0 ∷ 5 ∷ 0 ∷ 0 ∷ 0 ∷ 4 ∷ 0 ∷ 0 ∷ 0 ∷ 1 ∷ replicate 4072 0
unfolding header_block put_number zeros
a_header = refl

a_header_of_version_3 : header_block (of_version Three 5 4 1) ≡ codes "RSTARHDR" ++ 0 ∷ 3 ∷ 0 ∷ 0 ∷ 0 ∷ 0 ∷ 0 ∷ 5 ∷ 0 ∷ 0 ∷ 0 ∷ 4 ∷ 0 ∷ 0 ∷ 0 ∷ 1 ∷ replicate 4072 0
unfolding header_block put_number zeros
a_header_of_version_3 = refl

a_header_is_big_endian : header_block (numbers 0x80000000 0x7fffffff 0x01020304) ≡ codes "RSTARHDR" ++ 0 ∷ 2 ∷ 0 ∷ 0 ∷ 128 ∷ 0 ∷ 0 ∷ 0 ∷ 127 ∷ 255 ∷ 255 ∷ 255 ∷ 1 ∷ 2 ∷ 3 ∷ 4 ∷ replicate 4072 0
unfolding header_block put_number zeros
a_header_is_big_endian = refl

the_catalog_of_no_layers : catalog_block ≡ 1 ∷ replicate 4095 0
unfolding catalog_block put_number zeros
the_catalog_of_no_layers = refl

a_new_file_has_given_out_the_catalog_alone : new_header ≡ numbers 3 0 0
a_new_file_has_given_out_the_catalog_alone = refl

a_free_page_that_names_the_next : free_block 0x01020304 ≡ 5 ∷ 0 ∷ 0 ∷ 0 ∷ 1 ∷ 2 ∷ 3 ∷ 4 ∷ replicate 4088 0
unfolding free_block put_number zeros
a_free_page_that_names_the_next = refl

-- ---- the blocks as they are read: their first bytes, where all that is read stands

abbrev pub gate : List ℕ
gate = codes "RSTARGAT" ++ 1 ∷ []

abbrev pub open_gate : List ℕ
open_gate = codes "RSTARGAT" ++ 0 ∷ []

-- the two bytes after the version are not named
abbrev pub header : ℕ → ℕ → ℕ → ℕ → List ℕ
header version next first count = codes "RSTARHDR" ++ 0 ∷ version ∷ 255 ∷ 255 ∷ 0 ∷ 0 ∷ 0 ∷ next ∷ 0 ∷ 0 ∷ 0 ∷ first ∷ 0 ∷ 0 ∷ 0 ∷ count ∷ []

a_shut_gate_is_read : IsShutGate gate
unfolding number_at
a_shut_gate_is_read = record { text = refl; shut = refl }

an_open_gate_is_not_shut : IsShutGate open_gate → ⊥
unfolding number_at
an_open_gate_is_not_shut h = let no = h.shut in absurd (omega (arith, no))

a_byte_of_2_is_not_shut : IsShutGate (codes "RSTARGAT" ++ 2 ∷ []) → ⊥
unfolding number_at
a_byte_of_2_is_not_shut h = let no = h.shut in absurd (omega (arith, no))

another_text_is_no_gate : IsShutGate (codes "RSTARHDR" ++ 1 ∷ []) → ⊥
unfolding number_at
another_text_is_no_gate h = let no = h.text in absurd (omega (arith, no))

a_header_is_read : IsHeader (numbers 5 4 1) (header 2 5 4 1)
unfolding number_at
a_header_is_read =
    record {
      text = refl;
      known = refl;
      version_is = refl;
      next_is = refl;
      first_is = refl;
      count_is = refl;
    }

so_is_one_of_version_1 : IsHeader (numbers 5 4 1) (header 1 5 4 1)
unfolding number_at
so_is_one_of_version_1 =
    record {
      text = refl;
      known = refl;
      version_is = refl;
      next_is = refl;
      first_is = refl;
      count_is = refl;
    }

so_is_one_of_version_3 : IsHeader (of_version Three 5 4 1) (header 3 5 4 1)
unfolding number_at
so_is_one_of_version_3 =
    record {
      text = refl;
      known = refl;
      version_is = refl;
      next_is = refl;
      first_is = refl;
      count_is = refl;
    }

version_1_is_read_as_2 : map (λ version. opened_version (gate ∷ header version 3 0 0 ∷ [] ∷ []))
    (1 ∷ 2 ∷ 3 ∷ []) ≡ Two ∷ Two ∷ Three ∷ []
unfolding number_at
version_1_is_read_as_2 = refl

no_other_numbers_are_read : (h : Header) → IsHeader h (header 1 5 4 1) → h ≡ numbers 5 4 1
unfolding number_at
no_other_numbers_are_read h is = ap (λ v. of_version v h.next h.first h.count) (sym is.version_is)
    ∙ ap (λ n. numbers n h.first h.count) (sym is.next_is)
    ∙ ap (λ n. numbers 5 n h.count) (sym is.first_is) ∙ ap (λ n. numbers 5 4 n) (sym is.count_is)

a_gate_is_no_header : (h : Header) → IsHeader h gate → ⊥
unfolding number_at
a_gate_is_no_header h is = let no = is.text in absurd (omega (arith, no))

version_0_is_not_known : (h : Header) → IsHeader h (header 0 5 4 1) → ⊥
unfolding number_at
version_0_is_not_known h is = let no : false ≡ true = is.known in absurd (cc)

kinds_and_links_are_read : map (λ page. kind_of page ∷ link_of page ∷ [])
    ((5 ∷ 1 ∷ 1 ∷ 1 ∷ 0 ∷ 0 ∷ 1 ∷ 0 ∷ []) ∷ (4 ∷ []) ∷ []) ≡ (5 ∷ 256 ∷ []) ∷ (4 ∷ 0 ∷ []) ∷ []
unfolding number_at
kinds_and_links_are_read = refl

-- ---- the numbers of a header

sound_numbers : map is_sound
    (numbers 3 0 0 ∷ numbers 4 3 1 ∷ numbers 4 0 0 ∷ numbers 5 4 1 ∷ numbers 5 3 2 ∷ []) ≡ replicate 5 true
sound_numbers = refl

the_catalog_is_given_out : map is_sound (numbers 0 0 0 ∷ numbers 2 0 0 ∷ []) ≡ replicate 2 false
the_catalog_is_given_out = refl

the_first_free_page_is_from_3_to_next : map (λ first. is_sound (numbers 5 first 1))
    (1 ∷ 2 ∷ 3 ∷ 4 ∷ 5 ∷ 6 ∷ []) ≡ false ∷ false ∷ true ∷ true ∷ false ∷ false ∷ []
the_first_free_page_is_from_3_to_next = refl

a_first_one_is_counted : map is_sound (numbers 5 3 0 ∷ numbers 5 0 1 ∷ []) ≡ replicate 2 false
a_first_one_is_counted = refl

no_more_are_free_than_there_are : map (λ count. is_sound (numbers 6 3 count))
    (1 ∷ 2 ∷ 3 ∷ 4 ∷ []) ≡ true ∷ true ∷ true ∷ false ∷ []
no_more_are_free_than_there_are = refl

-- ---- opening

the_first_check_that_fails_is_answered : first_fault
    ((false, NotAStore) ∷ (true, NotClosed) ∷ (true, WrongVersion) ∷ []) ≡ Some NotClosed
the_first_check_that_fails_is_answered = refl

where_none_fails_none_is_answered : map first_fault ([] ∷ ((false, NotAStore) ∷ []) ∷ []) ≡ None ∷ None ∷ []
where_none_fails_none_is_answered = refl

opened : map failed_check
    ((gate ∷ header 2 3 0 0 ∷ [] ∷ []) ∷ (gate ∷ header 1 4 3 1 ∷ [] ∷ [] ∷ [])
    ∷ (gate ∷ header 3 3 0 0 ∷ [] ∷ [] ∷ []) ∷ []) ≡ None ∷ None ∷ None ∷ []
unfolding failed_check gate_checks header_checks number_at
opened = refl

fewer_than_3_blocks_are_no_store : map failed_check
    ([] ∷ (gate ∷ header 1 3 0 0 ∷ []) ∷ (open_gate ∷ header 0 3 0 0 ∷ []) ∷ []) ≡ replicate 3
    (Some NotAStore)
unfolding failed_check gate_checks header_checks number_at
fewer_than_3_blocks_are_no_store = refl

a_wrong_gate_before_an_open_one : failed_check ((codes "RSTARGAX" ++ 0 ∷ []) ∷ header 0 3 0 0 ∷ [] ∷ []) ≡ Some NotAStore
unfolding failed_check gate_checks header_checks number_at
a_wrong_gate_before_an_open_one = refl

an_open_gate_before_a_wrong_header : map (λ first. failed_check (first ∷ [] ∷ [] ∷ [])) (open_gate ∷ (codes "RSTARGAT" ++ 2 ∷ []) ∷ []) ≡ replicate 2 (Some NotClosed)
unfolding failed_check gate_checks header_checks number_at
an_open_gate_before_a_wrong_header = refl

a_wrong_header_before_an_unknown_version : failed_check (gate ∷ (codes "RSTARHDX" ++ 0 ∷ 0 ∷ []) ∷ [] ∷ []) ≡ Some NotAStore
unfolding failed_check gate_checks header_checks number_at
a_wrong_header_before_an_unknown_version = refl

an_unknown_version_before_bad_numbers : map (λ version. failed_check (gate ∷ header version 9 9 9 ∷ [] ∷ []))
    (0 ∷ 4 ∷ 255 ∷ []) ≡ replicate 3 (Some WrongVersion)
unfolding failed_check gate_checks header_checks number_at
an_unknown_version_before_bad_numbers = refl

a_version_above_the_newest_is_not_read : map (failed_check_up_to Two)
    ((gate ∷ header 1 3 0 0 ∷ [] ∷ []) ∷ (gate ∷ header 2 3 0 0 ∷ [] ∷ []) ∷ (gate ∷ header 3 3 0 0 ∷ [] ∷ [])
    ∷ []) ≡ None ∷ None ∷ Some WrongVersion ∷ []
unfolding failed_check_up_to gate_checks header_checks_up_to number_at
a_version_above_the_newest_is_not_read = refl

a_newer_version_before_bad_numbers : map (λ version. failed_check_up_to Two (gate ∷ header version 9 9 9 ∷ [] ∷ []))
    (2 ∷ 3 ∷ []) ≡ Some (Damaged 1) ∷ Some WrongVersion ∷ []
unfolding failed_check_up_to gate_checks header_checks_up_to number_at
a_newer_version_before_bad_numbers = refl

next_beyond_the_blocks_is_damage : map (λ next. failed_check (gate ∷ header 1 next 0 0 ∷ [] ∷ [] ∷ []))
    (2 ∷ 3 ∷ 4 ∷ 5 ∷ []) ≡ Some (Damaged 1) ∷ None ∷ None ∷ Some (Damaged 1) ∷ []
unfolding failed_check gate_checks header_checks number_at
next_beyond_the_blocks_is_damage = refl

numbers_at_odds_are_damage : failed_check (gate ∷ header 1 3 0 1 ∷ [] ∷ []) ≡ Some (Damaged 1)
unfolding failed_check gate_checks header_checks number_at
numbers_at_odds_are_damage = refl

no_blocks_are_refused : IsRefused []
unfolding failed_check
no_blocks_are_refused = refl

abbrev pub closed : Blocks
closed = gate ∷ header 1 3 0 0 ∷ [] ∷ []

pub a_closed_file_is_not_refused : IsRefused closed → ⊥
unfolding failed_check gate_checks header_checks number_at
a_closed_file_is_not_refused h = absurd (cc)

-- ---- faults

faults_are_numbered : map number_of
    (Memory ∷ Device ∷ Damaged 7 ∷ NotClosed ∷ NotAStore ∷ WrongVersion ∷ NoPages ∷ []) ≡ 16 ∷ 17 ∷ 18 ∷ 20
    ∷ 21 ∷ 22 ∷ 25 ∷ []
faults_are_numbered = refl

errors_of_the_device_are_its_faults : map fault_of (error.Failed ∷ error.Memory ∷ []) ≡ Device ∷ Memory ∷ []
errors_of_the_device_are_its_faults = refl

memory_and_device_are_of_the_device : IsOfDevice Memory × IsOfDevice Device
memory_and_device_are_of_the_device = (inl refl, inr refl)

want_of_page_numbers_is_not_of_the_device : IsOfDevice NoPages → ⊥
want_of_page_numbers_is_not_of_the_device (inl h) = absurd (cc)
want_of_page_numbers_is_not_of_the_device (inr h) = absurd (cc)

any_page_may_be_damaged : (page : ℕ) → IsDamage (Damaged page)
any_page_may_be_damaged page = (page, refl)

no_other_fault_is_damage : IsDamage NotAStore → ⊥
no_other_fault_is_damage h = let no = h.1 in absurd (cc)

a_fault_of_the_device_counts : map (λ f. faults_after f 4)
    (Memory ∷ Device ∷ Damaged 7 ∷ NotClosed ∷ NotAStore ∷ WrongVersion ∷ NoPages ∷ []) ≡ 4 ∷ 5 ∷ 4 ∷ 4 ∷ 4
    ∷ 4 ∷ 4 ∷ []
a_fault_of_the_device_counts = refl

the_greatest_count_stays : faults_after Device 18446744073709551615 ≡ 18446744073709551615
the_greatest_count_stays = refl

success_has_no_fault : HasCause {T = ℕ} 4 4 (Ok 0)
success_has_no_fault = record { ok = refl; refused = tt }

success_hides_no_fault : HasCause {T = ℕ} 4 5 (Ok 0) → ⊥
success_hides_no_fault h = absurd (omega (arith, h.ok))

a_failed_device_is_named : HasCause {T = ℕ} 4 5 (Err Device)
a_failed_device_is_named = record { ok = tt; refused = refl }

want_of_memory_hides_no_fault : HasCause {T = ℕ} 4 5 (Err Memory) → ⊥
want_of_memory_hides_no_fault h = absurd (omega (arith, h.refused))

the_device_is_not_named_without_a_fault : HasCause {T = ℕ} 4 4 (Err Device) → ⊥
the_device_is_not_named_without_a_fault h = absurd (omega (arith, h.refused))
