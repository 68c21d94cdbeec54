-- Worked examples of the pages of a file: which are live, which chains of free pages are sound, what a stop
-- may leave, and what calls keep. No other proof rests on them. A definition that says another thing than
-- docs/FORMAT.md is refused here.
use Rattle.block_device.specs.Moments.{brings_nothing}
use Rattle.std.proofs.Common.{◌≡◌, ◌∙◌, ℕ, zero, suc, List, [], ◌∷◌, Option, Some, None, true, false, eqb}
use Rattle.std.proofs.Common.{◌-◌}
use Rattle.std.proofs.Common.{if◌then◌else◌, refl, sym, ap, subst, arith, inl, inr, lit<, ⊎_elim, drop, map}
use Rattle.std.specs.List.{IsDistinct}
use Rattle.std.specs.Prelude.{IsSome, slice_get}
use Rattle.std.proofs.lemmas.Bool.Decides.{nat_tests}
use Rattle.block_bytes.specs.Numbers.{zeros, number_at}
use Rattle.block_device.specs.Device.{Blocks, block_at, written, no_recovery}
use Rattle.block_device.specs.Outcomes.{repeated_block}
use Rattle.page_file.specs.Breaks.{a_sound_chain_breaks_nowhere}
use Rattle.page_file.specs.Chains.{a_chain_is_distinct}
use Rattle.page_file.specs.File.{IsHonest, IsPageMap, KeepsGate, KeepsMap, LiesIn, blocks_of, gate_of}
use Rattle.page_file.specs.File.{next_of, pages, version_of}
use Rattle.page_file.specs.Layout.{gate_block}
use Rattle.page_file.specs.Opening.{gate_checks, header_checks, failed_check, IsRefused}
use Rattle.page_file.specs.Pages.{chain, free_pages_of, is_live, page_of, given_pages, pages_in, next_in}
use Rattle.page_file.specs.Pages.{BreaksAt, IsChain, HasFreeChain, IsSoundMap, SameBut, free_page_link}
use Rattle.page_file.specs.Reading.{shut-gate}
use Rattle.page_file.specs.Stops.{SameButGate, StopSince, StopNow, GateAside, TornFrom, IsOpen, AllLeave}
use Rattle.page_file.specs.Stops.{AddsOnly}
use Rattle.page_file.specs.declared.file.PageFile.{PageFile}
use Rattle.page_file.specs.declared.gate.Gate.TheVariants.{Shut, Open, Unsure}
use Rattle.page_file.specs.declared.header.Header.{Header}
use Rattle.page_file.specs.declared.header.Version.TheVariants.{Two, Three}
use Rattle.page_file.proofs.Examples.{numbers, gate, open_gate, header, closed, a_closed_file_is_not_refused}

-- ---- the pages

abbrev free : ℕ → List ℕ
free next = 5 ∷ 0 ∷ 0 ∷ 0 ∷ 0 ∷ 0 ∷ 0 ∷ next ∷ []

-- pages 2 to 5 were given out, of which 4 and then 3 are free; page 6 is none yet
abbrev blocks : Blocks
blocks = gate ∷ header 1 6 4 2 ∷ (1 ∷ []) ∷ free 0 ∷ free 3 ∷ (7 ∷ []) ∷ (8 ∷ []) ∷ []

free_pages_name_the_next : map (λ count. chain blocks count 4)
    (0 ∷ 1 ∷ 2 ∷ 3 ∷ []) ≡ [] ∷ (4 ∷ []) ∷ (4 ∷ 3 ∷ []) ∷ (4 ∷ 3 ∷ []) ∷ []
unfolding number_at
free_pages_name_the_next = refl

a_number_below_3_ends_the_list : map (chain blocks 1) (0 ∷ 1 ∷ 2 ∷ 3 ∷ []) ≡ [] ∷ [] ∷ [] ∷ (3 ∷ []) ∷ []
a_number_below_3_ends_the_list = refl

live_pages_are_given_out_and_not_free : map (is_live blocks (numbers 6 4 2))
    (0 ∷ 1 ∷ 2 ∷ 3 ∷ 4 ∷ 5 ∷ 6 ∷ []) ≡ false ∷ false ∷ true ∷ false ∷ false ∷ true ∷ false ∷ []
unfolding number_at
live_pages_are_given_out_and_not_free = refl

live_pages_have_their_bytes : map (page_of blocks (numbers 6 4 2)) (1 ∷ 2 ∷ 3 ∷ 4 ∷ 5 ∷ 6 ∷ []) ≡ None ∷ Some
    (1 ∷ []) ∷ None ∷ None ∷ Some (7 ∷ []) ∷ None ∷ []
unfolding number_at
live_pages_have_their_bytes = refl

free_pages_are_given_out_too : map (given_pages blocks 6) (0 ∷ 1 ∷ 2 ∷ 3 ∷ 5 ∷ 6 ∷ []) ≡ None ∷ None ∷ Some
    (1 ∷ []) ∷ Some (free 0) ∷ Some (7 ∷ []) ∷ None ∷ []
free_pages_are_given_out_too = refl

a_closed_file_has_the_header_of_block_1 : next_in blocks ≡ 6
unfolding number_at
a_closed_file_has_the_header_of_block_1 = refl

its_pages_are_those_of_that_header : map (pages_in blocks) (4 ∷ 5 ∷ []) ≡ None ∷ Some (7 ∷ []) ∷ []
unfolding number_at
its_pages_are_those_of_that_header = refl

two_free_pages_in_a_row : IsChain blocks 6 2 4
unfolding number_at
two_free_pages_in_a_row = (omega arith, omega arith, refl, (omega arith, omega arith, refl, refl))

the_last_free_page_names_0 : IsChain blocks 6 1 4 → ⊥
unfolding number_at
the_last_free_page_names_0 h = absurd (omega (arith, h.3))

page_0_is_no_free_page : IsChain blocks 6 3 4 → ⊥
unfolding number_at
page_0_is_no_free_page h = absurd (omega (arith, h.3.3.0))

free_pages_are_below_next : IsChain blocks 4 2 4 → ⊥
free_pages_are_below_next h = absurd (omega (arith, h.1))

the_greatest_may_be_one_less_than_next : IsChain blocks 5 2 4
unfolding number_at
the_greatest_may_be_one_less_than_next =
    (omega arith, omega arith, refl, (omega arith, omega arith, refl, refl))

the_catalog_is_no_free_page : IsChain (gate ∷ [] ∷ free 0 ∷ []) 6 1 2 → ⊥
the_catalog_is_no_free_page h = absurd (omega (arith, h.0))

a_page_of_another_kind_is_not_free : IsChain (gate ∷ [] ∷ [] ∷ (4 ∷ []) ∷ []) 6 1 3 → ⊥
unfolding number_at
a_page_of_another_kind_is_not_free h = absurd (omega (arith, h.2))

a_sound_map : IsSoundMap blocks
unfolding number_at
a_sound_map = two_free_pages_in_a_row

-- page 4 names another one, where the count has it as the last
a_chain_longer_than_the_count_breaks : BreaksAt blocks (numbers 6 4 1) 4
unfolding number_at
a_chain_longer_than_the_count_breaks = record {
  before = 0;
  counted = omega arith;
  linked = λ i k less. absurd (omega (arith, less));
  leads = refl;
  broken = refl;
}

-- page 3, to which page 4 leads, names none, where the count has one more
a_chain_shorter_than_the_count_breaks : BreaksAt blocks (numbers 6 4 3) 3
unfolding number_at
a_chain_shorter_than_the_count_breaks = record {
  before = 1;
  counted = omega arith;
  linked = λ i k less at.
      let first : i ≡ 0 = omega (arith, less) in
      let there : Some 4 ≡ Some k = sym (ap (slice_get (4 ∷ 3 ∷ [])) first) ∙ at in let is : 4 ≡ k = cc in
      subst (λ (j : ℕ). IsSome (free_page_link (3 - j) 6 (block_at k blocks))) (sym first)
      (subst (λ (n : ℕ). IsSome (free_page_link 3 6 (block_at n blocks))) is refl);
  leads = refl;
  broken = refl;
}

a_sound_chain_has_no_break : (n : ℕ) → BreaksAt blocks (numbers 6 4 2) n → ⊥
a_sound_chain_has_no_break n h =
    a_sound_chain_breaks_nowhere blocks (numbers 6 4 2) n two_free_pages_in_a_row h

-- page 3 names itself
a_cycle_is_no_chain : (next count : ℕ) → IsChain (gate ∷ [] ∷ [] ∷ free 3 ∷ []) next count 3 → ⊥
unfolding number_at
a_cycle_is_no_chain next zero h = absurd (omega (arith, h))
a_cycle_is_no_chain next (suc count) h = a_cycle_is_no_chain next count h.3

no_cycle_is_sound : (next count : ℕ) → HasFreeChain (gate ∷ [] ∷ [] ∷ free 3 ∷ []) (numbers next 3 count) → ⊥
no_cycle_is_sound next count h = a_cycle_is_no_chain next count h

no_page_is_free_twice : (bs : Blocks) (h : Header) → free_pages_of bs h ≡ 3 ∷ 3 ∷ [] → HasFreeChain bs h → ⊥
unfolding IsDistinct
no_page_is_free_twice bs h twice f =
    let d = subst (IsDistinct eqb) twice (a_chain_is_distinct bs h.next h.count h.first f) in
    let no = d.0.0 in absurd (cc)

abbrev page_3_alone : List ℕ → ℕ → Option (List ℕ)
page_3_alone page n = if eqb n 3 then Some page else None

another_page_3_is_the_same_but_for_page_3 : SameBut 3 (page_3_alone (1 ∷ [])) (page_3_alone (2 ∷ []))
another_page_3_is_the_same_but_for_page_3 k other = let e : eqb k 3 ≡ false = grind (arith, nat_tests) in
    rw e refl

another_page_3_is_not_the_same_but_for_page_4 : SameBut 4 (page_3_alone (1 ∷ [])) (page_3_alone (2 ∷ [])) → ⊥
another_page_3_is_not_the_same_but_for_page_4 h = let no = h 3 (λ e. omega (arith, e)) in absurd (cc)

-- ---- what a stop leaves

the_gate_does_not_count : SameButGate ((1 ∷ []) ∷ (2 ∷ []) ∷ []) ((9 ∷ []) ∷ (2 ∷ []) ∷ [])
the_gate_does_not_count = refl

block_1_counts : SameButGate ((1 ∷ []) ∷ (2 ∷ []) ∷ []) ((1 ∷ []) ∷ (9 ∷ []) ∷ []) → ⊥
block_1_counts h = absurd (cc)

how_many_blocks_there_are_counts : SameButGate ((1 ∷ []) ∷ (2 ∷ []) ∷ []) ((1 ∷ []) ∷ []) → ⊥
how_many_blocks_there_are_counts h = absurd (cc)

-- blocks that differ from the closed ones in the gate, and in block 2
abbrev gate_torn : Blocks
gate_torn = (8 ∷ []) ∷ header 1 3 0 0 ∷ [] ∷ []

abbrev page_torn : Blocks
page_torn = gate ∷ header 1 3 0 0 ∷ (8 ∷ []) ∷ []

behind_a_shut_gate_a_stop_leaves_what_is_read : (StopNow Shut closed closed) × (StopSince Shut closed closed)
behind_a_shut_gate_a_stop_leaves_what_is_read = (refl, refl)

behind_a_shut_gate_a_stop_leaves_no_torn_gate : StopNow Shut closed gate_torn → ⊥
behind_a_shut_gate_a_stop_leaves_no_torn_gate h = absurd (cc)

since_a_shut_gate_a_stop_leaves_no_torn_gate : StopSince Shut closed gate_torn → ⊥
since_a_shut_gate_a_stop_leaves_no_torn_gate h = absurd (cc)

since_a_shut_gate_a_stop_leaves_no_torn_page : StopSince Shut closed page_torn → ⊥
since_a_shut_gate_a_stop_leaves_no_torn_page h = absurd (cc)

behind_an_open_gate_a_stop_leaves_the_gate : (shown pages : Blocks)
    → StopNow Open shown (gate_block 0 ∷ pages)
behind_an_open_gate_a_stop_leaves_the_gate shown pages = refl

a_shut_gate_is_not_open : (pages : Blocks) → IsOpen (gate_block 1 ∷ pages) → ⊥
a_shut_gate_is_not_open pages h =
    absurd (omega (arith, shut-gate 0 (lit< tt), shut-gate 1 (lit< tt), ap (number_at 1 8) h))

behind_an_open_gate_a_stop_leaves_no_shut_gate : (shown pages : Blocks)
    → StopNow Open shown (gate_block 1 ∷ pages) → ⊥
behind_an_open_gate_a_stop_leaves_no_shut_gate shown pages h = a_shut_gate_is_not_open pages h

since_an_open_gate_a_stop_leaves_what_is_refused : StopSince Open closed gate_torn
unfolding failed_check gate_checks header_checks number_at
since_an_open_gate_a_stop_leaves_what_is_refused = refl

since_an_open_gate_a_stop_leaves_no_closed_file : (shown : Blocks) → StopSince Open shown closed → ⊥
since_an_open_gate_a_stop_leaves_no_closed_file shown h = a_closed_file_is_not_refused h

by_an_unsure_gate_a_stop_leaves_any_gate : (StopNow Unsure closed gate_torn) × (StopNow Unsure closed closed)
by_an_unsure_gate_a_stop_leaves_any_gate = (refl, refl)

by_an_unsure_gate_a_stop_leaves_no_torn_page : StopNow Unsure closed page_torn → ⊥
by_an_unsure_gate_a_stop_leaves_no_torn_page h = absurd (cc)

since_an_unsure_gate_a_stop_leaves_either : (StopSince Unsure closed (open_gate ∷ []))
    × (StopSince Unsure closed closed)
unfolding failed_check
since_an_unsure_gate_a_stop_leaves_either = (inl refl, inr refl)

since_an_unsure_gate_a_stop_leaves_no_other_closed_file : StopSince Unsure closed page_torn → ⊥
unfolding failed_check gate_checks header_checks number_at
since_an_unsure_gate_a_stop_leaves_no_other_closed_file (inl h) = absurd (cc)
since_an_unsure_gate_a_stop_leaves_no_other_closed_file (inr h) = absurd (cc)

an_outcome_with_another_gate : GateAside (λ c. c ≡ closed) gate_torn
an_outcome_with_another_gate = (closed, refl, refl)

no_outcome_with_another_page : GateAside (λ c. c ≡ closed) page_torn → ⊥
no_outcome_with_another_page h = let same : SameButGate page_torn closed = h.2 ∙ ap (drop 1) h.1 in
    absurd (cc)

an_outcome_that_was_not_torn : TornFrom 2 (λ c. c ≡ closed) closed
an_outcome_that_was_not_torn = (closed, refl, inl refl)

an_outcome_with_a_torn_page : TornFrom 2 (λ c. c ≡ closed) (gate ∷ header 1 3 0 0 ∷ zeros ∷ [])
unfolding zeros
an_outcome_with_a_torn_page = (closed, refl, inr (zeros, repeated_block 0 (omega arith), refl))

no_outcome_with_another_block_torn : TornFrom 2 (λ c. c ≡ closed) gate_torn → ⊥
no_outcome_with_another_block_torn (d, is, inl same) = let no = same ∙ is in absurd (cc)
no_outcome_with_another_block_torn (d, is, inr w) = let no = w.2 ∙ ap (written 2 w.0) is in absurd (cc)

all_that_is_left_is_open : (pages : Blocks) → AllLeave (λ c. c ≡ gate_block 0 ∷ pages) IsOpen
all_that_is_left_is_open pages c left = ap (block_at 0) left

not_all_that_is_left_is_refused : AllLeave (λ c. c ≡ closed) IsRefused → ⊥
not_all_that_is_left_is_refused h = a_closed_file_is_not_refused (h closed refl)

-- devices that are the moment that they are at, and leave what it is
abbrev moment : ℕ → ℕ
moment d = d

abbrev left : ℕ → ℕ → Blocks → Type 0
left d t c = c ≡ (d ∷ []) ∷ []

what_is_added_is_named : AddsOnly moment left no_recovery 1 2 (λ c. c ≡ (2 ∷ []) ∷ [])
what_is_added_is_named =
    record {
      later = omega arith;
      before = λ t c le left. inr left;
      brings = brings_nothing moment 1 2 (λ c. c ≡ (2 ∷ []) ∷ []);
    }

nothing_else_is_added : AddsOnly moment left no_recovery 1 2 (λ c. c ≡ (3 ∷ []) ∷ []) → ⊥
nothing_else_is_added h =
    ⊎_elim (λ was. absurd (cc)) (λ p. absurd (cc)) (h.before 1 ((2 ∷ []) ∷ []) (omega arith) refl)

a_later_moment_is_not_asked : AddsOnly moment (λ d t c. (d ≡ 2) × (t ≡ 2)) no_recovery 1 2 (λ c. ⊥)
a_later_moment_is_not_asked =
    record {
      later = omega arith;
      before = λ t c le left. absurd (omega (arith, le, left.1));
      brings = brings_nothing moment 1 2 (λ c. ⊥);
    }

time_does_not_go_back : (P : Blocks → Type 0) → AddsOnly moment left no_recovery 2 1 P → ⊥
time_does_not_go_back P h = absurd (omega (arith, h.later))

-- ---- what calls keep

module _ {D : Type 0} {m : _} (old new : PageFile D m) where
  a_gate_that_is_opened_is_not_kept : gate_of old ≡ Shut → gate_of new ≡ Open → KeepsGate old new → ⊥
  a_gate_that_is_opened_is_not_kept shut opened h = let no = h.gate in absurd (cc)

  behind_a_shut_gate_blocks_are_kept : IsHonest old → gate_of old ≡ Shut → blocks_of old ≡ closed
      → blocks_of new ≡ page_torn → KeepsGate old new → ⊥
  behind_a_shut_gate_blocks_are_kept honest shut was is h = let same =
      h.blocks honest (λ e. let no = sym shut ∙ e in cc) in let no = sym was ∙ sym same ∙ is in absurd (cc)

  a_page_more_is_another_map : next_of old ≡ 3 → next_of new ≡ 4 → KeepsMap old new → ⊥
  a_page_more_is_another_map was is h = absurd (omega (arith, was, is, h.next))

  a_page_freed_is_another_map : IsHonest old → pages old 3 ≡ Some [] → pages new 3 ≡ None → KeepsMap old new
      → ⊥
  a_page_freed_is_another_map honest was is h = let no = sym is ∙ h.pages_stay honest 3 ∙ was in absurd (cc)

  a_raised_version_is_another_map : IsHonest old → version_of old ≡ Two → version_of new ≡ Three
      → KeepsMap old new → ⊥
  a_raised_version_is_another_map honest was is h = let no = sym is ∙ h.version honest ∙ was in absurd (cc)

  a_map_stays_sound : (IsPageMap new → ⊥) → KeepsMap old new → IsPageMap old → ⊥
  a_map_stays_sound broken h sound = broken (h.sound.0 sound)

  no_file_lies_in_refused_blocks : LiesIn old [] → ⊥
  unfolding failed_check
  no_file_lies_in_refused_blocks h = let no = h.passes in absurd (cc)

  no_file_of_version_3_lies_in_blocks_of_version_1 : version_of old ≡ Three → LiesIn old closed → ⊥
  unfolding number_at
  no_file_of_version_3_lies_in_blocks_of_version_1 is h = let no : Two ≡ Three = h.version ∙ is in absurd (cc)

  no_file_lies_in_blocks_of_another_next : next_of old ≡ 4 → LiesIn old closed → ⊥
  unfolding number_at
  no_file_lies_in_blocks_of_another_next is h = absurd (omega (arith, is, h.next))
