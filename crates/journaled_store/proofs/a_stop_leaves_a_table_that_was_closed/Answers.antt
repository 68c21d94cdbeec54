-- A stop brings back a commit, and each is of a table that was closed.
use Rattle.std.proofs.Common.{◌≡◌, ◌∙◌, None, ap, sym, arith}
use Rattle.std.specs.Prelude.{is_some}
use Rattle.block_device.specs.Device.{Blocks}
use Rattle.committed_log.specs.Log.{recovered}
use Rattle.journaled_device.specs.Journaled.{pair_of}
use Rattle.layer_store.specs.Representation.{device_in}
use Rattle.layer_store.proofs.StoreLemmas.{what_is_kept}
use Rattle.page_file.specs.Opening.{IsRefused, failed_check}
use Rattle.journaled_store.proofs.a_stop_leaves_a_table_that_was_closed.Goals as goal

pub returns-clause-now : goal.returns-clause-now
returns-clause-now g c = λ store s a b represents left.
    c.a_stop_is_found_to_have_left_a_closed_table.ensures.now store s represents
    (λ k. (λ taken. taken, λ passes. passes)) (recovered a b)
    (c.recovery_gives_a_commit.ensures (device_in store) a b (what_is_kept store s represents).honest left)

pub returns-clause-so_far : goal.returns-clause-so_far
returns-clause-so_far g c = λ store s a b represents left.
    c.a_stop_is_found_to_have_left_a_closed_table.ensures.so_far store s represents
    (λ k. (λ taken. taken, λ passes. passes)) (recovered a b)
    (c.stops_of_the_pair_are_found.ensures (device_in store) s.stops.since s.stops.since a b
    (what_is_kept store s represents).honest (omega arith) left)

pub returns-clause-given_up : goal.returns-clause-given_up
returns-clause-given_up g c = λ store s represents.
    let pair = pair_of (device_in store) in
    let honest = (what_is_kept store s represents).honest in
    c.a_stop_is_found_to_have_left_a_closed_table.ensures.now store s represents
    (λ k. (λ taken. taken, λ passes. passes))
    (recovered (g.P.DevicePair.base pair) (g.P.DevicePair.journal pair))
    (c.recovery_gives_a_commit.ensures (device_in store) (g.P.DevicePair.base pair)
    (g.P.DevicePair.journal pair) honest (g.met.P.DevicePair.shown_counts pair honest))

-- blocks that pass the checks are not refused
not_refused : (c : Blocks) → failed_check c ≡ None → IsRefused c → ⊥
not_refused c passes refused = let no = ap is_some (sym passes) ∙ refused in cc

pub returns-clause-never_refused : goal.returns-clause-never_refused
returns-clause-never_refused g c = λ store s a b represents left.
    let found =
    c.a_stop_is_found_to_have_left_a_closed_table.ensures.so_far store s represents
    (λ k. (λ taken. taken, λ passes. passes)) (recovered a b)
    (c.stops_of_the_pair_are_found.ensures (device_in store) s.stops.since s.stops.since a b
    (what_is_kept store s represents).honest (omega arith) left) in
    not_refused (recovered a b) found.2.passes
