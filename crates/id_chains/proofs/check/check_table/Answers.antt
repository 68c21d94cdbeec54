-- The goals of `check_table` that are proved by hand: a directory that is none, and chains that cannot be
-- its.
use Rattle.std.proofs.Common.{◌≡◌, ◌∙◌, ◌++◌, ◌∷◌, ◌<◌, [], ℕ, List, None, Vec, ap, arith, inl, inr, length}
use Rattle.std.proofs.Common.{subst, sym}
use Rattle.page_file.specs.Fault.{IsOfDevice}
use Rattle.page_file.specs.declared.fault.Fault.TheVariants as fault
use Rattle.page_cache.specs.Cache.{given, pages}
use Rattle.page_cache.specs.Calls.{asks_and_refuses, asks_in_turn, no_call_asks}
use Rattle.page_cache.specs.Laws.{a_live_page_was_given_out}
use Rattle.node_page.specs.Checked.{named_pages}
use Rattle.node_page.proofs.CheckLemmas.{quiet_visit, refuses_quietly}
use Rattle.node_page.proofs.DamageLemmas.{damaged_read, damaged_visit}
use Rattle.node_page.proofs.NodeLemmas.{at_error}
use Rattle.id_chains.specs.Checked.{IsCheckedTable}
use Rattle.id_chains.proofs.BucketLemmas.{is_there}
use Rattle.id_chains.proofs.CheckedLemmas.{chains_on, checked_live, is_spelled, live_table_is_given, may_stand}
use Rattle.id_chains.proofs.CheckedLemmas.{may_stand_on, table_checked}
use Rattle.id_chains.proofs.DamageLemmas.{comes_so}
use Rattle.id_chains.proofs.check.check_table.Goals as goal

pub returns-in_err-come_to-clause-asks : goal.returns-in_err-come_to-clause-asks
returns-in_err-come_to-clause-asks g c =
    refuses_quietly c.args.cache.now c.args.cache.now c.in_err-come_to.field-0.0
    c.from_residual-in_err-come_to.result c.from_residual-in_err-come_to.ensures.1
    (no_call_asks c.args.cache.now)
    (quiet_visit c.in_err-come_to.field-0.0 _ c.in_err-come_to.ensures.faults)

pub returns-in_err-come_to-clause-stands : goal.returns-in_err-come_to-clause-stands
returns-in_err-come_to-clause-stands g c = λ h t at stands.
    let old = c.args.cache.now in
    let here = c.args.directory in
    let out =
    a_live_page_was_given_out old here
    (is_there (pages old here) stands.directory (ap (pages old) (sym at) ∙ stands.there)) in
    let low : 2 < here = subst (λ (n : ℕ). 2 < n) at stands.low in
    let none = ap (λ (list : List ℕ). named_pages list here) c.in_ok-visits.ensures.none in
    let within : here < length c.in_ok-visits.visits.marks.items =
    omega (arith, out.1, c.in_ok-visits.ensures.marks, c.next_number.ensures) in
    at_error c.from_residual-in_err-come_to.result c.in_err-come_to.field-0.0 IsOfDevice
    c.from_residual-in_err-come_to.ensures.1
    (inl (c.in_err-come_to.ensures.first low none within))

pub returns-then-not-is_directory-clause-stands : goal.returns-then-not-is_directory-clause-stands
returns-then-not-is_directory-clause-stands g c = λ h t at stands.
    let old = c.args.cache.now in
    let spelled =
    is_spelled g.row.D (given old) t c.args.directory c.in_ok-bytes.bytes at
    (c.in_ok-bytes.ensures.given_bytes h) (live_table_is_given g.row.D old t stands) in
    let good = c.is_directory.ensures.1 spelled in
    absurd (cc)

pub returns-in_err-add_chains-clause-asks : goal.returns-in_err-add_chains-clause-asks
returns-in_err-add_chains-clause-asks g c =
    asks_and_refuses c.args.cache.now c.copy_page.new.cache c.add_chains.new.cache
    c.in_err-add_chains.field-0.0 c.from_residual-in_err-add_chains.result
    c.from_residual-in_err-add_chains.ensures.1
    c.in_ok-bytes.ensures.asks c.in_err-add_chains.ensures.asks

pub returns-in_err-add_chains-clause-stands : goal.returns-in_err-add_chains-clause-stands
returns-in_err-add_chains-clause-stands g c = λ h t at stands.
    let old = c.args.cache.now in
    let a = c.in_ok-bytes.ensures.asks in
    let there = live_table_is_given g.row.D old t stands in
    let list = c.in_ok-come_to.ensures.added
    ∙ ap (λ (xs : List ℕ). xs ++ c.args.directory ∷ []) c.in_ok-visits.ensures.none in
    let may =
    may_stand g.row.D (given old) t c.args.directory c.in_ok-bytes.bytes c.come_to.new.visits.pages.items
    at (c.in_ok-bytes.ensures.given_bytes h) there list in
    at_error c.from_residual-in_err-add_chains.result c.in_err-add_chains.field-0.0 IsOfDevice
    c.from_residual-in_err-add_chains.ensures.1
    (c.in_err-add_chains.ensures.stands (a.gate.honest.0 h) t.chains stands.whole
    (may_stand_on g.row.D (given old) (given c.copy_page.new.cache) c.in_ok-bytes.bytes t.chains
    c.come_to.new.visits.pages.items (λ n. a.map.given_stay h n) may))

pub returns-clause-asks : goal.returns-clause-asks
returns-clause-asks g c =
    asks_in_turn c.args.cache.now c.copy_page.new.cache c.add_chains.new.cache None
    c.in_ok-bytes.ensures.asks c.in_ok-add_chains.ensures.asks

pub returns-clause-given_table : goal.returns-clause-given_table
returns-clause-given_table g c = λ h.
    let old = c.args.cache.now in
    let a = c.in_ok-bytes.ensures.asks in
    let list = c.in_ok-come_to.ensures.added
    ∙ ap (λ (xs : List ℕ). xs ++ c.args.directory ∷ []) c.in_ok-visits.ensures.none in
    let checked =
    table_checked g.row.D (given old) c.args.directory c.in_ok-bytes.bytes c.new-pairs.result.items
    c.add_chains.new.pairs.items c.come_to.new.visits.pages.items c.add_chains.new.visits.pages.items
    (c.in_ok-bytes.ensures.given_bytes h) c.in_ok-come_to.ensures.low
    (c.is_directory.ensures.0 c.if-not-is_directory.false) c.new-pairs.ensures.items list
    c.add_chains.new.visits.marked.once
    (chains_on g.row.D (given c.copy_page.new.cache) (given old) c.in_ok-bytes.bytes 1000
    c.new-pairs.result.items c.add_chains.new.pairs.items c.come_to.new.visits.pages.items
    c.add_chains.new.visits.pages.items
    (λ n. sym (a.map.given_stay h n)) (c.in_ok-add_chains.ensures.found (a.gate.honest.0 h))) in
    subst (λ (v : Vec ℕ g.row.H.Denot). IsCheckedTable g.row.D (given old) c.args.directory
    c.add_chains.new.pairs.items v.items) (sym c.into_pages-pages.ensures) checked

pub returns-clause-table : goal.returns-clause-table
returns-clause-table g c =
    λ sound. checked_live g.row.D c.args.cache.now c.args.directory c.add_chains.new.pairs.items
    c.into_pages-pages.result.items sound (returns-clause-given_table g c sound.honest)

pub returns-in_err-come_to-clause-damage : goal.returns-in_err-come_to-clause-damage
returns-in_err-come_to-clause-damage g c = λ h.
    at_error c.from_residual-in_err-come_to.result c.in_err-come_to.field-0.0 _
    c.from_residual-in_err-come_to.ensures.1
    (λ n damaged. inl
    (damaged_visit c.in_err-come_to.field-0.0 c.args.directory n c.in_err-come_to.ensures.faults damaged))

pub returns-in_err-bytes-clause-damage : goal.returns-in_err-bytes-clause-damage
returns-in_err-bytes-clause-damage g c = λ h.
    at_error c.from_residual-in_err-bytes.result c.in_err-bytes.field-0.0 _
    c.from_residual-in_err-bytes.ensures.1
    (λ n damaged. inl
    (damaged_read c.in_err-bytes.field-0.0 c.args.directory n (c.in_err-bytes.ensures.damage h) damaged))

pub returns-then-not-is_directory-clause-damage : goal.returns-then-not-is_directory-clause-damage
returns-then-not-is_directory-clause-damage g c =
    λ h n (damaged : fault.Damaged c.args.directory ≡ fault.Damaged n). inl (cc)

pub returns-in_err-add_chains-clause-damage : goal.returns-in_err-add_chains-clause-damage
returns-in_err-add_chains-clause-damage g c = λ h.
    let m = given c.args.cache.now in
    let a = c.in_ok-bytes.ensures.asks in
    at_error c.from_residual-in_err-add_chains.result c.in_err-add_chains.field-0.0 _
    c.from_residual-in_err-add_chains.ensures.1
    (λ n damaged.
    let from = c.in_err-add_chains.ensures.damage (a.gate.honest.0 h) n damaged in
    inr (
      c.in_ok-bytes.bytes,
      c.in_ok-bytes.ensures.given_bytes h,
      c.is_directory.ensures.0 c.if-not-is_directory.false,
      (
        from.0,
        from.1,
        comes_so g.row.D m (given c.copy_page.new.cache) _ n (λ k. a.map.given_stay h k) from.2,
      ),
    ))
