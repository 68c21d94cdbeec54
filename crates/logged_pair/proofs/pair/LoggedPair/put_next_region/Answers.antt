-- Flag and count of the next region are written.
use Rattle.std.proofs.Common.{◌≡◌, ◌∙◌, ◌+◌, ℕ, List, ap, arith, inr, length, refl, subst, sym}
use Rattle.block_device.specs.Device.{written}
use Rattle.committed_log.specs.Committed as regions
use Rattle.logged_pair.specs.CommitLaws.{few_seen}
use Rattle.logged_pair.specs.Index.{HasIndex, HasNext}
use Rattle.logged_pair.specs.Standing.{IsHonest, base_of, homes_of, journal_of, shown_of}
use Rattle.logged_pair.proofs.Indexing.{next_written}
use Rattle.logged_pair.proofs.Stood.{elsewhere_is, on_ok}
use Rattle.logged_pair.proofs.Snapped.{snapshots_then}
use Rattle.logged_pair.proofs.pair.LoggedPair.put_next_region.Given as given
use Rattle.logged_pair.proofs.pair.LoggedPair.put_next_region.Goals as goal
use Rattle.logged_pair.proofs.pair.LoggedPair.put_next_region.Goals.{After-put_journal, After-put_journal-2}

-- what is read, after the flag
flag_so : (g : given.Over) (c : After-put_journal g) → IsHonest c.args.self.now
    → shown_of c.put_journal.new.self ≡ shown_of c.args.self.now
flag_so g c h =
    let d = c.args.self.now in let e = c.put_journal.new.self in
    elsewhere_is (homes_of d) (homes_of e) (journal_of d) (journal_of e) (base_of d) (base_of e)
    c.put_journal.ensures.slots.homes (c.put_journal.ensures.base h)
    (few_seen d.log (g.met.P.DevicePair.few_blocks (regions.pair_of d.log)).0) (d.standing h).room
    _ (inr (omega (arith, c.len-count.ensures))) (c.put_journal.ensures.torn h)

-- index and flag, after both
next_so : (g : given.Over) (c : After-put_journal-2 g) → IsHonest c.args.self.now
    → journal_of c.put_journal-2.new.self
    ≡ written (2 + c.len-count.result + c.div_ceil.result + 1) c.zero_block.result
    (journal_of c.put_journal.new.self)
    → HasIndex (homes_of c.put_journal-2.new.self) (journal_of c.put_journal-2.new.self)
    × HasNext (homes_of c.put_journal-2.new.self) (journal_of c.put_journal-2.new.self)
next_so g c h w =
    let d = c.args.self.now in let m = c.put_journal.new.self in let e = c.put_journal-2.new.self in
    let at : ℕ = 2 + c.len-count.result + c.div_ceil.result in
    subst (λ (hs : List ℕ). HasIndex hs (journal_of e) × HasNext hs (journal_of e))
    (sym (c.put_journal-2.ensures.slots.homes ∙ c.put_journal.ensures.slots.homes))
    (next_written (homes_of d) c.len-count.result at (at + 1) c.zero_block.result (journal_of d) (journal_of m)
    (journal_of e) c.len-count.ensures (ap (λ (k : ℕ). 2 + c.len-count.result + k) c.div_ceil.ensures) refl
    (c.in_ok-put_journal.ensures.written h ∙ ap (λ (x : List ℕ). written at x (journal_of d)) c.flag_page.ensures)
    w (c.requires.index h))

pub returns-in_err-put_journal-clause-shown : goal.returns-in_err-put_journal-clause-shown
returns-in_err-put_journal-clause-shown g c = λ h.
    flag_so g (goal.at.returns-in_err-put_journal-clause-shown g c).After-put_journal h

pub returns-clause-shown : goal.returns-clause-shown
returns-clause-shown g c = λ h.
    let d = c.put_journal.new.self in let e = c.put_journal-2.new.self in
    let h2 = c.put_journal.ensures.honest.0 h in
    elsewhere_is (homes_of d) (homes_of e) (journal_of d) (journal_of e) (base_of d) (base_of e)
    c.put_journal-2.ensures.slots.homes (c.put_journal-2.ensures.base h2)
    (few_seen d.log (g.met.P.DevicePair.few_blocks (regions.pair_of d.log)).0) (d.standing h2).room
    _ (inr (omega (arith, c.len-count.ensures, ap length c.put_journal.ensures.slots.homes)))
    (c.put_journal-2.ensures.torn h2)
    ∙ flag_so g (goal.at.returns-clause-shown g c).After-put_journal h

pub returns-clause-index : goal.returns-clause-index
returns-clause-index g c = λ h.
    on_ok c.put_journal-2.result _ _
    (λ w. (next_so g (goal.at.returns-clause-index g c).After-put_journal-2 h w).0)
    (c.put_journal-2.ensures.written (c.put_journal.ensures.honest.0 h))

pub returns-clause-next : goal.returns-clause-next
returns-clause-next g c = λ h.
    on_ok c.put_journal-2.result _ _
    (λ w. (next_so g (goal.at.returns-clause-next g c).After-put_journal-2 h w).1)
    (c.put_journal-2.ensures.written (c.put_journal.ensures.honest.0 h))

pub returns-clause-snapshots : goal.returns-clause-snapshots
returns-clause-snapshots g c = λ h.
    snapshots_then c.args.self.now c.put_journal.new.self c.put_journal-2.new.self
    (c.put_journal.ensures.snapshots h) (c.put_journal-2.ensures.snapshots (c.put_journal.ensures.honest.0 h))
