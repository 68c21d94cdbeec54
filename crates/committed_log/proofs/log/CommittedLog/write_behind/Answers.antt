-- A block of the journal behind the regions.
use Rattle.std.proofs.Common.{◌≡◌, ◌+◌, ℕ, ap, arith, inl, length, refl}
use Rattle.std.proofs.lemmas.List.{length-drop}
use Rattle.block_device.specs.Device.{Torn, written}
use Rattle.committed_log.specs.Committed.{homes_of}
use Rattle.committed_log.specs.Torn.{take_torn}
use Rattle.committed_log.proofs.Stood.{behind_leaves, behind_seen, behind_stands, behind_torn, behind_written}
use Rattle.committed_log.proofs.Stood.{kept_stop, on_err, on_ok, torn_of}
use Rattle.committed_log.proofs.Appending.{appends_journal, appends_none}
use Rattle.committed_log.proofs.log.CommittedLog.write_behind.Given as given
use Rattle.committed_log.proofs.log.CommittedLog.write_behind.Goals as goal
use Rattle.committed_log.proofs.log.CommittedLog.write_behind.Goals.{After-write_journal}

-- its place in the journal
place_so : (g : given.Over) (c : After-write_journal g)
    → c.len.result + c.args.i ≡ length c.args.self.now.slots.homes.items + c.args.i
place_so g c = ap (λ (n : ℕ). n + c.args.i) c.len.ensures

torn_so : (g : given.Over) (c : After-write_journal g) → g.P.DevicePair.honest c.args.self.now.pair
    → Torn (c.len.result + c.args.i) (g.P.DevicePair.journal c.args.self.now.pair)
    (g.P.DevicePair.journal c.write_journal.new.self)
torn_so g c h =
    torn_of c.write_journal.result (c.len.result + c.args.i) c.args.bytes.now _ _
    (record { size = c.told-bytes; bytes_fit = c.fits-bytes }) (c.write_journal.ensures.written h)
    (c.write_journal.ensures.torn h)

pub returns-then-at-journal_blocks-clause-stops : goal.returns-then-at-journal_blocks-clause-stops
returns-then-at-journal_blocks-clause-stops g c = λ h v j left. (j, left, inl refl)

pub invariant_of-self : goal.invariant_of-self
invariant_of-self g c =
    let d = c.args.self.now in let p = g.P.DevicePair in let e = c.write_journal.new.self in
    let at = (goal.at.invariant_of-self g c).After-write_journal in
    record {
      standing = λ h2.
          let h = c.write_journal.ensures.honest.1 h2 in
          behind_stands d.clearing d.slots.homes.items c.args.i (c.len.result + c.args.i) (p.base d.pair)
          (p.base e) (p.journal d.pair) (p.journal e) (p.may_leave d.pair) (p.may_leave e)
          c.requires.settled (place_so g at) (c.write_journal.ensures.base h) (torn_so g at h)
          (c.write_journal.ensures.stops h) (d.standing h);
    }

pub returns-clause-written : goal.returns-clause-written
returns-clause-written g c = λ h.
    let d = c.args.self.now in let p = g.P.DevicePair in let e = c.write_journal.new.self in
    let at = (goal.at.returns-clause-written g c).After-write_journal in
    on_ok c.write_journal.result _ _
    (λ (w : p.journal e ≡ written (c.len.result + c.args.i) c.args.bytes.now (p.journal d.pair)).
    behind_written d.clearing d.slots.homes.items c.args.i (c.len.result + c.args.i) (p.base d.pair)
    (p.base e) (p.journal d.pair) (p.journal e) (p.may_leave d.pair) (p.may_leave e)
    c.requires.settled (place_so g at) c.args.bytes.now (omega (arith, (d.standing h).there)) w)
    (c.write_journal.ensures.written h)

pub returns-clause-torn : goal.returns-clause-torn
returns-clause-torn g c = λ h.
    let d = c.args.self.now in let p = g.P.DevicePair in let e = c.write_journal.new.self in
    let at = (goal.at.returns-clause-torn g c).After-write_journal in
    on_err c.write_journal.result _ _
    (λ (t : Torn (c.len.result + c.args.i) (p.journal d.pair) (p.journal e)).
    behind_torn d.clearing d.slots.homes.items c.args.i (c.len.result + c.args.i) (p.base d.pair)
    (p.base e) (p.journal d.pair) (p.journal e) (p.may_leave d.pair) (p.may_leave e)
    c.requires.settled (place_so g at) (omega (arith, (d.standing h).there)) t)
    (c.write_journal.ensures.torn h)

pub returns-clause-seen : goal.returns-clause-seen
returns-clause-seen g c = λ h.
    let d = c.args.self.now in let p = g.P.DevicePair in let e = c.write_journal.new.self in
    let at = (goal.at.returns-clause-seen g c).After-write_journal in
    behind_seen d.clearing d.slots.homes.items c.args.i (c.len.result + c.args.i) (p.base d.pair)
    (p.base e) (p.journal d.pair) (p.journal e) (p.may_leave d.pair) (p.may_leave e)
    c.requires.settled (place_so g at) (c.write_journal.ensures.base h)
    (omega (arith, (d.standing h).there)) (torn_so g at h)

pub returns-clause-stops : goal.returns-clause-stops
returns-clause-stops g c = λ h.
    let d = c.args.self.now in let p = g.P.DevicePair in let e = c.write_journal.new.self in
    let at = (goal.at.returns-clause-stops g c).After-write_journal in
    behind_leaves d.clearing d.slots.homes.items c.args.i (c.len.result + c.args.i) (p.base d.pair)
    (p.base e) (p.journal d.pair) (p.journal e) (p.may_leave d.pair) (p.may_leave e)
    c.requires.settled (place_so g at) (c.write_journal.ensures.stops h) (d.standing h)

pub returns-then-at-journal_blocks-clause-region_stops : goal.returns-then-at-journal_blocks-clause-region_stops
returns-then-at-journal_blocks-clause-region_stops g c = λ h a b left. (b, left, refl)

pub returns-clause-regions : goal.returns-clause-regions
returns-clause-regions g c = λ h.
    let d = c.args.self.now in let p = g.P.DevicePair in let e = c.write_journal.new.self in
    let at = (goal.at.returns-clause-regions g c).After-write_journal in
    take_torn (length (homes_of d)) (c.len.result + c.args.i) (p.journal d.pair) (p.journal e)
    (omega (arith, c.len.ensures)) (omega (arith, (d.standing h).there)) (torn_so g at h)

pub returns-clause-region_stops : goal.returns-clause-region_stops
returns-clause-region_stops g c = λ h a b left.
    let d = c.args.self.now in let p = g.P.DevicePair in
    let from = c.write_journal.ensures.stops h a b left in (
      from.0,
      from.1,
      take_torn (length (homes_of d)) (c.len.result + c.args.i) from.0 b (omega (arith, c.len.ensures))
          (omega (
            arith,
            (kept_stop d.clearing d.slots.homes.items (p.base d.pair) (p.journal d.pair) (p.may_leave d.pair)
                c.requires.settled (d.standing h) a from.0 from.1).there,
          ))
          from.2,
    )

pub returns-then-at-journal_blocks-clause-appends : goal.returns-then-at-journal_blocks-clause-appends
returns-then-at-journal_blocks-clause-appends g c = λ h last.
    appends_none c.args.self.now

pub returns-clause-appends : goal.returns-clause-appends
returns-clause-appends g c = λ h last.
    let d = c.args.self.now in let p = g.P.DevicePair in
    let at = (goal.at.returns-clause-appends g c).After-write_journal in
    appends_journal (c.len.result + c.args.i) d _ (c.write_journal.ensures.base h)
    (omega (arith, c.len.ensures, last, length-drop (length (homes_of d)) (p.journal d.pair)))
    (torn_so g at h) (c.write_journal.ensures.stops h) (c.write_journal.ensures.time h)
