-- No region is read, and the last one.
use Rattle.std.proofs.Common.{List, ℕ, ap, arith, length, rules, subst, sym}
use Rattle.committed_log.specs.Room.{blocks_of}
use Rattle.snapshot_reader.specs.Reading.{AreRead}
use Rattle.snapshot_reader.proofs.Reading.{all_read, broken_read, none_read, well_read}
use Rattle.snapshot_reader.proofs.index.read_index.Given as given
use Rattle.snapshot_reader.proofs.index.read_index.Goals as goal
use Rattle.snapshot_reader.proofs.index.read_index.Goals.{Else-branch}

pub regions-init : goal.regions-init
regions-init g c =
    let b = g.J.BlockReader.shown c.args.journal.now in (
      omega (arith, ap length c.new-slots.ensures),
      λ h. subst (λ (l : List ℕ). AreRead c.args.limit l b) (sym c.new-slots.ensures) (none_read c.args.limit b),
    )

-- all that are committed are read
read_so : (g : given.Over) (c : Else-branch g) → g.J.BlockReader.honest c.args.journal.now
    → AreRead c.args.limit (blocks_of c.read_region.new.slots) (g.J.BlockReader.shown c.args.journal.now)
read_so g c h = c.in_ok-read_region.ensures.read h (c.regions.invariant.1 h)

pub returns-clause-homes : goal.returns-clause-homes
returns-clause-homes g c = λ h.
    all_read c.args.limit (blocks_of c.read_region.new.slots) (g.J.BlockReader.shown c.args.journal.now)
    (read_so g (goal.at.returns-clause-homes g c).Else-branch h)
    (c.in_ok-read_region.ensures.unsaid h c.if-branch.false)

pub returns-clause-well_formed : goal.returns-clause-well_formed
returns-clause-well_formed g c = λ h.
    well_read c.args.limit (blocks_of c.read_region.new.slots) (g.J.BlockReader.shown c.args.journal.now)
    (read_so g (goal.at.returns-clause-well_formed g c).Else-branch h)
    (c.in_ok-read_region.ensures.unsaid h c.if-branch.false)

pub returns-in_err-read_region-clause-malformed : goal.returns-in_err-read_region-clause-malformed
returns-in_err-read_region-clause-malformed g c = λ h e.
    broken_read c.args.limit (blocks_of c.regions.slots) (g.J.BlockReader.shown c.args.journal.now)
    (c.regions.invariant.1 h) (c.in_err-read_region.ensures.malformed h (search rules))
