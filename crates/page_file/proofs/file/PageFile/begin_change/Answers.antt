-- The goals of `PageFile::begin_change` that are proved by hand.
use Rattle.std.proofs.Common.{refl}
use Rattle.page_file.specs.Frames.{free_kept_aside, map_kept_aside}
use Rattle.page_file.proofs.Moments.{aside_while_closed}
use Rattle.page_file.proofs.file.PageFile.begin_change.Goals as goal

pub returns-in_err-write_gate-clause-map : goal.returns-in_err-write_gate-clause-map
returns-in_err-write_gate-clause-map g c =
    map_kept_aside _ _ refl c.write_gate.ensures.honest c.write_gate.ensures.same

pub returns-clause-map : goal.returns-clause-map
returns-clause-map g c = map_kept_aside _ _ refl c.write_gate.ensures.honest c.write_gate.ensures.same

pub returns-in_err-write_gate-clause-free : goal.returns-in_err-write_gate-clause-free
returns-in_err-write_gate-clause-free g c = λ h.
    free_kept_aside (g.D.BlockDevice.shown c.args.self.now.device) (g.D.BlockDevice.shown c.write_gate.new.device)
    c.args.self.now.header (c.write_gate.ensures.same h)

pub returns-clause-free : goal.returns-clause-free
returns-clause-free g c = λ h.
    free_kept_aside (g.D.BlockDevice.shown c.args.self.now.device) (g.D.BlockDevice.shown c.write_gate.new.device)
    c.args.self.now.header (c.write_gate.ensures.same h)

pub returns-in_err-write_gate-clause-stops : goal.returns-in_err-write_gate-clause-stops
returns-in_err-write_gate-clause-stops g c =
    λ h closed. aside_while_closed c.args.self.now c.write_gate.new.device h closed
    (c.write_gate.ensures.stops h)

pub returns-clause-stops : goal.returns-clause-stops
returns-clause-stops g c =
    λ h closed. aside_while_closed c.args.self.now c.write_gate.new.device h closed
    (c.write_gate.ensures.stops h)
