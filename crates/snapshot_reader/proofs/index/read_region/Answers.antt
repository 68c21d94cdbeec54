-- One region more is read.
use Rattle.std.proofs.Common.{◌≡◌, ◌+◌, ◌≤◌, ℕ, drop, length, subst, true}
use Rattle.block_device.specs.Device.{block_at}
use Rattle.committed_log.specs.Log.{count_in, index_blocks, says}
use Rattle.committed_log.specs.Room.{blocks_of}
use Rattle.snapshot_reader.proofs.Reading.{region_read}
use Rattle.snapshot_reader.proofs.index.read_region.Goals as goal

pub returns-clause-read : goal.returns-clause-read
returns-clause-read g c = λ h r.
    let b = g.J.BlockReader.shown c.args.journal.now in let n = c.in-Some.n in
    let is = c.in_ok-n.ensures in let taken = c.in_ok-take_region.ensures in
    region_read c.args.limit n (blocks_of c.args.slots.now) b r
    (subst (λ (s : ℕ). says (block_at 0 (drop s b)) ≡ true) c.len.ensures (is.said h n c.in-Some.is))
    (subst (λ (s : ℕ). n ≡ count_in (drop s b)) c.len.ensures (is.count h n c.in-Some.is))
    (subst (λ (s : ℕ). s + (2 + n + index_blocks n) ≤ length b) c.len.ensures (is.room n c.in-Some.is))
    (taken.below h) (blocks_of c.take_region.new.slots) (taken.homes h)
