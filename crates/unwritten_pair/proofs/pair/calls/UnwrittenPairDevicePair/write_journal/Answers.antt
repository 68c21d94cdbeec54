-- A write of a block in memory.
use Rattle.std.proofs.Common.{ap}
use Rattle.unwritten_pair.proofs.Steps.{put_follows, put_written}
use Rattle.unwritten_pair.specs.Pair.{base_of, behind_of, own_of}
use Rattle.unwritten_pair.proofs.pair.calls.UnwrittenPairDevicePair.write_journal.Goals as goal

pub returns-clause-written : goal.returns-clause-written
returns-clause-written g c = λ _.
    let d = c.args.self.now in let e = c.put.new.self in
    put_written c.args.i c.journal_blocks-own.result c.args.bytes.now (own_of d) (own_of e) (behind_of d)
    (behind_of e) c.journal_blocks-own.ensures.is c.if-i-own.false
    (ap g.P.DevicePair.journal c.put.ensures.pair) c.put.result c.put.ensures.written

pub returns-clause-stops : goal.returns-clause-stops
returns-clause-stops g c = λ _.
    let d = c.args.self.now in let e = c.put.new.self in let p = g.P.DevicePair in
    put_follows c.args.i c.journal_blocks-own.result c.args.bytes.now (own_of d) (own_of e) (behind_of d)
    (behind_of e) c.journal_blocks-own.ensures.is c.if-i-own.false (ap p.journal c.put.ensures.pair)
    c.put.result (base_of d) (base_of e) (ap p.base c.put.ensures.pair)
    (record { size = c.told-bytes; bytes_fit = c.fits-bytes }) c.put.ensures.written c.put.ensures.same
