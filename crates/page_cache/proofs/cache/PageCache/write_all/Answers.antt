-- Pages are written one after the other.
use Rattle.std.proofs.Common.{◌<◌, arith, length, rules}
use Rattle.page_cache.proofs.Behind.{keeps_in_turn}
use Rattle.page_cache.proofs.Kept.{none_newer}
use Rattle.page_cache.proofs.Turned.{first_written, length_turned, slice_within}
use Rattle.page_cache.proofs.cache.PageCache.write_all.Goals as goal

pub loop-left-preserved : goal.loop-left-preserved
loop-left-preserved g c =
    let was = c.loop-left.self in let new = c.write_last.new.self in let inv = c.loop-left.invariant in
    let turned = c.in_ok-write_last.ensures.turned in
    let es = was.frames.entries in
    let some : 0 < length es = omega (arith, inv.3, c.loop-left-test.true) in
    let same = length_turned turned.0 es new.frames.entries turned.1 turned.3 some in (
      keeps_in_turn _ was new inv.0 c.write_last.ensures.kept,
      search rules,
      search rules,
      omega (arith, inv.3, same),
      first_written turned.0 es new.frames.entries turned.1 turned.3 some c.loop-left.left turned.2
          c.loop-left-test.true inv.4,
      λ k held. c.write_last.ensures.holds k (inv.5 k held),
    )

pub returns-in_err-write_last-clause-kept : goal.returns-in_err-write_last-clause-kept
returns-in_err-write_last-clause-kept g c =
    keeps_in_turn c.args.self.now c.loop-left.self c.write_last.new.self c.loop-left.invariant.0
    c.write_last.ensures.kept

pub returns-clause-clean : goal.returns-clause-clean
returns-clause-clean g c = none_newer c.loop-left.self.frames.entries
    (λ i e is. c.loop-left.invariant.4 i e
    (omega (arith, slice_within i c.loop-left.self.frames.entries e is, c.loop-left-test.false)) is)
