-- The buffer is full, or the file has ended.
use Rattle.std.proofs.Common.{subst, arith}
use Rattle.std.proofs.lemmas.List.{take_all}
use Rattle.std.specs.Io.KnownBytes.{Consumes}
use Rattle.file_device.proofs.Consumed.{full_is, short_is}
use Rattle.file_device.proofs.host.fill.Goals as goal

pub returns-then-done-ge4096 : goal.returns-then-done-ge4096
returns-then-done-ge4096 g c = record {
  bytes = full_is _ _ c.loop.into (omega arith)
      (subst (Consumes _ _) (take_all c.loop.done c.loop.into (omega arith)) c.loop.invariant.so_far);
}

pub returns-then-branch : goal.returns-then-branch
returns-then-branch g c = record {
  bytes = short_is _ _ c.read_on.new.done c.read_on.new.into c.clear_from.new.into (omega arith)
      (omega arith) (omega arith)
      (c.in_ok-read_on.ensures.so_far _ c.loop.invariant.so_far)
      (c.in_ok-read_on.ensures.ended c.if-branch.true)
      c.clear_from.ensures.before c.clear_from.ensures.after;
}
