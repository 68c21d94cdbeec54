-- The goals of `open_pages` that are proved by hand.
use Rattle.std.proofs.Common.{rules, ◌≤◌, sym, subst, length}
use Rattle.block_device.specs.Device.{Blocks, block_at}
use Rattle.page_file.specs.declared.header.Header.{Header}
use Rattle.page_file.specs.Layout.{IsHeader, IsShutGate}
use Rattle.page_file.specs.Newest.{passes_all}
use Rattle.page_file.specs.Settled.{passes_from}
use Rattle.page_file.proofs.file.open.open_pages.Goals as goal

pub invariant_of-result : goal.invariant_of-result
invariant_of-result g c = let d = g.D.BlockDevice in let old = c.check_opening.ensures in record {
  sound = c.in-Ok.ensures.sound.0;
  few = c.in-Ok.ensures.sound.1;
  room = λ h2. let h = old.honest.1 h2 in
      subst (λ (b : Blocks). c.in-Ok.header.next ≤ length b) (sym (old.shown h))
      (subst (λ (x : Header). x.next ≤ length (d.shown c.args.device)) (sym (c.in-Ok.ensures.header h))
      (passes_from _ (passes_all _ _ (c.in-Ok.ensures.ok h))).within);
  stop_now = λ h2. c.in-Ok.ensures.durable (old.honest.1 h2);
  settled = λ h2 _. let h = old.honest.1 h2 in
      subst (λ (b : Blocks). IsHeader c.in-Ok.header (block_at 1 b)) (sym (old.shown h))
      (subst (λ (x : Header). IsHeader x (block_at 1 (d.shown c.args.device)))
      (sym (c.in-Ok.ensures.header h)) (passes_from _ (passes_all _ _ (c.in-Ok.ensures.ok h))).header);
  shut_reads = λ h2 _. let h = old.honest.1 h2 in
      subst (λ (b : Blocks). IsShutGate (block_at 0 b)) (sym (old.shown h))
      (passes_from _ (passes_all _ _ (c.in-Ok.ensures.ok h))).gate;
}

pub returns-in-Ok-clause-lies : goal.returns-in-Ok-clause-lies
returns-in-Ok-clause-lies g c = λ honest. record {
  passes = passes_all c.args.newest (g.D.BlockDevice.shown c.args.device) (c.in-Ok.ensures.ok honest);
  version = search rules;
  next = search rules;
  pages_there = search rules;
  sound = search rules;
}
