-- The gate is shut over blocks that are synced.
use Rattle.std.proofs.Common.{◌∙◌, ◌⊎◌, drop, sym, ap, inl, inr, ⊎_elim}
use Rattle.block_device.specs.Device.{Blocks}
use Rattle.block_device.specs.Moments.{leaves_then, leaves_weaker}
use Rattle.page_file.specs.Aside.{new_aside}
use Rattle.page_file.specs.File.{IsNewFile}
use Rattle.page_file.specs.Opening.{IsRefused}
use Rattle.page_file.specs.Stops.{GateAside, SameButGate}
use Rattle.page_file.proofs.creation.create.Goals as goal

pub returns-clause-stops : goal.returns-clause-stops
returns-clause-stops g c = λ h.
    let d = g.D.BlockDevice in
    let old = c.args.device.now in
    let mid = c.lay_out.new.device in
    let new = c.write_gate.new.device in
    let laid = c.in_ok-lay_out.ensures in
    let there = c.lay_out.ensures.honest.0 h in
    let P : Blocks → Type 0 = λ b. IsRefused b ⊎ (SameButGate b (d.shown new) × IsNewFile b) in
    leaves_then d.moment d.left_since d.recovery old mid new P
    (leaves_weaker d.moment d.left_since d.recovery old mid IsRefused P (λ b refused. inl refused)
    (c.lay_out.ensures.stops h))
    (leaves_weaker d.moment d.left_since d.recovery mid new (GateAside (d.may_leave mid)) P
    (λ b from.
    let aside : SameButGate b (d.shown mid) = from.2 ∙ ap (drop 1) (laid.durable h from.0 from.1) in
    ⊎_elim (λ refused. inl refused) (λ made. inr (aside ∙ sym (c.write_gate.ensures.same there), made))
    (new_aside (d.shown mid) b (laid.header h) (laid.catalog h) aside))
    (c.write_gate.ensures.stops there))
