-- A block is read from its slot, or from the base.
use Rattle.std.proofs.Common.{◌≡◌, ◌∙◌, ◌<◌, arith, length, refl, sym}
use Rattle.std.proofs.lemmas.Result.{on_ok_weaker}
use Rattle.std.specs.List.{Contains}
use Rattle.block_device.specs.Device.{Blocks, block_at}
use Rattle.committed_log.specs.Found.{IsSlot}
use Rattle.committed_log.specs.Overlay.{overlay_reads}
use Rattle.committed_log.specs.Replay.{overlaid_other}
use Rattle.committed_log.specs.Room.{blocks_of}
use Rattle.journaled_file.specs.Gate.{with_gate}
use Rattle.journaled_file.specs.GateLaws.{length-gated}
use Rattle.titled_pair.specs.Title.{untitled}
use Rattle.journaled_file.proofs.viewed.calls.read_seen.Goals as goal

pub returns-in-Some-clause-bytes : goal.returns-in-Some-clause-bytes
returns-in-Some-clause-bytes g c = λ h slots.
    let v = c.args.view.now in let base : Blocks = g.P.DevicePair.base c.args.pair.now in
    let log : Blocks = untitled (g.P.DevicePair.journal c.args.pair.now) in
    let slot : IsSlot (blocks_of v.slots) c.args.i c.in-Some.k = c.in-Some.ensures.found in
    let there : c.args.i < length (with_gate v.gate base) = omega (arith, c.requires, length-gated v.gate base) in
    on_ok_weaker c.read_slot.result
    (λ (e : c.read_slot.new.into ≡ block_at c.in-Some.k log). e
    ∙ sym (overlay_reads c.args.i c.in-Some.k (blocks_of v.slots) log (with_gate v.gate base) slot there))
    (c.read_slot.ensures.bytes h (omega (arith, slot.there, slots)))

pub returns-in-None-clause-bytes : goal.returns-in-None-clause-bytes
returns-in-None-clause-bytes g c = λ h slots.
    let v = c.args.view.now in let base : Blocks = g.P.DevicePair.base c.args.pair.now in
    let log : Blocks = untitled (g.P.DevicePair.journal c.args.pair.now) in
    let none : ¬ Contains (blocks_of v.slots) c.args.i = c.in-None.ensures.none refl in
    on_ok_weaker c.read_own.result
    (λ (e : c.read_own.new.into ≡ block_at c.args.i (with_gate v.gate base)). e
    ∙ sym (overlaid_other (blocks_of v.slots) log (with_gate v.gate base) c.args.i none))
    (c.read_own.ensures.bytes h)
