-- One write more.
use Rattle.std.proofs.Common.{◌∙◌, ◌++◌, ◌∷◌, [], List, ap}
use Rattle.block_device.specs.Logged.{Write}
use Rattle.block_device.proofs.Logged.{added}
use Rattle.block_device.proofs.log.Log.add.Goals as goal

pub returns-clause-added : goal.returns-clause-added
returns-clause-added g c =
    added c.self.inside.numbers.items c.push_reserved.new.self.items c.self.inside.blocks.items
    c.extend_from_slice.new.self.items c.args.i c.args.old.now c.self.invariant
    (c.in_ok-extend_from_slice.ensures.items ∙ ap (λ (bs : List (List _)). c.self.inside.blocks.items ++ bs) c.from_ref.ensures.value)
    (c.push_reserved.ensures.items ∙ ap (λ ns. ns ++ c.args.i ∷ []) c.reserve.ensures.items)
    ∙ ap (λ (ws : List Write). ws ++ record { at = c.args.i; old = c.args.old.now } ∷ []) c.self.view_is
