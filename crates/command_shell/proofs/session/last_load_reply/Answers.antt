-- The goals of `last_load_reply` that are proved by hand.
use Rattle.std.proofs.Common.{◌≡◌, ℕ, List, [], ◌∷◌, true, refl, subst, arith}
use Rattle.store_law.specs.States.Request.{BadCommand}
use Rattle.command_language.specs.Entries.{objects_in}
use Rattle.command_language.specs.Meanings.{meaning_of}
use Rattle.command_language.specs.Meanings.Meaning.{Loads}
use Rattle.command_shell.specs.TextCommands.{AreCommands, load_request}
use Rattle.command_shell.specs.TextCommands.AreCommands.{load, none, short}
use Rattle.layer_store.specs.Representation.{device_in}
use Rattle.layer_store.proofs.CallLemmas.{asked_badly}
use Rattle.command_shell.proofs.session.last_load_reply.Goals as goal

-- a load without entry lines, at the end of a text
loads_nothing : (line layer : List ℕ) (count : ℕ) → meaning_of line ≡ Loads layer count → count ≡ 0
    → AreCommands true (line ∷ []) (load_request layer (objects_in []) ∷ [])
loads_nothing line layer count means is =
    load layer 0 (subst (λ (n : ℕ). meaning_of line ≡ Loads layer n) is means) (omega arith) none

pub returns-then-count-gt0 : goal.returns-then-count-gt0
returns-then-count-gt0 g c = λ line means. record {
  request = BadCommand;
  asked = short c.args.layer.now c.args.count means (omega arith) refl;
  step = asked_badly c.args.store.now _
      (λ honest b left. g.met.D.BlockDevice.only_now (device_in c.args.store.now) b honest left)
      c.bad_reply.ensures;
}

pub returns : goal.returns
returns g c = λ line means. record {
  request = load_request c.args.layer.now (objects_in []);
  asked = loads_nothing line c.args.layer.now c.args.count means (omega arith);
  step = c.load_reply.ensures c.args.layer.now [] c.new-gathered.ensures.nothing;
}
