-- The law, proved of the layers.
use Rattle.live_layers.proofs.SoundTurns.{as_the_table}
use Rattle.live_layers.proofs.laws.sound_layers_refuse_as_their_table.Goals as goal

pub returns : goal.returns
returns g c = λ kept t command sound. as_the_table kept t sound command
