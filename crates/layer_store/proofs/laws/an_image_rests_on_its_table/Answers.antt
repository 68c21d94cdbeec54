-- The goals of `an_image_rests_on_its_table` that are proved by hand.
use Rattle.layer_store.specs.Representation.{device_in}
use Rattle.layer_store.proofs.StopLemmas.{represents_on_image}
use Rattle.layer_store.proofs.laws.an_image_rests_on_its_table.Goals as goal

pub returns : goal.returns
returns g c =
    λ store s t represents image. represents_on_image store s t
    (λ honest b left. g.met.D.BlockDevice.only_now (device_in store) b honest left)
    (λ honest b found. g.met.D.BlockDevice.brought_now (device_in store) b honest found) represents image
