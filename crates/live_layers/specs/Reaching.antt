-- Changes whose layer was found.
use Rattle.std.specs.Prelude.{ℕ, List}
use Rattle.plain_table.specs.Table.{Table}
use Rattle.live_layers.specs.Keeping.{Finds}
use Rattle.live_layers.specs.Located.{IsLocated, IsRecorded}
use Rattle.live_layers.specs.Questions.{IsNamed}
use Rattle.live_layers.specs.declared.layers.Layers.{Layers}
use Rattle.live_layers.specs.declared.located.Located.{Located}

-- the layer of the name stands at the place, and was located by its record
pub record Reaches {D A : Type 0} {m : _} (kept : Layers D A m) (t : Table) (name : List ℕ) (place : ℕ)
    (there : Located) : Type 0 where
  pub named : IsNamed t name
  pub finds : Finds t name place
  pub located : IsLocated kept t name there
  pub recorded : IsRecorded kept place there
