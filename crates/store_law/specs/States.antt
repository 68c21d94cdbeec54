-- What a store may be asked, and the states that it may be in. Our rule, docs/COMMANDS.md.
use Rattle.plain_table.specs.Commands.{Command}
use Rattle.plain_table.specs.Table.{Table}

-- a store answers from a table, or says that it failed
pub data StoreState : Type 0 where
  Alive : Table → StoreState
  Dead : StoreState

-- a line that is none of the language, or a command
pub data Request : Type 0 where
  BadCommand : Request
  Asks : Command → Request
