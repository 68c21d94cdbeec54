-- What a `Line` says.
use Rattle.std.specs.Prelude.{Option, Some, None}
use Rattle.plain_table.specs.Commands.Command.{Create, Insert, Move, Delete, Drop, Get, Count, Range, Nearest}
use Rattle.plain_table.specs.Commands.Command.{Join, Layers, Dump, Check, Reopen}
use Rattle.command_language.specs.Meanings.{Meaning}
use Rattle.command_language.specs.Meanings.Meaning.{Blank, Bad, Loads, Means}
use Rattle.command_language.specs.declared.parse.Line.{Line}
use Rattle.command_language.specs.declared.parse.Line.TheVariants as line

-- the meaning that the line has, its layers being read where they stand
abbrev pub said : Line → Meaning
said line.Blank = Blank
said line.Bad = Bad
said (line.Create layer dims fanout) = Means (Create layer.now dims fanout)
said (line.Insert layer id bounds tag) = Means (Insert layer.now id bounds tag)
said (line.Load layer count) = Loads layer.now count
said (line.Move layer id bounds) = Means (Move layer.now id bounds)
said (line.Delete layer id) = Means (Delete layer.now id)
said (line.Drop layer) = Means (Drop layer.now)
said (line.Get layer id) = Means (Get layer.now id)
said (line.Count layer) = Means (Count layer.now)
said (line.Range layer query tag) = Means (Range layer.now query tag)
said (line.Nearest layer k point) = Means (Nearest layer.now k point)
said (line.Join first second within) = Means (Join first.now second.now within)
said line.Layers = Means Layers
said line.Dump = Means Dump
said line.Check = Means Check
said line.Reopen = Means Reopen

-- the same of a line that may be missing, which is bad
abbrev pub said_or_bad : Option Line → Meaning
said_or_bad (Some line) = said line
said_or_bad None = Bad
