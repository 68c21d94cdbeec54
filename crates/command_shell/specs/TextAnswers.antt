-- What a text is answered by a store that begins with the empty table. Our rule, docs/COMMANDS.md.
use Rattle.std.specs.Prelude.{ℕ, ◌≡◌, true, List}
use Rattle.std.specs.FinMap.{empty}
use Rattle.plain_table.specs.Step.{Answer}
use Rattle.store_law.specs.Sessions.{IsSessionFrom}
use Rattle.store_law.specs.States.{Request}
use Rattle.command_language.specs.Lines.{lines_of}
use Rattle.command_shell.specs.TextCommands.{AreCommands}
use Rattle.reply_texts.specs.Texts.{texts_of}

-- All commands of the text were answered, each by a lawful step of a store that began without layers, and the
-- replies are the texts of the answers. The count of faults never rose from 0, so no answer blames the
-- device.
pub record AnswersText (text replies : List ℕ) : Type 0 where
  pub requests : List Request
  pub answers : List Answer
  pub asked : AreCommands true (lines_of text) requests
  pub lawful : IsSessionFrom empty requests answers
  pub faultless : lawful.new.faults ≡ 0
  pub written : replies ≡ texts_of answers
