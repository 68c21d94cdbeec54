-- The rows so far are shown.
use Rattle.std.proofs.Common.{◌≡◌, map, take}
use Rattle.plain_table.specs.Answers.{row_of}
use Rattle.live_layers.proofs.layers.questions.range.shown_rows.Given as goal

abbrev pub invariant-loop-id : goal.invariant-loop-id
invariant-loop-id g l = map row_of l.shown.items ≡ take l.id-index l.rows
