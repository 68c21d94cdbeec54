-- What holds at each turn of the loop of `ReplyLine::push_coordinates`.
use Rattle.std.proofs.Common.{◌≡◌, ◌≤◌, ◌+◌, ◌*◌, ◌++◌, length, take}
use Rattle.reply_texts.specs.Texts.{coordinates_text}
use Rattle.reply_texts.proofs.reply_line.ReplyLine.push_coordinates.Given as goal

abbrev pub invariant-loop-coordinate : goal.invariant-loop-coordinate
invariant-loop-coordinate l = record {
  text : l.self ≡ l.initial.self ++ coordinates_text (take l.coordinate-index l.coordinates);
  room : length l.self ≤ length l.initial.self + 12 * l.coordinate-index;
}
