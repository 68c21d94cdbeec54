-- What holds at each turn of the loop of `ReplyLine::push_told`.
use Rattle.std.proofs.Common.{◌≡◌, ◌+◌, ◌++◌, length, map, take}
use Rattle.reply_texts.specs.Refused.{told_byte}
use Rattle.reply_texts.proofs.reply_line.ReplyLine.push_told.Given as goal

abbrev pub invariant-loop-byte : goal.invariant-loop-byte
invariant-loop-byte l = record {
  text : l.self ≡ l.initial.self ++ map told_byte (take l.byte-index l.bytes);
  room : length l.self ≡ length l.initial.self + l.byte-index;
}
