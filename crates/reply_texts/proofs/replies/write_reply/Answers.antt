-- The goals of `write_reply` that are proved by hand.
use Rattle.std.proofs.Common.{◌≡◌, ◌∙◌, ℕ, List, ◌++◌, length, map, flat_map, ap, refl, sym, subst}
use Rattle.plain_table.specs.Answers.{line_of_row, row_of}
use Rattle.reply_texts.specs.Texts.{answer_text, count_text, dump_text, reply_answer, row_text}
use Rattle.reply_texts.specs.Writing.{Writes}
use Rattle.reply_texts.specs.declared.replies.Reply.{Reply}
use Rattle.reply_texts.proofs.WriteLemmas.{mapped_rows}
use Rattle.reply_texts.proofs.replies.write_reply.Goals as goal

-- the text of rows is that of the reply which has them
rows_told : {A X Y : Type 0} (f : X → Y) (text : Y → List ℕ) (shown items : List X) (r q : Reply A)
    → shown ≡ items → r ≡ q
    → answer_text (reply_answer q) ≡ count_text (length (map f items)) ++ flat_map text (map f items)
    → count_text (length shown) ++ flat_map (λ x. text (f x)) shown ≡ answer_text (reply_answer r)
rows_told f text shown items r q same is told =
    ap (λ (xs : List _). count_text (length xs) ++ flat_map (λ x. text (f x)) xs) same
    ∙ mapped_rows f text items ∙ sym told ∙ ap (λ (x : Reply _). answer_text (reply_answer x)) (sym is)

pub returns-in-Boxes : goal.returns-in-Boxes
returns-in-Boxes g c =
    subst (Writes (g.W.Write.contents c.args.writer.now)
    (g.W.Write.contents c.write_rows-in-Boxes.new.writer) c.write_rows-in-Boxes.result)
    (rows_told row_of row_text c.deref.result.now c.in-Boxes.rows.items c.args.reply.now _
    c.deref.ensures.value c.in-Boxes.is refl) c.write_rows-in-Boxes.ensures

pub returns-in-Dump : goal.returns-in-Dump
returns-in-Dump g c =
    subst (Writes (g.W.Write.contents c.args.writer.now) (g.W.Write.contents c.write_rows-in-Dump.new.writer)
    c.write_rows-in-Dump.result)
    (rows_told line_of_row dump_text c.deref-in-Dump.result.now c.in-Dump.rows.items c.args.reply.now _
    c.deref-in-Dump.ensures.value c.in-Dump.is refl) c.write_rows-in-Dump.ensures
