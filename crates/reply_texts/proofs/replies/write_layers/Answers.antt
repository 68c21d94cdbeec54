-- The text of the rows is that of the listing.
use Rattle.std.proofs.Common.{subst}
use Rattle.plain_table.specs.Answers.{line_of_layer}
use Rattle.reply_texts.specs.Texts.{layer_text}
use Rattle.reply_texts.specs.Writing.{Writes}
use Rattle.reply_texts.proofs.WriteLemmas.{mapped_rows}
use Rattle.reply_texts.proofs.replies.write_layers.Goals as goal

pub returns : goal.returns
returns g c =
    subst (Writes (g.W.Write.contents c.args.writer.now) (g.W.Write.contents c.write_rows.new.writer)
    c.write_rows.result) (mapped_rows line_of_layer layer_text c.args.layers.now) c.write_rows.ensures
