-- Objects that were read, and then put into the layer that the words name.
use Rattle.std.proofs.Common.{◌≡◌, ◌⊎◌, ℕ, Bool, true, inl, inr, refl}
use Rattle.plain_table.specs.declared.refusal.Refusal.TheVariants as refusal
use Rattle.reply_texts.specs.Texts.{told_refusal}
use Rattle.reply_texts.specs.Writing.{AppendsSome}
use Rattle.command_line.specs.Importing.{IsRefusedText, IsUnread}
use Rattle.command_line.specs.Streams.{Streams}
use Rattle.command_line.proofs.importing.import_path.Goals as goal

-- the text was refused, or not all of it was read
unopened : {R W M Opened : Type 0} (failing : R → Bool) (before after : Streams R W) (status : ℕ)
    → IsRefusedText failing after.input status
    ⊎ ((status ≡ 1) × ((failing after.input ≡ true)
    ⊎ AppendsSome before.said after.said (told_refusal refusal.Memory)))
    → M ⊎ IsRefusedText failing after.input status ⊎ IsUnread failing before after status ⊎ Opened
unopened failing before after status (inl refused) = inr (inl refused)
unopened failing before after status (inr (failed, why)) =
    inr (inr (inl (record { failed = failed; why = inr why })))

pub returns-in-Err-clause-imported : goal.returns-in-Err-clause-imported
returns-in-Err-clause-imported g c =
    inl (record { failed = c.tell_misuse.ensures; unread = refl; unwritten = refl })

pub returns-in-Err-read_batch-clause-imported : goal.returns-in-Err-read_batch-clause-imported
returns-in-Err-read_batch-clause-imported g c = unopened _ _ _ _ c.tell_error.ensures

pub returns-in-Ok-read_batch-clause-imported : goal.returns-in-Ok-read_batch-clause-imported
returns-in-Ok-read_batch-clause-imported g c =
    inr (inr (inr (c.put_into.ensures.imported _ c.in-Ok.ensures)))
