-- A store that is made as asked begins with the empty table, and one that is opened with the table of the
-- image.
use Rattle.std.proofs.Common.{◌∙◌, refl, sym, arith}
use Rattle.std.proofs.lemmas.Bool.{true≢false}
use Rattle.command_line.proofs.serving.serve_device.Goals as goal

pub returns-then-not-options-clause-served : goal.returns-then-not-options-clause-served
returns-then-not-options-clause-served g c = record {
  kept = λ create. absurd (true≢false (sym create ∙ c.if-not-options.true));
  made = λ create. absurd (true≢false (sym create ∙ c.if-not-options.true));
  opened = λ create honest t image. c.serve_opened.ensures.serves t honest image;
  checked = λ create honest. c.serve_opened.ensures.checked honest;
  refused = λ create honest f refuses. c.serve_opened.ensures.refuses f honest refuses;
}

pub returns-then-blocks-ne0-clause-served : goal.returns-then-blocks-ne0-clause-served
returns-then-blocks-ne0-clause-served g c = record {
  kept = λ create some. (
    record { failed = c.tell_not_empty.ensures.status; unread = refl; unwritten = refl },
    c.tell_not_empty.ensures.device,
  );
  made = λ create honest none. absurd (c.if-blocks-ne0.true (c.blocks-2.ensures.is ∙ none));
  opened = λ create. absurd (true≢false (sym c.if-not-options.false ∙ create));
  checked = λ create. absurd (true≢false (sym c.if-not-options.false ∙ create));
  refused = λ create. absurd (true≢false (sym c.if-not-options.false ∙ create));
}

pub returns-clause-served : goal.returns-clause-served
returns-clause-served g c =
    let none = sym c.blocks-2.ensures.is ∙ c.if-blocks-ne0.false in
    record {
      kept = λ create some. absurd (omega (arith, some, none));
      made = λ create honest none. c.serve_new.ensures.serves honest;
      opened = λ create. absurd (true≢false (sym c.if-not-options.false ∙ create));
      checked = λ create. absurd (true≢false (sym c.if-not-options.false ∙ create));
      refused = λ create. absurd (true≢false (sym c.if-not-options.false ∙ create));
    }
