-- The session over the store that a reader has.
use Rattle.std.proofs.Common.{inl, inr, refl, subst, sym}
use Rattle.layer_store.proofs.SessionLemmas.{once_checked_so}
use Rattle.live_layers.specs.Image.{IsImage, OpeningRefuses}
use Rattle.command_line.proofs.RunLemmas.{answers_of, answers_so}
use Rattle.command_line.proofs.reading.serve_reader.Goals as goal

pub returns-in-Ok-clause-served : goal.returns-in-Ok-clause-served
returns-in-Ok-clause-served g c =
    let is = sym c.over.ensures.reader in
    let opened = c.in-Ok.ensures in
    let over = c.run_store.ensures.runs in
    record {
      answers = λ honest t image.
          let begun =
          opened.image t (subst g.B.BlockReader.honest is honest)
          (subst (λ b. IsImage (g.B.BlockReader.shown b) t) is image) in
          let run = over.runs begun.next begun.represents in
          inr (record {
            old = begun.next;
            new = run.0;
            begins = begun.so.0;
            answers = answers_of _ _ _ _ _ _ _ _ run.1;
          });
      checked = λ honest.
          inr (answers_so _ _ _ (λ rs xs once. once_checked_so _ _ (λ s ends. tt) rs xs once) _ _ _
          (over.checked (opened.honest (subst g.B.BlockReader.honest is honest))));
      refused =
          λ honest f refuses. absurd
          (opened.opened (subst g.B.BlockReader.honest is honest) f
          (subst (λ b. OpeningRefuses (g.B.BlockReader.shown b) f) is refuses));
    }

pub returns-in-Err-clause-served : goal.returns-in-Err-clause-served
returns-in-Err-clause-served g c = record {
  answers = λ honest t image. inl (record { failed = refl; unread = refl; unwritten = refl });
  checked = λ honest. inl (record { failed = refl; unread = refl; unwritten = refl });
  refused = λ honest f refuses. record { failed = refl; unread = refl; unwritten = refl };
}
