-- A program that tells its version.
use Rattle.std.proofs.Common.{ap, true}
use Rattle.clap.specs.Simple.{on_top}
use Rattle.program_words.proofs.words.without_words.Goals as goal

pub returns : goal.returns
returns c =
    rw (c.after_help.ensures, c.about.ensures, c.version.ensures)
    (ap (on_top (λ s. record s { has_version = true })) c.new.ensures.app)
