-- The log has no block that is read.
use Rattle.std.proofs.Common.{◌∙◌, ℕ, List, ap, arith}
use Rattle.committed_log.specs.Committed as regions
use Rattle.committed_log.specs.Log.{overlaid}
use Rattle.logged_pair.specs.CommitLaws.{few_seen}
use Rattle.logged_pair.specs.Shown.{shown_bare}
use Rattle.logged_pair.specs.Stages.{shown_through}
use Rattle.logged_pair.specs.Standing.{base_of, journal_of, log_of, pair_of}
use Rattle.logged_pair.proofs.laws.what_is_home_is_the_base.Goals as goal

pub returns : goal.returns
returns g c = λ d none empty.
    let few = few_seen (log_of d) (g.met.P.DevicePair.few_blocks (pair_of d)).0 in
    ap (λ (l : List ℕ). shown_through l (journal_of d) (base_of d)) none
    ∙ shown_bare (journal_of d) (base_of d) (omega (arith, few))
    ∙ ap (λ (l : List ℕ). overlaid l (regions.journal_of (log_of d)) (regions.base_of (log_of d))) empty
