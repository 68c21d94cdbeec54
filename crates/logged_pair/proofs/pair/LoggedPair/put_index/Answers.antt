-- One index block more is written.
use Rattle.std.proofs.Common.{◌≡◌, ◌∙◌, ◌<◌, ◌+◌, ◌*◌, ℕ, List, ap, arith, inr, length, subst}
use Rattle.std.specs.Prelude.{slice_index}
use Rattle.block_bytes.specs.Numbers.{number_at}
use Rattle.committed_log.specs.Committed as regions
use Rattle.logged_pair.specs.CommitLaws.{few_seen}
use Rattle.logged_pair.specs.Standing.{IsHonest, base_of, homes_of, journal_of, shown_of}
use Rattle.logged_pair.proofs.Indexing.{index_more, indexed_step}
use Rattle.logged_pair.proofs.Stood.{elsewhere_is}
use Rattle.logged_pair.proofs.Snapped.{snapshots_then}
use Rattle.logged_pair.proofs.pair.LoggedPair.put_index.Given as given
use Rattle.logged_pair.proofs.pair.LoggedPair.put_index.Goals as goal
use Rattle.logged_pair.proofs.pair.LoggedPair.put_index.Goals.{After-put_journal}

still : (g : given.Over) (c : After-put_journal g) → IsHonest c.loop-j.self
    → shown_of c.put_journal.new.self ≡ shown_of c.loop-j.self
still g c h =
    let d = c.loop-j.self in let e = c.put_journal.new.self in let inv = c.loop-j.invariant in
    elsewhere_is (homes_of d) (homes_of e) (journal_of d) (journal_of e) (base_of d) (base_of e)
    c.put_journal.ensures.slots.homes (c.put_journal.ensures.base h)
    (few_seen d.log (g.met.P.DevicePair.few_blocks (regions.pair_of d.log)).0) (d.standing h).room
    _ (inr (omega (arith, inv.1, ap length inv.0.slots.homes))) (c.put_journal.ensures.torn h)

pub returns-in_err-put_journal-clause-shown : goal.returns-in_err-put_journal-clause-shown
returns-in_err-put_journal-clause-shown g c = λ h.
    let inv = c.loop-j.invariant in
    still g (goal.at.returns-in_err-put_journal-clause-shown g c).After-put_journal (inv.0.honest.0 h)
    ∙ inv.0.shown h

pub loop-j-preserved : goal.loop-j-preserved
loop-j-preserved g c =
    let inv = c.loop-j.invariant in
    let e = c.put_journal.ensures in
    let at = (goal.at.loop-j-preserved g c).After-put_journal in (
      indexed_step c.loop-j.j c.args.self.now c.loop-j.self c.put_journal.new.self inv.0 e.slots e.honest
          (c.in_ok-put_journal.ensures.faults.other (λ x. cc)) (λ h. still g at h) e.keeps e.snapshots
          (λ h i. index_more (homes_of c.args.self.now) c.loop-j.j _ _ (journal_of c.loop-j.self)
          (journal_of c.put_journal.new.self) c.index_page-page.result (omega (arith, inv.1))
          (omega arith)
          (subst (λ (hs : List ℕ). (k : ℕ) → k < 1024 → c.loop-j.j * 1024 + k < length hs
          → number_at 4 (4 * k) c.index_page-page.result ≡ slice_index hs (c.loop-j.j * 1024 + k))
          (c.homes.ensures ∙ inv.0.slots.homes) c.index_page-page.ensures)
          (c.in_ok-put_journal.ensures.written (inv.0.honest.0 h)) i),
      inv.1,
      e.slots.deciding ∙ inv.2,
      e.slots.clearing ∙ inv.3,
    )

pub returns-in_err-put_journal-clause-snapshots : goal.returns-in_err-put_journal-clause-snapshots
returns-in_err-put_journal-clause-snapshots g c = λ h.
    let inv = c.loop-j.invariant in
    snapshots_then c.args.self.now c.loop-j.self c.put_journal.new.self (inv.0.snapshots h)
    (c.put_journal.ensures.snapshots (inv.0.honest.0 h))
