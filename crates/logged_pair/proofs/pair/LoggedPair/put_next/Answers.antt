-- A slot more.
use Rattle.std.proofs.Common.{◌≡◌, ◌∙◌, ◌≤◌, ◌+◌, ◌++◌, ◌∷◌, [], List, ℕ, ap, arith, inl, inr, length, subst}
use Rattle.std.proofs.Common.{sym}
use Rattle.block_device.specs.Device.{Blocks, written}
use Rattle.committed_log.specs.Committed as regions
use Rattle.logged_pair.specs.CommitLaws.{few_seen}
use Rattle.logged_pair.specs.Shown.{shown_more, within_written}
use Rattle.logged_pair.specs.Stages.{IsStanding, shown_through}
use Rattle.logged_pair.specs.Standing.{base_of, clearing_of, homes_of, journal_of}
use Rattle.logged_pair.proofs.Stood.{elsewhere_is, on_any, slot_put}
use Rattle.logged_pair.proofs.pair.LoggedPair.put_next.Goals as goal

pub returns-in_err-put_journal-clause-torn : goal.returns-in_err-put_journal-clause-torn
returns-in_err-put_journal-clause-torn g c = λ h.
    let d = c.args.self.now in let e = c.put_journal.new.self in
    let s = d.standing h in
    on_any _ _
    (inl (elsewhere_is (homes_of d) (homes_of e) (journal_of d) (journal_of e) (base_of d) (base_of e)
    c.put_journal.ensures.slots.homes (c.put_journal.ensures.base h)
    (few_seen d.log (g.met.P.DevicePair.few_blocks (regions.pair_of d.log)).0) s.room
    _ (inr (omega (arith, c.len-at.ensures))) (c.put_journal.ensures.torn h)))

pub invariant_of-self : goal.invariant_of-self
invariant_of-self g c =
    let d = c.args.self.now in let e = c.put_journal.new.self in
    record {
      standing = λ h2.
          let h = c.put_journal.ensures.honest.1 h2 in
          let room : 2 + length (homes_of e) + 1 ≤ length (journal_of e) =
          omega (
            arith,
            c.len-at.ensures,
            ap length c.put_journal.ensures.slots.homes,
            ap length (c.in_ok-put_journal.ensures.written h),
            within_written (2 + c.len-at.result) c.args.bytes.now (journal_of d)
                c.in_ok-put_journal.ensures.there,
          ) in
          subst (λ (hs : List ℕ). IsStanding e.deciding (clearing_of e) e.kept hs (base_of e) (journal_of e)
          (regions.leaves_of e.log)) (sym c.push.ensures.slots)
          (slot_put e.deciding (clearing_of e) e.kept c.args.i (homes_of e) (base_of e) (journal_of e)
          (regions.leaves_of e.log) (c.put_journal.ensures.slots.deciding ∙ c.requires.filling)
          (c.put_journal.ensures.slots.clearing ∙ c.requires.settled)
          (omega (arith, c.requires.committed, c.put_journal.ensures.slots.kept)) room (e.standing h2));
    }

pub returns-clause-written : goal.returns-clause-written
returns-clause-written g c = λ h.
    let d = c.args.self.now in let e = c.put_journal.new.self in
    let s = d.standing h in
    let few = few_seen d.log (g.met.P.DevicePair.few_blocks (regions.pair_of d.log)).0 in
    let at : 2 + c.len-at.result ≡ 2 + length (homes_of d) = omega (arith, c.len-at.ensures) in
    ap (λ (hs : List ℕ). shown_through hs (journal_of e) (base_of e))
    (c.push.ensures.slots ∙ ap (λ (hs : List ℕ). hs ++ c.args.i ∷ []) c.put_journal.ensures.slots.homes)
    ∙ ap (λ (j : Blocks). shown_through (homes_of d ++ c.args.i ∷ []) j (base_of e))
    (c.in_ok-put_journal.ensures.written h ∙ ap (λ (n : ℕ). written n c.args.bytes.now (journal_of d)) at)
    ∙ ap (shown_through (homes_of d ++ c.args.i ∷ [])
    (written (2 + length (homes_of d)) c.args.bytes.now (journal_of d))) (c.put_journal.ensures.base h)
    ∙ shown_more (homes_of d) c.args.i c.args.bytes.now (journal_of d) (base_of d) (omega (arith, few)) s.room
    (omega (arith, c.requires.committed, s.kept_there))

pub push-requires : goal.push-requires
push-requires g c = c.put_journal.ensures.room 1 c.requires.room
