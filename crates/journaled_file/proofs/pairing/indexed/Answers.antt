-- Opening has appended to the journal, behind all regions that it had.
use Rattle.std.proofs.Common.{◌≡◌, ◌∙◌, ◌≤◌, ℕ, List, ap, arith, length, subst, sym, take}
use Rattle.std.proofs.lemmas.List.{take-take}
use Rattle.block_device.specs.Device.{Blocks}
use Rattle.committed_log.specs.Committed.{homes_of, journal_of}
use Rattle.committed_log.specs.Log.{homes_in, overlaid}
use Rattle.committed_log.specs.Overlay.{overlay_first}
use Rattle.committed_log.specs.Room.{blocks_of}
use Rattle.titled_pair.specs.Title.{untitled}
use Rattle.titled_pair.specs.TitleLaws.{length-untitled}
use Rattle.journaled_file.proofs.pairing.indexed.Given as given
use Rattle.journaled_file.proofs.pairing.indexed.Goals as goal
use Rattle.journaled_file.proofs.pairing.indexed.Goals.{After-into_pair}

-- what it had as a log, all of whose regions are in the index
record Indexed (was journal : Blocks) (homes : List ℕ) : Type 0 where
  begins : take (length was) journal ≡ was
  room : length homes ≤ length was
  index : homes_in was ≡ homes

index_so : (g : given.Over) (c : After-into_pair g) → g.P.DevicePair.honest c.args.pair
    → Indexed (untitled (g.P.DevicePair.journal c.args.pair)) (journal_of c.in-Ok-open.log) (homes_of c.in-Ok-open.log)
index_so g c h =
    let p = g.P.DevicePair in let log = c.in-Ok-open.log in
    let titled = c.in-Ok.ensures.honest.0 h in let said = c.in-Ok-open.ensures in
    let was : Blocks = untitled (p.journal c.in-Ok.titled.pair) in
    let same : was ≡ untitled (p.journal c.args.pair) = ap untitled (c.in-Ok.ensures.journal h) in
    let begins : take (length was) (journal_of log) ≡ was = (said.appends titled).now.begins in
    let room : length (homes_of log) ≤ length was = omega (
      arith,
      c.if-len-blocks.false,
      c.len.ensures,
      ap (λ s. length (blocks_of s)) c.into_parts-titled.ensures.slots,
      c.journal_blocks-blocks.ensures.is,
      ap length same,
      length-untitled (p.journal c.args.pair),
    ) in
    subst (λ (b : Blocks). Indexed b (journal_of log) (homes_of log)) same (record {
      begins = begins;
      room = room;
      index = c.the_index_is_that_of_the_journal.ensures log was (said.honest.0 titled) said.settled
          (said.unsaid titled) begins room;
    })

-- the journal that comes back
journal_so : (g : given.Over) (c : After-into_pair g)
    → untitled (g.P.DevicePair.journal c.into_pair.result) ≡ journal_of c.in-Ok-open.log
journal_so g c =
    let p = g.P.DevicePair in
    ap (λ x. untitled (p.journal x)) c.into_pair.ensures
    ∙ ap (λ t. untitled (p.journal t.pair)) c.into_parts-titled.ensures.pair

pub returns-clause-read : goal.returns-clause-read
returns-clause-read g c = λ h (a : Blocks).
    let at = (goal.at.returns-clause-read g c).After-into_pair in
    let log = c.in-Ok-open.log in let is = index_so g at h in
    let was : Blocks = untitled (g.P.DevicePair.journal c.args.pair) in
    ap (λ s. overlaid (blocks_of s) (untitled (g.P.DevicePair.journal c.into_pair.result)) a)
    c.into_parts-titled.ensures.slots
    ∙ ap (λ (b : Blocks). overlaid (homes_of log) b a) (journal_so g at)
    ∙ overlay_first (homes_of log) was (journal_of log) a
    (sym (take-take (length (homes_of log)) (length was) (journal_of log) is.room)
    ∙ ap (take (length (homes_of log))) is.begins)
    ∙ ap (λ l. overlaid l was a) (sym is.index)

pub returns-clause-homes : goal.returns-clause-homes
returns-clause-homes g c = λ h.
    let at = (goal.at.returns-clause-homes g c).After-into_pair in
    ap (λ s. blocks_of s) c.into_parts-titled.ensures.slots ∙ sym (index_so g at h).index

pub returns-clause-begins : goal.returns-clause-begins
returns-clause-begins g c = λ h.
    let at = (goal.at.returns-clause-begins g c).After-into_pair in
    let was : Blocks = untitled (g.P.DevicePair.journal c.args.pair) in
    ap (take (length was)) (journal_so g at) ∙ (index_so g at h).begins
