-- Two blocks are written in front of the log.
use Rattle.std.proofs.Common.{◌≡◌, ◌∙◌, ℕ, [], ◌∷◌, ap, arith, drop, length, sym}
use Rattle.std.proofs.lemmas.Result.{on_ok_weaker}
use Rattle.block_device.specs.Device.{Blocks, written}
use Rattle.committed_log.specs.Log.{overlaid, recovered}
use Rattle.committed_log.specs.Room.{blocks_of}
use Rattle.logged_pair.specs.Compaction.{LeavesItsBase, WritesJournal}
use Rattle.logged_pair.specs.WritesLaws.{writes_one, writes_then}
use Rattle.journaled_file.proofs.Anew.{anew_is, begun_on, two_written, untitled_is}
use Rattle.journaled_file.proofs.pairing.put_anew.Given as given
use Rattle.journaled_file.proofs.pairing.put_anew.Goals as goal
use Rattle.journaled_file.proofs.pairing.put_anew.Goals.{After-write_newest}

two_so : (g : given.Over) (c : After-write_newest g) → g.P.DevicePair.honest c.args.pair.now
    → g.P.DevicePair.journal c.write_journal-2.new.self ≡ c.args.front.now.title ∷ c.args.front.now.end ∷ []
two_so g c h =
    c.in_ok-write_journal-2.ensures.written (c.write_journal.ensures.honest.0 h)
    ∙ ap (written 1 c.args.front.now.end) (c.in_ok-write_journal.ensures.written h)
    ∙ two_written c.args.front.now.title c.args.front.now.end (g.P.DevicePair.journal c.args.pair.now) c.requires.none

pub returns-clause-read : goal.returns-clause-read
returns-clause-read g c = λ jh h.
    let p = g.P.DevicePair in let j = g.J.BlockDevice in
    let at = (goal.at.returns-clause-read g c).After-write_newest in
    let h1 = c.write_journal.ensures.honest.0 h in let h2 = c.write_journal-2.ensures.honest.0 h1 in
    let two : length (p.journal c.write_journal-2.new.self) ≡ 2 = ap length (two_so g at h) in
    let new : Blocks = p.journal c.write_newest.new.pair in
    let from : Blocks = j.shown c.args.from.now in
    on_ok_weaker c.write_newest.result
    (λ f (a : Blocks) (size : length a ≡ length (p.base c.args.pair.now)).
    ap (recovered a) (untitled_is new ∙ ap (λ (n : ℕ). drop n new) (sym two))
    ∙ f a (size ∙ sym (ap length (c.write_journal-2.ensures.base h1 ∙ c.write_journal.ensures.base h)))
    ∙ ap (λ (b : Blocks). overlaid (blocks_of c.args.slots.now) b a)
    (ap (λ (n : ℕ). drop n from) two ∙ sym (untitled_is from)))
    (c.write_newest.ensures.read jh h2)

pub returns-clause-front : goal.returns-clause-front
returns-clause-front g c = λ h.
    let p = g.P.DevicePair in
    let at = (goal.at.returns-clause-front g c).After-write_newest in
    let h1 = c.write_journal.ensures.honest.0 h in let h2 = c.write_journal-2.ensures.honest.0 h1 in
    on_ok_weaker c.write_newest.result
    (λ b. anew_is c.args.front.now.title c.args.front.now.end (p.journal c.write_journal-2.new.self)
    (p.journal c.write_newest.new.pair) b.0 (two_so g at h) b.1 b.2 b.3)
    (c.write_newest.ensures.begins h2)

pub returns-clause-anew : goal.returns-clause-anew
returns-clause-anew g c = λ h.
    let p = g.P.DevicePair in let w = g.met.P.DevicePair in
    let d = c.args.pair.now in let e1 = c.write_journal.new.self in let e2 = c.write_journal-2.new.self in
    let h1 = c.write_journal.ensures.honest.0 h in let h2 = c.write_journal-2.ensures.honest.0 h1 in
    let first : WritesJournal p d e1 =
    writes_one p 0 d e1 (c.write_journal.ensures.base h) (c.write_journal.ensures.stops h)
    (c.write_journal.ensures.time h) in
    let second : WritesJournal p e1 e2 =
    writes_one p 1 e1 e2 (c.write_journal-2.ensures.base h1) (c.write_journal-2.ensures.stops h1)
    (c.write_journal-2.ensures.time h1) in
    let both : WritesJournal p d e2 = writes_then p d e1 e2 first second in
    let all : WritesJournal p d c.write_newest.new.pair =
    writes_then p d e2 c.write_newest.new.pair both (c.write_newest.ensures.writes h2) in
    on_ok_weaker c.write_newest.result
    (λ b. begun_on p.base p.journal p.moment p.left_since d c.write_newest.new.pair (LeavesItsBase (p.may_leave d))
    all.stops c.requires.none
    (w.counts_now d (p.moment d) (p.base d) (p.journal d) h (omega arith) (w.shown_counts d h)))
    (c.write_newest.ensures.begins h2)
