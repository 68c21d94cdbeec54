-- A commit that has begun is finished first, and the copy is synced.
use Rattle.std.proofs.Common.{◌≡◌, ◌∙◌, sym}
use Rattle.logged_pair.specs.Snapshots.{KeepsReaders}
use Rattle.logged_pair.specs.Standing.{IsHonest, KeepsTo, commits_of, pair_of, shown_of}
use Rattle.logged_pair.proofs.Keeping.{keeps_on, keeps_still, shown_still}
use Rattle.logged_pair.proofs.Snapped.{readers_then, snapshots_still}
use Rattle.logged_pair.proofs.Stood.{on_either}
use Rattle.logged_pair.proofs.pair.LoggedPair.copy_gate.Given as given
use Rattle.logged_pair.proofs.pair.LoggedPair.copy_gate.Goals as goal
use Rattle.logged_pair.proofs.pair.LoggedPair.copy_gate.Goals.{After-put_gate_home}

shown_so : (g : given.Over) (c : After-put_gate_home g) → IsHonest c.args.self.now
    → shown_of c.put_gate_home.new.self ≡ shown_of c.args.self.now
shown_so g c h = c.put_gate_home.ensures.shown (c.finish.ensures.honest.0 h) ∙ c.finish.ensures.shown h

keeps_so : (g : given.Over) (c : After-put_gate_home g) → IsHonest c.args.self.now
    → KeepsTo (commits_of c.args.self.now) c.args.self.now c.put_gate_home.new.self
keeps_so g c h =
    keeps_on (commits_of c.args.self.now) c.args.self.now c.finish.new.self c.put_gate_home.new.self
    (c.finish.ensures.keeps h) (c.put_gate_home.ensures.keeps (c.finish.ensures.honest.0 h))

pub returns-in_err-put_gate_home-clause-shown : goal.returns-in_err-put_gate_home-clause-shown
returns-in_err-put_gate_home-clause-shown g c = λ h.
    shown_so g (goal.at.returns-in_err-put_gate_home-clause-shown g c).After-put_gate_home h

pub returns-in_err-put_gate_home-clause-keeps : goal.returns-in_err-put_gate_home-clause-keeps
returns-in_err-put_gate_home-clause-keeps g c = λ h.
    keeps_so g (goal.at.returns-in_err-put_gate_home-clause-keeps g c).After-put_gate_home h

pub returns-clause-shown : goal.returns-clause-shown
returns-clause-shown g c = λ h.
    let hm = c.put_gate_home.ensures.honest.0 (c.finish.ensures.honest.0 h) in
    shown_still c.put_gate_home.new.self c.sync_region.new.self (c.sync_region.ensures.still hm)
    ∙ shown_so g (goal.at.returns-clause-shown g c).After-put_gate_home h

pub returns-clause-settled : goal.returns-clause-settled
returns-clause-settled g c = λ h.
    let hf = c.finish.ensures.honest.0 h in
    let still = c.sync_region.ensures.still (c.put_gate_home.ensures.honest.0 hf) in
    on_either c.sync_region.result _ (λ a b left.
    c.in_ok-put_gate_home.ensures.durable hf a b (still.log.now a b left)
    ∙ sym (shown_still c.put_gate_home.new.self c.sync_region.new.self still))

pub returns-clause-keeps : goal.returns-clause-keeps
returns-clause-keeps g c = λ h.
    let d = c.args.self.now in let m = c.put_gate_home.new.self in let e = c.sync_region.new.self in
    let hm = c.put_gate_home.ensures.honest.0 (c.finish.ensures.honest.0 h) in
    keeps_on (commits_of d) d m e (keeps_so g (goal.at.returns-clause-keeps g c).After-put_gate_home h)
    (keeps_still m e (g.met.P.DevicePair.few_blocks (pair_of e)).0 (c.sync_region.ensures.honest.0 hm)
    (c.sync_region.ensures.still hm))

readers_so : (g : given.Over) (c : After-put_gate_home g) → IsHonest c.args.self.now
    → KeepsReaders c.args.self.now c.put_gate_home.new.self
readers_so g c h =
    readers_then c.args.self.now c.finish.new.self c.put_gate_home.new.self (c.finish.ensures.snapshots h 1)
    (c.put_gate_home.ensures.readers (c.finish.ensures.honest.0 h))

pub returns-in_err-finish-clause-readers : goal.returns-in_err-finish-clause-readers
returns-in_err-finish-clause-readers g c = λ h. c.finish.ensures.snapshots h 1

pub returns-in_err-put_gate_home-clause-readers : goal.returns-in_err-put_gate_home-clause-readers
returns-in_err-put_gate_home-clause-readers g c = λ h.
    readers_so g (goal.at.returns-in_err-put_gate_home-clause-readers g c).After-put_gate_home h

pub returns-clause-readers : goal.returns-clause-readers
returns-clause-readers g c = λ h.
    let m = c.put_gate_home.new.self in let e = c.sync_region.new.self in
    let hm = c.put_gate_home.ensures.honest.0 (c.finish.ensures.honest.0 h) in
    readers_then c.args.self.now m e (readers_so g (goal.at.returns-clause-readers g c).After-put_gate_home h)
    (snapshots_still m e (c.sync_region.ensures.still hm) 1)
