-- The region behind the others is taken in.
use Rattle.std.proofs.Common.{◌≡◌, ◌∙◌, ◌+◌, ◌++◌, ℕ, List, ap, arith, drop, length, replicate, subst, sym}
use Rattle.block_device.specs.Device.{Blocks}
use Rattle.committed_log.specs.Committed.{base_of, clearing_of, homes_of, journal_of, pair_of}
use Rattle.committed_log.specs.Log.{no_home, overlaid, region_of}
use Rattle.committed_log.specs.Regions.{length_region}
use Rattle.committed_log.specs.Stops.{IsStanding}
use Rattle.committed_log.proofs.Stood.{Leaves}
use Rattle.committed_log.proofs.Taking.{room_less, taken_behind, taken_durable, taken_homes, taken_seen}
use Rattle.committed_log.proofs.Taking.{taken_stands}
use Rattle.committed_log.proofs.log.CommittedLog.take_in.Given as given
use Rattle.committed_log.proofs.log.CommittedLog.take_in.Goals as goal
use Rattle.committed_log.proofs.log.CommittedLog.take_in.Goals.{After-push_none-2}

pub push_none-requires : goal.push_none-requires
push_none-requires g c = let n = length c.args.homes.now in
    room_less 2 (length (region_of c.args.homes.now)) c.args.self.now.slots
    (omega (arith, length_region c.args.homes.now)) c.requires.room

pub push_all-requires : goal.push_all-requires
push_all-requires g c = let n = length c.args.homes.now in
    c.push_none.ensures.room n (room_less (n + 2) (length (region_of c.args.homes.now)) c.args.self.now.slots
    (omega (arith, length_region c.args.homes.now)) c.requires.room)

pub push_none-requires-2 : goal.push_none-requires-2
push_none-requires-2 g c = let n = length c.args.homes.now in let d = c.div_ceil.result in
    c.push_all.ensures.room d (c.push_none.ensures.room (d + n)
    (room_less (d + n + 2) (length (region_of c.args.homes.now)) c.args.self.now.slots
    (omega (arith, length_region c.args.homes.now, c.div_ceil.ensures)) c.requires.room))

homes_so : (g : given.Over) (c : After-push_none-2 g) → c.push_none-2.new.slots.homes.items
    ≡ c.args.self.now.slots.homes.items ++ region_of c.args.homes.now
homes_so g c =
    let d = c.args.self.now in
    c.push_none-2.ensures.slots
    ∙ ap (λ (l : List ℕ). l ++ replicate c.div_ceil.result no_home)
    (c.push_all.ensures.slots ∙ ap (λ (l : List ℕ). l ++ c.args.homes.now) c.push_none.ensures.slots)
    ∙ taken_homes d.slots.homes.items c.args.homes.now c.div_ceil.result c.div_ceil.ensures

pub invariant_of-self : goal.invariant_of-self
invariant_of-self g c =
    let d = c.args.self.now in let p = g.P.DevicePair in
    let at = (goal.at.invariant_of-self g c).After-push_none-2 in
    record {
      standing = λ h.
          subst (λ (l : List ℕ). IsStanding d.clearing l (p.base d.pair) (p.journal d.pair)
          (p.may_leave d.pair)) (sym (homes_so g at))
          (taken_stands d.clearing d.slots.homes.items c.args.homes.now (p.base d.pair) (p.journal d.pair)
          (p.may_leave d.pair) c.requires.settled (c.requires.region h) (c.requires.durable h)
          (d.standing h) (g.met.P.DevicePair.few_blocks d.pair).0);
    }

pub returns-clause-homes : goal.returns-clause-homes
returns-clause-homes g c = homes_so g (goal.at.returns-clause-homes g c).After-push_none-2

pub returns-clause-seen : goal.returns-clause-seen
returns-clause-seen g c = λ h.
    let d = c.args.self.now in
    ap (λ (l : List ℕ). overlaid l (journal_of d) (base_of d))
    (homes_so g (goal.at.returns-clause-seen g c).After-push_none-2)
    ∙ taken_seen (clearing_of d) (homes_of d) c.args.homes.now (base_of d) (journal_of d)
    (g.P.DevicePair.may_leave (pair_of d)) c.requires.settled (c.requires.region h) (c.requires.durable h)
    (d.standing h)

pub returns-clause-behind : goal.returns-clause-behind
returns-clause-behind g c = λ h.
    let d = c.args.self.now in
    ap (λ (l : List ℕ). drop (length l) (journal_of d))
    (homes_so g (goal.at.returns-clause-behind g c).After-push_none-2)
    ∙ taken_behind (clearing_of d) (homes_of d) c.args.homes.now (base_of d) (journal_of d)
    (g.P.DevicePair.may_leave (pair_of d)) c.requires.settled (c.requires.region h) (c.requires.durable h)
    (d.standing h)

pub returns-clause-durable : goal.returns-clause-durable
returns-clause-durable g c = λ h.
    let d = c.args.self.now in
    let ml = g.P.DevicePair.may_leave (pair_of d) in
    subst (λ (l : List ℕ). (v j : Blocks) → Leaves l ml v j
    → (v ≡ overlaid l (journal_of d) (base_of d)) × (j ≡ drop (length l) (journal_of d)))
    (sym (homes_so g (goal.at.returns-clause-durable g c).After-push_none-2))
    (taken_durable (clearing_of d) (homes_of d) c.args.homes.now (base_of d) (journal_of d) ml
    c.requires.settled (c.requires.region h) (c.requires.durable h) (d.standing h))
