-- What a stop leaves is kept anew.
use Rattle.std.proofs.Common.{◌≡◌, ◌<◌, ◌∙◌, ℕ, Bool, false, List, [], length, get_or, replicate, vec_len, ap}
use Rattle.std.proofs.Common.{subst, arith, rules}
use Rattle.std.proofs.lemmas.List.{length-replicate, get_or-replicate}
use Rattle.block_device.specs.Device.{Blocks}
use Rattle.block_device.specs.History.{Event, history, at_sync, unsynced, MayLeave}
use Rattle.block_device.specs.Kept.{IsLeftFrom}
use Rattle.block_device.specs.Memory.{IsLeft}
use Rattle.block_device.proofs.Filling.{left_is, left_outcome, logged_there, kept_fresh}
use Rattle.block_device.proofs.Stops.{only_shown}
use Rattle.block_device.proofs.memory.MemoryDevice.after_stop.Given as given
use Rattle.block_device.proofs.memory.MemoryDevice.after_stop.Goals as goal
use Rattle.block_device.proofs.memory.MemoryDevice.after_stop.Goals.{After-leave}

left : (g : given.Over) (c : goal.After-leave g)
    → IsLeft c.args.left c.args.self.blocks
    (at_sync c.args.self.blocks (history c.args.self.past.notes))
    (unsynced (history c.args.self.past.notes)) c.leave.new.blocks.items
left g c =
    let d = c.args.self in
    left_is c.args.left d.blocks c.leave.new.blocks.items d.marks.items d.log d.synced
    (history d.past.notes) d.kept
    (subst (λ (bs : Blocks). IsLeftFrom c.args.left d.marks.items d.log d.synced bs c.leave.new.blocks.items)
    c.into_written-blocks.ensures
    (subst (λ (m : List Bool). IsLeftFrom c.args.left m d.log d.synced c.into_written-blocks.result.items
    c.leave.new.blocks.items) c.deref.ensures.value c.leave.ensures.blocks))

outcome : (g : given.Over) (c : goal.After-leave g)
    → MayLeave c.args.self.blocks (history c.args.self.past.notes) c.leave.new.blocks.items
outcome g c =
    left_outcome c.args.left c.leave.ensures.byte c.args.self.blocks c.leave.new.blocks.items
    (history c.args.self.past.notes) c.args.self.kept.whole c.args.self.kept.leads (left g c)

pub leave-requires-clause-log : goal.leave-requires-clause-log
leave-requires-clause-log g c =
    let d = c.args.self in
    rw c.into_written-blocks.ensures
    (logged_there d.blocks d.marks.items d.log d.synced (history d.past.notes) d.kept)

pub invariant_of-result-clause-kept : goal.invariant_of-result-clause-kept
invariant_of-result-clause-kept g c =
    let d = c.args.self in
    let left_so = outcome g (goal.at.invariant_of-result-clause-kept g c).After-leave in
    let no_more = left_so.no_longer in
    let none : c.fill.new.self.items ≡ replicate (vec_len c.truncate.new.self) false =
    c.fill.ensures.items (λ y e. e) in
    let size : vec_len c.truncate.new.self ≡ length c.leave.new.blocks.items
    = omega (
      arith,
      c.truncate.ensures.len,
      c.len.ensures,
      d.kept.as_many,
      no_more,
      c.leave.new.blocks.ok.0,
      d.marks.ok.0,
    ) in
    let as_many : length c.fill.new.self.items ≡ length c.leave.new.blocks.items = ap length none
    ∙ length-replicate (vec_len c.truncate.new.self) false ∙ size in
    let marks : (k : ℕ) → k < length c.leave.new.blocks.items → get_or c.fill.new.self.items k false ≡ false
    = λ k lt. ap (λ (l : List Bool). get_or l k false) none
    ∙ get_or-replicate (vec_len c.truncate.new.self) k false false (omega (arith, lt, size)) in
    let fresh =
    kept_fresh c.leave.new.blocks.items c.fill.new.self.items c.len-2.result left_so.whole as_many marks
    (search rules) in
    rw (c.of.ensures, c.clear.ensures, ap history c.new.ensures) fresh

pub invariant_of-result-clause-few : goal.invariant_of-result-clause-few
invariant_of-result-clause-few g c =
    omega (
      arith,
      (outcome g (goal.at.invariant_of-result-clause-few g c).After-leave).no_longer,
      ap length c.of.ensures,
      c.args.self.few,
    )

pub returns-clause-exact : goal.returns-clause-exact
returns-clause-exact g c =
    record {
      shown = rw c.of.ensures (left g (goal.at.returns-clause-exact g c).After-leave);
      fresh = search rules;
      unwritten = search rules;
    }

pub returns-clause-outcome : goal.returns-clause-outcome
returns-clause-outcome g c = rw c.of.ensures (outcome g (goal.at.returns-clause-outcome g c).After-leave)

pub returns-clause-durable : goal.returns-clause-durable
returns-clause-durable g c = λ b now.
    only_shown c.of.result [] b
    (subst (λ (l : List Event). MayLeave c.of.result l b) (ap history c.new.ensures) now)
