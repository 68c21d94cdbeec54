-- A write of one block more, and of one that is there.
use Rattle.std.proofs.Common.{◌≡◌, ◌∙◌, ◌<◌, ◌++◌, ◌∷◌, [], Bool, List, false, true, get_or, length, ap, arith}
use Rattle.std.proofs.Common.{length-set, rules}
use Rattle.block_device.specs.History.{history, unsynced}
use Rattle.block_device.proofs.Done.{answers_ok}
use Rattle.block_device.proofs.Numbers.{is_in_from}
use Rattle.block_device.proofs.Keeping.{Adds, appends, appended_kept, changes, changed}
use Rattle.block_device.proofs.memory.calls.MemoryDeviceBlockDevice.write.Given as given
use Rattle.block_device.proofs.memory.calls.MemoryDeviceBlockDevice.write.Goals as goal
use Rattle.block_device.proofs.memory.calls.MemoryDeviceBlockDevice.write.Goals.{After-saturating_add-self}
use Rattle.block_device.proofs.memory.calls.MemoryDeviceBlockDevice.write.Goals.{After-saturating_add-self-2}

added : (g : given.Over) (c : goal.After-saturating_add-self g)
    → Adds c.args.self.now.blocks c.push.new.self (history c.args.self.now.past.notes)
    (history c.appends.new.self.notes) c.args.i c.args.bytes.now
added g c =
    let old = c.args.self.now in
    let marked_more : c.push_reserved.new.self.items ≡ old.marks.items ++ true ∷ [] =
    c.push_reserved.ensures.items ∙ ap (λ (ms : List Bool). ms ++ true ∷ []) c.reserve.ensures.items in
    appends old.blocks c.push.new.self old.marks.items c.push_reserved.new.self.items old.log
    old.synced (history old.past.notes) (history c.appends.new.self.notes) c.args.i c.args.bytes.now
    old.kept (record { size = c.told-bytes; bytes_fit = c.fits-bytes }) (omega arith)
    c.in_ok-push.ensures.pushed marked_more (ap history c.appends.ensures)

pub invariant_of-self-then-at-len-clause-kept : goal.invariant_of-self-then-at-len-clause-kept
invariant_of-self-then-at-len-clause-kept g c =
    let old = c.args.self.now in
    let marked_more : c.push_reserved.new.self.items ≡ old.marks.items ++ true ∷ [] =
    c.push_reserved.ensures.items ∙ ap (λ (ms : List Bool). ms ++ true ∷ []) c.reserve.ensures.items in
    appended_kept old.blocks c.push.new.self old.marks.items c.push_reserved.new.self.items
    old.log old.synced (history old.past.notes) (history c.appends.new.self.notes) c.args.i
    c.args.bytes.now
    old.kept (record { size = c.told-bytes; bytes_fit = c.fits-bytes }) (omega arith)
    c.in_ok-push.ensures.pushed marked_more (ap history c.appends.ensures)

pub returns-then-at-len-clause-written : goal.returns-then-at-len-clause-written
returns-then-at-len-clause-written g c =
    λ _. (added g (goal.at.returns-then-at-len-clause-written g c).After-saturating_add-self).shown

pub returns-then-at-len-clause-stops : goal.returns-then-at-len-clause-stops
returns-then-at-len-clause-stops g c =
    λ _. (added g (goal.at.returns-then-at-len-clause-stops g c).After-saturating_add-self).stops

pub returns-then-at-len-clause-gives : goal.returns-then-at-len-clause-gives
returns-then-at-len-clause-gives g c =
    answers_ok _ _ c.args.i c.args.bytes.now
    (added g (goal.at.returns-then-at-len-clause-gives g c).After-saturating_add-self)
    c.saturating_add-self.ensures

there : (g : given.Over) (c : goal.After-saturating_add-self-2 g)
    → c.args.i < length c.args.self.now.blocks
there g c = search rules

changed_so : (g : given.Over) (c : goal.After-saturating_add-self-2 g)
    → Adds c.args.self.now.blocks c.set.new.self
    (history c.args.self.now.past.notes) (history c.changes.new.self.notes) c.args.i c.args.bytes.now
changed_so g c =
    let old = c.args.self.now in
    rw c.set.ensures (changes old.blocks old.marks.items c.keep.new.marks.items old.log c.keep.new.log old.synced
    (history old.past.notes) (history c.changes.new.self.notes) c.args.i c.block-old.result.now
    c.args.bytes.now
    old.kept (there g c) c.block-old.ensures (record { size = c.told-bytes; bytes_fit = c.fits-bytes })
    c.in_ok-keep.ensures.kept (ap history c.changes.ensures))

pub invariant_of-self-2-clause-kept : goal.invariant_of-self-2-clause-kept
invariant_of-self-2-clause-kept g c =
    let old = c.args.self.now in
    let at = (goal.at.invariant_of-self-2-clause-kept g c).After-saturating_add-self-2 in
    rw c.set.ensures (changed old.blocks old.marks.items c.keep.new.marks.items old.log c.keep.new.log old.synced
    (history old.past.notes) (history c.changes.new.self.notes) c.args.i c.block-old.result.now
    c.args.bytes.now
    old.kept (there g at) c.block-old.ensures (record { size = c.told-bytes; bytes_fit = c.fits-bytes })
    c.in_ok-keep.ensures.kept (ap history c.changes.ensures))

pub invariant_of-self-2-clause-few : goal.invariant_of-self-2-clause-few
invariant_of-self-2-clause-few g c =
    omega (
      arith,
      ap length c.set.ensures,
      length-set c.args.self.now.blocks c.args.i c.args.bytes.now,
      c.args.self.now.few,
    )

pub returns-clause-written : goal.returns-clause-written
returns-clause-written g c =
    λ _. (changed_so g (goal.at.returns-clause-written g c).After-saturating_add-self-2).shown

pub returns-clause-stops : goal.returns-clause-stops
returns-clause-stops g c =
    λ _. (changed_so g (goal.at.returns-clause-stops g c).After-saturating_add-self-2).stops

pub returns-clause-time : goal.returns-clause-time
returns-clause-time g c =
    λ _. (changed_so g (goal.at.returns-clause-time g c).After-saturating_add-self-2).time

pub returns-clause-gives : goal.returns-clause-gives
returns-clause-gives g c =
    answers_ok _ _ c.args.i c.args.bytes.now
    (changed_so g (goal.at.returns-clause-gives g c).After-saturating_add-self-2)
    c.saturating_add-self-2.ensures

-- a block that is marked was not refused
pub returns-in_err-keep-clause-gives : goal.returns-in_err-keep-clause-gives
returns-in_err-keep-clause-gives g c =
    let old = c.args.self.now in
    record {
      done = search rules;
      refused = search rules;
      memory = search rules;
      again = λ one lt.
          let marked : get_or old.marks.items c.args.i false ≡ true = old.kept.marked c.args.i lt
          ∙ is_in_from c.args.i (unsynced (history old.past.notes)) one in
          let never : false ≡ true = c.in_err-keep.ensures.again marked in
          cc;
    }
