-- The layer was asked for, made where it was not there, and loaded, or objects were inserted.
use Rattle.std.proofs.Common.{◌≡◌, ◌<◌, ◌≤◌, ℕ, arith, subst, true}
use Rattle.std.specs.Prelude.{nat_lt}
use Rattle.std.proofs.lemmas.Bool.Decides.{nat_tests}
use Rattle.plain_table.specs.Commands.Command.{Count}
use Rattle.plain_table.specs.Loads.{GivenObjects}
use Rattle.plain_table.specs.Step.Answer.{Counted}
use Rattle.store_law.specs.States.Request.{Asks}
use Rattle.layer_store.specs.Calls.{Calls, IsAsked}
use Rattle.layer_store.specs.Representation.{device_in}
use Rattle.layer_store.proofs.CallLemmas.{asked_by_change, asked_by_question}
use Rattle.layer_import.specs.Imports.{Puts}
use Rattle.layer_import.proofs.CallLemmas.{puts_filled, puts_loaded, puts_made, puts_none, puts_unmade}
use Rattle.layer_import.proofs.import.put.Goals as goal

some : (n : ℕ) → 0 < n → nat_lt 0 n ≡ true
some n h = grind (arith, nat_tests)

none : (n : ℕ) → n ≤ 0 → n ≡ 0
none n h = omega arith

pub returns-then-count-gt0 : goal.returns-then-count-gt0
returns-then-count-gt0 g c =
    let import = c.args.import in
    subst (λ (objects : GivenObjects). Puts (Calls c.args.store.now c.insert_each.new.store) import.layer.now
    import.dims import.fanout objects c.insert_each.result) c.as_slice.ensures.value
    (puts_filled c.args.store.now c.count.new.self c.insert_each.new.store _ _ _ _ _ c.in-Ok.count
    (some c.in-Ok.count c.if-count-gt0.true)
    (asked_by_question (λ e. absurd (cc)) c.in-Ok.ensures.answers) c.insert_each.ensures)

pub returns-else-count-gt0 : goal.returns-else-count-gt0
returns-else-count-gt0 g c =
    rw c.told.ensures
    (puts_loaded c.args.store.now c.count.new.self c.load_owned.new.self _ _ _ _ c.load_owned.result
    (subst (λ (n : ℕ). IsAsked c.args.store.now (Asks (Count c.args.import.layer.now)) (Counted n)
    c.count.new.self) (none c.in-Ok.count c.if-count-gt0.false)
    (asked_by_question (λ e. absurd (cc)) c.in-Ok.ensures.answers))
    (asked_by_change
    (λ honest b left. g.met.D.BlockDevice.only_now (device_in c.count.new.self) b honest left)
    (λ e. absurd (cc)) c.load_owned.ensures.changes))

pub returns-in-Err-create : goal.returns-in-Err-create
returns-in-Err-create g c =
    rw c.from.ensures
    (puts_unmade c.args.store.now c.count.new.self c.create.new.self _ _ _ _ c.in-Err-create.refusal
    (asked_by_question (λ e. absurd (cc))
    (rw c.in-Err-NoLayer.field-0-is at c.in-Err-NoLayer.ensures.answers))
    (asked_by_change
    (λ honest b left. g.met.D.BlockDevice.only_now (device_in c.count.new.self) b honest left)
    (λ e. absurd (cc)) c.in-Err-create.ensures.changes))

pub returns-in_default : goal.returns-in_default
returns-in_default g c =
    rw c.told-in-Err-NoLayer.ensures
    (puts_made c.args.store.now c.count.new.self c.load_owned-in-Err-NoLayer.new.self _ _ _ _ c.create.new.self
    c.load_owned-in-Err-NoLayer.result
    (asked_by_question (λ e. absurd (cc))
    (rw c.in-Err-NoLayer.field-0-is at c.in-Err-NoLayer.ensures.answers))
    (asked_by_change
    (λ honest b left. g.met.D.BlockDevice.only_now (device_in c.count.new.self) b honest left)
    (λ e. absurd (cc)) c.in_default.ensures.changes)
    (asked_by_change
    (λ honest b left. g.met.D.BlockDevice.only_now (device_in c.create.new.self) b honest left)
    (λ e. absurd (cc)) c.load_owned-in-Err-NoLayer.ensures.changes))

pub returns-in-Err : goal.returns-in-Err
returns-in-Err g c =
    rw c.from-in-Err.ensures
    (puts_none c.args.store.now c.count.new.self _ _ _ _ c.in-Err.refusal
    (asked_by_question (λ e. absurd (cc)) c.in-Err.ensures.answers))
