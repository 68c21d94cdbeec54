-- What is not allowed is refused, no objects change nothing, and others fill the layer.
use Rattle.std.proofs.Common.{◌≡◌, ◌∙◌, ℕ, ◌<◌, Bool, List, length, Option, refl, sym, subst, arith}
use Rattle.std.specs.Prelude.{Err, slice_index_or}
use Rattle.std.proofs.lemmas.Bool.Decides.{nat_tests}
use Rattle.id_words.proofs.EntryLemmas.{as_many_listed}
use Rattle.id_words.specs.Objects.{pairs_in}
use Rattle.plain_table.specs.Commands.Command.{Load}
use Rattle.plain_table.specs.Laws.{a_change_makes_another_table, no_change_leaves_the_table}
use Rattle.plain_table.specs.Loads.{with_objects}
use Rattle.plain_table.specs.Table.{layer_at}
use Rattle.plain_table.specs.declared.refusal.Refusal.{Refusal}
use Rattle.tree_node.specs.declared.node.Entry.{Entry}
use Rattle.live_layers.specs.Changes.{Rose}
use Rattle.live_layers.specs.Inserting.{IsAllowedOr}
use Rattle.live_layers.specs.Keeping.{count_in, records_in}
use Rattle.live_layers.specs.Refusals.{ids_refusals, no_record, refusals_in}
use Rattle.live_layers.proofs.ChangeLemmas.{begun_change, begun_keeps_so, made_so, refused_change}
use Rattle.live_layers.proofs.ChangeLemmas.{refused_keeps, unbegun_change, unbegun_keeps}
use Rattle.live_layers.proofs.LoadLemmas.{allowed_anyhow, as_load, had_none, made_of, none_change}
use Rattle.live_layers.proofs.LoadLemmas.{some_change}
use Rattle.live_layers.proofs.QuestionLemmas.{none_asked, refuses_unasked}
use Rattle.live_layers.proofs.RefusalLemmas.{begun_in_turn, passes_so, refuses_so}
use Rattle.live_layers.proofs.TurnLemmas.{load_there}
use Rattle.live_layers.proofs.layers.Layers.load_boxes.Goals as goal

none_listed : {D : ℕ} (entries : List (Entry D)) → length entries ≡ 0 → length (pairs_in entries) ≡ 0
none_listed entries none = omega (arith, as_many_listed entries, none)

some_listed : {D : ℕ} (entries : List (Entry D)) → 0 < length entries → 0 < length (pairs_in entries)
some_listed entries some = omega (arith, as_many_listed entries, some)

pub returns-in-Err-clause-keeps : goal.returns-in-Err-clause-keeps
returns-in-Err-clause-keeps g c =
    let old = c.args.self.now in
    refused_keeps old old c.in-Err.refusal (refuses_unasked old c.in-Err.refusal c.in-Err.ensures.quiet)

pub returns-in-Err-clause-change : goal.returns-in-Err-clause-change
returns-in-Err-clause-change g c = λ t name given sound reaches.
    let old = c.args.self.now in
    let r = c.in-Err.refusal in
    let why = allowed_anyhow (Rose old old) _ r (c.in-Err.ensures.allowed t name given sound reaches) in
    refused_change old old t (Load name given) r g.met.B.BlockDevice.only_now
    (refuses_unasked old r c.in-Err.ensures.quiet) sound
    (subst (λ (o : Option Refusal). IsAllowedOr {T = Unit {0}} (Rose old old) o (Err r))
    (sym (as_load t name c.args.place given reaches.good reaches.finds)) why)

pub returns-then-is_empty-clause-keeps : goal.returns-then-is_empty-clause-keeps
returns-then-is_empty-clause-keeps g c =
    unbegun_keeps c.args.self.now c.args.self.now (none_asked c.args.self.now)

pub returns-then-is_empty-clause-change : goal.returns-then-is_empty-clause-change
returns-then-is_empty-clause-change g c = λ t name given sound reaches.
    let old = c.args.self.now in
    let none = c.in_default.ensures.allowed t name given sound reaches in
    let empty : length (pairs_in c.args.entries.now) ≡ 0 =
    none_listed c.args.entries.now (grind (arith, nat_tests, c.is_empty.ensures, c.if-is_empty.true)) in
    let same =
    no_change_leaves_the_table t (Load name given)
    (none_change t name c.args.place given g.row.D (pairs_in c.args.entries.now) reaches none empty) in
    unbegun_change old old t (Load name given) g.met.B.BlockDevice.only_now (none_asked old) sound
    (as_load t name c.args.place given reaches.good reaches.finds ∙ none) refl same

pub returns-then-is_empty-clause-tree : goal.returns-then-is_empty-clause-tree
returns-then-is_empty-clause-tree g c = λ t name given sound reaches changed.
    let none = c.in_default.ensures.allowed t name given sound reaches in
    let empty : length (pairs_in c.args.entries.now) ≡ 0 =
    none_listed c.args.entries.now (grind (arith, nat_tests, c.is_empty.ensures, c.if-is_empty.true)) in
    absurd (let no = sym (none_change t name c.args.place given g.row.D (pairs_in c.args.entries.now) reaches
    none empty) ∙ changed in cc)

pub returns-clause-keeps : goal.returns-clause-keeps
returns-clause-keeps g c =
    let old = c.args.self.now in
    begun_keeps_so old old c.fill.new.self (none_asked old) c.fill.result c.fill.ensures.begins
    c.change_of.result c.change_of.ensures

pub returns-clause-change : goal.returns-clause-change
returns-clause-change g c = λ t name given sound reaches.
    let old = c.args.self.now in
    let new = c.fill.new.self in
    let none = c.in_default.ensures.allowed t name given sound reaches in
    let some : 0 < length (pairs_in c.args.entries.now) =
    some_listed c.args.entries.now (grind (arith, nat_tests, c.is_empty.ensures, c.if-is_empty.false)) in
    let grows =
    a_change_makes_another_table t (Load name given)
    (some_change t name c.args.place given g.row.D (pairs_in c.args.entries.now) reaches none some) in
    let empty = had_none t name c.args.place given g.row.D (pairs_in c.args.entries.now) reaches none in
    let same = made_of t name c.args.place given g.row.D (pairs_in c.args.entries.now) reaches none in
    let all = (with_objects (layer_at t name) given).objects in
    begun_change old old new (none_asked old) c.fill.result c.fill.ensures.begins c.change_of.result
    c.change_of.ensures t (Load name given) grows g.met.B.BlockDevice.only_now sound
    (as_load t name c.args.place given reaches.good reaches.finds ∙ none) refl
    (c.fill.ensures.filled t name all sound reaches.finds reaches.axes empty same)
    (c.fill.ensures.faults t name all sound reaches.finds reaches.axes empty same)

pub returns-clause-tree : goal.returns-clause-tree
returns-clause-tree g c = λ t name given sound reaches changed.
    let none = c.in_default.ensures.allowed t name given sound reaches in
    let empty = had_none t name c.args.place given g.row.D (pairs_in c.args.entries.now) reaches none in
    let same = made_of t name c.args.place given g.row.D (pairs_in c.args.entries.now) reaches none in
    made_so _ c.fill.result c.change_of.result c.change_of.ensures
    (c.fill.ensures.tree t name (with_objects (layer_at t name) given).objects sound reaches.finds
    reaches.axes empty same)

pub returns-clause-same : goal.returns-clause-same
returns-clause-same g c = λ t name given sound reaches unchanged.
    let none = c.in_default.ensures.allowed t name given sound reaches in
    let some : 0 < length (pairs_in c.args.entries.now) =
    some_listed c.args.entries.now (grind (arith, nat_tests, c.is_empty.ensures, c.if-is_empty.false)) in
    absurd (let no = sym (some_change t name c.args.place given g.row.D (pairs_in c.args.entries.now) reaches
    none some) ∙ unchanged in cc)

pub returns-in-Err-clause-in_turn : goal.returns-in-Err-clause-in_turn
returns-in-Err-clause-in_turn g c = λ name given its wide ordered pairs.
    let old = c.args.self.now in
    let held = (slice_index_or (records_in old) c.args.place no_record).count in
    refuses_so (λ (found : Bool). ids_refusals held given (count_in old)) (refusals_in old (Load name given))
    (load_there old name c.args.place its given wide ordered) c.in-Err.refusal
    (c.in-Err.ensures.in_turn given no_record pairs)

pub returns-then-is_empty-clause-in_turn : goal.returns-then-is_empty-clause-in_turn
returns-then-is_empty-clause-in_turn g c = λ name given its wide ordered pairs.
    let old = c.args.self.now in
    let held = (slice_index_or (records_in old) c.args.place no_record).count in
    passes_so (λ (found : Bool). ids_refusals held given (count_in old)) (refusals_in old (Load name given))
    (load_there old name c.args.place its given wide ordered)
    (c.in_default.ensures.in_turn given no_record pairs)

pub returns-clause-in_turn : goal.returns-clause-in_turn
returns-clause-in_turn g c = λ name given its wide ordered pairs.
    let old = c.args.self.now in
    let held = (slice_index_or (records_in old) c.args.place no_record).count in
    let asked = refusals_in old (Load name given) in
    begun_in_turn asked c.fill.result c.change_of.result c.change_of.ensures
    (passes_so (λ (found : Bool). ids_refusals held given (count_in old)) asked
    (load_there old name c.args.place its given wide ordered)
    (c.in_default.ensures.in_turn given no_record pairs))
