-- The layers of both names are found or not, and then the pairs are those of the table.
use Rattle.std.proofs.Common.{◌≡◌, ◌∙◌, ℕ, ap, arith, inl, subst, sym}
use Rattle.std.specs.Prelude.{None, OnOk, is_some, ◌*◌}
use Rattle.plain_table.specs.Answers.{pairs_answer}
use Rattle.plain_table.specs.Commands.Command.{Join}
use Rattle.plain_table.specs.Step.{join_rows}
use Rattle.plain_table.specs.Table.{layer_at}
use Rattle.plain_table.specs.declared.refusal.Refusal.TheVariants as refusal
use Rattle.tree_node.specs.Joins.{admitted_pairs}
use Rattle.live_layers.specs.Changes.{Rose}
use Rattle.live_layers.specs.Questions.{LooksAtTrees}
use Rattle.live_layers.proofs.AskLemmas.{tested_other, tested_same}
use Rattle.live_layers.proofs.JoinLemmas.{dims_differ, joins, no_first, no_second, pairs_replied}
use Rattle.live_layers.proofs.ReplyLemmas.{refused, replied}
use Rattle.live_layers.specs.Keeping.{count_in, records_in}
use Rattle.live_layers.specs.Refusals.{no_record, record_at, refusals_in}
use Rattle.live_layers.proofs.RefusalLemmas.{join_differs, join_no_first}
use Rattle.live_layers.proofs.RefusalLemmas.{join_no_second, join_passes, of_none}
use Rattle.live_layers.proofs.TurnLemmas.{dims_found}
use Rattle.live_layers.proofs.layers.Layers.join.Goals as goal

pub returns-in_default-clause-answered : goal.returns-in_default-clause-answered
returns-in_default-clause-answered g c = λ t sound.
    let first = c.args.first.now in
    let second = c.args.second.now in
    let named = sym c.is_layer_name.ensures ∙ c.if-not-is_layer_name.false in
    let named' = sym c.is_layer_name-else-not-is_layer_name.ensures ∙ c.if-not-is_layer_name-2.false in (
      sound,
      inl
          (refused t (Join first second c.args.within) refusal.NoLayer
          (no_first t first second c.args.within named named' c.in_default.field-0
          (c.in_default.ensures.belongs t sound))),
    )

pub returns-in_default-find-clause-answered : goal.returns-in_default-find-clause-answered
returns-in_default-find-clause-answered g c = λ t sound.
    let first = c.args.first.now in
    let second = c.args.second.now in
    let named = sym c.is_layer_name.ensures ∙ c.if-not-is_layer_name.false in
    let named' = sym c.is_layer_name-else-not-is_layer_name.ensures ∙ c.if-not-is_layer_name-2.false in (
      sound,
      inl
          (refused t (Join first second c.args.within) refusal.NoLayer
          (no_second t first second c.args.within named named' c.in-Ok.place (c.in-Ok.ensures.found t sound)
          c.in_default-find.field-0 (c.in_default-find.ensures.belongs t sound))),
    )

pub returns-then-left-right-clause-answered : goal.returns-then-left-right-clause-answered
returns-then-left-right-clause-answered g c = λ t sound.
    let first = c.args.first.now in
    let second = c.args.second.now in
    let named = sym c.is_layer_name.ensures ∙ c.if-not-is_layer_name.false in
    let named' = sym c.is_layer_name-else-not-is_layer_name.ensures ∙ c.if-not-is_layer_name-2.false in
    let finds = c.in-Ok.ensures.found t sound in
    let finds' = c.in-Ok-find.ensures.found t sound in
    let located = c.locate-left.ensures.located t first sound finds in
    let other = c.locate-right.ensures.located t second sound finds' in
    let differ =
    tested_other (layer_at t first).dims (layer_at t second).dims c.locate-right.result.dims other.dims
    (λ (e : c.locate-right.result.dims ≡ (layer_at t first).dims). c.if-left-right.true
    (sym located.dims ∙ sym e)) in (
      sound,
      inl
          (refused t (Join first second c.args.within) refusal.DimsDiffer
          (dims_differ t first second c.args.within named named' c.in-Ok.place finds c.in-Ok-find.other_place
          finds' differ)),
    )

pub returns-then-left-eq2-clause-answered : goal.returns-then-left-eq2-clause-answered
returns-then-left-eq2-clause-answered g c = λ t sound.
    let first = c.args.first.now in
    let second = c.args.second.now in
    let named = sym c.is_layer_name.ensures ∙ c.if-not-is_layer_name.false in
    let named' = sym c.is_layer_name-else-not-is_layer_name.ensures ∙ c.if-not-is_layer_name-2.false in
    let finds = c.in-Ok.ensures.found t sound in
    let finds' = c.in-Ok-find.ensures.found t sound in
    let located = c.locate-left.ensures.located t first sound finds in
    let other = c.locate-right.ensures.located t second sound finds' in
    let same =
    tested_same (layer_at t first).dims (layer_at t second).dims c.locate-right.result.dims other.dims
    (sym c.if-left-right.false ∙ sym located.dims) in
    let new = c.pairs_in.new.self in
    let rose = Rose c.args.self.now new in
    let reply =
    pairs_replied rose (join_rows (layer_at t first) (layer_at t second) c.args.within) c.pairs_in.result
    (c.pairs_in.ensures.pairs t first second sound located other)
    (c.pairs_in.ensures.fault t first second sound located other) in (
      c.pairs_in.ensures.keeps.sound t sound,
      replied rose t (Join first second c.args.within) None (pairs_answer c.pairs_in.result)
          (joins t first second c.args.within named named' c.in-Ok.place finds c.in-Ok-find.other_place finds'
          same) reply,
    )

pub returns-then-left-eq2-clause-looks : goal.returns-then-left-eq2-clause-looks
returns-then-left-eq2-clause-looks g c = λ t sound.
    let first = c.args.first.now in
    let second = c.args.second.now in
    let located = c.locate-left.ensures.located t first sound (c.in-Ok.ensures.found t sound) in
    let other = c.locate-right.ensures.located t second sound (c.in-Ok-find.ensures.found t sound) in
    let axes : (layer_at t first).dims ≡ 2 =
    omega (arith, located.dims, c.locate-left.ensures.dims, c.if-left-eq2) in
    subst (λ (d : ℕ). OnOk c.pairs_in.result
    (LooksAtTrees c.args.self.now c.pairs_in.new.self first second
    (λ tree other. 2 * admitted_pairs d c.args.within tree other))) (sym axes)
    (c.pairs_in.ensures.looks t first second sound located other)

pub returns-else-left-eq2-clause-answered : goal.returns-else-left-eq2-clause-answered
returns-else-left-eq2-clause-answered g c = λ t sound.
    let first = c.args.first.now in
    let second = c.args.second.now in
    let named = sym c.is_layer_name.ensures ∙ c.if-not-is_layer_name.false in
    let named' = sym c.is_layer_name-else-not-is_layer_name.ensures ∙ c.if-not-is_layer_name-2.false in
    let finds = c.in-Ok.ensures.found t sound in
    let finds' = c.in-Ok-find.ensures.found t sound in
    let located = c.locate-left.ensures.located t first sound finds in
    let other = c.locate-right.ensures.located t second sound finds' in
    let same =
    tested_same (layer_at t first).dims (layer_at t second).dims c.locate-right.result.dims other.dims
    (sym c.if-left-right.false ∙ sym located.dims) in
    let new = c.pairs_in-else-left-eq2.new.self in
    let rose = Rose c.args.self.now new in
    let reply =
    pairs_replied rose (join_rows (layer_at t first) (layer_at t second) c.args.within)
    c.pairs_in-else-left-eq2.result
    (c.pairs_in-else-left-eq2.ensures.pairs t first second sound located other)
    (c.pairs_in-else-left-eq2.ensures.fault t first second sound located other) in (
      c.pairs_in-else-left-eq2.ensures.keeps.sound t sound,
      replied rose t (Join first second c.args.within) None (pairs_answer c.pairs_in-else-left-eq2.result)
          (joins t first second c.args.within named named' c.in-Ok.place finds c.in-Ok-find.other_place finds'
          same) reply,
    )

pub returns-else-left-eq2-clause-looks : goal.returns-else-left-eq2-clause-looks
returns-else-left-eq2-clause-looks g c = λ t sound.
    let first = c.args.first.now in
    let second = c.args.second.now in
    let located = c.locate-left.ensures.located t first sound (c.in-Ok.ensures.found t sound) in
    let other = c.locate-right.ensures.located t second sound (c.in-Ok-find.ensures.found t sound) in
    let axes : (layer_at t first).dims ≡ 3 =
    omega (arith, located.dims, c.locate-left.ensures.dims, c.if-left-eq2) in
    subst (λ (d : ℕ). OnOk c.pairs_in-else-left-eq2.result
    (LooksAtTrees c.args.self.now c.pairs_in-else-left-eq2.new.self first second
    (λ tree other. 2 * admitted_pairs d c.args.within tree other))) (sym axes)
    (c.pairs_in-else-left-eq2.ensures.looks t first second sound located other)

pub returns-in_default-clause-in_turn : goal.returns-in_default-clause-in_turn
returns-in_default-clause-in_turn g c =
    let kept = c.args.self.now in
    inl (join_no_first (records_in kept) (count_in kept) c.args.first.now c.args.second.now c.args.within
    (sym c.is_layer_name.ensures ∙ c.if-not-is_layer_name.false)
    (sym c.is_layer_name-else-not-is_layer_name.ensures ∙ c.if-not-is_layer_name-2.false)
    (ap is_some c.in_default.ensures.unrecorded))

pub returns-in_default-find-clause-in_turn : goal.returns-in_default-find-clause-in_turn
returns-in_default-find-clause-in_turn g c =
    let kept = c.args.self.now in
    inl (join_no_second (records_in kept) (count_in kept) c.args.first.now c.args.second.now c.args.within
    (sym c.is_layer_name.ensures ∙ c.if-not-is_layer_name.false)
    (sym c.is_layer_name-else-not-is_layer_name.ensures ∙ c.if-not-is_layer_name-2.false)
    (ap is_some (c.in-Ok.ensures.recorded no_record)) (ap is_some c.in_default-find.ensures.unrecorded))

pub returns-then-left-right-clause-in_turn : goal.returns-then-left-right-clause-in_turn
returns-then-left-right-clause-in_turn g c =
    let kept = c.args.self.now in
    let first = c.args.first.now in
    let second = c.args.second.now in
    let left = c.locate-left.result in
    let right = c.locate-right.result in
    let its = dims_found kept first c.in-Ok.place left (c.in-Ok.ensures.recorded no_record)
    c.locate-left.ensures.by_record in
    let other = dims_found kept second c.in-Ok-find.other_place right
    (c.in-Ok-find.ensures.recorded no_record) c.locate-right.ensures.by_record in
    inl (join_differs (records_in kept) (count_in kept) first second c.args.within
    (sym c.is_layer_name.ensures ∙ c.if-not-is_layer_name.false)
    (sym c.is_layer_name-else-not-is_layer_name.ensures ∙ c.if-not-is_layer_name-2.false)
    (ap is_some (c.in-Ok.ensures.recorded no_record)) (ap is_some (c.in-Ok-find.ensures.recorded no_record))
    (tested_other (record_at (records_in kept) first).dims (record_at (records_in kept) second).dims right.dims
    other
    (λ (e : right.dims ≡ (record_at (records_in kept) first).dims). c.if-left-right.true (sym its ∙ sym e))))

pub returns-then-left-eq2-clause-in_turn : goal.returns-then-left-eq2-clause-in_turn
returns-then-left-eq2-clause-in_turn g c =
    let kept = c.args.self.now in
    let first = c.args.first.now in
    let second = c.args.second.now in
    let left = c.locate-left.result in
    let right = c.locate-right.result in
    let its = dims_found kept first c.in-Ok.place left (c.in-Ok.ensures.recorded no_record)
    c.locate-left.ensures.by_record in
    let other = dims_found kept second c.in-Ok-find.other_place right
    (c.in-Ok-find.ensures.recorded no_record) c.locate-right.ensures.by_record in
    of_none (refusals_in kept (Join first second c.args.within)) c.pairs_in.result
    (join_passes (records_in kept) (count_in kept) first second c.args.within
    (sym c.is_layer_name.ensures ∙ c.if-not-is_layer_name.false)
    (sym c.is_layer_name-else-not-is_layer_name.ensures ∙ c.if-not-is_layer_name-2.false)
    (ap is_some (c.in-Ok.ensures.recorded no_record)) (ap is_some (c.in-Ok-find.ensures.recorded no_record))
    (tested_same (record_at (records_in kept) first).dims (record_at (records_in kept) second).dims right.dims
    other (sym c.if-left-right.false ∙ sym its))) c.pairs_in.ensures.of_none

pub returns-else-left-eq2-clause-in_turn : goal.returns-else-left-eq2-clause-in_turn
returns-else-left-eq2-clause-in_turn g c =
    let kept = c.args.self.now in
    let first = c.args.first.now in
    let second = c.args.second.now in
    let left = c.locate-left.result in
    let right = c.locate-right.result in
    let its = dims_found kept first c.in-Ok.place left (c.in-Ok.ensures.recorded no_record)
    c.locate-left.ensures.by_record in
    let other = dims_found kept second c.in-Ok-find.other_place right
    (c.in-Ok-find.ensures.recorded no_record) c.locate-right.ensures.by_record in
    of_none (refusals_in kept (Join first second c.args.within)) c.pairs_in-else-left-eq2.result
    (join_passes (records_in kept) (count_in kept) first second c.args.within
    (sym c.is_layer_name.ensures ∙ c.if-not-is_layer_name.false)
    (sym c.is_layer_name-else-not-is_layer_name.ensures ∙ c.if-not-is_layer_name-2.false)
    (ap is_some (c.in-Ok.ensures.recorded no_record)) (ap is_some (c.in-Ok-find.ensures.recorded no_record))
    (tested_same (record_at (records_in kept) first).dims (record_at (records_in kept) second).dims right.dims
    other (sym c.if-left-right.false ∙ sym its))) c.pairs_in-else-left-eq2.ensures.of_none
