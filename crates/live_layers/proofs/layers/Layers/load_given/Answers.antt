-- The entries have the boxes that are given, or one of them is why the load is refused.
use Rattle.std.proofs.Common.{◌≡◌, ◌∙◌, ◌⊎◌, List, ℕ, None, Some, map, ap, sym, subst}
use Rattle.std.specs.Prelude.{OnOk}
use Rattle.box_math.specs.Objects.{Object}
use Rattle.id_words.specs.Objects.{pairs_in}
use Rattle.plain_table.specs.Commands.Command.{Load}
use Rattle.plain_table.specs.Loads.{GivenObjects, given_object}
use Rattle.plain_table.specs.Step.{first_refusal}
use Rattle.plain_table.specs.Table.{Table, layer_at}
use Rattle.plain_table.specs.declared.refusal.Refusal.{Refusal}
use Rattle.store_law.specs.Lawful.{IsFault}
use Rattle.tree_node.specs.declared.node.Entry.{Entry}
use Rattle.live_layers.specs.Keeping.{ChangesTree, records_in}
use Rattle.live_layers.specs.Loading.{NamesLayer, ReachesObjects, boxes_refusals}
use Rattle.live_layers.specs.Refusals.{record_at}
use Rattle.live_layers.specs.Rules.{HasFilled}
use Rattle.live_layers.proofs.ChangeLemmas.{refused_change, refused_keeps}
use Rattle.live_layers.proofs.LoadLemmas.{all_reach, allowed_anyhow, box_refused_there}
use Rattle.live_layers.proofs.QuestionLemmas.{refuses_unasked}
use Rattle.live_layers.proofs.TurnLemmas.{given_good, given_refused}
use Rattle.live_layers.proofs.layers.Layers.load_given.Goals as goal

-- the objects of entries that were made of what was given reach the layer
listed_reach : {D : ℕ} (t : Table) (name : List ℕ) (place : ℕ) (given lent : GivenObjects) (dims : ℕ)
    (made entries : List (Entry D)) → NamesLayer t name place dims → lent ≡ given
    → first_refusal (boxes_refusals dims lent) ≡ None → entries ≡ made
    → pairs_in made ≡ map given_object lent → ReachesObjects t name place given dims (pairs_in entries)
listed_reach t name place given lent dims made entries named is none again listed =
    all_reach t name place given dims (pairs_in entries) named.good named.finds named.axes
    (ap (λ (os : GivenObjects). first_refusal (boxes_refusals dims os)) (sym is) ∙ none)
    (ap pairs_in again ∙ listed ∙ ap (λ (os : GivenObjects). map given_object os) is)

-- what refuses them where they are lent does so where they were given
refused_given : (given lent : GivenObjects) (dims : ℕ) (r : Refusal) → lent ≡ given
    → (first_refusal (boxes_refusals dims lent) ≡ Some r) ⊎ IsFault ⊥ r
    → (first_refusal (boxes_refusals dims given) ≡ Some r) ⊎ IsFault ⊥ r
refused_given given lent dims r is why =
    subst (λ (os : GivenObjects). (first_refusal (boxes_refusals dims os) ≡ Some r) ⊎ IsFault ⊥ r) is why

pub returns-in-Ok-clause-change : goal.returns-in-Ok-clause-change
returns-in-Ok-clause-change g c = λ t name sound named.
    c.load_boxes.ensures.change t name c.args.objects.items sound
    (listed_reach t name c.args.place c.args.objects.items c.as_slice.result.now g.row.D _
    c.as_mut_slice.result.now named c.as_slice.ensures.value c.in-Ok.ensures.allowed
    c.as_mut_slice.ensures.value c.in-Ok.ensures.given)

pub returns-in-Ok-clause-tree : goal.returns-in-Ok-clause-tree
returns-in-Ok-clause-tree g c = λ t name sound named changed.
    let reaches =
    listed_reach t name c.args.place c.args.objects.items c.as_slice.result.now g.row.D _
    c.as_mut_slice.result.now named c.as_slice.ensures.value c.in-Ok.ensures.allowed
    c.as_mut_slice.ensures.value c.in-Ok.ensures.given in
    subst (λ (objects : List (ℕ × Object)). OnOk c.load_boxes.result
    (ChangesTree c.args.self.now c.load_boxes.new.self name (HasFilled (layer_at t name) objects)))
    reaches.objects_are (c.load_boxes.ensures.tree t name c.args.objects.items sound reaches changed)

pub returns-in-Ok-clause-same : goal.returns-in-Ok-clause-same
returns-in-Ok-clause-same g c = λ t name sound named unchanged.
    c.load_boxes.ensures.same t name c.args.objects.items sound
    (listed_reach t name c.args.place c.args.objects.items c.as_slice.result.now g.row.D _
    c.as_mut_slice.result.now named c.as_slice.ensures.value c.in-Ok.ensures.allowed
    c.as_mut_slice.ensures.value c.in-Ok.ensures.given) unchanged

pub returns-in-Err-clause-change : goal.returns-in-Err-clause-change
returns-in-Err-clause-change g c = λ t name sound named.
    let kept = c.args.self.now in
    let r = c.in-Err.refusal in
    refused_change kept kept t (Load name c.args.objects.items) r g.met.B.BlockDevice.only_now
    (refuses_unasked kept r c.in-Err.ensures.quiet) sound
    (allowed_anyhow _ _ r
    (box_refused_there t name c.args.place c.args.objects.items g.row.D named.good named.finds named.axes r
    (refused_given c.args.objects.items c.as_slice.result.now g.row.D r c.as_slice.ensures.value
    c.in-Err.ensures.allowed)))

pub returns-in-Err-clause-keeps : goal.returns-in-Err-clause-keeps
returns-in-Err-clause-keeps g c =
    let kept = c.args.self.now in
    let r = c.in-Err.refusal in refused_keeps kept kept r (refuses_unasked kept r c.in-Err.ensures.quiet)

pub returns-in-Ok-clause-in_turn : goal.returns-in-Ok-clause-in_turn
returns-in-Ok-clause-in_turn g c = λ name its axes.
    let given = c.args.objects.items in
    let lent = c.as_slice.ensures.value in
    let good = given_good g.row.D (record_at (records_in c.args.self.now) name).dims given _ axes lent
    c.in-Ok.ensures.allowed in
    c.load_boxes.ensures.in_turn name given its good.0 good.1
    (ap pairs_in c.as_mut_slice.ensures.value ∙ c.in-Ok.ensures.given
    ∙ ap (λ (os : GivenObjects). map given_object os) lent)

pub returns-in-Err-clause-in_turn : goal.returns-in-Err-clause-in_turn
returns-in-Err-clause-in_turn g c = λ name its axes.
    let given = c.args.objects.items in
    given_refused c.args.self.now name c.args.place its given g.row.D axes c.in-Err.refusal
    (refused_given given c.as_slice.result.now g.row.D c.in-Err.refusal c.as_slice.ensures.value
    c.in-Err.ensures.allowed)
