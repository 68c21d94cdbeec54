-- The objects that meet the window of all points are all objects.
use Rattle.std.proofs.Common.{◌∙◌, ℕ, ap}
use Rattle.std.specs.FinMap.{entries}
use Rattle.std.specs.Prelude.{◌&&◌, None, filter}
use Rattle.box_math.specs.Bounds.{Bounds, meets_test}
use Rattle.box_math.specs.Objects.{Object, bounds_of, has_tag}
use Rattle.layer_pages.proofs.AnswerLemmas.{ranges_answer_objects}
use Rattle.page_cache.specs.Cache.{pages}
use Rattle.live_layers.proofs.DumpLemmas.{all_objects_meet}
use Rattle.live_layers.proofs.Results.{if_ok}
use Rattle.live_layers.proofs.layers.dumping.objects_at.Goals as goal

pub returns-clause-rows : goal.returns-clause-rows
returns-clause-rows g c = λ honest most ids_root l objects at.
    let dims = g.row.D in
    let all = c.new-all.result in
    let old = pages c.args.cache.now in
    if_ok c.window.result
    (λ rows answer.
    ranges_answer_objects dims most old c.args.root ids_root l objects (λ b. meets_test dims b all) None
    rows.items at answer
    ∙ ap (λ (w : Bounds). filter
    (λ (o : ℕ × Object). meets_test dims (bounds_of o.1) w && has_tag None o.1)
    (entries objects)) c.new-all.ensures
    ∙ all_objects_meet dims most old c.args.root ids_root l objects at)
    (c.window.ensures.rows honest l.tree most at.tree)
