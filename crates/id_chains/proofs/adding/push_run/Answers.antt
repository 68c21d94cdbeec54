-- The goal of `push_run` that is proved by hand: an object more.
use Rattle.std.proofs.Common.{◌≡◌, ◌∙◌, ◌+◌, ◌<◌, ◌++◌, ◌∷◌, [], Some, List, ap, arith, get_or, length, rules}
use Rattle.std.proofs.Common.{inr, subst, sym, take}
use Rattle.bucket_page.specs.Layout.{Entry}
use Rattle.std.proofs.lemmas.List.{append_assoc, get_or_default, take_more}
use Rattle.id_chains.specs.Pages.{with_more}
use Rattle.id_chains.specs.Table.{class_of}
use Rattle.id_chains.proofs.BucketLemmas.{some_object}
use Rattle.id_chains.proofs.ManyLemmas.{AreOfClass, placed_more}
use Rattle.id_chains.proofs.TidyLemmas.{bucket_kept}
use Rattle.id_chains.proofs.adding.push_run.Goals as goal

pub loop-object-preserved : goal.loop-object-preserved
loop-object-preserved g c =
    let objects = c.args.objects.now in
    let count = c.loop-object.count in
    let so_far = c.loop-object.invariant in
    let x = c.object-item.result in
    let counted : count ≡ c.loop-object.object-index = so_far.counted in
    let within : count < length objects = omega (arith, c.loop-object-test.true, counted) in
    let is : x ≡ get_or objects count some_object = c.object-item.is
    ∙ get_or_default objects c.loop-object.object-index x some_object c.loop-object-test.true
    ∙ ap (λ k. get_or objects k some_object) (sym counted) in
    let next : take (count + 1) objects ≡ take count objects
    ++ x ∷ [] = take_more objects count some_object within
    ∙ ap (λ (o : Entry). take count objects ++ o ∷ []) (sym is) in
    let of_class : class_of x.0 ≡ c.args.class = search rules in
    record {
      counted = omega (arith, counted);
      room = λ none. absurd (omega (arith, none));
      placed =
          subst (AreOfClass c.args.class) (sym next)
          (placed_more c.args.class (take count objects) x so_far.placed of_class);
      pushed = λ b was.
          c.push_entry.ensures.pushed (with_more b (take count objects)) (so_far.pushed b was)
          ∙ ap (λ (es : List Entry). Some (record { next = b.next; entries = es }))
          (append_assoc b.entries (take count objects) (x ∷ []))
          ∙ ap (λ (es : List Entry). Some (with_more b es)) (sym next);
      tidy = λ b was before.
          let so_far_is = so_far.pushed b was in
          let held = with_more b (take count objects) in
          bucket_kept g.row.D c.loop-object.page c.push_entry.new.page held so_far_is
          (c.push_entry.ensures.kind held so_far_is)
          (λ tidy. c.push_entry.ensures.tidy held so_far_is (inr tidy)) (so_far.tidy b was before);
    }
