-- The goals of `PageCache::is_node` that are proved by hand.
use Rattle.std.proofs.Common.{◌≡◌, ◌∙◌, Some, ap, nat_eq, refl, sym}
use Rattle.std.specs.Map.{set_value}
use Rattle.std.proofs.lemmas.Map.{keys-set_value}
use Rattle.node_bytes.specs.Layout.{node_test}
use Rattle.page_file.specs.Laws as kept
use Rattle.page_cache.specs.Frames.{changed_pages, frame_at}
use Rattle.page_cache.specs.Laid.{laid_same}
use Rattle.page_cache.proofs.Kept.{kept_put, newer_same}
use Rattle.page_cache.proofs.Lookups.{first_is, first_set, lookup-set}
use Rattle.page_cache.proofs.Turned.{held_set}
use Rattle.page_cache.proofs.cache.PageCache.is_node.Goals as goal

pub returns-then-is_known_node-clause-first : goal.returns-then-is_known_node-clause-first
returns-then-is_known_node-clause-first g c = λ f at.
    (f, at, refl, sym (c.is_known_node.ensures c.if-is_known_node.true c.args.n f at))

pub invariant_of-self : goal.invariant_of-self
invariant_of-self g c =
    let cache = c.args.self.now in let n = c.args.n in let es = cache.frames.entries in
    let f = c.in-Some.frame.now in let is = sym c.in-Some.ensures.value in let new = c.learn_node.new.self in
    let changed = c.learn_node.ensures.changed in
    let kept =
    kept_put cache.file (frame_at es) (frame_at (set_value (nat_eq n) es new)) n new
    (λ k. lookup-set n k es new c.requires) (cache.within n c.requires)
    (λ h clean. cache.true_to h n f is (sym changed ∙ clean)
    ∙ ap (λ b. Some b.value) (sym c.learn_node.ensures.bytes))
    (λ newer. cache.behind_the_gate n f is (sym changed ∙ newer))
    (record { within = cache.within; true_to = cache.true_to; behind_the_gate = cache.behind_the_gate }) in
    record {
      within = kept.within;
      true_to = kept.true_to;
      behind_the_gate = kept.behind_the_gate;
      counted = cache.counted;
    }

pub returns-clause-kept : goal.returns-clause-kept
returns-clause-kept g c =
    let cache = c.args.self.now in let n = c.args.n in let es = cache.frames.entries in
    let new = c.learn_node.new.self in record {
      gate = kept.no_call_keeps_the_gate cache.file;
      header = refl;
      blocks = λ h. laid_same (changed_pages es) (changed_pages (set_value (nat_eq n) es new)) _
          (newer_same (frame_at es) (frame_at (set_value (nat_eq n) es new)) n c.in-Some.frame.now new
          (sym c.in-Some.ensures.value) c.learn_node.ensures.bytes c.learn_node.ensures.changed
          (λ k. lookup-set n k es new c.requires));
      looks = refl;
      capacity = refl;
      touched = refl;
    }

pub returns-clause-held : goal.returns-clause-held
returns-clause-held g c = keys-set_value (nat_eq c.args.n) c.args.self.now.frames.entries _

pub returns-clause-holds : goal.returns-clause-holds
returns-clause-holds g c = λ k held.
    held_set c.args.n k c.args.self.now.frames.entries c.learn_node.new.self c.requires held

pub returns-clause-first : goal.returns-clause-first
returns-clause-first g c = λ f at.
    let n = c.args.n in let es = c.args.self.now.frames.entries in
    let same : Some c.in-Some.frame.now ≡ Some f = c.in-Some.ensures.value ∙ first_is n es f at in
    let found : c.in-Some.frame.now ≡ f = cc in (
      c.learn_node.new.self,
      first_set n es f c.learn_node.new.self at,
      c.learn_node.ensures.bytes ∙ ap (λ x. x.bytes) found,
      c.learn_node.ensures.answer ∙ ap (λ x. node_test g.row.AXES x.bytes.value) found,
    )
