-- The goals of `PageCache::change_held` that are proved by hand.
use Rattle.std.proofs.Common.{◌≡◌, ◌∙◌, Some, nat_eq, true, false, subst, sym}
use Rattle.std.specs.Fn.{FnOnceReturnsAtMut}
use Rattle.page_cache.specs.Frames.{frame_at}
use Rattle.page_cache.specs.declared.frame.Frame.{Frame}
use Rattle.page_cache.proofs.Kept.{kept_put}
use Rattle.page_cache.proofs.Lookups.{lookup-set}
use Rattle.std.proofs.lemmas.Map.{keys-set_value}
use Rattle.page_cache.proofs.cache.PageCache.change_held.Goals as goal

pub invariant_of-self : goal.invariant_of-self
invariant_of-self g c =
    let cache = c.args.self.now in
    let after = c.change.new.self in
    let kept = kept_put cache.file (frame_at cache.frames.entries) _ c.args.n after
    (λ k. lookup-set c.args.n k cache.frames.entries after c.requires.held)
    (cache.within c.args.n c.requires.held) (λ h e. let bad : true ≡ false = sym c.change.ensures.changed ∙ e in absurd (cc))
    (λ _. c.requires.open)
    (record { within = cache.within; true_to = cache.true_to; behind_the_gate = cache.behind_the_gate }) in
    record {
      within = kept.within;
      true_to = kept.true_to;
      behind_the_gate = kept.behind_the_gate;
      counted = cache.counted;
    }

pub returns-clause-frames : goal.returns-clause-frames
returns-clause-frames g c = λ old is.
    let after = c.change.new.self in
    let same : Some c.in-Some.frame.now ≡ Some old = c.in-Some.ensures.value ∙ is in
    let found : c.in-Some.frame.now ≡ old = cc in (
      after,
      c.change.ensures.changed,
      c.change.ensures.block,
      subst (λ (f : Frame _). FnOnceReturnsAtMut g.F.FnOnce c.args.change f.bytes.value c.change.result
          after.bytes.value) found c.change.ensures.did,
      λ k. lookup-set c.args.n k c.args.self.now.frames.entries after c.requires.held,
    )

pub returns-clause-held : goal.returns-clause-held
returns-clause-held g c = keys-set_value (nat_eq c.args.n) c.args.self.now.frames.entries _
