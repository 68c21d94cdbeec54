-- The goals of `PageCache::forget` that are proved by hand.
use Rattle.std.proofs.Common.{◌∙◌, ap}
use Rattle.page_cache.specs.Frames.{frame_at}
use Rattle.page_cache.proofs.Lookups.{removed}
use Rattle.page_cache.proofs.Kept.{kept_gone}
use Rattle.page_cache.proofs.cache.PageCache.forget.Goals as goal

pub invariant_of-self : goal.invariant_of-self
invariant_of-self g c =
    let cache = c.args.self.now in
    let kept =
    kept_gone cache.file (frame_at cache.frames.entries) (frame_at c.pop_entry.new.self.entries) c.args.n
    (λ k. ap (λ d. frame_at d.entries k) c.pop_entry.ensures.entries
    ∙ removed c.args.n k cache.frames.entries c.len-count.ensures.valid.0)
    (record { within = cache.within; true_to = cache.true_to; behind_the_gate = cache.behind_the_gate }) in
    record {
      within = kept.within;
      true_to = kept.true_to;
      behind_the_gate = kept.behind_the_gate;
      counted = cache.counted;
    }

pub invariant_of-self-in_default : goal.invariant_of-self-in_default
invariant_of-self-in_default g c =
    let cache = c.args.self.now in
    let kept =
    kept_gone cache.file (frame_at cache.frames.entries) (frame_at c.pop_entry.new.self.entries) c.args.n
    (λ k. ap (λ d. frame_at d.entries k) c.pop_entry.ensures.entries
    ∙ removed c.args.n k cache.frames.entries c.len-count.ensures.valid.0)
    (record { within = cache.within; true_to = cache.true_to; behind_the_gate = cache.behind_the_gate }) in
    record {
      within = kept.within;
      true_to = kept.true_to;
      behind_the_gate = kept.behind_the_gate;
      counted = cache.counted;
    }

pub returns-in-Some-clause-frames : goal.returns-in-Some-clause-frames
returns-in-Some-clause-frames g c = λ k. ap (λ d. frame_at d.entries k) c.pop_entry.ensures.entries
    ∙ removed c.args.n k c.args.self.now.frames.entries c.len-count.ensures.valid.0

pub returns-in_default-clause-frames : goal.returns-in_default-clause-frames
returns-in_default-clause-frames g c = λ k. ap (λ d. frame_at d.entries k) c.pop_entry.ensures.entries
    ∙ removed c.args.n k c.args.self.now.frames.entries c.len-count.ensures.valid.0
