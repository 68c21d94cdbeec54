-- The goals of `PageCache::promote` that are proved by hand.
use Rattle.std.proofs.Common.{◌∙◌, sym, ap, refl, option_map, slice_get}
use Rattle.page_cache.specs.Frames.{frame_at}
use Rattle.page_cache.proofs.Lookups.{first-promoted, lookup-promoted}
use Rattle.page_cache.proofs.Kept.{kept_same}
use Rattle.std.specs.Map.{keys_of}
use Rattle.page_cache.proofs.Uses.{promoted_first, promoted_none, used_held}
use Rattle.page_cache.proofs.cache.PageCache.promote.Goals as goal

pub invariant_of-self : goal.invariant_of-self
invariant_of-self g c =
    let cache = c.args.self.now in
    let kept = kept_same cache.file (frame_at cache.frames.entries) (frame_at c.promote.new.self.entries)
    (λ k. ap (λ d. frame_at d.entries k) c.promote.ensures.entries
    ∙ lookup-promoted c.args.n k cache.frames.entries c.len-count.ensures.valid.0)
    (record { within = cache.within; true_to = cache.true_to; behind_the_gate = cache.behind_the_gate }) in
    record {
      within = kept.within;
      true_to = kept.true_to;
      behind_the_gate = kept.behind_the_gate;
      counted = cache.counted;
    }

pub returns-clause-same : goal.returns-clause-same
returns-clause-same g c = let cache = c.args.self.now in record {
  file = refl;
  frames = λ k. ap (λ d. frame_at d.entries k) c.promote.ensures.entries
      ∙ lookup-promoted c.args.n k cache.frames.entries c.len-count.ensures.valid.0;
  looks = refl;
  touched = refl;
  capacity = ap (λ d. d.cap) c.promote.ensures.entries;
}

pub returns-clause-first : goal.returns-clause-first
returns-clause-first g c =
    λ is. ap (λ d. option_map (λ e. e.0) (slice_get d.entries 0)) c.promote.ensures.entries
    ∙ first-promoted c.args.n c.args.self.now.frames.entries (sym c.promote.ensures.value ∙ is)

pub returns-clause-used : goal.returns-clause-used
returns-clause-used g c = λ is. let cache = c.args.self.now in
    ap (λ d. keys_of d.entries) c.promote.ensures.entries
    ∙ used_held cache.frames.cap c.args.n cache.frames.entries c.len-count.ensures.valid.0
    c.len-count.ensures.valid.1 (sym c.promote.ensures.value ∙ is)

pub returns-clause-absent : goal.returns-clause-absent
returns-clause-absent g c = λ no.
    ap (λ d. keys_of d.entries) c.promote.ensures.entries
    ∙ ap keys_of (promoted_none c.args.n c.args.self.now.frames.entries (sym c.promote.ensures.value ∙ no))

-- ---- the page that was used last is used again

pub returns-then-is_first-clause-answer : goal.returns-then-is_first-clause-answer
returns-then-is_first-clause-answer g c =
    sym (promoted_first c.args.n c.args.self.now.frames.entries (c.is_first.ensures c.if-is_first.true)).1

pub returns-then-is_first-clause-entries : goal.returns-then-is_first-clause-entries
returns-then-is_first-clause-entries g c =
    sym (promoted_first c.args.n c.args.self.now.frames.entries (c.is_first.ensures c.if-is_first.true)).0

pub returns-then-is_first-clause-used : goal.returns-then-is_first-clause-used
returns-then-is_first-clause-used g c = λ is. let cache = c.args.self.now in
    let entries = cache.frames.entries in
    let first = promoted_first c.args.n entries (c.is_first.ensures c.if-is_first.true) in
    ap keys_of (sym first.0)
    ∙ used_held cache.frames.cap c.args.n entries c.len-count.ensures.valid.0 c.len-count.ensures.valid.1 first.1
