-- The goals of `PageCache::hold` that are proved by hand.
use Rattle.std.proofs.Common.{◌∙◌, ℕ, ap, refl, arith, option_map, slice_get}
use Rattle.page_cache.specs.Frames.{frame_at}
use Rattle.page_cache.proofs.Lookups.{first-put, lookup-put}
use Rattle.page_cache.specs.Cache.{blocks_of}
use Rattle.page_cache.proofs.Behind.{held_clean}
use Rattle.page_cache.proofs.Kept.{kept_put, laid_changed}
use Rattle.std.specs.Map.{keys_of}
use Rattle.page_cache.proofs.Uses.{keys_put}
use Rattle.page_cache.proofs.cache.PageCache.hold.Goals as goal

pub invariant_of-self-in-Some : goal.invariant_of-self-in-Some
invariant_of-self-in-Some g c =
    let cache = c.args.self.now in
    let kept =
    kept_put cache.file (frame_at cache.frames.entries) (frame_at c.put.new.self.entries) c.args.n
    c.args.frame
    (λ k. ap (λ d. frame_at d.entries k) c.in_ok-old.ensures.entries
    ∙ lookup-put cache.frames c.args.n k c.args.frame c.len-count.ensures.valid.0 c.requires.room)
    c.requires.within c.requires.clean c.requires.changed
    (record {
      within = cache.within;
      true_to = cache.true_to;
      behind_the_gate = cache.behind_the_gate;
    }) in
    record {
      within = kept.within;
      true_to = kept.true_to;
      behind_the_gate = kept.behind_the_gate;
      counted = cache.counted;
    }

pub invariant_of-self-in_default : goal.invariant_of-self-in_default
invariant_of-self-in_default g c =
    let cache = c.args.self.now in
    let kept =
    kept_put cache.file (frame_at cache.frames.entries) (frame_at c.put.new.self.entries) c.args.n
    c.args.frame
    (λ k. ap (λ d. frame_at d.entries k) c.in_ok-old.ensures.entries
    ∙ lookup-put cache.frames c.args.n k c.args.frame c.len-count.ensures.valid.0 c.requires.room)
    c.requires.within c.requires.clean c.requires.changed
    (record {
      within = cache.within;
      true_to = cache.true_to;
      behind_the_gate = cache.behind_the_gate;
    }) in
    record {
      within = kept.within;
      true_to = kept.true_to;
      behind_the_gate = kept.behind_the_gate;
      counted = cache.counted;
    }

pub returns-in-Some : goal.returns-in-Some
returns-in-Some g c =
    let old = c.args.self.now in let n = c.args.n in let frame = c.args.frame in
    let entries = c.in_ok-old.ensures.entries in
    let frames = λ (k : ℕ). ap (λ d. frame_at d.entries k) entries
    ∙ lookup-put old.frames n k frame c.len-count.ensures.valid.0 c.requires.room in
    record {
      frames = frames;
      first = ap (λ d. option_map (λ e. e.0) (slice_get d.entries 0)) entries ∙ first-put old.frames n frame;
      refused = tt;
      held = λ none.
          ap (λ d. keys_of d.entries) entries ∙ keys_put old.frames n frame (c.requires.room none) none;
      refused_held = tt;
      kept = λ clean none.
          held_clean old _ n frame refl refl refl frames (ap (λ d. d.cap) entries) clean none;
      written = λ h changed.
          laid_changed (frame_at old.frames.entries) (frame_at c.put.new.self.entries) n frame (blocks_of old)
          (omega (arith, c.requires.within.1, old.file.room h)) changed frames;
      file = refl;
      looks = refl;
      touched = refl;
      capacity = ap (λ d. d.cap) entries;
      memory = tt;
    }

pub returns-in_default : goal.returns-in_default
returns-in_default g c =
    let old = c.args.self.now in let n = c.args.n in let frame = c.args.frame in
    let entries = c.in_ok-old.ensures.entries in
    let frames = λ (k : ℕ). ap (λ d. frame_at d.entries k) entries
    ∙ lookup-put old.frames n k frame c.len-count.ensures.valid.0 c.requires.room in
    record {
      frames = frames;
      first = ap (λ d. option_map (λ e. e.0) (slice_get d.entries 0)) entries ∙ first-put old.frames n frame;
      refused = tt;
      held = λ none.
          ap (λ d. keys_of d.entries) entries ∙ keys_put old.frames n frame (c.requires.room none) none;
      refused_held = tt;
      kept = λ clean none.
          held_clean old _ n frame refl refl refl frames (ap (λ d. d.cap) entries) clean none;
      written = λ h changed.
          laid_changed (frame_at old.frames.entries) (frame_at c.put.new.self.entries) n frame (blocks_of old)
          (omega (arith, c.requires.within.1, old.file.room h)) changed frames;
      file = refl;
      looks = refl;
      touched = refl;
      capacity = ap (λ d. d.cap) entries;
      memory = tt;
    }
