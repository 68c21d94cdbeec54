-- The goals of `PageCache::free` that are proved by hand.
use Rattle.std.proofs.Common.{◌≡◌, ◌∙◌, ℕ, ◌<◌, ◌≤◌, ◌-◌, ◌^◌, [], length, true, cond, nat_eq, eq-eqb, Option}
use Rattle.std.proofs.Common.{Some, None, ap, refl, rules, sym, subst, arith}
use Rattle.std.specs.List.{All}
use Rattle.block_device.specs.Device.{IsBlock, Torn, block_at, written}
use Rattle.block_device.specs.Written.{block_at-written, torn_length}
use Rattle.page_file.specs.File as below
use Rattle.page_file.specs.Layout.{free_block}
use Rattle.page_file.specs.Live.{lives, room_for_one}
use Rattle.page_file.specs.Pages.{with_one_free}
use Rattle.page_file.specs.Settled.{sound_says}
use Rattle.page_file.specs.declared.file.PageFile.{PageFile}
use Rattle.page_file.specs.declared.header.Header.{Header}
use Rattle.page_cache.specs.Cache.{IsHonest, IsLive, blocks_behind, blocks_of, next_of}
use Rattle.page_cache.specs.Calls.{counted_by_end}
use Rattle.page_cache.specs.Frames.{changed_pages, frame_at, laid_over}
use Rattle.page_cache.specs.Laid.{length-laid}
use Rattle.page_cache.specs.declared.cache.PageCache.{PageCache}
use Rattle.page_cache.specs.declared.frame.Frame.{Frame}
use Rattle.page_cache.proofs.Changed.{given_stay, gone_free, gone_none, gone_others, kept_free, kept_others}
use Rattle.page_cache.proofs.Changed.{laid_gone}
use Rattle.page_cache.proofs.Kept.{kept_below}
use Rattle.page_cache.proofs.Opened.{opened_frees, refused_frees}
use Rattle.page_cache.proofs.Results.{either_both, on_ok_both}
use Rattle.page_cache.proofs.cache.PageCache.free.Goals as goal

not_gone : {A : Type 0} (k : ℕ) (f : Frame A) (n : ℕ) (o : Option (Frame A)) {p : Option (Frame A)}
    → p ≡ cond (nat_eq k n) None o → p ≡ Some f → k ≡ n → ⊥
not_gone k f n o gone is e = let t : nat_eq k n ≡ true = eq-eqb k n e in
    let none : None ≡ Some f = sym (gone ∙ ap (λ y. cond y None o) t) ∙ is in cc

module _ {D A : Type 0} {m : _} (cache : PageCache D A m) where
  room : IsHonest cache → cache.file.header.next ≤ length (blocks_behind cache)
  room h = let size = length-laid (changed_pages cache.frames.entries) (blocks_of cache) in
      omega (arith, size, cache.file.room h)

  small : cache.file.header.first < 2 ^ 32
  small = omega (arith, (sound_says cache.file.header cache.file.sound).first_below, cache.file.few)

  below_next : (n : ℕ) → IsLive cache n → n < cache.file.header.next
  below_next n live = (lives (blocks_behind cache) cache.file.header n live).below

-- the block of the page, and what is behind the cache once it is let go and its block written or torn
module _ {D A : Type 0} {m : _} (cache mid : PageCache D A m) (file : PageFile D m) (n : ℕ)
    (within : n < cache.file.header.next) (same : mid.file ≡ cache.file)
    (gone : (k : ℕ)
    → frame_at mid.frames.entries k ≡ cond (nat_eq k n) None (frame_at cache.frames.entries k))
    (honest : IsHonest cache) (torn : Torn n (below.blocks_of mid.file) (below.blocks_of file)) where
  torn_here : Torn n (blocks_of cache) (below.blocks_of file)
  torn_here = subst (λ (f : PageFile D m). Torn n (below.blocks_of f) (below.blocks_of file)) same torn

  behind : laid_over (changed_pages mid.frames.entries) (below.blocks_of file) ≡ written n
      (block_at n (below.blocks_of file)) (blocks_behind cache)
  behind =
      laid_gone (frame_at cache.frames.entries) (frame_at mid.frames.entries) n (blocks_of cache)
      (below.blocks_of file) (omega (arith, within, cache.file.room honest)) gone torn_here

  here : block_at n (laid_over (changed_pages mid.frames.entries) (below.blocks_of file)) ≡ block_at n
      (below.blocks_of file)
  here = ap (block_at n) behind
      ∙ block_at-written n (block_at n (below.blocks_of file)) (blocks_behind cache)
      (omega (arith, within, room cache honest))

  behind_is : laid_over (changed_pages mid.frames.entries) (below.blocks_of file) ≡ written n
      (block_at n (laid_over (changed_pages mid.frames.entries) (below.blocks_of file))) (blocks_behind cache)
  behind_is = behind ∙ ap (λ b. written n b (blocks_behind cache)) (sym here)

  is_block : All IsBlock (below.blocks_of file)
      → IsBlock (block_at n (laid_over (changed_pages mid.frames.entries) (below.blocks_of file)))
  is_block whole = let longer = torn_length n (blocks_of cache) (below.blocks_of file) torn_here in
      subst IsBlock (sym here) (whole n [] (omega (arith, within, cache.file.room honest, longer.0)))

  linked : below.blocks_of file ≡ written n (free_block mid.file.header.first) (below.blocks_of mid.file)
      → block_at n (laid_over (changed_pages mid.frames.entries) (below.blocks_of file)) ≡ free_block
      cache.file.header.first
  linked is = here
      ∙ ap (block_at n)
      (subst (λ (f : PageFile D m). below.blocks_of file ≡ written n (free_block f.header.first)
      (below.blocks_of f)) same is)
      ∙ block_at-written n (free_block cache.file.header.first) (blocks_of cache)
      (omega (arith, within, cache.file.room honest))

pub invariant_of-self : goal.invariant_of-self
invariant_of-self g c =
    let mid = c.forget.new.self in let new = c.free.new.self in
    let kept =
    kept_below mid.file new (frame_at mid.frames.entries) (omega (arith, c.free.ensures.next))
    c.free.ensures.gate.gate c.free.ensures.gate.honest.1
    (λ h k f is clean. c.free.ensures.given_others h k
    (λ e. not_gone k f c.args.n _ (c.forget.ensures.frames k) is e))
    (record { within = mid.within; true_to = mid.true_to; behind_the_gate = mid.behind_the_gate }) in
    record {
      within = kept.within;
      true_to = kept.true_to;
      behind_the_gate = kept.behind_the_gate;
      counted = mid.counted;
    }

-- the gate is refused
pub returns-in_err-open_gate : goal.returns-in_err-open_gate
returns-in_err-open_gate g c =
    refused_frees c.args.self.now c.open_gate.new.self c.in_err-open_gate.field-0.0 c.from_residual.result
    c.from_residual.ensures.1 _ refl c.in_err-open_gate.ensures c.args.n (omega (arith, c.if-n-lt3.false))
    (omega (arith, c.if-n-next_number.false, c.next_number.ensures))

pub returns : goal.returns
returns g c =
    let low : 3 ≤ c.args.n = omega (arith, c.if-n-lt3.false) in
    let given_out : c.args.n < next_of c.args.self.now =
    omega (arith, c.if-n-next_number.false, c.next_number.ensures) in
    opened_frees _ c.open_gate.new.self _ _ c.in_ok-open_gate.ensures c.free.result c.args.n
    (omega (arith, low)) given_out low (
    let cache = c.open_gate.new.self in let mid = c.forget.new.self in let new = c.free.new.self in
    let n = c.args.n in let d = g.met.D.BlockDevice in
    let r = c.free.result in let free = c.free.ensures in
    let file = c.forget.ensures.file in let frames = c.forget.ensures.frames in
    let Y = laid_over (changed_pages mid.frames.entries) (below.blocks_of new) in
    let within : n < cache.file.header.next =
    omega (arith, given_out, c.in_ok-open_gate.ensures.map.next) in
    let still : IsHonest cache → IsHonest mid =
    λ h. subst (λ (f : PageFile _ _). below.IsHonest f) (sym file) h in
    let block : IsHonest cache → IsBlock (block_at n Y) =
    λ h. is_block cache mid new n within file frames h (free.torn (still h))
    (d.whole (below.device_of new) (below.blocks_of new) (free.gate.honest.0 (still h))
    (d.shown_counts (below.device_of new) (free.gate.honest.0 (still h)))) in
    let behind_new =
    λ (h : IsHonest cache). behind_is cache mid new n within file frames h (free.torn (still h)) in
    let one_free = ap (λ (f : PageFile _ _). with_one_free n f.header) file in
    let same_header = ap (λ (f : PageFile _ _). f.header) file in
    let link = λ (h : IsHonest cache). linked cache mid new n within file frames h (free.torn (still h)) in
    record {
      changes = search (rules, counted_by_end);
      freed = λ h live.
          on_ok_both r free.header (free.block (still h))
          (λ header is. gone_none n (blocks_behind cache) Y cache.file.header new.header (block h)
          (behind_new h) (room cache h) live low (header ∙ one_free) (small cache) (link h is));
      others = λ h live.
          either_both r free.header (free.block (still h)) free.refused_header
          (λ header is. gone_others n (blocks_behind cache) Y cache.file.header new.header (block h)
          (behind_new h) (room cache h) live low (header ∙ one_free) (small cache) (link h is))
          (λ same. kept_others n (blocks_behind cache) Y cache.file.header new.header (block h)
          (behind_new h) (room cache h) live (same ∙ same_header));
      given_others = λ h.
          given_stay n (block_at n (below.blocks_of new)) (blocks_behind cache) Y cache.file.header.next
          new.header.next (behind cache mid new n within file frames h (free.torn (still h)))
          (free.next ∙ ap (λ (f : PageFile _ _). f.header.next) file) (omega (arith, low)) within
          (room cache h);
      sound = λ map live. let h = map.honest in record {
        honest = free.gate.honest.0 (still h);
        free = either_both r free.header (free.block (still h)) free.refused_header
            (λ header is. gone_free n (blocks_behind cache) Y cache.file.header new.header (block h)
            (behind_new h) (room cache h) live low (header ∙ one_free) (small cache) (link h is) map.free)
            (λ same. kept_free n (blocks_behind cache) Y cache.file.header new.header (block h)
            (behind_new h) (room cache h) live (same ∙ same_header) map.free);
      };
      next = free.next ∙ ap (λ (f : PageFile _ _). f.header.next) file;
      grows = search rules;
      looks = c.forget.ensures.looks;
      holds = search rules;
      touched = search rules;
      opens = search rules;
      untouched = λ low within none. absurd (cc);
      outside = search rules;
      faults = λ map live other.
          let l = lives (blocks_behind cache) cache.file.header n live in
          free.room_faults (still map.honest) low
          (subst (λ (x : Header). n < x.next) (sym same_header) l.below)
          (subst (λ (x : Header). x.count < x.next - 3) (sym same_header)
          (room_for_one (blocks_behind cache) cache.file.header n map.free low l));
      other_faults = search rules;
    }
    )
