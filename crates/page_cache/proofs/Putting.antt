-- A page that is put or edited, behind what is held.
use Rattle.std.proofs.Common.{◌≡◌, ◌∙◌, ℕ, ◌≤◌, ◌<◌, List, length, Some, true, inl, inr, is_some, IsSome}
use Rattle.std.proofs.Common.{cond, nat_eq, refl, ap, sym, arith}
use Rattle.std.proofs.lemmas.Bool.Decides.{eqb_tells}
use Rattle.block_device.specs.Device.{IsBlock, written}
use Rattle.page_file.specs.File as below
use Rattle.page_file.specs.declared.file.PageFile.{PageFile}
use Rattle.page_file.specs.Pages.{SameBut}
use Rattle.page_cache.specs.Cache.{IsHonest, IsLive, IsPageMap, blocks_behind, blocks_of, given, pages}
use Rattle.page_cache.specs.Frames.{changed_pages, frame_at, laid_over}
use Rattle.page_cache.specs.Keeps.{KeepsBlocks}
use Rattle.page_cache.specs.Laid.{length-laid}
use Rattle.page_cache.specs.declared.cache.PageCache.{PageCache}
use Rattle.page_cache.specs.declared.frame.Frame.{Frame}
use Rattle.page_cache.proofs.Behind.{given_held, map_kept}
use Rattle.page_cache.proofs.Changed.{given_stay, given_written, put_free, put_live, put_others, put_written}
use Rattle.page_cache.proofs.Kept.{laid_changed}

module _ {D A : Type 0} {m : _} (old mid new : PageCache D A m) (n : ℕ) (bytes : _) (block : IsBlock bytes)
    (keeps : KeepsBlocks old mid) (file : new.file ≡ mid.file) where
  same_header : below.header_of new.file ≡ below.header_of old.file
  same_header = ap (λ (f : PageFile D m). below.header_of f) file ∙ keeps.header

  room : IsHonest old → (below.header_of old.file).next ≤ length (blocks_behind old)
  room h = let size = length-laid (changed_pages old.frames.entries) (blocks_of old) in
      omega (arith, size, old.file.room h)

  is_there : IsHonest old → blocks_behind new ≡ written n bytes (blocks_behind mid)
      → blocks_behind new ≡ written n bytes (blocks_behind old)
  is_there h e = e ∙ ap (written n bytes) (keeps.blocks h)

  pub there : IsHonest old → IsLive old n → blocks_behind new ≡ written n bytes (blocks_behind mid)
      → pages new n ≡ Some bytes
  there h live e =
      put_written n bytes (blocks_behind old) (blocks_behind new) (below.header_of old.file)
      (below.header_of new.file) block (is_there h e) same_header (room h) live

  pub live_there : IsHonest old → IsLive old n → blocks_behind new ≡ written n bytes (blocks_behind mid)
      → IsLive new n
  live_there h live e =
      put_live n bytes (blocks_behind old) (blocks_behind new) (below.header_of old.file)
      (below.header_of new.file) block (is_there h e) same_header (room h) live

  pub others_there : IsHonest old → IsLive old n → blocks_behind new ≡ written n bytes (blocks_behind mid)
      → SameBut n (pages old) (pages new)
  others_there h live e =
      put_others n bytes (blocks_behind old) (blocks_behind new) (below.header_of old.file)
      (below.header_of new.file) block (is_there h e) same_header (room h) live

  pub sound_there : IsPageMap old → IsLive old n → (IsHonest old → IsHonest new)
      → blocks_behind new ≡ written n bytes (blocks_behind mid) → IsPageMap new
  sound_there map live honest e = record {
    honest = honest map.honest;
    free = put_free n bytes (blocks_behind old) (blocks_behind new) (below.header_of old.file)
        (below.header_of new.file) block (is_there map.honest e) same_header (room map.honest) live map.free;
  }

module _ {D A : Type 0} {m : _} (old mid new : PageCache D A m) (n : ℕ) (bytes : List ℕ)
    (keeps : KeepsBlocks old mid) (file : new.file ≡ mid.file)
    (within : (2 ≤ n) × (n < old.file.header.next)) where
  next_same : new.file.header.next ≡ old.file.header.next
  next_same = ap (λ (f : PageFile D m). f.header.next) file ∙ ap (λ x. x.next) keeps.header

  pub given_there : IsHonest old → blocks_behind new ≡ written n bytes (blocks_behind mid)
      → given new n ≡ Some bytes
  given_there h e =
      given_written n bytes (blocks_behind old) (blocks_behind new) old.file.header.next new.file.header.next
      (e ∙ ap (written n bytes) (keeps.blocks h)) next_same within.0 within.1
      (let size = length-laid (changed_pages old.frames.entries) (blocks_of old) in
      omega (arith, size, old.file.room h))

  pub given_others_there : IsHonest old → blocks_behind new ≡ written n bytes (blocks_behind mid)
      → SameBut n (given old) (given new)
  given_others_there h e =
      given_stay n bytes (blocks_behind old) (blocks_behind new) old.file.header.next new.file.header.next
      (e ∙ ap (written n bytes) (keeps.blocks h)) next_same within.0 within.1
      (let size = length-laid (changed_pages old.frames.entries) (blocks_of old) in
      omega (arith, size, old.file.room h))

-- the bytes of a page that is held are changed
module _ {D A : Type 0} {m : _} (old mid new : PageCache D A m) (n : ℕ) (was after : Frame A)
    (keeps : KeepsBlocks old mid) (file : new.file ≡ mid.file)
    (held : frame_at mid.frames.entries n ≡ Some was) where
  pub held_within : (2 ≤ n) × (n < old.file.header.next)
  held_within = let w = mid.within n (ap is_some held) in let same = ap (λ x. x.next) keeps.header in
      (w.0, omega (arith, w.1, same))

  pub held_bytes : IsHonest old → given old n ≡ Some was.bytes.value
  held_bytes h = sym ((map_kept old mid keeps).given_stay h n)
      ∙ given_held mid n was (keeps.gate.honest.0 h) held

  pub held_written : after.changed ≡ true
      → ((k : ℕ)
      → frame_at new.frames.entries k ≡ cond (nat_eq k n) (Some after) (frame_at mid.frames.entries k))
      → IsHonest old
      → blocks_behind new ≡ written n after.bytes.value (blocks_behind mid)
  held_written changed put h =
      let w = mid.within n (ap is_some held) in
      ap (λ (f : PageFile D m). laid_over (changed_pages new.frames.entries) (below.blocks_of f)) file
      ∙ laid_changed (frame_at mid.frames.entries) (frame_at new.frames.entries) n after (blocks_of mid)
      (omega (arith, w.1, mid.file.room (keeps.gate.honest.0 h))) changed put

  pub held_after : ((k : ℕ)
      → frame_at new.frames.entries k ≡ cond (nat_eq k n) (Some after) (frame_at mid.frames.entries k))
      → IsSome (frame_at new.frames.entries n)
  held_after put =
      ap is_some
      (put n ∙ ap (λ y. cond y (Some after) (frame_at mid.frames.entries n))
      (elim (eqb_tells n n) [ inl e ↦ e.0 | inr e ↦ absurd (e.1 refl) ]))
