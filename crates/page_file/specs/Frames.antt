-- What a call on a file keeps: the gate, where a block is written while it is open, the map, where the
-- blocks of pages stay, and what lies in the blocks of a shut file.
use Rattle.std.proofs.Common.{◌≡◌, ◌∙◌, ℕ, zero, suc, ◌<◌, ◌≤◌, [], ◌∷◌, get_or, refl, sym, ap, arith, subst}
use Rattle.std.specs.Prelude.{◌↔◌}
use Rattle.block_device.specs.Device.{Blocks, Follows, LeavesOnly, Torn, block_at, Recovery}
use Rattle.block_device.specs.Moments.{leaves_weaker}
use Rattle.page_file.specs.declared.file.PageFile.{PageFile}
use Rattle.page_file.specs.declared.gate.Gate.{Gate}
use Rattle.page_file.specs.declared.gate.Gate.TheVariants.{Shut, Open}
use Rattle.page_file.specs.declared.header.Header.{Header}
use Rattle.page_file.specs.File.{IsHonest, KeepsMap, LiesIn, gate_of}
use Rattle.page_file.specs.Given.{given_same}
use Rattle.page_file.specs.Pages.{HasFreeChain, free_pages_of, given_pages, header_in, page_of}
use Rattle.page_file.specs.Stops.{AddsOnly, SameButGate, StopNow, StopSince, TornFrom}
use Rattle.page_file.specs.Gated.{fails, open_is_not_shut, open_stop, still_open, stop_open}
use Rattle.page_file.specs.Live.{free_pages_same, free_same, pages_same}
use Rattle.page_file.specs.Settled.{header_is, passes_to, settled_passes, sound_says}

-- after the gate the blocks are the same
aside_next : (c d : Blocks) (k : ℕ) → SameButGate c d → block_at (suc k) c ≡ block_at (suc k) d
aside_next [] [] k e = refl
aside_next [] (y ∷ d) k e = ap (λ (l : Blocks). get_or l k []) e
aside_next (x ∷ c) [] k e = ap (λ (l : Blocks). get_or l k []) e
aside_next (x ∷ c) (y ∷ d) k e = ap (λ (l : Blocks). get_or l k []) e

pub aside_at : (c d : Blocks) (k : ℕ) → SameButGate c d → 0 < k → block_at k c ≡ block_at k d
aside_at c d zero e gt = absurd (omega (arith, gt))
aside_at c d (suc k) e gt = aside_next c d k e

-- a block written while the gate is open leaves it open, now and since
pub stop_behind : (gate : Gate) (was now : Blocks) (old new : Blocks → Type 0) (n : ℕ) → gate ≡ Open → 0 < n
    → ((c : Blocks) → old c → StopNow gate was c) → Follows (Torn n) old new
    → (c : Blocks) → new c → StopNow gate now c
stop_behind gate was now old new n opened gt before torn c left =
    let from = torn c left in
    open_stop gate now c opened
    (still_open n from.0 c gt (stop_open gate was from.0 opened (before from.0 from.1)) from.2)

pub adds_behind : {D : Type 0} (moment : D → ℕ) (left_since : D → ℕ → Blocks → Type 0)
    (recovery : Recovery D) (old new : D) (gate : Gate) (was : Blocks) (outcomes : Blocks → Type 0) (n : ℕ)
    → gate ≡ Open → 0 < n → ((c : Blocks) → outcomes c → StopNow gate was c)
    → LeavesOnly moment left_since recovery old new (TornFrom n outcomes)
    → AddsOnly moment left_since recovery old new (StopSince gate was)
adds_behind moment left_since recovery old new gate was outcomes n opened gt before leaves =
    let l = leaves_weaker moment left_since recovery old new (TornFrom n outcomes) (StopSince gate was)
    (λ c from. subst (λ (x : Gate). StopSince x was c) (sym opened)
    (fails c
    (still_open n from.0 c gt (stop_open gate was from.0 opened (before from.0 from.1)) from.2)))
    leaves in
    record { later = l.later; before = l.before; brings = l.brings }

-- the map stays, where the header and the blocks of pages do
pub map_kept : {D : Type 0} {m : _} (old new : PageFile D m) → new.header ≡ old.header
    → (IsHonest old ↔ IsHonest new)
    → (IsHonest old → (k : ℕ) → 2 ≤ k → block_at k (m.shown new.device) ≡ block_at k (m.shown old.device))
    → KeepsMap old new
map_kept {m = m} old new header honest same = record {
  next = ap (λ (h : Header). h.next) header;
  free_count = ap (λ (h : Header). h.count) header;
  version = λ h. ap (λ (x : Header). x.version) header;
  pages_stay = λ h k. ap (λ (x : Header). page_of (m.shown new.device) x k) header
      ∙ pages_same (m.shown old.device) (m.shown new.device) old.header (same h) k;
  given_stay = λ h k. ap (λ (x : Header). given_pages (m.shown new.device) x.next k) header
      ∙ given_same (m.shown old.device) (m.shown new.device) old.header.next (same h) k;
  sound = (
    λ p. record {
      honest = honest.0 p.honest;
      free = subst (λ (x : Header). HasFreeChain (m.shown new.device) x) (sym header)
          (free_same (m.shown old.device) (m.shown new.device) old.header (same p.honest) p.free);
    },
    λ p. record {
      honest = honest.1 p.honest;
      free = free_same (m.shown new.device) (m.shown old.device) old.header
          (λ k low. sym (same (honest.1 p.honest) k low))
          (subst (λ (x : Header). HasFreeChain (m.shown new.device) x) header p.free);
    },
  );
}

pub map_kept_aside : {D : Type 0} {m : _} (old new : PageFile D m) → new.header ≡ old.header
    → (IsHonest old ↔ IsHonest new)
    → (IsHonest old → SameButGate (m.shown new.device) (m.shown old.device)) → KeepsMap old new
map_kept_aside {m = m} old new header honest aside =
    map_kept old new header honest
    (λ h k low. aside_at (m.shown new.device) (m.shown old.device) k (aside h) (omega (arith, low)))

-- and so do the free pages
pub free_kept_aside : (old new : Blocks) (h : Header) → SameButGate new old
    → free_pages_of new h ≡ free_pages_of old h
free_kept_aside old new h aside =
    free_pages_same old new h (λ k low. aside_at new old k aside (omega (arith, low)))

-- a file whose gate is shut lies in its blocks
pub shut_lies : {D : Type 0} {m : _} (file : PageFile D m) → IsHonest file → gate_of file ≡ Shut
    → LiesIn file (m.shown file.device)
shut_lies {m = m} file h shut =
    let blocks = m.shown file.device in
    let header = file.settled h (λ e. open_is_not_shut file.gate e shut) in
    let same : header_in blocks ≡ file.header = header_is file.header (block_at 1 blocks) header in
    record {
      passes =
          passes_to blocks
          (settled_passes blocks file.header (file.shut_reads h shut) header (file.room h) file.sound
          (sound_says file.header file.sound).start);
      version = ap (λ (x : Header). x.version) same;
      next = ap (λ (x : Header). x.next) same;
      pages_there = λ k. ap (λ (x : Header). page_of blocks x k) same;
      sound = (
        λ p. subst (λ (x : Header). HasFreeChain blocks x) (sym same) p.free,
        λ s. record { honest = h; free = subst (λ (x : Header). HasFreeChain blocks x) same s },
      );
    }
