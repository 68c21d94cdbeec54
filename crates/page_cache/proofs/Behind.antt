-- Maps behind what is held: kept where those blocks are, and the file's own where no page is changed.
use Rattle.std.proofs.Common.{inl, inr, ◌⊎◌, ◌≡◌, ◌≤◌, ◌<◌, ◌∙◌, ℕ, Bool, true, false, cond, Option, Some, None}
use Rattle.std.proofs.Common.{is_some, nat_eq, unwrap_or, arith, refl, sym, ap, subst, ⊎_elim}
use Rattle.std.specs.Prelude.{◌↔◌}
use Rattle.block_device.specs.Device.{Blocks, block_at}
use Rattle.page_file.specs.File as below
use Rattle.page_file.specs.Frames.{aside_at}
use Rattle.page_file.specs.Given.{given_is, is_given}
use Rattle.page_file.specs.Laws as kept
use Rattle.page_file.specs.Opening.{IsRefused}
use Rattle.page_file.specs.Stops.{SameButGate}
use Rattle.page_file.specs.Pages.{HasFreeChain, free_pages_of, given_pages, page_of}
use Rattle.page_file.specs.declared.fault.Fault.{Fault}
use Rattle.page_file.specs.declared.file.PageFile.{PageFile}
use Rattle.page_file.specs.declared.gate.Gate.TheVariants.{Open, Shut}
use Rattle.page_file.specs.declared.header.Header.{Header}
use Rattle.page_cache.specs.declared.cache.PageCache.{PageCache}
use Rattle.page_cache.specs.declared.frame.Frame.{Frame}
use Rattle.page_cache.specs.Frames.{changed_pages, frame_at, laid_over, newer_bytes}
use Rattle.page_cache.specs.Cache.{IsHonest, IsPageMap, IsUnchanged, IsWritten, KeepsMap, LiesIn}
use Rattle.page_cache.specs.Cache.{blocks_behind, blocks_of, capacity_of, free_of, gate_of, given, looks_of}
use Rattle.page_cache.specs.Cache.{device_of, next_of, pages, touched_of}
use Rattle.page_cache.specs.Calls.{AsksUntil, faults_behind}
use Rattle.page_cache.specs.Keeps.{KeepsBlocks, SameFrames}
use Rattle.page_cache.proofs.Kept.{changed_read}
use Rattle.page_cache.specs.Laid.{block_at-laid, laid_none, laid_same}
use Rattle.page_cache.specs.Laws.{the_map_is_kept_in_turn}

module _ {A : Type 0} where
  newer_open : (o : Option (Frame A)) → ((f : Frame A) → o ≡ Some f → f.changed ≡ true → ⊥)
      → newer_bytes o ≡ None
  newer_open None behind = refl
  newer_open (Some f) behind = case f.changed (behind f refl)
    where
      case : (t : Bool) → (t ≡ true → ⊥) → cond t (Some f.bytes.value) None ≡ None
      case true never = absurd (never refl)
      case false never = refl

module _ {D A : Type 0} {m : _} where
  -- one call after another
  pub keeps_no_call : (cache : PageCache D A m) → KeepsBlocks cache cache
  keeps_no_call cache =
      record {
        gate = kept.no_call_keeps_the_gate cache.file;
        header = refl;
        blocks = λ h. refl;
        looks = refl;
        capacity = refl;
        touched = refl;
      }

  pub keeps_in_turn : (old mid new : PageCache D A m) → KeepsBlocks old mid → KeepsBlocks mid new
      → KeepsBlocks old new
  keeps_in_turn old mid new a b = record {
    gate = kept.the_gate_is_kept_in_turn old.file mid.file new.file a.gate b.gate;
    header = b.header ∙ a.header;
    blocks = λ h. b.blocks (a.gate.honest.0 h) ∙ a.blocks h;
    looks = b.looks ∙ a.looks;
    capacity = b.capacity ∙ a.capacity;
    touched = b.touched ∙ a.touched;
  }

  same_gate : (old new : PageCache D A m) → new.file ≡ old.file → below.KeepsGate old.file new.file
  same_gate old new e =
      subst (λ (f : PageFile D m). below.KeepsGate old.file f) (sym e) (kept.no_call_keeps_the_gate old.file)

  -- the same frames in another order
  pub behind_same : (old new : PageCache D A m) → new.file ≡ old.file
      → ((k : ℕ) → changed_pages new.frames.entries k ≡ changed_pages old.frames.entries k)
      → blocks_behind new ≡ blocks_behind old
  behind_same old new file changed =
      ap (λ (f : PageFile D m). laid_over (changed_pages new.frames.entries) (below.blocks_of f)) file
      ∙ laid_same (changed_pages old.frames.entries) (changed_pages new.frames.entries) (blocks_of old)
      changed

  pub keeps_same : (old new : PageCache D A m) → SameFrames old new → KeepsBlocks old new
  keeps_same old new same = record {
    gate = same_gate old new same.file;
    header = ap (λ (f : PageFile D m). below.header_of f) same.file;
    blocks = λ h. behind_same old new same.file (λ k. ap newer_bytes (same.frames k));
    looks = same.looks;
    capacity = same.capacity;
    touched = same.touched;
  }

  -- the file goes on, with the same blocks
  pub keeps_blocks_below : (old new : PageCache D A m) → new.frames ≡ old.frames
      → looks_of new ≡ looks_of old → touched_of new ≡ touched_of old → below.KeepsGate old.file new.file
      → below.header_of new.file ≡ below.header_of old.file → (IsHonest old → blocks_of new ≡ blocks_of old)
      → KeepsBlocks old new
  keeps_blocks_below old new frames looks touched gate header blocks = record {
    gate = gate;
    header = header;
    blocks = λ h. ap (laid_over (changed_pages new.frames.entries)) (blocks h)
        ∙ laid_same (changed_pages old.frames.entries) (changed_pages new.frames.entries) (blocks_of old)
        (λ k. ap (λ f. changed_pages f.entries k) frames);
    looks = looks;
    capacity = ap (λ f. f.cap) frames;
    touched = touched;
  }

  -- a page that is read comes in
  pub held_clean : (old new : PageCache D A m) (n : ℕ) (f : Frame A) → new.file ≡ old.file
      → looks_of new ≡ looks_of old → touched_of new ≡ touched_of old
      → ((k : ℕ) → frame_at new.frames.entries k ≡ cond (nat_eq k n) (Some f) (frame_at old.frames.entries k))
      → capacity_of new ≡ capacity_of old → f.changed ≡ false → frame_at old.frames.entries n ≡ None
      → KeepsBlocks old new
  held_clean old new n f file looks touched put capacity clean none = record {
    gate = same_gate old new file;
    header = ap (λ (x : PageFile D m). below.header_of x) file;
    blocks =
        λ h. behind_same old new file
        (changed_read (frame_at old.frames.entries) (frame_at new.frames.entries) n f clean none put);
    looks = looks;
    capacity = capacity;
    touched = touched;
  }

  -- the map stays where the blocks are the same
  pub map_from : (old new : PageCache D A m) → below.header_of new.file ≡ below.header_of old.file
      → (IsHonest old ↔ IsHonest new) → (IsHonest old → blocks_behind new ≡ blocks_behind old)
      → KeepsMap old new
  map_from old new header honest blocks = record {
    next = ap (λ (h : Header). h.next) header;
    free_count = ap (λ (h : Header). h.count) header;
    version = λ h. ap (λ (x : Header). x.version) header;
    pages_stay = λ h k. ap (λ (b : Blocks). page_of b (below.header_of new.file) k) (blocks h)
        ∙ ap (λ (x : Header). page_of (blocks_behind old) x k) header;
    given_stay = λ h k. ap (λ (b : Blocks). given_pages b (next_of new) k) (blocks h)
        ∙ ap (λ (x : Header). given_pages (blocks_behind old) x.next k) header;
    sound = (
      λ p. record {
        honest = honest.0 p.honest;
        free = subst (λ (b : Blocks). HasFreeChain b (below.header_of new.file)) (sym (blocks p.honest))
            (subst (λ (x : Header). HasFreeChain (blocks_behind old) x) (sym header) p.free);
      },
      λ p. record {
        honest = honest.1 p.honest;
        free = subst (λ (x : Header). HasFreeChain (blocks_behind old) x) header
            (subst (λ (b : Blocks). HasFreeChain b (below.header_of new.file)) (blocks (honest.1 p.honest))
            p.free);
      },
    );
  }

  pub map_kept : (old new : PageCache D A m) → KeepsBlocks old new → KeepsMap old new
  map_kept old new keeps = map_from old new keeps.header keeps.gate.honest keeps.blocks

  -- pages came and went, which asks for pages, and no more
  pub kept_asks : (old new : PageCache D A m) (end : Option Fault) → KeepsBlocks old new
      → m.faults (device_of new) ≡ faults_behind end (m.faults (device_of old)) → AsksUntil old new end
  kept_asks old new end keeps faults = record {
    gate = keeps.gate;
    map = map_kept old new keeps;
    capacity = keeps.capacity;
    looks = omega (arith, keeps.looks);
    touched = keeps.touched;
    faults = faults;
  }

  pub map_same : (old new : PageCache D A m) → new.file ≡ old.file
      → ((k : ℕ) → changed_pages new.frames.entries k ≡ changed_pages old.frames.entries k) → KeepsMap old new
  map_same old new file changed = map_from old new (ap (λ (f : PageFile D m). below.header_of f) file)
      (subst (λ (f : PageFile D m). below.IsHonest old.file ↔ below.IsHonest f) (sym file) (λ h. h, λ h. h))
      (λ h. behind_same old new file changed)

  -- frames came and went, and then the same are held in any order
  pub map_through : (old mid new : PageCache D A m) → KeepsBlocks old mid → new.file ≡ mid.file
      → ((k : ℕ) → frame_at new.frames.entries k ≡ frame_at mid.frames.entries k) → KeepsMap old new
  map_through old mid new keeps file frames =
      the_map_is_kept_in_turn old mid new keeps.gate.honest.0 (map_kept old mid keeps)
      (map_same mid new file (λ k. ap newer_bytes (frames k)))

  -- nothing has changed
  pub unchanged : (old new : PageCache D A m) → new.file ≡ old.file
      → ((k : ℕ) → changed_pages new.frames.entries k ≡ changed_pages old.frames.entries k)
      → looks_of new ≡ looks_of old → capacity_of new ≡ capacity_of old → IsUnchanged old new
  unchanged old new file changed looks capacity =
      let b = behind_same old new file changed in
      let header = ap (λ (f : PageFile D m). below.header_of f) file in record {
        device = ap (λ (f : PageFile D m). below.device_of f) file;
        gate = ap (λ (f : PageFile D m). below.gate_of f) file;
        version = ap (λ (x : Header). x.version) header;
        next = ap (λ (x : Header). x.next) header;
        free_count = ap (λ (x : Header). x.count) header;
        pages_stay = λ k. ap (λ (x : Blocks). page_of x (below.header_of new.file) k) b
            ∙ ap (λ (x : Header). page_of (blocks_behind old) x k) header;
        given_stay = λ k. ap (λ (x : Blocks). given_pages x (next_of new) k) b
            ∙ ap (λ (x : Header). given_pages (blocks_behind old) x.next k) header;
        sound = (map_same old new file changed).sound;
        looks = looks;
        capacity = capacity;
      }

  -- where the gate is not open no page is changed
  pub none_changed : (cache : PageCache D A m) → ¬ (gate_of cache ≡ Open) → (k : ℕ)
      → changed_pages cache.frames.entries k ≡ None
  none_changed cache closed k =
      newer_open (frame_at cache.frames.entries k)
      (λ f is changed. closed (cache.behind_the_gate k f is changed))

-- where no page is changed, the map is the file's
module _ {D A : Type 0} {m : _} (cache : PageCache D A m)
    (none : (k : ℕ) → changed_pages cache.frames.entries k ≡ None) where
  pub behind_none : blocks_behind cache ≡ blocks_of cache
  behind_none = laid_none (changed_pages cache.frames.entries) (blocks_of cache) none

  pub pages_below : (k : ℕ) → pages cache k ≡ below.pages cache.file k
  pages_below k = ap (λ (b : Blocks). page_of b (below.header_of cache.file) k) behind_none

  pub given_below : (k : ℕ) → given cache k ≡ below.given cache.file k
  given_below k = ap (λ (b : Blocks). given_pages b (next_of cache) k) behind_none

  pub map_below : IsPageMap cache ↔ below.IsPageMap cache.file
  map_below = (
    λ p. record {
      honest = p.honest;
      free = subst (λ (b : Blocks). HasFreeChain b (below.header_of cache.file)) behind_none p.free;
    },
    λ p. record {
      honest = p.honest;
      free = subst (λ (b : Blocks). HasFreeChain b (below.header_of cache.file)) (sym behind_none) p.free;
    },
  )

  pub lies_below : (blocks : Blocks) → LiesIn cache blocks ↔ below.LiesIn cache.file blocks
  lies_below blocks = (
    λ l. record {
      passes = l.passes;
      version = l.version;
      next = l.next;
      pages_there = λ k. l.pages_there k ∙ pages_below k;
      sound = (λ p. l.sound.0 (map_below.1 p), λ s. map_below.0 (l.sound.1 s));
    },
    λ l. record {
      passes = l.passes;
      version = l.version;
      next = l.next;
      pages_there = λ k. l.pages_there k ∙ sym (pages_below k);
      sound = (λ p. l.sound.0 (map_below.0 p), λ s. map_below.1 (l.sound.1 s));
    },
  )

  pub free_below : below.free_of cache.file ≡ free_of cache
  free_below = ap (λ (b : Blocks). free_pages_of b (below.header_of cache.file)) (sym behind_none)

  pub is_written : IsWritten cache
  is_written k = sym (given_below k)

module _ {D A : Type 0} {m : _} where
  pub free_kept : (old new : PageCache D A m) → KeepsBlocks old new → IsHonest old → free_of new ≡ free_of old
  free_kept old new keeps h =
      ap (λ (b : Blocks). free_pages_of b (below.header_of new.file)) (keeps.blocks h)
      ∙ ap (λ (x : Header). free_pages_of (blocks_behind old) x) keeps.header

  -- a map whose gate is not open lies in its blocks, where that is shut, and but for the gate where it is
  -- unsure
  pub shut_lies : (cache : PageCache D A m) → IsHonest cache → gate_of cache ≡ Shut
      → LiesIn cache (blocks_of cache)
  shut_lies cache h shut =
      (lies_below cache (none_changed cache (λ e. let bad = sym shut ∙ e in cc)) (blocks_of cache)).1
      (kept.a_shut_file_lies_in_its_blocks cache.file h shut)

  pub aside_lies : (cache : PageCache D A m) (c : Blocks) → IsHonest cache → ¬ (gate_of cache ≡ Open)
      → SameButGate c (blocks_of cache) → IsRefused c ⊎ LiesIn cache c
  aside_lies cache c h closed same =
      ⊎_elim (λ refused. inl refused) (λ lies. inr ((lies_below cache (none_changed cache closed) c).1 lies))
      (kept.a_gate_aside_finds_the_file cache.file c h closed same)

  -- a call of the file, while no page is changed
  pub map_by_file : (old new : PageCache D A m) → ((k : ℕ) → changed_pages old.frames.entries k ≡ None)
      → ((k : ℕ) → changed_pages new.frames.entries k ≡ None) → below.KeepsMap old.file new.file
      → KeepsMap old new
  map_by_file old new none_old none_new keeps = record {
    next = keeps.next;
    free_count = keeps.free_count;
    version = keeps.version;
    pages_stay = λ h k. pages_below new none_new k ∙ keeps.pages_stay h k ∙ sym (pages_below old none_old k);
    given_stay = λ h k. given_below new none_new k ∙ keeps.given_stay h k ∙ sym (given_below old none_old k);
    sound = (
      λ p. (map_below new none_new).1 (keeps.sound.0 ((map_below old none_old).0 p)),
      λ p. (map_below old none_old).1 (keeps.sound.1 ((map_below new none_new).0 p)),
    );
  }

  -- the gate is opened, if it is not open already
  pub map_opened : (old new : PageCache D A m) → (gate_of old ≡ Open → new.file ≡ old.file)
      → new.frames ≡ old.frames → below.KeepsMap old.file new.file → KeepsMap old new
  map_opened old new was_open frames keeps = ⊎_elim
      (λ (e : gate_of old ≡ Open). map_same old new (was_open e)
      (λ k. ap (λ f. changed_pages f.entries k) frames))
      (λ (closed : ¬ (gate_of old ≡ Open)). map_by_file old new (none_changed old closed)
      (λ k. ap (λ f. changed_pages f.entries k) frames ∙ none_changed old closed k) keeps)
      (kept.is_open (gate_of old))

  -- and the free pages, and behind what is held each block but for the gate
  pub free_opened : (old : PageCache D A m) (file : PageFile D m) → (gate_of old ≡ Open → file ≡ old.file)
      → (IsHonest old → below.free_of file ≡ below.free_of old.file) → IsHonest old
      → free_pages_of (laid_over (changed_pages old.frames.entries) (below.blocks_of file))
      (below.header_of file) ≡ free_of old
  free_opened old file was_open keeps h =
      let over = λ (f : PageFile D m). free_pages_of
      (laid_over (changed_pages old.frames.entries) (below.blocks_of f)) (below.header_of f) in
      ⊎_elim
      (λ (e : gate_of old ≡ Open). ap over (was_open e))
      (λ (closed : ¬ (gate_of old ≡ Open)). let none = none_changed old closed in
      ap (λ (b : Blocks). free_pages_of b (below.header_of file))
      (laid_none (changed_pages old.frames.entries) (below.blocks_of file) none)
      ∙ keeps h ∙ free_below old none)
      (kept.is_open (gate_of old))

  pub blocks_opened : (old : PageCache D A m) (file : PageFile D m)
      → below.header_of file ≡ below.header_of old.file → (IsHonest old → below.IsHonest file)
      → (IsHonest old → SameButGate (below.blocks_of file) (blocks_of old)) → IsHonest old → (n : ℕ) → 2 ≤ n
      → n < next_of old
      → block_at n (laid_over (changed_pages old.frames.entries) (below.blocks_of file))
      ≡ block_at n (blocks_behind old)
  blocks_opened old file header honest aside h n low below_next =
      let next = ap (λ (x : Header). x.next) header in
      let f = changed_pages old.frames.entries in
      block_at-laid f (below.blocks_of file) n (omega (arith, below_next, next, file.room (honest h)))
      ∙ ap (λ b. unwrap_or (f n) b)
      (aside_at (below.blocks_of file) (blocks_of old) n (aside h) (omega (arith, low)))
      ∙ sym (block_at-laid f (blocks_of old) n (omega (arith, below_next, old.file.room h)))

  -- a page that is held is lent as it is given
  pub given_held : (cache : PageCache D A m) (n : ℕ) (f : Frame A) → IsHonest cache
      → frame_at cache.frames.entries n ≡ Some f → given cache n ≡ Some f.bytes.value
  given_held cache n f h is =
      let w = cache.within n (ap is_some is) in
      let bs = blocks_of cache in
      is_given (blocks_behind cache) (next_of cache) n w.0 w.1
      ∙ ap Some
      (block_at-laid (changed_pages cache.frames.entries) bs n (omega (arith, w.1, cache.file.room h))
      ∙ ap (λ o. unwrap_or (newer_bytes o) (block_at n bs)) is ∙ case f.changed refl)
    where
      case : (t : Bool) → f.changed ≡ t
          → unwrap_or (cond t (Some f.bytes.value) None) (block_at n (blocks_of cache)) ≡ f.bytes.value
      case true t = refl
      case false t =
          sym (given_is (blocks_of cache) (next_of cache) n f.bytes.value (cache.true_to h n f is t)).bytes

  -- a page that was asked for
  pub looked_at : (old mid new : PageCache D A m) (n : ℕ) → KeepsBlocks old mid → new.file ≡ mid.file
      → new.frames ≡ mid.frames → KeepsMap old new
  looked_at old mid new n keeps file frames =
      the_map_is_kept_in_turn old mid new keeps.gate.honest.0 (map_kept old mid keeps)
      (map_same mid new file (λ k. ap (λ f. changed_pages f.entries k) frames))
