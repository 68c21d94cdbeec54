-- What follows from the facts that the calls on a file promise, for the crates that stand on them.
use Rattle.block_device.specs.Moments.{brings_started, brings_then, brings_weaker}
use Rattle.std.specs.Prelude.{◌≡◌, ◌⊎◌, ◌↔◌, ◌≤◌, ◌<◌, ◌^◌, ℕ, List, [], length, Some, None, refl}
use Rattle.std.specs.List.{All}
use Rattle.std.proofs.Common.{drop, ap, inl, inr, ⊎_elim, sym, ◌∙◌, subst, arith}
use Rattle.block_bytes.specs.Kinds.{free_kind}
use Rattle.block_device.specs.Device.{Blocks, IsBlock, LeavesOnly, Recovery}
use Rattle.page_file.specs.declared.file.PageFile.{PageFile}
use Rattle.page_file.specs.declared.gate.Gate.{Gate}
use Rattle.page_file.specs.declared.gate.Gate.TheVariants.{Shut, Open, Unsure}
use Rattle.page_file.specs.File.{IsHonest, IsLive, IsPageMap, KeepsGate, KeepsMap, LiesIn, blocks_of, gate_of}
use Rattle.page_file.specs.File.{given, next_of, pages, version_of}
use Rattle.page_file.specs.Opening.{IsRefused, failed_check}
use Rattle.page_file.specs.Stops.{AddsOnly, SameButGate, StopNow, StopSince}
use Rattle.page_file.specs.Aside.{aside_lies, aside_passes}
use Rattle.page_file.specs.Gated.{now_since}
use Rattle.page_file.specs.Frames as kept
use Rattle.page_file.specs.Given.{given_is, given_is_live, live_is_given}
use Rattle.page_file.specs.Layout.{kind_of}
use Rattle.page_file.specs.Live.{catalog_lives, lives}

-- a stop now leaves what the gate allows
pub a_stop_follows_the_gate : {D : Type 0} {m : _} (file : PageFile D m) (c : Blocks) → IsHonest file
    → m.may_leave file.device c → StopSince (gate_of file) (blocks_of file) c
a_stop_follows_the_gate {m = m} file c h left =
    now_since file.gate (m.shown file.device) c (file.stop_now h c left)

-- and all of the blocks but the gate, unless that is open
pub a_stop_now_leaves_all_but_the_gate : {D : Type 0} {m : _} (file : PageFile D m) (c : Blocks)
    → IsHonest file → ¬ (gate_of file ≡ Open) → m.may_leave file.device c → SameButGate c (blocks_of file)
a_stop_now_leaves_all_but_the_gate {m = m} file c h closed left =
    case file.gate closed (file.stop_now h c left)
  where
    case : (gate : Gate) → ¬ (gate ≡ Open) → StopNow gate (m.shown file.device) c
        → SameButGate c (m.shown file.device)
    case Shut ne e = ap (drop 1) e
    case Open ne e = absurd (ne refl)
    case Unsure ne e = e

-- a file whose gate is shut lies in its blocks
pub a_shut_file_lies_in_its_blocks : {D : Type 0} {m : _} (file : PageFile D m) → IsHonest file
    → gate_of file ≡ Shut → LiesIn file (blocks_of file)
a_shut_file_lies_in_its_blocks file h shut = kept.shut_lies file h shut

-- the page of a live number is one given out, from the catalog on
pub a_live_page_was_given_out : {D : Type 0} {m : _} (file : PageFile D m) (n : ℕ) → IsLive file n
    → (2 ≤ n) × (n < next_of file) × (next_of file ≤ 2 ^ 31)
a_live_page_was_given_out {m = m} file n live = let l = lives (m.shown file.device) file.header n live in
    (l.low, l.below, file.few)

-- a page number that was given out has its block
pub a_number_given_out_has_its_block : {D : Type 0} {m : _} (file : PageFile D m) → IsHonest file
    → next_of file ≤ length (blocks_of file)
a_number_given_out_has_its_block file h = file.room h

-- the catalog is live
pub the_catalog_is_live : {D : Type 0} {m : _} (file : PageFile D m) → IsLive file 2
the_catalog_is_live {m = m} file = catalog_lives (m.shown file.device) file.header file.sound

-- of what differs from a file's blocks in the gate alone, opening refuses it or finds the same file
pub a_gate_aside_is_refused_or_the_same : {D : Type 0} {m : _} (file : PageFile D m) (blocks c : Blocks)
    → LiesIn file blocks → SameButGate c blocks → IsRefused c ⊎ LiesIn file c
a_gate_aside_is_refused_or_the_same file blocks c lies same = ⊎_elim
    (λ (refused : IsRefused c). inl refused)
    (λ found. inr (record {
      passes = found.passes;
      version = found.version ∙ lies.version;
      next = found.next ∙ lies.next;
      pages_there = λ k. found.pages_there k ∙ lies.pages_there k;
      sound = (λ p. found.sound.1 (lies.sound.0 p), λ s. lies.sound.1 (found.sound.0 s));
    }))
    (aside_passes c blocks same)

-- so of what differs from the blocks of a file whose gate is not open
pub a_gate_aside_finds_the_file : {D : Type 0} {m : _} (file : PageFile D m) (c : Blocks) → IsHonest file
    → ¬ (gate_of file ≡ Open) → SameButGate c (blocks_of file) → IsRefused c ⊎ LiesIn file c
a_gate_aside_finds_the_file file c h closed same = aside_lies file c h closed same

-- two files that lie in the same blocks have the same version and the same map
pub a_file_opened_again_is_the_same : {D E : Type 0} {m : _} {n : _} (old : PageFile D m)
    (new : PageFile E n) (blocks : Blocks) → LiesIn old blocks → LiesIn new blocks
    → (version_of new ≡ version_of old) × (next_of new ≡ next_of old)
    × ((k : ℕ) → pages new k ≡ pages old k)
    × (IsPageMap old ↔ IsPageMap new)
a_file_opened_again_is_the_same old new blocks a b = (
  sym b.version ∙ a.version,
  sym b.next ∙ a.next,
  λ k. sym (b.pages_there k) ∙ a.pages_there k,
  (λ p. b.sound.1 (a.sound.0 p), λ p. a.sound.1 (b.sound.0 p)),
)

-- where the map is kept, the file lies in the same blocks
pub a_kept_map_lies_there : {D : Type 0} {m : _} (old new : PageFile D m) (blocks : Blocks) → IsHonest old
    → KeepsMap old new → LiesIn old blocks ↔ LiesIn new blocks
a_kept_map_lies_there old new blocks h keeps = (
  λ l. record {
    passes = l.passes;
    version = l.version ∙ sym (keeps.version h);
    next = l.next ∙ sym keeps.next;
    pages_there = λ k. l.pages_there k ∙ sym (keeps.pages_stay h k);
    sound = (λ p. l.sound.0 (keeps.sound.1 p), λ s. keeps.sound.0 (l.sound.1 s));
  },
  λ l. record {
    passes = l.passes;
    version = l.version ∙ keeps.version h;
    next = l.next ∙ keeps.next;
    pages_there = λ k. l.pages_there k ∙ keeps.pages_stay h k;
    sound = (λ p. l.sound.0 (keeps.sound.0 p), λ s. keeps.sound.1 (l.sound.1 s));
  },
)

-- no call keeps gate and map, and two calls in turn do where each does
pub no_call_keeps_the_gate : {D : Type 0} {m : _} (file : PageFile D m) → KeepsGate file file
no_call_keeps_the_gate {m = m} file = record {
  gate = refl;
  honest = (λ h. h, λ h. h);
  version = λ h. refl;
  blocks = λ h shut. refl;
  stops = λ h.
      record {
        later = omega arith;
        before = λ t c le left. inl left;
        brings = brings_started m.moment m.recovery file.device (StopSince file.gate (m.shown file.device));
      };
}

-- by an open gate a stop is no matter of the blocks
of_open_any : (gate : Gate) (a b c : Blocks) → (gate ≡ Open) ⊎ (a ≡ b) → StopSince gate a c
    → StopSince gate b c
of_open_any gate a b c (inl e) left =
    subst (λ (x : Gate). StopSince x b c) (sym e) (subst (λ (x : Gate). StopSince x a c) e left)
of_open_any gate a b c (inr e) left = subst (λ (x : Blocks). StopSince gate x c) e left

-- a gate is open or not
pub is_open : (gate : Gate) → (gate ≡ Open) ⊎ ¬ (gate ≡ Open)
is_open Shut = inr (λ e. cc)
is_open Open = inl refl
is_open Unsure = inr (λ e. cc)

pub the_gate_is_kept_in_turn : {D : Type 0} {m : _} (old mid new : PageFile D m) → KeepsGate old mid
    → KeepsGate mid new → KeepsGate old new
the_gate_is_kept_in_turn {m = m} old mid new a b = record {
  gate = b.gate ∙ a.gate;
  honest = (λ h. b.honest.0 (a.honest.0 h), λ h. a.honest.1 (b.honest.1 h));
  version = λ h. b.version (a.honest.0 h) ∙ a.version h;
  blocks = λ h closed. b.blocks (a.honest.0 h) (λ e. closed (sym a.gate ∙ e)) ∙ a.blocks h closed;
  stops = λ h.
      let first = a.stops h in let second = b.stops (a.honest.0 h) in
      let into : (c : Blocks) → StopSince mid.gate (m.shown mid.device) c
      → StopSince old.gate (m.shown old.device) c
      = λ c left. of_open_any old.gate (m.shown mid.device) (m.shown old.device) c
      (⊎_elim (λ (e : old.gate ≡ Open). inl e) (λ (closed : ¬ (old.gate ≡ Open)). inr (a.blocks h closed))
      (is_open old.gate))
      (subst (λ (x : Gate). StopSince x (m.shown mid.device) c) a.gate left) in
      record {
        later = omega (arith, first.later, second.later);
        before =
            λ t c le left. ⊎_elim (first.before t c le) (λ p. inr (into c p))
            (second.before t c (omega (arith, le, first.later)) left);
        brings =
            brings_then m.moment m.recovery old.device mid.device new.device
            (StopSince old.gate (m.shown old.device)) first.later first.brings
            (brings_weaker m.moment m.recovery mid.device new.device
            (StopSince mid.gate (m.shown mid.device)) (StopSince old.gate (m.shown old.device)) into
            second.brings);
      };
}

pub no_call_keeps_the_map : {D : Type 0} {m : _} (file : PageFile D m) → KeepsMap file file
no_call_keeps_the_map file =
    record {
      next = refl;
      free_count = refl;
      version = λ h. refl;
      pages_stay = λ h k. refl;
      given_stay = λ h k. refl;
      sound = (λ p. p, λ p. p);
    }

pub the_map_is_kept_in_turn : {D : Type 0} {m : _} (old mid new : PageFile D m)
    → (IsHonest old → IsHonest mid) → KeepsMap old mid → KeepsMap mid new → KeepsMap old new
the_map_is_kept_in_turn old mid new honest a b = record {
  next = b.next ∙ a.next;
  free_count = b.free_count ∙ a.free_count;
  version = λ h. b.version (honest h) ∙ a.version h;
  pages_stay = λ h k. b.pages_stay (honest h) k ∙ a.pages_stay h k;
  given_stay = λ h k. b.given_stay (honest h) k ∙ a.given_stay h k;
  sound = (λ p. b.sound.0 (a.sound.0 p), λ p. a.sound.1 (b.sound.1 p));
}

-- a run of calls, and then calls that add nothing but what has Q
pub a_run_goes_on : {D : Type 0} (moment : D → ℕ) (left_since : D → ℕ → Blocks → Type 0)
    (recovery : Recovery D) (old mid new : D) (P Q : Blocks → Type 0)
    → LeavesOnly moment left_since recovery old mid P → AddsOnly moment left_since recovery mid new Q
    → LeavesOnly moment left_since recovery old new (λ c. P c ⊎ Q c)
a_run_goes_on moment left_since recovery old mid new P Q a more = record {
  later = omega (arith, a.later, more.later);
  each = λ c left. ⊎_elim (λ was. inl (a.each c was)) (λ p. inr p) (more.before (moment old) c a.later left);
  before = λ t c le left. ⊎_elim
      (λ was. ⊎_elim (λ earlier. inl earlier) (λ p. inr (inl p)) (a.before t c le was))
      (λ p. inr (inr p))
      (more.before t c (omega (arith, le, a.later)) left);
  brings = brings_then moment recovery old mid new (λ c. P c ⊎ Q c) a.later
      (brings_weaker moment recovery old mid P (λ c. P c ⊎ Q c) (λ c p. inl p) a.brings)
      (brings_weaker moment recovery mid new Q (λ c. P c ⊎ Q c) (λ c q. inr q) more.brings);
}

-- a run of calls, and then calls that keep the gate
pub stops_of_a_run_go_on : {D : Type 0} {m : _} (old : D) (mid new : PageFile D m) (P : Blocks → Type 0)
    → IsHonest mid → LeavesOnly m.moment m.left_since m.recovery old mid.device P → KeepsGate mid new
    → LeavesOnly m.moment m.left_since m.recovery old new.device
    (λ c. P c ⊎ StopSince (gate_of mid) (blocks_of mid) c)
stops_of_a_run_go_on {m = m} old mid new P h a b =
    a_run_goes_on m.moment m.left_since m.recovery old mid.device new.device P
    (StopSince (gate_of mid) (blocks_of mid)) a (b.stops h)

-- opening refuses a file whose gate is shut by no check
pub a_shut_file_passes : {D : Type 0} {m : _} (file : PageFile D m) → IsHonest file → gate_of file ≡ Shut
    → failed_check (blocks_of file) ≡ None
a_shut_file_passes file h shut = (kept.shut_lies file h shut).passes

-- a live page was given out with its bytes
pub a_live_page_is_given : {D : Type 0} {m : _} (file : PageFile D m) (n : ℕ) (page : List ℕ)
    → pages file n ≡ Some page → given file n ≡ Some page
a_live_page_is_given {m = m} file n page e = live_is_given (m.shown file.device) file.header n page e

-- each page given out is a block of the device, and so is each live one
pub a_given_page_is_a_block : {D : Type 0} {m : _} (file : PageFile D m) (n : ℕ) (page : List ℕ)
    → IsHonest file → All IsBlock (blocks_of file) → given file n ≡ Some page → IsBlock page
a_given_page_is_a_block file n page h whole e =
    let g = given_is (blocks_of file) (next_of file) n page e in
    subst IsBlock (sym g.bytes) (whole n [] (omega (arith, g.below, file.room h)))

pub a_live_page_is_a_block : {D : Type 0} {m : _} (file : PageFile D m) (n : ℕ) (page : List ℕ)
    → IsHonest file → All IsBlock (blocks_of file) → pages file n ≡ Some page → IsBlock page
a_live_page_is_a_block file n page h whole e =
    a_given_page_is_a_block file n page h whole (a_live_page_is_given file n page e)

-- one given out that is not of the free pages' kind is live
pub a_page_in_use_is_live : {D : Type 0} {m : _} (file : PageFile D m) (n : ℕ) (page : List ℕ)
    → IsPageMap file → given file n ≡ Some page → ¬ (kind_of page ≡ free_kind) → pages file n ≡ Some page
a_page_in_use_is_live {m = m} file n page map e other =
    given_is_live (m.shown file.device) file.header n page map.free e other

-- what the laws of a file are proved by
pub ruleset laws = (
  a_stop_follows_the_gate,
  a_stop_now_leaves_all_but_the_gate,
  a_live_page_was_given_out,
  the_catalog_is_live,
  a_gate_aside_is_refused_or_the_same,
  a_gate_aside_finds_the_file,
  no_call_keeps_the_gate,
  the_gate_is_kept_in_turn,
  no_call_keeps_the_map,
  the_map_is_kept_in_turn,
  a_live_page_is_given,
  a_page_in_use_is_live,
)
