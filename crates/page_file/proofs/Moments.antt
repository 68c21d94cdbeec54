-- What a write and then a sync leave at each moment.
use Rattle.std.proofs.Common.{◌≡◌, ◌∙◌, ℕ, inl, refl}
use Rattle.std.specs.Prelude.{◌↔◌}
use Rattle.block_device.specs.Device.{Blocks, Elapses, Follows, LeavesNoMore, LeavesOnly, Torn, Brings}
use Rattle.block_device.specs.Device.{Recovery}
use Rattle.block_device.specs.Moments.{started, goes_on, leaves_weaker}
use Rattle.page_file.specs.File.{IsHonest, KeepsGate, blocks_of, gate_of, version_of}
use Rattle.page_file.specs.Gated.{now_since}
use Rattle.page_file.specs.Laws.{a_stop_now_leaves_all_but_the_gate}
use Rattle.page_file.specs.Stops.{GateAside, SameButGate, StopSince, TornFrom}
use Rattle.page_file.specs.declared.file.PageFile.{PageFile}
use Rattle.page_file.specs.declared.gate.Gate.TheVariants.{Open}
use Rattle.page_file.specs.Written.{aside_torn}

module _ {D : Type 0} (moment : D → ℕ) (left_since : D → ℕ → Blocks → Type 0) (recovery : Recovery D)
    (may_leave : D → Blocks → Type 0) where
  -- the gate written, and then the device synced
  pub gate_aside_leaves : (old mid new : D) → ((c : Blocks) → left_since old (moment old) c → may_leave old c)
      → Follows (Torn 0) (may_leave old) (may_leave mid)
      → Elapses (moment old) (moment mid) (left_since old) (left_since mid) (may_leave mid)
      → Brings moment recovery old mid (may_leave mid)
      → LeavesNoMore (may_leave mid) (may_leave new)
      → Elapses (moment mid) (moment new) (left_since mid) (left_since new) (may_leave new)
      → Brings moment recovery mid new (may_leave new)
      → LeavesOnly moment left_since recovery old new (GateAside (may_leave old))
  gate_aside_leaves old mid new now torn time brings more time2 brings2 =
      let P : Blocks → Type 0 = GateAside (may_leave old) in
      let aside : (c : Blocks) → may_leave mid c → P c = λ c left. let from = torn c left in
      (from.0, from.1, aside_torn from.0 c from.2) in
      let here = started moment left_since recovery old P (λ c left. (c, now c left, refl)) in
      goes_on moment left_since recovery old mid new P _
      (goes_on moment left_since recovery old old mid P _ here time brings aside) time2 brings2
      (λ c left. aside c (more c left))

  -- a block written, and then the device synced
  pub torn_leaves : (n : ℕ) (old mid new : D)
      → ((c : Blocks) → left_since old (moment old) c → may_leave old c)
      → Follows (Torn n) (may_leave old) (may_leave mid)
      → Elapses (moment old) (moment mid) (left_since old) (left_since mid) (may_leave mid)
      → Brings moment recovery old mid (may_leave mid)
      → LeavesNoMore (may_leave mid) (may_leave new)
      → Elapses (moment mid) (moment new) (left_since mid) (left_since new) (may_leave new)
      → Brings moment recovery mid new (may_leave new)
      → LeavesOnly moment left_since recovery old new (TornFrom n (may_leave old))
  torn_leaves n old mid new now torn time brings more time2 brings2 =
      let P : Blocks → Type 0 = TornFrom n (may_leave old) in
      let here = started moment left_since recovery old P (λ c left. (c, now c left, inl refl)) in
      goes_on moment left_since recovery old mid new P _
      (goes_on moment left_since recovery old old mid P _ here time brings torn) time2 brings2
      (λ c left. torn c (more c left))

  -- one call that leaves no more
  pub no_more_leaves : (old new : D) → ((c : Blocks) → left_since old (moment old) c → may_leave old c)
      → LeavesNoMore (may_leave old) (may_leave new)
      → Elapses (moment old) (moment new) (left_since old) (left_since new) (may_leave new)
      → Brings moment recovery old new (may_leave new)
      → LeavesOnly moment left_since recovery old new (may_leave old)
  no_more_leaves old new now more time brings =
      goes_on moment left_since recovery old old new (may_leave old) _
      (started moment left_since recovery old (may_leave old) now) time brings more

-- calls that leave no more, and let header and gate be, keep the gate
pub kept_where_no_more_is_left : {D : Type 0} {m : _} (old new : PageFile D m) → gate_of new ≡ gate_of old
    → (IsHonest old ↔ IsHonest new) → (IsHonest old → version_of new ≡ version_of old)
    → (IsHonest old → blocks_of new ≡ blocks_of old)
    → (IsHonest old
    → LeavesOnly m.moment m.left_since m.recovery old.device new.device (m.may_leave old.device))
    → KeepsGate old new
kept_where_no_more_is_left {m = m} old new gate honest version same leaves = record {
  gate = gate;
  honest = honest;
  version = version;
  blocks = λ h closed. same h;
  stops = λ h.
      let l = leaves_weaker m.moment m.left_since m.recovery old.device new.device (m.may_leave old.device)
      (StopSince (gate_of old) (blocks_of old))
      (λ c left. now_since (gate_of old) (blocks_of old) c (old.stop_now h c left)) (leaves h) in
      record { later = l.later; before = l.before; brings = l.brings };
}

-- the gate written while it is not open leaves the blocks as they were, the gate aside
pub aside_while_closed : {D : Type 0} {m : _} (old : PageFile D m) (new : D) → IsHonest old
    → ¬ (gate_of old ≡ Open)
    → LeavesOnly m.moment m.left_since m.recovery old.device new (GateAside (m.may_leave old.device))
    → LeavesOnly m.moment m.left_since m.recovery old.device new (λ c. SameButGate c (blocks_of old))
aside_while_closed {m = m} old new h closed leaves =
    leaves_weaker m.moment m.left_since m.recovery old.device new (GateAside (m.may_leave old.device))
    (λ c. SameButGate c (blocks_of old))
    (λ c from. from.2 ∙ a_stop_now_leaves_all_but_the_gate old from.0 h closed from.1) leaves
