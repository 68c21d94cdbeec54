-- Two devices as a pair: what a stop at each moment so far might have left, by what it may leave of each.
use Rattle.std.specs.Prelude.{ℕ, ◌≤◌, ◌⊎◌, List, [], ◌∷◌, length}
use Rattle.block_device.specs.Device.{Blocks}

module _ {A B : Type 0} (base : A → Blocks → Type 0) (journal : B → Blocks → Type 0) where
  -- what a stop may leave of both
  abbrev pub Both : A → B → Blocks → Blocks → Type 0
  Both x y a b = base x a × journal y b

  -- What a stop after at least t calls might have left, of devices that are so now and were so before each
  -- call, the newest first.
  abbrev pub BothSince : A → B → List (A × B) → ℕ → Blocks → Blocks → Type 0
  BothSince x y [] t a b = Both x y a b
  BothSince x y (p ∷ ps) t a b = Both x y a b ⊎ ((t ≤ length ps) × BothSince p.0 p.1 ps t a b)
