-- Worked splits (docs/RULES.md). No other proof rests on them.
use Rattle.std.proofs.Common.{◌≡◌, ℕ, zero, suc, ◌+◌, ◌*◌, ◌<◌, ◌≤◌, List, [], ◌∷◌, refl, arith, pos}
use Rattle.tree_node.specs.Nodes.{Item}
use Rattle.tree_node.specs.Keys.{AtMost}
use Rattle.tree_node.proofs.KeyLemmas.{AtMost-itself}
use Rattle.rstar_split.specs.declared.sorting.Bound.{Bound}
use Rattle.rstar_split.specs.declared.sorting.Bound.TheVariants.{Lower, Upper}
use Rattle.rstar_split.specs.Cuts.{before, order_of, front_box, back_box, margins_of, axis_margin, order_key}
use Rattle.rstar_split.specs.Cuts.{cut_key, Splits}

abbrev at : ℕ → ℕ → ℕ → Item
at id x y =
    record {
      bounds = record { low = pos x ∷ pos y ∷ []; high = pos x ∷ pos y ∷ [] };
      reference = id;
      tag = 7 * id;
    }

-- ---- five points on a line: both axes have the same margin sum, and all volumes and overlaps are 0

abbrev line : List Item
line = at 1 0 0 ∷ at 2 1 0 ∷ at 3 2 0 ∷ at 4 3 0 ∷ at 5 10 0 ∷ []

line_order : order_of line 0 Lower ≡ 0 ∷ 1 ∷ 2 ∷ 3 ∷ 4 ∷ []
unfolding order_of before
line_order = refl

line_margins : (axis_margin 2 line 2 0 ≡ 36) × (axis_margin 2 line 2 1 ≡ 36)
unfolding order_of before margins_of front_box back_box Rattle.tree_node.specs.Boxes.least_box
line_margins = (refl, refl)

axes : (a : ℕ) → a < 2 → AtMost (axis_margin 2 line 2 0 ∷ []) (axis_margin 2 line 2 a ∷ [])
axes zero lt = AtMost-itself (axis_margin 2 line 2 0 ∷ [])
axes (suc zero) lt = (omega (arith, line_margins), λ same. tt)
axes (suc (suc a)) lt = absurd (omega (arith, lt))

cuts : (b : Bound) (s : ℕ) → 2 ≤ s → s + 2 ≤ 5 → AtMost (cut_key 2 line 0 Lower 2) (cut_key 2 line 0 b s)
unfolding order_of before order_key front_box back_box Rattle.tree_node.specs.Boxes.least_box
    Rattle.box_math.specs.Measures.overlap_of Rattle.box_math.specs.Bounds.meets_test
cuts b zero low high = absurd (omega (arith, low))
cuts b (suc zero) low high = absurd (omega (arith, low))
cuts Lower (suc (suc zero)) low high =
    (omega arith, λ a. (omega arith, λ b. (omega arith, λ c. (omega arith, λ d. tt))))
cuts Upper (suc (suc zero)) low high =
    (omega arith, λ a. (omega arith, λ b. (omega arith, λ c. (omega arith, λ d. tt))))
cuts Lower (suc (suc (suc zero))) low high =
    (omega arith, λ a. (omega arith, λ b. (omega arith, λ c. (omega arith, λ d. tt))))
cuts Upper (suc (suc (suc zero))) low high =
    (omega arith, λ a. (omega arith, λ b. (omega arith, λ c. (omega arith, λ d. tt))))
cuts b (suc (suc (suc (suc s)))) low high = absurd (omega (arith, high))

line_splits : Splits 2 4 line (0 ∷ 1 ∷ []) (2 ∷ 3 ∷ 4 ∷ [])
unfolding order_of before
line_splits = record {
  axis = 0;
  bound = Lower;
  size = 2;
  axis_least = record { within = omega arith; least = axes; first = λ j lt. absurd (omega (arith, lt)) };
  first_full = omega arith;
  second_full = omega arith;
  least = cuts;
  first_is = refl;
  second_is = refl;
}

-- ---- two clusters: the margins of both axes are equal, the volumes 12 against 10004

abbrev clusters : List Item
clusters = at 1 0 0 ∷ at 2 2 2 ∷ at 3 100 100 ∷ at 4 102 102 ∷ at 5 104 100 ∷ []

cluster_margins : (axis_margin 2 clusters 2 0 ≡ 428) × (axis_margin 2 clusters 2 1 ≡ 428)
unfolding order_of before margins_of front_box back_box Rattle.tree_node.specs.Boxes.least_box
cluster_margins = (refl, refl)

cluster_cuts : (cut_key 2 clusters 0 Lower 2 ≡ 0 ∷ 12 ∷ 0 ∷ 2 ∷ [])
    × (cut_key 2 clusters 0 Lower 3 ≡ 0 ∷ 10004 ∷ 0 ∷ 3 ∷ [])
unfolding order_of before order_key front_box back_box Rattle.tree_node.specs.Boxes.least_box
    Rattle.box_math.specs.Measures.overlap_of Rattle.box_math.specs.Bounds.meets_test
cluster_cuts = (refl, refl)
