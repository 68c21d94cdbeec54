-- The next lower level is appended.
use Rattle.std.proofs.Common.{◌≡◌, ◌∙◌, ◌++◌, ◌∷◌, [], ◌-◌, ℕ, List, suc, ap, arith}
use Rattle.std.proofs.lemmas.List.{append_assoc}
use Rattle.tree_statistics.specs.Levels.{level_of, levels_down}
use Rattle.tree_statistics.specs.declared.levels.LevelStatistics.{LevelStatistics}
use Rattle.tree_statistics.proofs.levels.levels_of.Goals as goal

pub loop-level-preserved : goal.loop-level-preserved
loop-level-preserved g c =
    let rows = c.args.rows.now in
    let before = c.loop-level.levels.items in
    let below = c.loop-level.level - 1 in
    let later = levels_down rows c.args.fanout below in
    let step : suc below ≡ c.loop-level.level = omega (arith, c.loop-level-test.true) in (
      ap (λ (xs : List LevelStatistics). xs ++ later) c.in_ok-push.ensures.items
          ∙ ap (λ (x : LevelStatistics). (before ++ x ∷ []) ++ later) c.level_at.ensures
          ∙ append_assoc before (level_of rows c.args.fanout below ∷ []) later
          ∙ ap (λ (n : ℕ). before ++ levels_down rows c.args.fanout n) step
          ∙ c.loop-level.invariant.0,
      omega (arith, c.loop-level.invariant.1),
    )
