-- A place holds an entry where its columns say so.
use Rattle.std.proofs.Common.{refl, arith}
use Rattle.node_bytes.proofs.ColumnLemmas.{entry_in_columns, ordered_in_columns, refers_in_columns}
use Rattle.node_bytes.proofs.columns.has_entries.Goals as goal
use Rattle.node_bytes.proofs.columns.has_entries.Goals.{else-level-gt0-via-then-level-gt0+else-not-are_references}
use Rattle.node_bytes.proofs.columns.has_entries.Goals.{else-level-gt0-via-else-level-gt0}

pub returns-then-not-are_references : goal.returns-then-not-are_references
returns-then-not-are_references g c = (
  λ never. absurd (cc),
  λ each. let found =
      c.are_references.ensures.1
      (λ place lt. refers_in_columns g.row.D place c.args.page.now c.args.level (each place lt)
      c.if-level-gt0.true) in absurd (cc),
)

pub returns-then-not-are_ordered : goal.returns-then-not-are_ordered
returns-then-not-are_ordered g c = (
  λ never. absurd (cc),
  λ each. let found =
      c.are_ordered.ensures.1
      (λ place lt. ordered_in_columns g.row.D place c.args.page.now c.args.level (each place lt)
      c.loop-axis.axis c.loop-axis-test.true) in absurd (cc),
)

pub returns : goal.returns
returns g c = (
  λ always place lt. entry_in_columns g.row.D place c.args.page.now c.args.level
      (λ axis below. c.loop-axis.invariant axis place (omega arith) lt)
      (elim c.else-level-gt0.branch [
        | else-level-gt0-via-then-level-gt0+else-not-are_references w ↦ λ above. w.are_references.ensures.0
            w.if-not-are_references.false place lt
        | else-level-gt0-via-else-level-gt0 w ↦ λ above. absurd (omega arith)
      ]),
  λ each. refl,
)
