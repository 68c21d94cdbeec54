-- A column of zeros to begin with.
use Rattle.std.proofs.Common.{refl, arith}
use Rattle.node_bytes.proofs.ColumnLemmas.{zero_column}
use Rattle.node_bytes.proofs.columns.read_column.Goals as goal

pub loop-place-init : goal.loop-place-init
loop-place-init c =
    record { size = refl; read = λ k lt. absurd (omega arith); zeros = λ k h. zero_column 100 k }
