-- Laws of a journal that may be missing.
use Rattle.std.proofs.Common.{◌≤◌, ◌^◌, length, arith}
use Rattle.std.specs.Prelude.{Option, Some, None, IfSome}
use Rattle.std.specs.List.{All}
use Rattle.block_device.specs.Device.{Blocks, IsBlock}
use Rattle.snapshot_file.specs.Beside.{beside}
use Rattle.titled_pair.specs.Title.{untitled}
use Rattle.titled_pair.specs.TitleLaws.{length-untitled, untitled_whole}

pub few_beside : {J : Type 0} (shown : J → Blocks) → ((j : J) → length (shown j) ≤ 2 ^ 31) → (o : Option J)
    → length (untitled (beside shown o)) ≤ 2 ^ 31
few_beside shown few None = omega arith
few_beside shown few (Some j) = omega (arith, few j, length-untitled (shown j))

pub whole_beside : {J : Type 0} (shown : J → Blocks) (honest : J → Type 0)
    → ((j : J) → honest j → All IsBlock (shown j)) → (o : Option J) → IfSome o honest
    → All IsBlock (untitled (beside shown o))
whole_beside shown honest whole None is k d lt = absurd (omega (arith, lt))
whole_beside shown honest whole (Some j) is k d lt = untitled_whole (shown j) (whole j is) k d lt
