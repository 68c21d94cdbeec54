-- The library's device by the one below it, and what holds of that.
use Rattle.std.proofs.Common.{◌<◌, ◌≤◌, ◌^◌, [], arith, length}
use Rattle.block_device.specs.Device.{Recovery}
use Rattle.file_device.specs.Pieces.{few}
use Rattle.journaled_device.specs.Journaled.{pair_of}
use Rattle.marked_pair.specs.Pair as marked
use Rattle.marked_pair.specs.MarkLaws.{length-unmarked}
use Rattle.titled_pair.specs.Pair as titled
use Rattle.rstore_c.specs.declared.device.LibraryDevice.{LibraryDevice}

-- what a stop brings back of a device that is another, below
abbrev pub recovery_through : {D E : Type 0} → (E → D) → Recovery D → Recovery E
recovery_through below recovery =
    record {
      commits = λ d k. recovery.commits (below d) k;
      found_since = λ d t c. recovery.found_since (below d) t c;
      takes = recovery.takes;
    }

-- the file has few blocks, as its mark leaves it
pub few_below : (d : LibraryDevice) → length (marked.base_of (pair_of d.below)) ≤ 2 ^ 31
few_below d =
    let base = (titled.pair_of (marked.pair_of (pair_of d.below))).base in
    omega (arith, length-unmarked (marked.disk_of (pair_of d.below)), few base.count [] base.few)

-- its count of faults is a u64
pub faults_below_fit : (d : LibraryDevice) → marked.faults_of (pair_of d.below) < 2 ^ 64
faults_below_fit d = omega arith
