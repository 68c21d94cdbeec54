-- What is read through the regions of a log: whole blocks, and what recovery makes of them.
use Rattle.std.proofs.Common.{◌≡◌, ℕ, suc, ◌+◌, ◌^◌, ◌≤◌, List, [], ◌∷◌, length, set, take, sym, arith}
use Rattle.std.specs.List.{All}
use Rattle.std.proofs.lemmas.List.{take-take}
use Rattle.std.proofs.lemmas.List.Elements.{All-set}
use Rattle.block_device.specs.Device.{Blocks, IsBlock, block_at}
use Rattle.committed_log.specs.Log.{entries_from, homes_in, overlaid, recovered, replayed}
use Rattle.committed_log.specs.Overlay.{overlay_first}
use Rattle.committed_log.specs.Replay.{length-overlaid}

-- as many blocks as the base has
pub few_overlaid : (homes : List ℕ) (b a : Blocks) → length a ≤ 2 ^ 31 → length (overlaid homes b a) ≤ 2 ^ 31
few_overlaid homes b a few = omega (arith, few, length-overlaid homes b a)

-- blocks of base and log
whole_replayed : (k : ℕ) (homes : List ℕ) (b a : Blocks) → k + length homes ≤ length b → All IsBlock b
    → All IsBlock a → All IsBlock (replayed (entries_from k homes b) a)
whole_replayed k [] b a there log base = base
whole_replayed k (h ∷ hs) b a there log base =
    whole_replayed (suc k) hs b (set a h (block_at k b)) (omega (arith, there)) log
    (All-set IsBlock a h (block_at k b) (log k [] (omega (arith, there))) base)

pub whole_overlaid : (homes : List ℕ) (b a : Blocks) → length homes ≤ length b → All IsBlock b → All IsBlock a
    → All IsBlock (overlaid homes b a)
whole_overlaid homes b a there log base = whole_replayed 0 homes b a (omega (arith, there)) log base

-- the index of regions that end at block p, whatever stands behind them
pub index_recovers : (a b : Blocks) (p : ℕ) → length (homes_in (take p b)) ≡ p
    → overlaid (homes_in (take p b)) b a ≡ recovered a (take p b)
index_recovers a b p ends =
    let homes : List ℕ = homes_in (take p b) in
    sym (overlay_first homes b (take p b) a (take-take (length homes) p b (omega (arith, ends))))
