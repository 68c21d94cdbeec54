-- Laws of a pair that is viewed.
use Rattle.std.proofs.Common.{◌≡◌, ◌∙◌, ◌+◌, ◌≤◌, ◌^◌, ◌⊎◌, ◌++◌, ℕ, suc, List, [], ◌∷◌, length, set, take}
use Rattle.std.proofs.Common.{ap, arith, inl, inr, refl, subst, sym, ⊎_elim}
use Rattle.std.proofs.Math.Seq.{take-append_seam}
use Rattle.std.specs.List.{All}
use Rattle.std.proofs.lemmas.List.Elements.{All-set}
use Rattle.block_device.specs.Device.{Blocks, IsBlock, block_at}
use Rattle.committed_log.specs.Log.{entries_from, overlaid, replayed}
use Rattle.committed_log.specs.Replay.{length-overlaid}
use Rattle.journaled_file.specs.Gate.{with_gate}
use Rattle.journaled_file.specs.GateLaws.{length-gated, whole_gated}
use Rattle.journaled_file.specs.Viewed.{IsOneOf}
use Rattle.titled_pair.specs.Title.{untitled}
use Rattle.titled_pair.specs.TitleLaws.{untitled_whole}

-- as many blocks as the base has
pub length-seen : (homes gate : List ℕ) (base log : Blocks)
    → length (overlaid homes log (with_gate gate base)) ≡ length base
length-seen homes gate base log = length-overlaid homes log (with_gate gate base) ∙ length-gated gate base

pub few_seen : (homes gate : List ℕ) (base log : Blocks) → length base ≤ 2 ^ 31
    → length (overlaid homes log (with_gate gate base)) ≤ 2 ^ 31
few_seen homes gate base log few = omega (arith, few, length-seen homes gate base log)

-- of base and log
whole_replayed : (k : ℕ) (homes : List ℕ) (b a : Blocks) → k + length homes ≤ length b → All IsBlock b
    → All IsBlock a → All IsBlock (replayed (entries_from k homes b) a)
whole_replayed k [] b a there log base = base
whole_replayed k (h ∷ hs) b a there log base =
    whole_replayed (suc k) hs b (set a h (block_at k b)) (omega (arith, there)) log
    (All-set IsBlock a h (block_at k b) (log k [] (omega (arith, there))) base)

pub whole_seen : (homes gate : List ℕ) (base journal c : Blocks) → length homes ≤ length (untitled journal)
    → IsBlock gate → All IsBlock base × All IsBlock journal
    → c ≡ overlaid homes (untitled journal) (with_gate gate base) → All IsBlock c
whole_seen homes gate base journal c there is both left =
    subst (All IsBlock) (sym left)
    (whole_replayed 0 homes (untitled journal) (with_gate gate base) (omega (arith, there))
    (untitled_whole journal both.1) (whole_gated gate base is both.0))

pub one_longer : (c blocks : Blocks) → c ≡ blocks → length c ≤ length blocks + 1
one_longer c blocks is = subst (λ (b : Blocks). length b ≤ length blocks + 1) (sym is) (omega arith)

-- both files stay where nothing more is committed
pub both_stay : (base journal a e : Blocks) → ((k : Blocks) → IsOneOf a e k → IsOneOf base journal k ⊎ ⊥)
    → (a ≡ base) × (e ≡ journal)
both_stay base journal a e all = (
  ⊎_elim
      (λ (one : IsOneOf base journal ([] ∷ a)).
      ⊎_elim (λ (same : [] ∷ a ≡ [] ∷ base). first same)
      (λ (other : [] ∷ a ≡ (1 ∷ []) ∷ journal). apart other) one)
      (λ no. absurd no)
      (all ([] ∷ a) (inl refl)),
  ⊎_elim
      (λ (one : IsOneOf base journal ((1 ∷ []) ∷ e)).
      ⊎_elim (λ (other : (1 ∷ []) ∷ e ≡ [] ∷ base). apart_too other)
      (λ (same : (1 ∷ []) ∷ e ≡ (1 ∷ []) ∷ journal). then same) one)
      (λ no. absurd no)
      (all ((1 ∷ []) ∷ e) (inr refl)),
)
  where
    first : [] ∷ a ≡ [] ∷ base → a ≡ base
    first same = cc

    apart : [] ∷ a ≡ (1 ∷ []) ∷ journal → a ≡ base
    apart other = absurd (cc)

    then : (1 ∷ []) ∷ e ≡ (1 ∷ []) ∷ journal → e ≡ journal
    then same = cc

    apart_too : (1 ∷ []) ∷ e ≡ [] ∷ base → e ≡ journal
    apart_too other = absurd (cc)

-- a journal that was appended to, with blocks that are not its own, and has its title
pub same_journal : (journal own behind : Blocks) → length own ≡ length journal → 2 ≤ length journal
    → block_at 0 own ≡ block_at 0 journal → block_at 1 own ≡ block_at 1 journal
    → take (length (untitled journal)) (untitled (own ++ behind)) ≡ untitled journal → own ≡ journal
same_journal [] own behind size two title end begins = absurd (omega (arith, two))
same_journal (t ∷ []) own behind size two title end begins = absurd (omega (arith, two))
same_journal (t ∷ u ∷ j) [] behind size two title end begins = absurd (omega (arith, size))
same_journal (t ∷ u ∷ j) (v ∷ []) behind size two title end begins = absurd (omega (arith, size))
same_journal (t ∷ u ∷ j) (v ∷ w ∷ own) behind size two title end begins =
    let many : length own ≡ length j = omega (arith, size) in
    let rest : own ≡ j =
    sym (take-append_seam own behind) ∙ ap (λ (n : ℕ). take n (own ++ behind)) many ∙ begins in cc
