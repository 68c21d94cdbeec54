-- Blocks that are restored or filled after a stop.
use Rattle.std.proofs.Common.{◌≡◌, ◌∙◌, ◌⊎◌, ℕ, suc, ◌+◌, ◌<◌, ◌≤◌, Bool, true, false, ◌||◌, nat_eq, List, []}
use Rattle.std.proofs.Common.{◌∷◌, length, take, set, get_or, replicate, refl, sym, ap, subst, arith, inl}
use Rattle.std.proofs.Common.{inr, ⊎_elim, length-set}
use Rattle.std.specs.List.{All}
use Rattle.std.proofs.lemmas.List.{same_lists, get_or-set_same, get_or-set_other, get_or-take, length-take-le}
use Rattle.std.proofs.lemmas.List.{get_or_default, get_or_past}
use Rattle.std.proofs.lemmas.Bool.{cases_lt, cases_eq, cases_Bool, eqb-true, or_cases, both_ways}
use Rattle.std.proofs.lemmas.Bool.{false_from_ne_true}
use Rattle.block_device.specs.declared.left.Left.{Left}
use Rattle.block_device.specs.declared.left.Left.TheVariants as left
use Rattle.block_device.specs.Logged.{Write, restored}
use Rattle.block_device.specs.Device.{Blocks, IsBlock, block_at}
use Rattle.block_device.specs.History.{Event, IsHistory, MayLeave, at_sync, unsynced}
use Rattle.block_device.specs.Memory.{IsLeft}
use Rattle.block_device.specs.Kept.{IsKept, IsOld, FillsMarked, IsLeftFrom, is_in, is_logged}
use Rattle.block_device.specs.Outcomes.{repeated_block, sync_le, sync_same, shown_left}
use Rattle.block_device.specs.Stop.{IsFilled}
use Rattle.block_device.proofs.Numbers.{contains_from, is_in_from, not_in}
use Rattle.block_device.proofs.Stops.{synced_left, filled_left}

-- the blocks below n are filled where there is a mark
pub record FilledBelow (bytes : List ℕ) (marks : List Bool) (n : ℕ) (old new : Blocks) : Type 0 where
  pub as_many : length new ≡ length old
  pub there : (k : ℕ) → k < n → k < length old → get_or marks k false ≡ true → block_at k new ≡ bytes
  pub others : (k : ℕ) → get_or marks k false ≡ false → block_at k new ≡ block_at k old

pub filled_none : (bytes : List ℕ) (marks : List Bool) (old : Blocks) → FilledBelow bytes marks 0 old old
filled_none bytes marks old =
    record { as_many = refl; there = λ k less lt one. absurd (omega (arith, less)); others = λ k none. refl }

pub filled_next : (bytes : List ℕ) (marks : List Bool) (n : ℕ) (old new : Blocks)
    → FilledBelow bytes marks n old new → n < length old → get_or marks n false ≡ true
    → FilledBelow bytes marks (n + 1) old (set new n bytes)
filled_next bytes marks n old new f lt mark = record {
  as_many = length-set new n bytes ∙ f.as_many;
  there = λ k less in_old one. ⊎_elim
      (λ (e : k ≡ n). ap (λ (j : ℕ). block_at j (set new n bytes)) e
      ∙ get_or-set_same new n bytes [] (omega (arith, lt, f.as_many)))
      (λ (apart : ¬ (k ≡ n)). get_or-set_other new n k bytes [] apart
      ∙ f.there k (omega (arith, less, apart)) in_old one)
      (cases_eq k n);
  others =
      λ k none. get_or-set_other new n k bytes []
      (λ e. both_ways (get_or marks k false) none (ap (λ (j : ℕ). get_or marks j false) e ∙ mark))
      ∙ f.others k none;
}

pub filled_not : (bytes : List ℕ) (marks : List Bool) (n : ℕ) (old new : Blocks)
    → FilledBelow bytes marks n old new → get_or marks n false ≡ false
    → FilledBelow bytes marks (n + 1) old new
filled_not bytes marks n old new f none = record {
  as_many = f.as_many;
  there = λ k less in_old one. ⊎_elim
      (λ (e : k ≡ n). absurd
      (both_ways (get_or marks n false) none (sym (ap (λ (j : ℕ). get_or marks j false) e) ∙ one)))
      (λ (apart : ¬ (k ≡ n)). f.there k (omega (arith, less, apart)) in_old one)
      (cases_eq k n);
  others = f.others;
}

pub fills : (bytes : List ℕ) (marks : List Bool) (n : ℕ) (old new : Blocks)
    → FilledBelow bytes marks n old new → length old ≤ n → FillsMarked bytes marks old new
fills bytes marks n old new f all =
    record {
      as_many = f.as_many;
      there = λ k lt one. f.there k (omega (arith, lt, all)) lt one;
      others = f.others;
    }

-- each marked block was written since the last sync, and no other one
pub filled : (blocks new : Blocks) (marks : List Bool) (log : List Write) (synced : ℕ) (es : List Event)
    (bytes : List ℕ) → IsKept blocks marks log synced es → FillsMarked bytes marks blocks new
    → IsFilled bytes (unsynced es) blocks new
filled blocks new marks log synced es bytes kept f = record {
  as_many = f.as_many;
  there = λ k one lt. f.there k lt (kept.marked k lt ∙ is_in_from k (unsynced es) one);
  others = λ k none. ⊎_elim
      (λ (lt : k < length blocks). f.others k
      (kept.marked k lt
      ∙ false_from_ne_true (is_in k (unsynced es)) (λ one. none (contains_from k (unsynced es) one))))
      (λ (past : length blocks ≤ k). get_or_past new k [] (omega (arith, past, f.as_many))
      ∙ sym (get_or_past blocks k [] past))
      (cases_lt k (length blocks));
}

-- a block of the last sync is there again once its write is undone, or if it has not changed
restored_at : (synced : Blocks) (log : List Write) (blocks : Blocks) (k : ℕ) → All (IsOld synced) log
    → length synced ≤ length blocks → k < length synced
    → (is_logged k log ≡ true) ⊎ (block_at k blocks ≡ block_at k synced)
    → block_at k (restored log blocks) ≡ block_at k synced
restored_at synced [] blocks k old le lt either =
    ⊎_elim (λ (never : false ≡ true). cc) (λ (same : block_at k blocks ≡ block_at k synced). same) either
restored_at synced (w ∷ log) blocks k old le lt either =
    let first : IsOld synced w = old 0 w (omega arith) in
    let next : Blocks = set blocks w.at w.old in
    let rest : All (IsOld synced) log = λ n d less. old (suc n) d (omega (arith, less)) in
    restored_at synced log next k rest (omega (arith, le, length-set blocks w.at w.old)) lt (⊎_elim
    (λ (e : k ≡ w.at). inr
    (ap (λ (j : ℕ). block_at j next) e
    ∙ get_or-set_same blocks w.at w.old [] (omega (arith, first.0, le)) ∙ first.1
    ∙ sym (ap (λ (j : ℕ). block_at j synced) e)))
    (λ (apart : ¬ (k ≡ w.at)). ⊎_elim
    (λ (logged : (nat_eq k w.at || is_logged k log) ≡ true). ⊎_elim
    (λ (here : nat_eq k w.at ≡ true). absurd (apart (eqb-true k w.at here)))
    (λ (later : is_logged k log ≡ true). inl later)
    (or_cases (nat_eq k w.at) (is_logged k log) logged))
    (λ (same : block_at k blocks ≡ block_at k synced). inr
    (get_or-set_other blocks w.at k w.old [] apart ∙ same))
    either)
    (cases_eq k w.at))

length-restored : (log : List Write) (blocks : Blocks) → length (restored log blocks) ≡ length blocks
length-restored [] blocks = refl
length-restored (w ∷ log) blocks = length-restored log (set blocks w.at w.old) ∙ length-set blocks w.at w.old

-- what the log restores are the blocks of the last sync
pub restores : (blocks : Blocks) (marks : List Bool) (log : List Write) (synced : ℕ) (es : List Event)
    → IsKept blocks marks log synced es → take synced (restored log blocks) ≡ at_sync blocks es
restores blocks marks log synced es kept =
    let was : Blocks = at_sync blocks es in
    let le : length was ≤ length blocks = sync_le blocks es kept.leads in
    let size : length (take synced (restored log blocks)) ≡ synced =
    length-take-le synced (restored log blocks)
    (omega (arith, kept.synced_is, le, length-restored log blocks)) in
    same_lists (take synced (restored log blocks)) was (size ∙ kept.synced_is) (λ k d lt.
    let below : k < length was = omega (arith, lt, size, kept.synced_is) in
    get_or_default (take synced (restored log blocks)) k d [] lt
    ∙ get_or-take synced (restored log blocks) k [] (omega (arith, lt, size))
    ∙ restored_at was log blocks k kept.old le below (⊎_elim
    (λ (one : is_in k (unsynced es) ≡ true). inl (kept.logged k (omega (arith, lt, size)) one))
    (λ (none : is_in k (unsynced es) ≡ false). inr
    (sym (sync_same blocks es k kept.leads (not_in k (unsynced es) none) below)))
    (cases_Bool (is_in k (unsynced es))))
    ∙ get_or_default was k [] d below)

-- what a stop leaves is what it was told to leave
pub left_is : (l : Left) (blocks new : Blocks) (marks : List Bool) (log : List Write) (synced : ℕ)
    (es : List Event) → IsKept blocks marks log synced es → IsLeftFrom l marks log synced blocks new
    → IsLeft l blocks (at_sync blocks es) (unsynced es) new
left_is left.Written blocks new marks log synced es kept is = is
left_is left.Synced blocks new marks log synced es kept is = is ∙ restores blocks marks log synced es kept
left_is (left.Filled byte) blocks new marks log synced es kept is =
    filled blocks new marks log synced es (replicate 4096 byte) kept is

-- and one of the outcomes of a stop
pub left_outcome : (l : Left) → ((byte : ℕ) → l ≡ left.Filled byte → byte < 256)
    → (blocks new : Blocks) (es : List Event) → All IsBlock blocks → IsHistory blocks es
    → IsLeft l blocks (at_sync blocks es) (unsynced es) new → MayLeave blocks es new
left_outcome left.Written fits blocks new es sized h is =
    subst (λ (b : Blocks). MayLeave blocks es b) (sym is) (shown_left blocks es sized h)
left_outcome left.Synced fits blocks new es sized h is =
    subst (λ (b : Blocks). MayLeave blocks es b) (sym is) (synced_left blocks es sized h)
left_outcome (left.Filled byte) fits blocks new es sized h is =
    filled_left (replicate 4096 byte) blocks new es (repeated_block byte (fits byte refl)) sized h is

-- the log is of blocks that are there
pub logged_there : (blocks : Blocks) (marks : List Bool) (log : List Write) (synced : ℕ) (es : List Event)
    → IsKept blocks marks log synced es → All (λ w. w.at < length blocks) log
logged_there blocks marks log synced es kept =
    λ k d lt. omega (arith, (kept.old k d lt).0, sync_le blocks es kept.leads)

-- where nothing was written
pub kept_fresh : (blocks : Blocks) (marks : List Bool) (n : ℕ) → All IsBlock blocks
    → length marks ≡ length blocks → ((k : ℕ) → k < length blocks → get_or marks k false ≡ false)
    → n ≡ length blocks → IsKept blocks marks [] n []
kept_fresh blocks marks n sized as_many none size = record {
  whole = sized;
  leads = tt;
  as_many = as_many;
  marked = none;
  synced_is = size;
  logged = λ k lt one. cc;
  old = λ k d lt. absurd (omega arith);
}
