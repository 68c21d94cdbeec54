-- A flag and a count added behind the last region, and a region taken in while the log is opened.
use Rattle.std.proofs.Common.{◌≡◌, ◌∙◌, ℕ, ◌+◌, ◌<◌, ◌≤◌, false, List, [], ◌∷◌, length}
use Rattle.std.proofs.Common.{take, drop, Ok, Err, OnOk, OnErr, sym, ap, subst, arith}
use Rattle.std.proofs.lemmas.List.{get_or-drop, get_or-take, take-append-le}
use Rattle.block_device.specs.Device.{Blocks, Torn, block_at, written}
use Rattle.block_device.specs.Written.{length-written_behind, push_written}
use Rattle.device_pair.specs.Pairs.{JournalFollows}
use Rattle.committed_log.specs.Log.{homes_in, index_blocks, overlaid, recovered, region_homes}
use Rattle.committed_log.specs.Log.{region_of, says, size_of}
use Rattle.committed_log.specs.Overlay.{overlay_append}
use Rattle.committed_log.specs.Region.{HasSlots, IsRegion}
use Rattle.committed_log.specs.Regions.{committed_room, committed_says, homes_more, is_committed_so}
use Rattle.committed_log.specs.Regions.{length_homes, length_region, recovered_unsaid, region_same, size_same}
use Rattle.committed_log.specs.Torn.{take_torn, torn_before, written_before}
use Rattle.committed_log.proofs.Opened.{recovered_more, recovered_push}
use Rattle.committed_log.proofs.Stood.{Answer}

abbrev Outcomes : Type 1
Outcomes = Blocks → Blocks → Type 0

pub on_fine : (r : Answer) (P : Type 0) → P → OnOk r P
on_fine (Ok u) P p = p
on_fine (Err e) P p = tt

-- ---- a block added behind the last region

pub added_first : (r : Answer) (i : ℕ) (x : List ℕ) (b c : Blocks) → i ≡ length b
    → OnOk r (c ≡ written i x b) → OnErr r (Torn i b c) → take i c ≡ take i b
added_first (Ok u) i x b c size w t =
    ap (take i) (w ∙ sym (push_written i x b (omega (arith, size))))
    ∙ take-append-le i b (x ∷ []) (omega (arith, size))
added_first (Err e) i x b c size w t = take_torn i i b c (omega arith) (omega (arith, size)) t

pub added_recovers : (r : Answer) (i : ℕ) (x : List ℕ) (a b c : Blocks) → i ≡ size_of b → i ≡ length b
    → OnOk r (c ≡ written i x b) → OnErr r (Torn i b c) → recovered a c ≡ recovered a b
added_recovers (Ok u) i x a b c is size w t = ap (recovered a) w ∙ recovered_push i a x b is size
added_recovers (Err e) i x a b c is size w t = recovered_more i a b c is size t

-- what a stop leaves of it
pub added_leaves : (i : ℕ) (seen b : Blocks) (old new : Outcomes) → i ≡ size_of b → i ≡ length b
    → ((v j : Blocks) → old v j → (v ≡ seen) × (j ≡ b)) → JournalFollows (Torn i) old new
    → (v j : Blocks) → new v j → recovered v j ≡ recovered seen b
added_leaves i seen b old new is size durable follows v j l =
    let from = follows v j l in let was = durable v from.0 from.1 in
    ap (λ (x : Blocks). recovered x j) was.0
    ∙ recovered_more i seen b j is size (subst (λ (x : Blocks). Torn i x j) was.1 from.2)

pub added_seen : (i : ℕ) (seen b : Blocks) (old new : Outcomes)
    → ((v j : Blocks) → old v j → (v ≡ seen) × (j ≡ b)) → JournalFollows (Torn i) old new
    → (v j : Blocks) → new v j → v ≡ seen
added_seen i seen b old new durable follows v j l =
    let from = follows v j l in (durable v from.0 from.1).0

-- ---- a count added behind a flag

pub count_says : (r : Answer) (x : List ℕ) (b c : Blocks) → 0 < length b → says (block_at 0 b) ≡ false
    → OnOk r (c ≡ written 1 x b) → OnErr r (Torn 1 b c) → says (block_at 0 c) ≡ false
count_says (Ok u) x b c some unsaid w t =
    ap says (ap (block_at 0) w ∙ written_before 0 1 x b (omega arith) some) ∙ unsaid
count_says (Err e) x b c some unsaid w t = ap says (torn_before 0 1 b c (omega arith) some t) ∙ unsaid

pub count_leaves : (seen b : Blocks) (old new : Outcomes) → 0 < length b → says (block_at 0 b) ≡ false
    → ((v j : Blocks) → old v j → (v ≡ seen) × (j ≡ b)) → JournalFollows (Torn 1) old new
    → (v j : Blocks) → new v j → recovered v j ≡ seen
count_leaves seen b old new some unsaid durable follows v j l =
    let from = follows v j l in let was = durable v from.0 from.1 in
    recovered_unsaid v j
    (ap says (torn_before 0 1 b j (omega arith) some (subst (λ (x : Blocks). Torn 1 x j) was.1 from.2))
    ∙ unsaid)
    ∙ was.0

pub two_blocks : (x : List ℕ) (b c : Blocks) → length b ≡ 1 → c ≡ written 1 x b → 2 ≤ length c
two_blocks x b c one w =
    omega (arith, one, ap length w, length-written_behind 1 x b (omega (arith, one)))

-- ---- a region taken in

pub slots_size : (slots : List ℕ) (n : ℕ) (b : Blocks) → HasSlots slots n b
    → 2 + length slots + index_blocks (length slots) ≡ size_of b
slots_size slots n b has = sym (length_region slots) ∙ ap length (sym has.homes) ∙ length_homes b

pub slots_room : (slots : List ℕ) (n : ℕ) (b : Blocks) → HasSlots slots n b → size_of b ≤ length b
slots_room slots n b has = committed_room b has.committed

pub slots_as : (slots : List ℕ) (n n' : ℕ) (b b' : Blocks) → n' ≡ n → b' ≡ b → HasSlots slots n b
    → HasSlots slots n' b'
slots_as slots n n' b b' en eb has =
    subst (λ (k : ℕ). HasSlots slots k b') (sym en) (subst (HasSlots slots n) (sym eb) has)

-- with a block behind it
pub region_kept : (slots : List ℕ) (n : ℕ) (b c : Blocks) → HasSlots slots n b
    → take (size_of b) c ≡ take (size_of b) b → size_of b < length c → IsRegion slots n c
region_kept slots n b c has first there =
    let same : (j : ℕ) → j < size_of b → block_at j c ≡ block_at j b =
    λ j lt. sym (get_or-take (size_of b) c j [] lt) ∙ ap (block_at j) first
    ∙ get_or-take (size_of b) b j [] lt in
    let others : (j : ℕ) → 0 < j → j < size_of b → block_at j c ≡ block_at j b = λ j gt lt. same j lt in
    let size : size_of c ≡ size_of b = size_same b c others in
    record {
      committed = is_committed_so c (ap says (same 0 (omega arith)) ∙ committed_says b has.committed)
          (omega (arith, size, there));
      homes = region_same b c others ∙ has.homes;
      below = has.below;
      there = omega (arith, size, there);
    }

pub kept_size : (slots : List ℕ) (n m : ℕ) (b c : Blocks) → HasSlots slots n b → IsRegion slots m c
    → size_of c ≡ size_of b
kept_size slots n m b c has is =
    sym (length_homes c) ∙ ap length (is.homes ∙ sym has.homes) ∙ length_homes b

-- recovery goes through it
pub taken_recovers : (slots : List ℕ) (n : ℕ) (a b : Blocks) → IsRegion slots n b
    → recovered (overlaid (region_of slots) b a) (drop (size_of b) b) ≡ recovered a b
taken_recovers slots n a b is =
    let rest : List ℕ = homes_in (drop (size_of b) b) in
    sym (ap (λ (l : List ℕ). overlaid l b a) (homes_more b is.committed)
    ∙ overlay_append (region_homes b) rest b a
    ∙ ap (λ (k : ℕ). overlaid rest (drop k b) (overlaid (region_homes b) b a)) (length_homes b)
    ∙ ap (λ (l : List ℕ). overlaid rest (drop (size_of b) b) (overlaid l b a)) is.homes)

-- the flag behind it
pub flag_behind : (i : ℕ) (b : Blocks) → i ≡ size_of b → says (block_at i b) ≡ false
    → says (block_at 0 (drop (size_of b) b)) ≡ false
flag_behind i b is unsaid =
    ap says (get_or-drop (size_of b) b 0 [] ∙ ap (λ (n : ℕ). block_at n b) (omega (arith, is))) ∙ unsaid
