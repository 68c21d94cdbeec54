-- A log is read region by region: what its blocks say of the rest, and what recovery makes of regions that
-- are known.
use Rattle.std.proofs.Common.{◌≡◌, ◌∙◌, ℕ, zero, suc, ◌+◌, ◌-◌, ◌*◌, ◌<◌, ◌≤◌, Bool, true, false, ◌&&◌, nat_le}
use Rattle.std.proofs.Common.{if◌then◌else◌, List, [], ◌∷◌, ◌++◌, length, take, drop, replicate}
use Rattle.std.proofs.Common.{refl, sym, ap, arith, ⊎_elim, length-set}
use Rattle.std.specs.Prelude.{◌/◌, ◌%◌, slice_index}
use Rattle.std.proofs.lemmas.Bool.{cases_Bool, cases_eq, cases_lt}
use Rattle.std.proofs.lemmas.Bool.Decides.{nat_tests}
use Rattle.std.proofs.lemmas.List.{append_assoc, append-nil, drop-append-le, drop_all, drop-set-lt}
use Rattle.std.proofs.lemmas.List.{get_or_append_left, get_or-set_other, get_or-set_same, get_or-take}
use Rattle.std.proofs.lemmas.List.{length-append, length-drop, length-replicate, length-take-le}
use Rattle.std.proofs.lemmas.List.{nil_from_length, set-append_left, take-append-drop, take-take}
use Rattle.std.proofs.Math.Seq.{take-add}
use Rattle.block_device.specs.Device.{Blocks, block_at}
use Rattle.block_bytes.specs.Numbers.{number_at}
use Rattle.committed_log.specs.FlagLaws.{says-nothing, says-one}
use Rattle.committed_log.specs.Log.{count_in, flag_block, home_in, homes_from, homes_in, index_blocks}
use Rattle.committed_log.specs.Log.{is_committed, no_home, overlaid, recovered, region_homes, region_of, says}
use Rattle.committed_log.specs.Log.{size_of, slot_homes}
use Rattle.committed_log.specs.Overlay.{overlay_append, overlay_first}
use Rattle.committed_log.specs.Replay.{same_blocks}
use Rattle.committed_log.specs.Stops.{flagged}

-- ---- how many blocks a region has

pub length_region : (slots : List ℕ)
    → length (region_of slots) ≡ 2 + length slots + index_blocks (length slots)
length_region slots =
    omega (
      arith,
      length-append slots (replicate (index_blocks (length slots)) no_home),
      length-replicate (index_blocks (length slots)) no_home,
    )

pub length_slots : (n k m : ℕ) (b : Blocks) → length (slot_homes n k m b) ≡ m
length_slots n k zero b = refl
length_slots n k (suc m) b = ap suc (length_slots n (suc k) m b)

pub length_homes : (b : Blocks) → length (region_homes b) ≡ size_of b
unfolding region_homes
length_homes b =
    length_region (slot_homes (count_in b) 0 (count_in b) b)
    ∙ ap (λ (n : ℕ). 2 + n + index_blocks n) (length_slots (count_in b) 0 (count_in b) b)

-- ---- whether the first region is committed

both_first : (x y : Bool) → (x && y) ≡ true → x ≡ true
both_first true y e = refl
both_first false y e = e

both_then : (x y : Bool) → (x && y) ≡ true → y ≡ true
both_then true y e = e
both_then false y e = absurd (cc)

both_are : (x y : Bool) → x ≡ true → y ≡ true → (x && y) ≡ true
both_are x y ex ey = ap (λ (t : Bool). t && y) ex ∙ ey

le_says : (m n : ℕ) → nat_le m n ≡ true → m ≤ n
le_says m n e = grind (arith, nat_tests)

le_is : (m n : ℕ) → m ≤ n → nat_le m n ≡ true
le_is m n le = grind (arith, nat_tests)

pub committed_says : (b : Blocks) → is_committed b ≡ true → says (block_at 0 b) ≡ true
committed_says b e = both_first (says (block_at 0 b)) (nat_le (size_of b) (length b)) e

pub committed_room : (b : Blocks) → is_committed b ≡ true → size_of b ≤ length b
committed_room b e =
    le_says (size_of b) (length b) (both_then (says (block_at 0 b)) (nat_le (size_of b) (length b)) e)

pub is_committed_so : (b : Blocks) → says (block_at 0 b) ≡ true → size_of b ≤ length b
    → is_committed b ≡ true
is_committed_so b e le =
    both_are (says (block_at 0 b)) (nat_le (size_of b) (length b)) e (le_is (size_of b) (length b) le)

pub unsaid_none : (b : Blocks) → says (block_at 0 b) ≡ false → is_committed b ≡ false
unsaid_none b e = ap (λ (t : Bool). t && nat_le (size_of b) (length b)) e

not_true : (t : Bool) → ¬ (t ≡ true) → t ≡ false
not_true true never = absurd (never refl)
not_true false never = refl

pub short_none : (b : Blocks) → length b < 2 → is_committed b ≡ false
short_none b few =
    not_true (is_committed b) (λ e. absurd (omega (arith, few, committed_room b e)))

-- ---- the homes, one region after the other

pub homes_none : (n : ℕ) (b : Blocks) → is_committed b ≡ false → homes_from n b ≡ []
homes_none zero b e = refl
homes_none (suc n) b e =
    ap (λ (t : Bool). if t then region_homes b ++ homes_from n (drop (size_of b) b) else []) e

homes_next : (n : ℕ) (b : Blocks) → is_committed b ≡ true
    → homes_from (suc n) b ≡ region_homes b ++ homes_from n (drop (size_of b) b)
homes_next n b e =
    ap (λ (t : Bool). if t then region_homes b ++ homes_from n (drop (size_of b) b) else []) e

-- Each region has two blocks at least: so many steps as there are blocks are enough.
enough : (n m : ℕ) (b : Blocks) → length b ≤ n → length b ≤ m → homes_from n b ≡ homes_from m b
enough zero m b le le' = sym (homes_none m b (short_none b (omega (arith, le))))
enough (suc n) zero b le le' = homes_none (suc n) b (short_none b (omega (arith, le')))
enough (suc n) (suc m) b le le' = ⊎_elim
    (λ (is : is_committed b ≡ true).
    let room : size_of b ≤ length b = committed_room b is in
    let rest : length (drop (size_of b) b) ≡ length b - size_of b = length-drop (size_of b) b in
    homes_next n b is
    ∙ ap (λ (l : List ℕ). region_homes b ++ l)
    (enough n m (drop (size_of b) b) (omega (arith, le, room, rest)) (omega (arith, le', room, rest)))
    ∙ sym (homes_next m b is))
    (λ (none : is_committed b ≡ false). homes_none (suc n) b none ∙ sym (homes_none (suc m) b none))
    (cases_Bool (is_committed b))

from_is : (n : ℕ) (b : Blocks) → length b ≤ n → is_committed b ≡ true
    → homes_from n b ≡ region_homes b ++ homes_in (drop (size_of b) b)
unfolding homes_in
from_is zero b le e = absurd (omega (arith, le, committed_room b e))
from_is (suc n) b le e =
    let rest : length (drop (size_of b) b) ≡ length b - size_of b = length-drop (size_of b) b in
    homes_next n b e
    ∙ ap (λ (l : List ℕ). region_homes b ++ l)
    (enough n (length (drop (size_of b) b)) (drop (size_of b) b)
    (omega (arith, le, rest, committed_room b e)) (omega arith))

pub homes_more : (b : Blocks) → is_committed b ≡ true
    → homes_in b ≡ region_homes b ++ homes_in (drop (size_of b) b)
unfolding homes_in
homes_more b e = from_is (length b) b (omega arith) e

pub homes_end : (b : Blocks) → is_committed b ≡ false → homes_in b ≡ []
unfolding homes_in
homes_end b e = homes_none (length b) b e

pub homes_unsaid : (b : Blocks) → says (block_at 0 b) ≡ false → homes_in b ≡ []
homes_unsaid b e = homes_end b (unsaid_none b e)

pub homes_nil : homes_in [] ≡ []
homes_nil = homes_unsaid [] says-nothing

-- the first block of a log is no slot
pub first_none : (b : Blocks) (homes : List ℕ) → homes_in b ≡ homes → 0 < length homes
    → slice_index homes 0 ≡ no_home
unfolding region_homes
first_none b homes is some = ⊎_elim
    (λ (e : is_committed b ≡ true).
    ap (λ (l : List ℕ). slice_index l 0) (sym is ∙ homes_more b e))
    (λ (e : is_committed b ≡ false). absurd (omega (arith, some, ap length (sym is ∙ homes_end b e))))
    (cases_Bool (is_committed b))

-- ---- the blocks that a region depends on

pub index_within : (k n : ℕ) → k < n → k / 1024 < index_blocks n
index_within k n lt = grind (arith)

pub slots_same : (n k m : ℕ) (b c : Blocks) → k + m ≤ n
    → ((j : ℕ) → 0 < j → j < 2 + n + index_blocks n → block_at j c ≡ block_at j b)
    → slot_homes n k m c ≡ slot_homes n k m b
unfolding home_in
slots_same n k zero b c le same = refl
slots_same n k (suc m) b c le same =
    let within : k / 1024 < index_blocks n = index_within k n (omega (arith, le)) in
    ap (λ (x : List ℕ). number_at 4 (4 * (k % 1024)) x ∷ slot_homes n (suc k) m c)
    (same (2 + n + k / 1024) (omega arith) (omega (arith, within)))
    ∙ ap (λ (l : List ℕ). home_in n k b ∷ l) (slots_same n (suc k) m b c (omega (arith, le)) same)

-- The blocks of the first region, its flag aside, are the same.
module _ (b c : Blocks) (same : (j : ℕ) → 0 < j → j < size_of b → block_at j c ≡ block_at j b) where
  pub count_same : count_in c ≡ count_in b
  unfolding count_in
  count_same = ap (number_at 4 8) (same 1 (omega arith) (omega arith))

  pub size_same : size_of c ≡ size_of b
  size_same = ap (λ (n : ℕ). 2 + n + index_blocks n) count_same

  pub region_same : region_homes c ≡ region_homes b
  unfolding region_homes
  region_same =
      ap (λ (n : ℕ). region_of (slot_homes n 0 n c)) count_same
      ∙ ap region_of (slots_same (count_in b) 0 (count_in b) b c (omega arith) same)

-- ---- whole regions, and what stands behind them

block_before : (j : ℕ) (p q : Blocks) → j < length p → block_at j (p ++ q) ≡ block_at j p
block_before j p q lt = get_or_append_left p q [] j lt

whole_from : (n : ℕ) (p q : Blocks) → length p ≤ n → length (homes_from n p) ≡ length p
    → homes_in (p ++ q) ≡ homes_from n p ++ homes_in q
whole_from zero p q le all =
    ap (λ (l : Blocks). homes_in (l ++ q)) (nil_from_length p (omega (arith, le)))
whole_from (suc n) p q le all = ⊎_elim
    (λ (e : is_committed p ≡ true).
    let room : size_of p ≤ length p = committed_room p e in
    let same : (j : ℕ) → 0 < j → j < size_of p → block_at j (p ++ q) ≡ block_at j p =
    λ j gt lt. block_before j p q (omega (arith, lt, room)) in
    let size : size_of (p ++ q) ≡ size_of p = size_same p (p ++ q) same in
    let rest : length (drop (size_of p) p) ≡ length p - size_of p = length-drop (size_of p) p in
    let next = homes_next n p e in
    let left : length (homes_from n (drop (size_of p) p)) ≡ length (drop (size_of p) p) =
    omega (
      arith,
      all,
      ap length next,
      length-append (region_homes p) (homes_from n (drop (size_of p) p)),
      length_homes p,
      rest,
      room,
    ) in
    homes_more (p ++ q) (is_committed_so (p ++ q)
    (ap says (block_before 0 p q (omega (arith, room))) ∙ committed_says p e)
    (omega (arith, size, room, length-append p q)))
    ∙ ap (λ (l : List ℕ). l ++ homes_in (drop (size_of (p ++ q)) (p ++ q))) (region_same p (p ++ q) same)
    ∙ ap (λ (l : Blocks). region_homes p ++ homes_in l)
    (ap (λ (k : ℕ). drop k (p ++ q)) size ∙ drop-append-le (size_of p) p q room)
    ∙ ap (λ (l : List ℕ). region_homes p ++ l)
    (whole_from n (drop (size_of p) p) q (omega (arith, rest, room, le)) left)
    ∙ sym (append_assoc (region_homes p) (homes_from n (drop (size_of p) p)) (homes_in q))
    ∙ ap (λ (l : List ℕ). l ++ homes_in q) (sym next))
    (λ (e : is_committed p ≡ false).
    let none : homes_from (suc n) p ≡ [] = homes_none (suc n) p e in
    ap (λ (l : Blocks). homes_in (l ++ q)) (nil_from_length p (omega (arith, all, ap length none)))
    ∙ ap (λ (l : List ℕ). l ++ homes_in q) (sym none))
    (cases_Bool (is_committed p))

pub homes_whole : (p q : Blocks) (homes : List ℕ) → homes_in p ≡ homes → length homes ≡ length p
    → homes_in (p ++ q) ≡ homes ++ homes_in q
unfolding homes_in
homes_whole p q homes is all =
    whole_from (length p) p q (omega arith) (ap length is ∙ all)
    ∙ ap (λ (l : List ℕ). l ++ homes_in q) is

-- the first region alone
pub homes_alone : (b : Blocks) → is_committed b ≡ true
    → homes_in (take (size_of b) b) ≡ region_homes b
homes_alone b e =
    let room : size_of b ≤ length b = committed_room b e in
    let p : Blocks = take (size_of b) b in
    let same : (j : ℕ) → 0 < j → j < size_of b → block_at j p ≡ block_at j b =
    λ j gt lt. get_or-take (size_of b) b j [] lt in
    let size : size_of p ≡ size_of b = size_same b p same in
    let many : length p ≡ size_of b = length-take-le (size_of b) b room in
    homes_more p (is_committed_so p
    (ap says (get_or-take (size_of b) b 0 [] (omega arith)) ∙ committed_says b e) (omega (arith, size, many)))
    ∙ ap (λ (l : List ℕ). l ++ homes_in (drop (size_of p) p)) (region_same b p same)
    ∙ ap (λ (l : Blocks). region_homes b ++ homes_in l)
    (drop_all (size_of p) p (omega (arith, size, many)))
    ∙ ap (λ (l : List ℕ). region_homes b ++ l) homes_nil
    ∙ append-nil (region_homes b)

-- a log whose first flag says that its region is committed
pub flagged_same : (b : Blocks) → says (block_at 0 b) ≡ true → homes_in (flagged b) ≡ homes_in b
flagged_same [] e = refl
flagged_same (x ∷ b) e =
    let c : Blocks = flagged (x ∷ b) in
    let same : (n j : ℕ) → 0 < j → j < n → block_at j c ≡ block_at j (x ∷ b) =
    λ n j gt lt. get_or-set_other (x ∷ b) 0 j (flag_block 1) [] (λ z. omega (arith, z, gt)) in
    let size : size_of c ≡ size_of (x ∷ b) = size_same (x ∷ b) c (same (size_of (x ∷ b))) in
    ⊎_elim
    (λ (is : is_committed (x ∷ b) ≡ true).
    let room : size_of (x ∷ b) ≤ length (x ∷ b) = committed_room (x ∷ b) is in
    homes_more c (is_committed_so c says-one (omega (arith, size, room)))
    ∙ ap (λ (l : List ℕ). l ++ homes_in (drop (size_of c) c))
    (region_same (x ∷ b) c (same (size_of (x ∷ b))))
    ∙ ap (λ (l : Blocks). region_homes (x ∷ b) ++ homes_in l)
    (ap (λ (k : ℕ). drop k c) size
    ∙ drop-set-lt (size_of (x ∷ b)) (x ∷ b) 0 (flag_block 1) (omega arith))
    ∙ sym (homes_more (x ∷ b) is))
    (λ (none : is_committed (x ∷ b) ≡ false).
    homes_end c (not_true (is_committed c) (λ is. absurd (cc (sym none ∙ is_committed_so (x ∷ b) e
    (omega (arith, size, committed_room c is))))))
    ∙ sym (homes_end (x ∷ b) none))
    (cases_Bool (is_committed (x ∷ b)))

-- the first blocks of two logs that are the same, their first flags aside
pub flagged_aside : (s : ℕ) (b c : Blocks) → s ≤ length b → s ≤ length c
    → ((k : ℕ) → 0 < k → k < s → block_at k c ≡ block_at k b)
    → flagged (take s c) ≡ flagged (take s b)
flagged_aside s b c there there' same =
    let flag : List ℕ = flag_block 1 in
    let size : length (take s b) ≡ s = length-take-le s b there in
    let size' : length (take s c) ≡ s = length-take-le s c there' in
    let long : length (flagged (take s b)) ≡ s = length-set (take s b) 0 flag ∙ size in
    let long' : length (flagged (take s c)) ≡ s = length-set (take s c) 0 flag ∙ size' in
    same_blocks (flagged (take s c)) (flagged (take s b)) (long' ∙ sym long) (λ k lt.
    let less : k < s = omega (arith, lt, long') in
    ⊎_elim
    (λ (first : k ≡ 0).
    ap (λ (n : ℕ). block_at n (flagged (take s c))) first
    ∙ get_or-set_same (take s c) 0 flag [] (omega (arith, less, first, size'))
    ∙ sym (get_or-set_same (take s b) 0 flag [] (omega (arith, less, first, size)))
    ∙ sym (ap (λ (n : ℕ). block_at n (flagged (take s b))) first))
    (λ (apart : ¬ (k ≡ 0)).
    get_or-set_other (take s c) 0 k flag [] apart
    ∙ get_or-take s c k [] less
    ∙ same k (above k apart) less
    ∙ sym (get_or-take s b k [] less)
    ∙ sym (get_or-set_other (take s b) 0 k flag [] apart))
    (cases_eq k 0))
  where
    above : (k : ℕ) → ¬ (k ≡ 0) → 0 < k
    above k apart =
        ⊎_elim (λ (gt : 0 < k). gt) (λ (le : k ≤ 0). absurd (apart (omega (arith, le)))) (cases_lt 0 k)

-- ---- regions that are known, and the rest

-- the first blocks of b are regions of these homes, where the first flag says so
pub homes_first : (homes : List ℕ) (b : Blocks) → homes_in (flagged (take (length homes) b)) ≡ homes
    → (0 < length homes → says (block_at 0 b) ≡ true) → homes_in (take (length homes) b) ≡ homes
homes_first [] b regions said = homes_nil
homes_first (h ∷ hs) b regions said =
    let s : ℕ = length (h ∷ hs) in
    let says_so : says (block_at 0 (take s b)) ≡ true =
    ap says (get_or-take s b 0 [] (omega arith)) ∙ said (omega arith) in
    sym (flagged_same (take s b) says_so) ∙ regions

-- and the rest stands behind them
pub homes_through : (homes : List ℕ) (b : Blocks) → homes_in (flagged (take (length homes) b)) ≡ homes
    → length homes ≤ length b → (0 < length homes → says (block_at 0 b) ≡ true)
    → homes_in b ≡ homes ++ homes_in (drop (length homes) b)
homes_through [] b regions there said = refl
homes_through (h ∷ hs) b regions there said =
    let s : ℕ = length (h ∷ hs) in
    ap homes_in (sym (take-append-drop s b))
    ∙ homes_whole (take s b) (drop s b) (h ∷ hs) (homes_first (h ∷ hs) b regions said)
    (sym (length-take-le s b there))

-- recovery of these blocks alone
pub recovery_first : (homes : List ℕ) (b a : Blocks) → homes_in (take (length homes) b) ≡ homes
    → recovered a (take (length homes) b) ≡ overlaid homes b a
recovery_first homes b a is =
    let s : ℕ = length homes in
    ap (λ (l : List ℕ). overlaid l (take s b) a) is
    ∙ overlay_first homes b (take s b) a (take-take s s b (omega arith))

-- recovery goes through them
pub recovery_through : (homes : List ℕ) (b a : Blocks) → homes_in (flagged (take (length homes) b)) ≡ homes
    → length homes ≤ length b → (0 < length homes → says (block_at 0 b) ≡ true)
    → recovered a b ≡ recovered (overlaid homes b a) (drop (length homes) b)
recovery_through homes b a regions there said =
    ap (λ (l : List ℕ). overlaid l b a) (homes_through homes b regions there said)
    ∙ overlay_append homes (homes_in (drop (length homes) b)) b a

-- nothing is committed
pub recovered_unsaid : (a b : Blocks) → says (block_at 0 b) ≡ false → recovered a b ≡ a
recovered_unsaid a b e = ap (λ (l : List ℕ). overlaid l b a) (homes_unsaid b e)

pub recovered_short : (a b : Blocks) → length b < 2 → recovered a b ≡ a
recovered_short a b few = ap (λ (l : List ℕ). overlaid l b a) (homes_end b (short_none b few))

-- one region more is known
pub region_behind : (homes : List ℕ) (b : Blocks) → homes_in (flagged (take (length homes) b)) ≡ homes
    → length homes ≤ length b → is_committed (drop (length homes) b) ≡ true
    → homes_in (flagged (take (length homes + size_of (drop (length homes) b)) b))
    ≡ homes ++ region_homes (drop (length homes) b)
region_behind [] b regions there e =
    let p : Blocks = take (size_of b) b in
    ap (λ (n : ℕ). homes_in (flagged (take n b))) (zero_more (size_of b))
    ∙ flagged_same p (ap says (get_or-take (size_of b) b 0 [] (omega arith)) ∙ committed_says b e)
    ∙ homes_alone b e
  where
    zero_more : (n : ℕ) → 0 + n ≡ n
    zero_more n = omega arith
region_behind (h ∷ hs) b regions there e =
    let s : ℕ = length (h ∷ hs) in
    let rest : Blocks = drop s b in
    let many : length (take s b) ≡ s = length-take-le s b there in
    ap (λ (l : Blocks). homes_in (flagged l)) (take-add s (size_of rest) b)
    ∙ ap homes_in (set-append_left (take s b) (take (size_of rest) rest) 0 (flag_block 1)
    (omega (arith, many)))
    ∙ homes_whole (flagged (take s b)) (take (size_of rest) rest) (h ∷ hs) regions
    (sym (length-set (take s b) 0 (flag_block 1) ∙ many))
    ∙ ap (λ (l : List ℕ). h ∷ hs ++ l) (homes_alone rest e)
