-- Regions that are whole: those that a log begins with, and those behind them.
use Rattle.std.proofs.Common.{◌≡◌, ◌∙◌, ℕ, suc, ◌+◌, ◌-◌, ◌<◌, ◌≤◌, true, false, List, [], ◌∷◌, ◌++◌, length}
use Rattle.std.proofs.Common.{take, drop, replicate, get_or, sym, ap, subst, arith, ⊎_elim, length-set}
use Rattle.std.specs.List.{All}
use Rattle.std.proofs.lemmas.Bool.{cases_Bool, cases_lt}
use Rattle.std.proofs.lemmas.List.{drop-append-le, drop_all, get_or_append_left, get_or-append-add, get_or-drop}
use Rattle.std.proofs.lemmas.List.{get_or-set_other, get_or-take, length-append, length-drop, length-take-le}
use Rattle.std.proofs.lemmas.List.{set-append_left, take-append-drop, take-append-le}
use Rattle.std.proofs.Math.Seq.{drop-append-add, take-add, take-append-add}
use Rattle.block_device.specs.Device.{Blocks, block_at}
use Rattle.committed_log.specs.FlagLaws.{says-nothing, says-one}
use Rattle.committed_log.specs.Log.{count_in, flag_block, homes_in, index_blocks, is_committed, no_home, overlaid}
use Rattle.committed_log.specs.Log.{region_homes, region_of, says, size_of, slot_homes}
use Rattle.committed_log.specs.Opening.{IsMalformed, IsWhole}
use Rattle.committed_log.specs.Regions.{committed_room, committed_says, count_same, flagged_aside, flagged_same}
use Rattle.committed_log.specs.Regions.{homes_end, homes_first, homes_more, homes_nil, homes_unsaid}
use Rattle.committed_log.specs.Regions.{homes_whole, is_committed_so, length_region, size_same, slots_same}
use Rattle.committed_log.specs.Replay.{length-overlaid, same_blocks}
use Rattle.committed_log.specs.Stops.{AreWholeBelow, IsHome, IsWholeBelow, flagged}

-- ---- one region

-- It depends on its blocks alone, the flag aside.
pub whole_same : (n : ℕ) (b c : Blocks) → ((j : ℕ) → 0 < j → j < size_of b → block_at j c ≡ block_at j b)
    → size_of b ≤ length c → All (λ h. h < n) (slot_homes (count_in b) 0 (count_in b) b) → IsWholeBelow n c
whole_same n b c same room below = record {
  room = omega (arith, room, size_same b c same);
  homes = subst (All (λ h. h < n)) (sym slots) below;
}
  where
    slots : slot_homes (count_in c) 0 (count_in c) c ≡ slot_homes (count_in b) 0 (count_in b) b
    slots =
        ap (λ (k : ℕ). slot_homes k 0 k c) (count_same b c same)
        ∙ slots_same (count_in b) 0 (count_in b) b c (omega arith) same

-- where a region says that it is committed there are blocks
said_there : (s : ℕ) (b : Blocks) → says (block_at 0 (drop s b)) ≡ true → s < length b
said_there s b said = ⊎_elim
    (λ (lt : s < length b). lt)
    (λ (past : length b ≤ s).
    let never : true ≡ false =
    sym said ∙ ap (λ (l : Blocks). says (block_at 0 l)) (drop_all s b past) ∙ says-nothing in
    absurd (cc))
    (cases_lt s (length b))

-- where homes are read a region is committed
read_committed : (b : Blocks) → 0 < length (homes_in b) → is_committed b ≡ true
read_committed b some = ⊎_elim
    (λ (is : is_committed b ≡ true). is)
    (λ (none : is_committed b ≡ false). absurd (omega (arith, some, ap length (homes_end b none))))
    (cases_Bool (is_committed b))

pub whole_none : (n : ℕ) → AreWholeBelow n []
unfolding AreWholeBelow
whole_none n = λ homes is said. absurd (omega (arith, said_there (length homes) [] said))

-- a region alone
pub whole_alone : (n : ℕ) (b : Blocks) → is_committed b ≡ true
    → All (λ h. h < n) (slot_homes (count_in b) 0 (count_in b) b) → AreWholeBelow n (take (size_of b) b)
unfolding AreWholeBelow
whole_alone n b e below = λ hs is said.
    let p : Blocks = take (size_of b) b in
    let same : (j : ℕ) → 0 < j → j < size_of b → block_at j p ≡ block_at j b =
    λ j gt lt. get_or-take (size_of b) b j [] lt in
    let many : length p ≡ size_of b = length-take-le (size_of b) b (committed_room b e) in
    let there : length hs < length p = said_there (length hs) p said in
    ⊎_elim
    (λ (some : 0 < length hs).
    let q : Blocks = take (length hs) p in
    let size : length q ≡ length hs = length-take-le (length hs) p (omega (arith, there)) in
    let room : size_of q ≤ length q =
    committed_room q (read_committed q (omega (arith, some, ap length is))) in
    let first : size_of p ≡ size_of q =
    size_same q p (λ j gt lt. sym (get_or-take (length hs) p j [] (omega (arith, lt, room, size)))) in
    absurd (omega (arith, there, many, first, size_same b p same, room, size)))
    (λ (none : length hs ≤ 0).
    let first : 0 ≡ length hs = omega (arith, none) in
    subst (λ (k : ℕ). IsWholeBelow n (drop k p)) first
    (whole_same n b p same (omega (arith, many)) below))
    (cases_lt 0 (length hs))

-- ---- the first flag aside

pub whole_aside : (n : ℕ) (p c : Blocks) → length c ≡ length p
    → ((k : ℕ) → 0 < k → block_at k c ≡ block_at k p) → says (block_at 0 p) ≡ true → AreWholeBelow n p
    → AreWholeBelow n c
unfolding AreWholeBelow
whole_aside n p c size same said w = λ hs is so. ⊎_elim
    (λ (some : 0 < length hs).
    let s : ℕ = length hs in
    let there : s < length c = said_there s c so in
    let committed : is_committed (take s c) ≡ true =
    read_committed (take s c) (omega (arith, some, ap length is)) in
    let are : homes_in (take s p) ≡ hs =
    sym (flagged_same (take s p) (ap says (get_or-take s p 0 [] some) ∙ said))
    ∙ ap homes_in (flagged_aside s c p (omega (arith, there)) (omega (arith, there, size))
    (λ k gt lt. sym (same k gt)))
    ∙ flagged_same (take s c) (committed_says (take s c) committed) ∙ is in
    let rest : drop s c ≡ drop s p =
    same_blocks (drop s c) (drop s p) (omega (arith, length-drop s c, length-drop s p, size)) (λ k lt.
    get_or-drop s c k [] ∙ same (s + k) (omega (arith, some)) ∙ sym (get_or-drop s p k [])) in
    subst (IsWholeBelow n) (sym rest)
    (w hs are (ap (λ (l : Blocks). says (block_at 0 l)) (sym rest) ∙ so)))
    (λ (none : length hs ≤ 0).
    let first : IsWholeBelow n p = w [] homes_nil said in
    let empty : 0 ≡ length hs = omega (arith, none) in
    subst (λ (k : ℕ). IsWholeBelow n (drop k c)) empty
    (whole_same n p c (λ j gt lt. same j gt) (omega (arith, first.room, size)) first.homes))
    (cases_lt 0 (length hs))

flag_aside : (b : Blocks) (k : ℕ) → 0 < k → block_at k (flagged b) ≡ block_at k b
flag_aside b k gt = get_or-set_other b 0 k (flag_block 1) [] (λ e. omega (arith, e, gt))

pub whole_flagged : (n : ℕ) (p : Blocks) → says (block_at 0 p) ≡ true → AreWholeBelow n p
    → AreWholeBelow n (flagged p)
whole_flagged n p said w =
    whole_aside n p (flagged p) (length-set p 0 (flag_block 1)) (flag_aside p) said w

pub whole_bare : (n : ℕ) (p : Blocks) → AreWholeBelow n (flagged p) → AreWholeBelow n p
whole_bare n [] w = w
whole_bare n (x ∷ p) w =
    whole_aside n (flagged (x ∷ p)) (x ∷ p) (sym (length-set (x ∷ p) 0 (flag_block 1)))
    (λ k gt. sym (flag_aside (x ∷ p) k gt)) says-one w

-- ---- regions that are known, and the rest

module _ (p q : Blocks) (homes : List ℕ) (are : homes_in p ≡ homes) (all : length homes ≡ length p)
    (hs : List ℕ) (is : homes_in (take (length hs) (p ++ q)) ≡ hs) where
  -- a region among them
  within : (n : ℕ) → length hs < length p → AreWholeBelow n p → IsWholeBelow n (drop (length hs) (p ++ q))
  unfolding AreWholeBelow
  within n lt w =
      let s : ℕ = length hs in let r : Blocks = drop s p in
      let first : homes_in (take s p) ≡ hs =
      ap homes_in (sym (take-append-le s p q (omega (arith, lt)))) ∙ is in
      let through : homes_in p ≡ hs ++ homes_in r =
      ap homes_in (sym (take-append-drop s p))
      ∙ homes_whole (take s p) r hs first (sym (length-take-le s p (omega (arith, lt)))) in
      let committed : is_committed r ≡ true =
      read_committed r
      (omega (arith, lt, all, ap length are, ap length through, length-append hs (homes_in r))) in
      let was : IsWholeBelow n r = w hs first (committed_says r committed) in
      subst (IsWholeBelow n) (sym (drop-append-le s p q (omega (arith, lt))))
      (whole_same n r (r ++ q)
      (λ j gt less. get_or_append_left r q [] j (omega (arith, less, was.room)))
      (omega (arith, was.room, length-append r q)) was.homes)

  -- one behind them
  beyond : length p ≤ length hs → (rest : List ℕ) × (homes_in (take (length rest) q) ≡ rest)
      × (drop (length hs) (p ++ q) ≡ drop (length rest) q)
  beyond le =
      let k : ℕ = length hs - length p in
      let split : length hs ≡ length p + k = omega (arith, le) in
      let rest : List ℕ = homes_in (take k q) in
      let parts : hs ≡ homes ++ rest =
      sym is ∙ ap homes_in (ap (λ (n : ℕ). take n (p ++ q)) split ∙ take-append-add p q k)
      ∙ homes_whole p (take k q) homes are all in
      let many : length rest ≡ k =
      omega (arith, ap length parts, length-append homes rest, all, split) in (
        rest,
        ap (λ (n : ℕ). homes_in (take n q)) many,
        ap (λ (n : ℕ). drop n (p ++ q)) split ∙ drop-append-add p q k ∙ ap (λ (n : ℕ). drop n q) (sym many),
      )

says_as : (b c : Blocks) → b ≡ c → says (block_at 0 b) ≡ true → says (block_at 0 c) ≡ true
says_as b c e said = ap (λ (l : Blocks). says (block_at 0 l)) (sym e) ∙ said

pub whole_append : (n : ℕ) (p q : Blocks) (homes : List ℕ) → homes_in p ≡ homes → length homes ≡ length p
    → AreWholeBelow n p → AreWholeBelow n q → AreWholeBelow n (p ++ q)
unfolding AreWholeBelow
whole_append n p q homes are all wp wq = λ hs is said. ⊎_elim
    (λ (lt : length hs < length p). within p q homes are all hs is n lt wp)
    (λ (le : length p ≤ length hs).
    let x = beyond p q homes are all hs is le in
    subst (IsWholeBelow n) (sym x.2) (wq x.0 x.1 (says_as _ _ x.2 said)))
    (cases_lt (length hs) (length p))

-- one region more
pub whole_behind : (n : ℕ) (homes : List ℕ) (b : Blocks)
    → homes_in (flagged (take (length homes) b)) ≡ homes → length homes ≤ length b
    → is_committed (drop (length homes) b) ≡ true
    → All (λ h. h < n) (slot_homes (count_in (drop (length homes) b)) 0 (count_in (drop (length homes) b))
    (drop (length homes) b))
    → AreWholeBelow n (flagged (take (length homes) b))
    → AreWholeBelow n (flagged (take (length homes + size_of (drop (length homes) b)) b))
whole_behind n [] b regions there e below w =
    subst (λ (k : ℕ). AreWholeBelow n (flagged (take k b))) (more_none (size_of b))
    (whole_flagged n (take (size_of b) b) (ap says (get_or-take (size_of b) b 0 [] (omega arith)) ∙ committed_says b e)
    (whole_alone n b e below))
  where
    more_none : (k : ℕ) → k ≡ 0 + k
    more_none k = omega arith
whole_behind n (h ∷ hs) b regions there e below w =
    let s : ℕ = length (h ∷ hs) in
    let rest : Blocks = drop s b in
    let many : length (take s b) ≡ s = length-take-le s b there in
    let parts : flagged (take (s + size_of rest) b) ≡ flagged (take s b) ++ take (size_of rest) rest =
    ap flagged (take-add s (size_of rest) b)
    ∙ set-append_left (take s b) (take (size_of rest) rest) 0 (flag_block 1) (omega (arith, many)) in
    subst (AreWholeBelow n) (sym parts)
    (whole_append n (flagged (take s b)) (take (size_of rest) rest) (h ∷ hs) regions
    (sym (length-set (take s b) 0 (flag_block 1) ∙ many)) w (whole_alone n rest e below))

-- ---- the homes of slots

all_first : (P : ℕ → Type 0) (xs ys : List ℕ) → All P (xs ++ ys) → All P xs
all_first P xs ys all k d lt =
    subst P (get_or_append_left xs ys d k lt) (all k d (omega (arith, lt, length-append xs ys)))

all_then : (P : ℕ → Type 0) (xs ys : List ℕ) → All P (xs ++ ys) → All P ys
all_then P xs ys all k d lt =
    subst P (get_or-append-add xs ys k d) (all (length xs + k) d (omega (arith, lt, length-append xs ys)))

all_slots : (P : ℕ → Type 0) (slots : List ℕ) → All P (region_of slots) → All P slots
all_slots P slots all =
    all_first P slots (replicate (index_blocks (length slots)) no_home)
    (λ k d lt. all (suc (suc k)) d (omega (arith, lt)))

-- regions of the same blocks have the same slots
pub slots_are : (P : ℕ → Type 0) (xs ys : List ℕ) → region_of xs ≡ region_of ys → All P ys → All P xs
slots_are P xs ys e all k d lt =
    let last : List ℕ → List ℕ = λ (l : List ℕ). replicate (index_blocks (length l)) no_home in
    let many : length xs ≡ length ys =
    as_many (length xs) (length ys) (sym (length_region xs) ∙ ap length e ∙ length_region ys) in
    subst P
    (sym (get_or_append_left ys (last ys) d k (omega (arith, lt, many)))
    ∙ sym (ap (λ (l : List ℕ). get_or l (suc (suc k)) d) e)
    ∙ get_or_append_left xs (last xs) d k lt)
    (all k d (omega (arith, lt, many)))
  where
    as_many : (n m : ℕ) → 2 + n + index_blocks n ≡ 2 + m + index_blocks m → n ≡ m
    as_many n m e = omega (arith, e)

pub slots_below : (n : ℕ) (slots : List ℕ) (b : Blocks) → region_homes b ≡ region_of slots
    → All (λ h. h < n) slots → All (λ h. h < n) (slot_homes (count_in b) 0 (count_in b) b)
unfolding region_homes
slots_below n slots b is below = slots_are (λ h. h < n) (slot_homes (count_in b) 0 (count_in b) b) slots is below

-- the homes of a region that is read
homes_among : (P : ℕ → Type 0) (p r : Blocks) (hs : List ℕ) → homes_in p ≡ hs ++ homes_in r
    → is_committed r ≡ true → All P (homes_in p) → All P (slot_homes (count_in r) 0 (count_in r) r)
unfolding region_homes
homes_among P p r hs through e all =
    all_slots P (slot_homes (count_in r) 0 (count_in r) r)
    (all_first P (region_homes r) (homes_in (drop (size_of r) r))
    (subst (All P) (homes_more r e) (all_then P hs (homes_in r) (subst (All P) through all))))

-- A home that is there, or none, is there where it could be that of a block.
is_there : (n h : ℕ) → IsHome n h → h < no_home → h < n
is_there n h home some = ⊎_elim
    (λ (lt : h < n). lt)
    (λ (past : n ≤ h). absurd (omega (arith, some, home (λ lt. omega (arith, lt, past)))))
    (cases_lt h n)

pub whole_bounded : (n : ℕ) (p : Blocks) (homes : List ℕ) → homes_in p ≡ homes → All (IsHome n) homes
    → AreWholeBelow no_home p → AreWholeBelow n p
unfolding AreWholeBelow
whole_bounded n p homes are all w = λ hs is said.
    let s : ℕ = length hs in let r : Blocks = drop s p in
    let was : IsWholeBelow no_home r = w hs is said in
    let there : s < length p = said_there s p said in
    let through : homes_in p ≡ hs ++ homes_in r =
    ap homes_in (sym (take-append-drop s p))
    ∙ homes_whole (take s p) r hs is (sym (length-take-le s p (omega (arith, there)))) in
    let homes_are : All (IsHome n) (slot_homes (count_in r) 0 (count_in r) r) =
    homes_among (IsHome n) p r hs through (is_committed_so r said was.room)
    (subst (All (IsHome n)) (sym are) all) in
    record {
      room = was.room;
      homes = λ k d lt. is_there n _ (homes_are k d lt) (was.homes k d lt);
    }

-- ---- what opening finds malformed

-- not a log whose first flag says nothing
pub unsaid_well : (a b : Blocks) → says (block_at 0 b) ≡ false → ¬ IsMalformed a b
unsaid_well a b unsaid bad = ⊎_elim
    (λ (some : 0 < length bad.homes).
    let none : homes_in (take (length bad.homes) b) ≡ [] =
    homes_unsaid (take (length bad.homes) b)
    (ap says (get_or-take (length bad.homes) b 0 [] some) ∙ unsaid) in
    omega (arith, some, ap length (sym bad.regions ∙ none)))
    (λ (none : length bad.homes ≤ 0).
    let zero_is : 0 ≡ length bad.homes = omega (arith, none) in
    let said : says (block_at 0 b) ≡ true =
    ap (λ (n : ℕ). says (block_at 0 (drop n b))) zero_is ∙ bad.says_so in
    let never : true ≡ false = sym said ∙ unsaid in cc)
    (cases_lt 0 (length bad.homes))

-- what is malformed behind whole regions is so in the rest
pub malformed_rest : (a v p q : Blocks) (homes : List ℕ) → homes_in p ≡ homes → length homes ≡ length p
    → length v ≡ length a → AreWholeBelow (length a) p → IsMalformed a (p ++ q) → IsMalformed v q
malformed_rest a v p q homes are all size w bad = ⊎_elim
    (λ (lt : length bad.homes < length p).
    let is = within p q homes are all bad.homes bad.regions (length a) lt w in
    absurd (bad.not_whole (record { room = is.room; homes = is.homes })))
    (λ (le : length p ≤ length bad.homes).
    let x = beyond p q homes are all bad.homes bad.regions le in
    record {
      homes = x.0;
      regions = x.1;
      says_so = says_as _ _ x.2 bad.says_so;
      not_whole = λ is. bad.not_whole (subst (IsWhole a) (sym x.2) (as_long (drop (length x.0) q) is));
    })
    (cases_lt (length bad.homes) (length p))
  where
    as_long : (b : Blocks) → IsWhole v b → IsWhole a b
    as_long b is = record {
      room = is.room;
      homes = subst (λ (n : ℕ). All (λ h. h < n) (slot_homes (count_in b) 0 (count_in b) b)) size is.homes;
    }

-- and so behind those of a log that stand
pub malformed_left : (homes : List ℕ) (a b : Blocks) → homes_in (flagged (take (length homes) b)) ≡ homes
    → length homes ≤ length b → (0 < length homes → says (block_at 0 b) ≡ true)
    → AreWholeBelow no_home (flagged (take (length homes) b)) → All (IsHome (length a)) homes
    → IsMalformed a b → IsMalformed (overlaid homes b a) (drop (length homes) b)
malformed_left homes a b regions there said whole are bad =
    let s : ℕ = length homes in
    let first : homes_in (take s b) ≡ homes = homes_first homes b regions said in
    malformed_rest a (overlaid homes b a) (take s b) (drop s b) homes first (sym (length-take-le s b there))
    (length-overlaid homes b a)
    (whole_bounded (length a) (take s b) homes first are (whole_bare no_home (take s b) whole))
    (subst (IsMalformed a) (sym (take-append-drop s b)) bad)
