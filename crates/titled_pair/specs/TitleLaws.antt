-- Laws of a title: what is behind it, of blocks that are written or torn.
use Rattle.std.proofs.Common.{◌≡◌, ◌∙◌, ℕ, suc, ◌+◌, ◌-◌, ◌^◌, ◌<◌, ◌≤◌, List, [], ◌∷◌, ◌++◌, length, refl}
use Rattle.std.proofs.Common.{sym, ap, subst, arith, inl, inr, ⊎_elim, true, ◌||◌, ◌==◌, drop, lit<}
use Rattle.std.proofs.Props.{props}
use Rattle.std.proofs.lemmas.Slice.{drop-append-drop}
use Rattle.std.specs.List.{All}
use Rattle.byteorder.specs.Endian.{big_bytes}
use Rattle.byteorder.specs.Numbers.{big_number-reads_back, length-bytes_high_first}
use Rattle.block_bytes.specs.Numbers.{number_at, put_number}
use Rattle.block_device.specs.Device.{Blocks, IsBlock, Torn, block_at, written}
use Rattle.block_device.specs.Written.{torn_length}
use Rattle.device_pair.specs.Pairs.{BaseFollows, JournalFollows, PairElapses, PairsNoMore}
use Rattle.titled_pair.specs.Title.{older_text, reads_title, title_text, untitled, with_text, HasTitle}
use Rattle.titled_pair.specs.Titled.{Untitled, HasRoom, IsOf, StaysTitled}

pub length-untitled : (e : Blocks) → length (untitled e) ≡ length e - 2
length-untitled [] = refl
length-untitled (t ∷ []) = refl
length-untitled (t ∷ u ∷ bs) = omega arith

pub untitled_at : (i : ℕ) (e : Blocks) → i < length (untitled e)
    → block_at (i + 2) e ≡ block_at i (untitled e)
untitled_at i [] lt = absurd (omega arith)
untitled_at i (t ∷ []) lt = absurd (omega arith)
untitled_at i (t ∷ u ∷ bs) lt = ap (λ (k : ℕ). block_at k (t ∷ u ∷ bs)) (two i)
  where
    two : (i : ℕ) → i + 2 ≡ suc (suc i)
    two i = omega arith

pub untitled_written : (i : ℕ) (b : List ℕ) (e : Blocks) → 2 ≤ length e
    → untitled (written (i + 2) b e) ≡ written i b (untitled e)
untitled_written i b [] room = absurd (omega arith)
untitled_written i b (t ∷ []) room = absurd (omega arith)
untitled_written i b (t ∷ u ∷ bs) room = ap (λ (k : ℕ). untitled (written k b (t ∷ u ∷ bs))) (two i)
  where
    two : (i : ℕ) → i + 2 ≡ suc (suc i)
    two i = omega arith

pub untitled_torn : (i : ℕ) (old new : Blocks) → 2 ≤ length old → Torn (i + 2) old new
    → Torn i (untitled old) (untitled new)
untitled_torn i old new room torn = ⊎_elim
    (λ (e : new ≡ old). inl (ap untitled e))
    (λ (w : (b : List ℕ) × IsBlock b × (new ≡ written (i + 2) b old)). inr
    (w.0, w.1, ap untitled w.2 ∙ untitled_written i w.0 old room))
    torn

pub untitled_whole : (e : Blocks) → All IsBlock e → All IsBlock (untitled e)
untitled_whole [] all k d lt = absurd (omega arith)
untitled_whole (t ∷ []) all k d lt = absurd (omega arith)
untitled_whole (t ∷ u ∷ bs) all k d lt = all (suc (suc k)) d (omega (arith, lt))

-- a write of the journal behind its title
pub untitled_follows : (i : ℕ) (old new : Blocks → Blocks → Type 0) → HasRoom old
    → JournalFollows (Torn (i + 2)) old new → JournalFollows (Torn i) (Untitled old) (Untitled new)
untitled_follows i old new room follows a b left =
    let from = follows a left.0 left.1 in (
      untitled from.0,
      (from.0, from.1, refl),
      subst (Torn i (untitled from.0)) (sym left.2)
          (untitled_torn i from.0 left.0 (room a from.0 from.1) from.2),
    )

-- room stays
pub room_torn : (i : ℕ) (old new : Blocks → Blocks → Type 0) → HasRoom old → JournalFollows (Torn i) old new
    → HasRoom new
room_torn i old new room follows a e left =
    let from = follows a e left in
    omega (arith, room a from.0 from.1, (torn_length i from.0 e from.2).0)

-- the title stays where a block behind it is torn
kept_title : (i : ℕ) (b : List ℕ) (e : Blocks) → 2 ≤ length e
    → (block_at 0 (written (i + 2) b e) ≡ block_at 0 e) × (block_at 1 (written (i + 2) b e) ≡ block_at 1 e)
kept_title i b [] room = absurd (omega arith)
kept_title i b (t ∷ []) room = absurd (omega arith)
kept_title i b (t ∷ u ∷ bs) room = (
  ap (λ (k : ℕ). block_at 0 (written k b (t ∷ u ∷ bs))) (two i),
  ap (λ (k : ℕ). block_at 1 (written k b (t ∷ u ∷ bs))) (two i),
)
  where
    two : (i : ℕ) → i + 2 ≡ suc (suc i)
    two i = omega arith

pub title_torn : (i : ℕ) (journal old new : Blocks) → Torn (i + 2) old new → HasTitle journal old
    → HasTitle journal new
title_torn i journal old new torn has = ⊎_elim
    (λ (e : new ≡ old). subst (HasTitle journal) (sym e) has)
    (λ (w : (b : List ℕ) × IsBlock b × (new ≡ written (i + 2) b old)).
    let kept = kept_title i w.0 old has.room in
    subst (HasTitle journal) (sym w.2) (record {
      room = omega
          (arith, has.room, (torn_length (i + 2) old (written (i + 2) w.0 old) (inr (w.0, w.1, refl))).0);
      title = kept.0 ∙ has.title;
      end = kept.1 ∙ has.end;
    }))
    torn

-- it stays by a call after which a stop leaves it
module _ {P : Type 0} (journal : P → Blocks) (moment : P → ℕ) (left_since : P → ℕ → Blocks → Blocks → Type 0)
    (may_leave : P → Blocks → Blocks → Type 0) where
  pub of_after : (p old new : P) → IsOf journal moment left_since p old
      → PairElapses (moment old) (moment new) (left_since old) (left_since new) (may_leave new)
      → ((a e : Blocks) → may_leave new a e → HasTitle (journal p) e) → IsOf journal moment left_since p new
  of_after p old new is time now = record {
    later = omega (arith, is.later, time.later);
    title = λ a e left. ⊎_elim (λ (past : left_since old (moment p) a e). is.title a e past)
        (λ (left_now : may_leave new a e). now a e left_now) (time.nothing_else (moment p) a e is.later left);
  }

  -- and is left now
  pub has_now : (p old : P) (a e : Blocks) → IsOf journal moment left_since p old
      → ((t : ℕ) (b c : Blocks) → t ≤ moment old → may_leave old b c → left_since old t b c)
      → may_leave old a e → HasTitle (journal p) e
  has_now p old a e is counts left = is.title a e (counts (moment p) a e is.later left)

  -- by one after which it leaves no more
  pub of_still : (p old new : P) → IsOf journal moment left_since p old
      → PairElapses (moment old) (moment new) (left_since old) (left_since new) (may_leave new)
      → ((t : ℕ) (b c : Blocks) → t ≤ moment old → may_leave old b c → left_since old t b c)
      → PairsNoMore (may_leave old) (may_leave new) → IsOf journal moment left_since p new
  of_still p old new is time counts no_more =
      of_after p old new is time (λ a e left. has_now p old a e is counts (no_more a e left))

  -- by a write of the base
  pub of_based : (i : ℕ) (p old new : P) → IsOf journal moment left_since p old
      → PairElapses (moment old) (moment new) (left_since old) (left_since new) (may_leave new)
      → ((t : ℕ) (b c : Blocks) → t ≤ moment old → may_leave old b c → left_since old t b c)
      → BaseFollows (Torn i) (may_leave old) (may_leave new) → IsOf journal moment left_since p new
  of_based i p old new is time counts follows =
      of_after p old new is time
      (λ a e left. let from = follows a e left in has_now p old from.0 e is counts from.1)

  -- and by one of the journal behind it
  pub of_journaled : (i : ℕ) (p old new : P) → IsOf journal moment left_since p old
      → PairElapses (moment old) (moment new) (left_since old) (left_since new) (may_leave new)
      → ((t : ℕ) (b c : Blocks) → t ≤ moment old → may_leave old b c → left_since old t b c)
      → JournalFollows (Torn (i + 2)) (may_leave old) (may_leave new) → IsOf journal moment left_since p new
  of_journaled i p old new is time counts follows = of_after p old new is time (λ a e left.
      let from = follows a e left in
      title_torn i (journal p) from.0 e from.2 (has_now p old a from.0 is counts from.1))

-- facts, which a ghost field may hold
title_is_fact : (journal e : Blocks) → IsProp (HasTitle journal e)
title_is_fact journal e = hlevel props

of_is_fact : {P : Type 0} (journal : P → Blocks) (moment : P → ℕ)
    (left_since : P → ℕ → Blocks → Blocks → Type 0) (p now : P)
    → IsProp (IsOf journal moment left_since p now)
of_is_fact journal moment left_since p now = hlevel (props, title_is_fact (journal p))

pub stays_is_fact : {P : Type 0} (journal : P → Blocks) (moment : P → ℕ)
    (left_since : P → ℕ → Blocks → Blocks → Type 0) (first : List (P × ℕ)) (now : P)
    → IsProp (StaysTitled journal moment left_since first now)
stays_is_fact journal moment left_since first now = hlevel (props, of_is_fact journal moment left_since)

pub room_is_fact : (outcomes : Blocks → Blocks → Type 0) → IsProp (HasRoom outcomes)
room_is_fact outcomes = hlevel props

-- how many blocks there are behind it, and that they are blocks
pub few_behind : (base journal : Blocks) → (length base ≤ 2 ^ 31) × (length journal ≤ 2 ^ 31)
    → (length base ≤ 2 ^ 31) × (length (untitled journal) ≤ 2 ^ 31)
few_behind base journal few = (few.0, omega (arith, length-untitled journal, few.1))

pub no_longer_behind : (base journal a e b : Blocks) → b ≡ untitled e
    → (length a ≤ length base + 1) × (length e ≤ length journal + 1)
    → (length a ≤ length base + 1) × (length b ≤ length (untitled journal) + 1)
no_longer_behind base journal a e b is both =
    (both.0, omega (arith, ap length is, length-untitled e, length-untitled journal, both.1))

pub untitled_whole_of : (a e b : Blocks) → b ≡ untitled e → All IsBlock a × All IsBlock e
    → All IsBlock a × All IsBlock b
untitled_whole_of a e b is both = (both.0, subst (All IsBlock) (sym is) (untitled_whole e both.1))

-- a text that is written twice
pub with_text_twice : (text other : ℕ) (h : List ℕ) → with_text text (with_text other h) ≡ with_text text h
unfolding with_text put_number
with_text_twice text other h =
    ap (λ (l : List ℕ). big_bytes 8 text ++ l)
    (drop-append-drop 8 h (big_bytes 8 other) 8 (omega arith) (length-bytes_high_first 8 other))

-- a text is read back
number_at-text : (text : ℕ) (h : List ℕ) → text < 256 ^ 8 → number_at 8 0 (with_text text h) ≡ text
unfolding with_text put_number number_at
number_at-text text h small = big_number-reads_back 8 text (drop 8 h) small

-- a journal with the text of a title
pub reads_retitled : (h : List ℕ) → reads_title (with_text title_text h) ≡ true
reads_retitled h =
    ap (λ (n : ℕ). (n == title_text) || (n == older_text)) (number_at-text title_text h (lit< tt))
