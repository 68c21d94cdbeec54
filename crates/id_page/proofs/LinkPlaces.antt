-- Where the children of a fork lie, and what stays of them.
use Rattle.std.proofs.Common.{◌≡◌, ℕ, ◌+◌, ◌^◌, ◌<◌, ◌≤◌, List, length, sym, ◌∙◌, ap, arith, inl, inr, ⊎_elim}
use Rattle.block_bytes.specs.Laws.{length-put, number_at-fixes, number_at-put, number_at-put_other}
use Rattle.block_bytes.specs.Laws.{number_at-same}
use Rattle.block_bytes.specs.Numbers.{AreBytes, IsApart, number_at, put_number}
use Rattle.std.proofs.lemmas.Bool.{cases_lt}
use Rattle.box_bytes.specs.Corners.{Keeps}
use Rattle.bucket_page.specs.Layout.{IsClearOfEntry, entry_place}
use Rattle.bucket_page.proofs.Places.{entry_place-above, entry_place-is}
use Rattle.id_page.specs.Fork.{Link, link_at}
use Rattle.id_page.proofs.Rows.{Edits, other_byte}

-- all places are within the page
pub link_within : (place : ℕ) → place < 340 → entry_place 12 place + 12 ≤ 4096
link_within place lt = omega (arith, lt, entry_place-is 12 place)

-- a child is read from its own bytes alone, and fixes them
pub link_same : (place : ℕ) (a b : List ℕ)
    → ((k : ℕ) → entry_place 12 place ≤ k → k < entry_place 12 place + 12 → number_at 1 k a ≡ number_at 1 k b)
    → link_at a place ≡ link_at b place
unfolding link_at
link_same place a b same =
    let at = entry_place 12 place in
    let key : number_at 8 at a ≡ number_at 8 at b =
    number_at-same 8 at a b (λ k le lt. same k le (omega (arith, lt))) in
    let page : number_at 4 (at + 8) a ≡ number_at 4 (at + 8) b =
    number_at-same 4 (at + 8) a b (λ k le lt. same k (omega (arith, le)) (omega (arith, lt))) in
    cc

pub link_fixes : (place : ℕ) (a b : List ℕ) → AreBytes a → AreBytes b → link_at a place ≡ link_at b place
    → (k : ℕ) → entry_place 12 place ≤ k → k < entry_place 12 place + 12 → number_at 1 k a ≡ number_at 1 k b
unfolding link_at
link_fixes place a b ba bb e k le lt =
    let at = entry_place 12 place in
    let key : number_at 8 at a ≡ number_at 8 at b = ap (λ (x : Link). x.0) e in
    let page : number_at 4 (at + 8) a ≡ number_at 4 (at + 8) b = ap (λ (x : Link). x.1) e in
    ⊎_elim (λ (h : k < at + 8). number_at-fixes 8 at a b ba bb key k le h)
    (λ (h : at + 8 ≤ k). number_at-fixes 4 (at + 8) a b ba bb page k h (omega (arith, lt)))
    (cases_lt k (at + 8))

-- a child stays where another one is written
pub link_kept : (place count k : ℕ) (old new : List ℕ) → Edits 12 place count old new → ¬ (k ≡ place)
    → link_at new k ≡ link_at old k
link_kept place count k old new edits other =
    link_same k new old (λ j le lt. other_byte 12 place count k j old new edits other le lt)

-- and where the count is written after it
pub link_stands : (place count : ℕ) (mid : List ℕ) → length mid ≡ 4096
    → link_at (put_number 2 2 count mid) place ≡ link_at mid place
link_stands place count mid long =
    link_same place (put_number 2 2 count mid) mid
    (λ j le lt. number_at-put_other 1 j 2 2 count mid (omega (arith, long))
    (inr (omega (arith, entry_place-above 12 place, le))))

-- ---- a child written as its key, then its page

pub link_written : (place at key page : ℕ) (old : List ℕ) → at ≡ entry_place 12 place → length old ≡ 4096
    → place < 340 → key < 256 ^ 8 → page < 256 ^ 4
    → link_at (put_number 4 (at + 8) page (put_number 8 at key old)) place ≡ (key, page)
unfolding link_at
link_written place at key page old is size lt small few =
    let within = link_within place lt in
    let mid = put_number 8 at key old in
    let long : length mid ≡ 4096 = length-put 8 at key old (omega (arith, size, within, is)) ∙ size in
    let new = put_number 4 (at + 8) page mid in
    let first : number_at 8 at new ≡ key =
    number_at-put_other 8 at 4 (at + 8) page mid (omega (arith, long, within, is)) (inl (omega arith))
    ∙ number_at-put 8 at key old (omega (arith, size, within, is)) small in
    let second : number_at 4 (at + 8) new ≡ page =
    number_at-put 4 (at + 8) page mid (omega (arith, long, within, is)) few in
    let key_is : number_at 8 (entry_place 12 place) new ≡ key = ap (λ (p : ℕ). number_at 8 p new) (sym is)
    ∙ first in
    let page_is : number_at 4 (entry_place 12 place + 8) new ≡ page =
    ap (λ (p : ℕ). number_at 4 (p + 8) new) (sym is) ∙ second in
    cc

pub link_keeps : (place at key page : ℕ) (old : List ℕ) → at ≡ entry_place 12 place → length old ≡ 4096
    → place < 340
    → Keeps (IsClearOfEntry 12 place) old (put_number 4 (at + 8) page (put_number 8 at key old))
link_keeps place at key page old is size lt = λ n from clear.
    let within = link_within place lt in
    let mid = put_number 8 at key old in
    let long : length mid ≡ 4096 = length-put 8 at key old (omega (arith, size, within, is)) ∙ size in
    let one : IsApart n from 4 (at + 8) =
    ⊎_elim (λ (h : from + n ≤ entry_place 12 place). inl (omega (arith, h, is)))
    (λ (h : entry_place 12 place + 12 ≤ from). inr (omega (arith, h, is))) clear in
    let two : IsApart n from 8 at =
    ⊎_elim (λ (h : from + n ≤ entry_place 12 place). inl (omega (arith, h, is)))
    (λ (h : entry_place 12 place + 12 ≤ from). inr (omega (arith, h, is))) clear in
    number_at-put_other n from 4 (at + 8) page mid (omega (arith, long, within, is)) one
    ∙ number_at-put_other n from 8 at key old (omega (arith, size, within, is)) two

-- what stands in a place
pub key_is : (place at : ℕ) (page : List ℕ) (key : ℕ) → at ≡ entry_place 12 place → key ≡ number_at 8 at page
    → key ≡ (link_at page place).0
unfolding link_at
key_is place at page key is e = e ∙ ap (λ (p : ℕ). number_at 8 p page) is

pub page_is : (place at : ℕ) (page : List ℕ) (child : ℕ) → at ≡ entry_place 12 place
    → child ≡ number_at 4 (at + 8) page → child ≡ (link_at page place).1
unfolding link_at
page_is place at page child is e = e ∙ ap (λ (p : ℕ). number_at 4 (p + 8) page) is

-- a child cleared
pub link_cleared : (place at : ℕ) (old mid : List ℕ) → at ≡ entry_place 12 place
    → Keeps (λ n from. IsApart n from 12 at) old mid → Keeps (IsClearOfEntry 12 place) old mid
link_cleared place at old mid at_is keeps = λ n from clear. keeps n from (⊎_elim
    (λ (h : from + n ≤ entry_place 12 place). inl (omega (arith, h, at_is)))
    (λ (h : entry_place 12 place + 12 ≤ from). inr (omega (arith, h, at_is)))
    clear)

pub cleared_links : (place at count : ℕ) (mid : List ℕ) → length mid ≡ 4096 → at ≡ entry_place 12 place
    → ((k : ℕ) → at ≤ k → k < at + 12 → number_at 1 k mid ≡ 0)
    → (k : ℕ) → entry_place 12 place ≤ k → k < entry_place 12 place + 12
    → number_at 1 k (put_number 2 2 count mid) ≡ 0
cleared_links place at count mid long at_is cleared k le lt =
    let above = entry_place-above 12 place in
    number_at-put_other 1 k 2 2 count mid (omega (arith, long)) (inr (omega (arith, le, above)))
    ∙ cleared k (omega (arith, le, at_is)) (omega (arith, lt, at_is))
