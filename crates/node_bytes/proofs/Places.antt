-- Where entries lie: each in a place of its own in each column, all of them within the page.
use Rattle.std.proofs.Common.{◌≡◌, ◌⊎◌, ℕ, ◌+◌, ◌*◌, ◌^◌, ◌<◌, ◌≤◌, ◌↔◌, ◌&&◌, Bool, true, false, cond, eqb}
use Rattle.std.proofs.Common.{ℤ, List, length, refl, sym, ◌∙◌, ap, arith, inl, inr, ⊎_elim}
use Rattle.std.proofs.lemmas.Bool.Decides.{nat_tests}
use Rattle.block_bytes.specs.Kinds.{node_kind, untagged_node_kind}
use Rattle.block_bytes.specs.Numbers.{number_at, IsApart, put_number}
use Rattle.block_bytes.specs.Laws.{number_at-put, number_at-put_other, number_at-same}
use Rattle.box_math.specs.Bounds.{Bounds, IsOrdered}
use Rattle.box_bytes.specs.Corners.{corner_at, box_at, IsClearOfBox, AreApart, Keeps}
use Rattle.box_bytes.specs.Laws.{corner_at-same, corner_at-stays}
use Rattle.tree_node.specs.Nodes.{Item}
use Rattle.node_bytes.specs.Layout.{low_place, high_place, reference_place, tag_place, has_tags, tag_at}
use Rattle.node_bytes.specs.Layout.{item_at, IsReference, IsEntry, IsClearOfEntry, IsOfEntry}

pub le_or_lt : (a b : ℕ) → (a ≤ b) ⊎ (b < a)
le_or_lt a b = grind arith

-- bytes are apart if they are after others whenever they are not before them
pub apart : (n at m to : ℕ) → (to < at + n → to + m ≤ at) → IsApart n at m to
apart n at m to h =
    ⊎_elim (λ (le : at + n ≤ to). inl le) (λ (lt : to < at + n). inr (h lt)) (le_or_lt (at + n) to)

-- the lows and the highs of an entry share no byte
pub columns_apart : (dims place : ℕ) → place < 100 → AreApart dims (low_place place) (high_place place) 800
columns_apart dims place within =
    λ axis lt other below. apart 4 (low_place place + 800 * axis) 4 (high_place place + 800 * other)
    (λ l. omega arith)

-- ---- an entry is clear of those in other places

module _ (dims : ℕ) (tagged : Bool) (place k axis : ℕ) (differs : ¬ (k ≡ place)) (there : k < 100)
    (within : place < 100) (lt : axis < dims) where
  low_clear : IsClearOfEntry dims tagged place 4 (low_place k + 800 * axis)
  low_clear = record {
    bounds = record {
      lows = λ a h. apart 4 (low_place k + 800 * axis) 4 (low_place place + 800 * a) (λ l. omega arith);
      highs = λ a h. apart 4 (low_place k + 800 * axis) 4 (high_place place + 800 * a) (λ l. omega arith);
    };
    reference = inl (omega arith);
    tag = λ has. inl (omega arith);
  }

  high_clear : IsClearOfEntry dims tagged place 4 (high_place k + 800 * axis)
  high_clear = record {
    bounds = record {
      lows = λ a h. apart 4 (high_place k + 800 * axis) 4 (low_place place + 800 * a) (λ l. omega arith);
      highs = λ a h. apart 4 (high_place k + 800 * axis) 4 (high_place place + 800 * a) (λ l. omega arith);
    };
    reference = inl (omega arith);
    tag = λ has. inl (omega arith);
  }

-- the references and the tags lie behind all boxes
reference_behind : (dims place k : ℕ) → k < 100 → place < 100
    → IsClearOfBox dims (low_place place) (high_place place) 800 8 (reference_place dims k)
reference_behind dims place k there within =
    record { lows = λ a h. inr (omega arith); highs = λ a h. inr (omega arith) }

tag_behind : (dims place k : ℕ) → k < 100 → place < 100
    → IsClearOfBox dims (low_place place) (high_place place) 800 4 (tag_place dims k)
tag_behind dims place k there within =
    record { lows = λ a h. inr (omega arith); highs = λ a h. inr (omega arith) }

reference_clear : (dims : ℕ) (tagged : Bool) (place k : ℕ) → ¬ (k ≡ place) → k < 100 → place < 100
    → IsClearOfEntry dims tagged place 8 (reference_place dims k)
reference_clear dims tagged place k differs there within = record {
  bounds = reference_behind dims place k there within;
  reference = apart 8 (reference_place dims k) 8 (reference_place dims place) (λ l. omega arith);
  tag = λ has. inl (omega arith);
}

tag_clear : (dims : ℕ) (tagged : Bool) (place k : ℕ) → ¬ (k ≡ place) → k < 100 → place < 100
    → IsClearOfEntry dims tagged place 4 (tag_place dims k)
tag_clear dims tagged place k differs there within = record {
  bounds = tag_behind dims place k there within;
  reference = inr (omega arith);
  tag = λ has. apart 4 (tag_place dims k) 4 (tag_place dims place) (λ l. omega arith);
}

-- the head is clear of each entry
pub head_clear : (dims : ℕ) (tagged : Bool) (place n at : ℕ) → at + n ≤ 5
    → IsClearOfEntry dims tagged place n at
head_clear dims tagged place n at h = record {
  bounds = record { lows = λ a l. inl (omega arith); highs = λ a l. inl (omega arith) };
  reference = inl (omega arith);
  tag = λ has. inl (omega arith);
}

-- ---- tags

-- whether there are tags is read from the kind and the level alone
pub tags_same : (a b : List ℕ) → number_at 1 0 a ≡ number_at 1 0 b → number_at 1 4 a ≡ number_at 1 4 b
    → has_tags a ≡ has_tags b
unfolding has_tags
tags_same a b kind level = rw (kind, level) refl

pub tags_stay : (dims : ℕ) (tagged : Bool) (place : ℕ) (old new : List ℕ)
    → Keeps (IsClearOfEntry dims tagged place) old new → has_tags new ≡ has_tags old
tags_stay dims tagged place old new keeps =
    tags_same new old (keeps 1 0 (head_clear dims tagged place 1 0 (omega arith)))
    (keeps 1 4 (head_clear dims tagged place 1 4 (omega arith)))

-- a page with tags has each in its place, and in one without each is 0
pub tag_there : (dims place : ℕ) (page : List ℕ) → has_tags page ≡ true
    → tag_at dims page place ≡ number_at 4 (tag_place dims place) page
unfolding tag_at
tag_there dims place page has = rw has refl

pub tag_none : (dims place : ℕ) (page : List ℕ) → has_tags page ≡ false → tag_at dims page place ≡ 0
unfolding tag_at
tag_none dims place page none = rw none refl

tag_case : (t u : Bool) (x y : ℕ) → t ≡ u → (t ≡ true → x ≡ y) → cond t x 0 ≡ cond u y 0
tag_case true true x y e f = f refl
tag_case false false x y e f = refl
tag_case true false x y e f = absurd (cc)
tag_case false true x y e f = absurd (cc)

tag_same : (dims place : ℕ) (a b : List ℕ) → has_tags a ≡ has_tags b
    → (has_tags a ≡ true → number_at 4 (tag_place dims place) a ≡ number_at 4 (tag_place dims place) b)
    → tag_at dims a place ≡ tag_at dims b place
unfolding tag_at
tag_same dims place a b tags same =
    tag_case (has_tags a) (has_tags b) (number_at 4 (tag_place dims place) a)
    (number_at 4 (tag_place dims place) b) tags same

-- above the leaves there are none
pub none_above : (page : List ℕ) → 0 < number_at 1 4 page → has_tags page ≡ false
unfolding has_tags
none_above page above = let level : eqb (number_at 1 4 page) 0 ≡ false = grind (arith, nat_tests) in
    rw level (none_of (eqb (number_at 1 0 page) 6))
  where
    none_of : (b : Bool) → b && false ≡ false
    none_of true = refl
    none_of false = refl

-- on a page of the kind that has tags they are those of the leaves
pub tags_of_kind : (page : List ℕ) (level : ℕ) → number_at 1 0 page ≡ node_kind → number_at 1 4 page ≡ level
    → has_tags page ≡ eqb level 0
unfolding has_tags
tags_of_kind page level kind at = rw (kind, at) refl

pub has_none : (page : List ℕ) → number_at 1 0 page ≡ untagged_node_kind → has_tags page ≡ false
unfolding has_tags
has_none page kind = rw kind refl

-- ---- entries

pub same_item : (low low' high high' : List ℤ) (r r' t t' : ℕ) → low ≡ low' → high ≡ high' → r ≡ r' → t ≡ t'
    → ◌≡◌ {A = Item} (record { bounds = record { low = low; high = high }; reference = r; tag = t })
    (record { bounds = record { low = low'; high = high' }; reference = r'; tag = t' })
same_item low low' high high' r r' t t' e f h i = cc

-- an entry is that of its numbers
pub item_is : (dims place : ℕ) (page : List ℕ) (b : Bounds) (r t : ℕ)
    → b ≡ box_at dims page (low_place place) (high_place place) 800
    → r ≡ number_at 8 (reference_place dims place) page → t ≡ tag_at dims page place
    → ◌≡◌ {A = Item} (record { bounds = b; reference = r; tag = t }) (item_at dims page place)
unfolding item_at
item_is dims place page b r t e f h = cc

-- an entry is read from its own bytes alone
pub item_same : (dims place : ℕ) (a b : List ℕ) → has_tags a ≡ has_tags b
    → ((k : ℕ) → IsOfEntry dims (has_tags a) place k → number_at 1 k a ≡ number_at 1 k b)
    → item_at dims a place ≡ item_at dims b place
unfolding item_at
item_same dims place a b tags same =
    same_item (corner_at dims a (low_place place) 800) (corner_at dims b (low_place place) 800)
    (corner_at dims a (high_place place) 800) (corner_at dims b (high_place place) 800)
    (number_at 8 (reference_place dims place) a) (number_at 8 (reference_place dims place) b)
    (tag_at dims a place) (tag_at dims b place)
    (corner_at-same dims a b (low_place place) 800 (λ k of. same k (inl of)))
    (corner_at-same dims a b (high_place place) 800 (λ k of. same k (inr (inl of))))
    (number_at-same 8 (reference_place dims place) a b (λ k le lt. same k (inr (inr (inl (le, lt))))))
    (tag_same dims place a b tags
    (λ has. number_at-same 4 (tag_place dims place) a b
    (λ k le lt. same k (inr (inr (inr (has, le, lt)))))))

-- an entry stays where another one is written
pub item_beside : (dims : ℕ) (tagged : Bool) (place k : ℕ) (old new : List ℕ) → ¬ (k ≡ place) → k < 100
    → place < 100 → Keeps (IsClearOfEntry dims tagged place) old new
    → item_at dims new k ≡ item_at dims old k
unfolding item_at
item_beside dims tagged place k old new differs there within keeps =
    same_item (corner_at dims new (low_place k) 800) (corner_at dims old (low_place k) 800)
    (corner_at dims new (high_place k) 800) (corner_at dims old (high_place k) 800)
    (number_at 8 (reference_place dims k) new) (number_at 8 (reference_place dims k) old) (tag_at dims new k)
    (tag_at dims old k)
    (corner_at-stays (IsClearOfEntry dims tagged place) old new dims (low_place k) 800 keeps
    (λ axis lt. low_clear dims tagged place k axis differs there within lt))
    (corner_at-stays (IsClearOfEntry dims tagged place) old new dims (high_place k) 800 keeps
    (λ axis lt. high_clear dims tagged place k axis differs there within lt))
    (keeps 8 (reference_place dims k) (reference_clear dims tagged place k differs there within))
    (tag_same dims k new old (tags_stay dims tagged place old new keeps)
    (λ has. keeps 4 (tag_place dims k) (tag_clear dims tagged place k differs there within)))

-- as one before it does
pub item_stays : (dims : ℕ) (tagged : Bool) (place k : ℕ) (old new : List ℕ) → k < place → place < 100
    → Keeps (IsClearOfEntry dims tagged place) old new → item_at dims new k ≡ item_at dims old k
item_stays dims tagged place k old new before within keeps =
    item_beside dims tagged place k old new (λ same. omega (arith, same, before)) (omega (arith, before, within))
    within keeps

-- ---- an entry whose box is written

-- what is clear of the entry is clear of its box
pub keeps_boxed : (dims : ℕ) (tagged : Bool) (place : ℕ) (old new : List ℕ)
    → Keeps (IsClearOfBox dims (low_place place) (high_place place) 800) old new
    → Keeps (IsClearOfEntry dims tagged place) old new
keeps_boxed dims tagged place old new keeps n at clear = keeps n at clear.bounds

-- it has that box, and its reference and its tag stay
pub item_boxed : (dims place : ℕ) (old new : List ℕ) (b : Bounds) → place < 100
    → Keeps (IsClearOfBox dims (low_place place) (high_place place) 800) old new
    → box_at dims new (low_place place) (high_place place) 800 ≡ b
    → ◌≡◌ {A = Item} (item_at dims new place)
    (record {
      bounds = b;
      reference = (item_at dims old place).reference;
      tag = (item_at dims old place).tag;
    })
unfolding item_at
item_boxed dims place old new b within keeps is =
    sym (item_is dims place new b (number_at 8 (reference_place dims place) old) (tag_at dims old place)
    (sym is)
    (sym (keeps 8 (reference_place dims place) (reference_behind dims place place within within)))
    (sym (tag_same dims place new old
    (tags_stay dims false place old new (keeps_boxed dims false place old new keeps))
    (λ has. keeps 4 (tag_place dims place) (tag_behind dims place place within within)))))

-- ---- what is read as an entry of a level

-- the lows and highs at a place are those of the entry there, and its reference is that of the entry
pub entry_of_numbers : (dims place level r : ℕ) (page : List ℕ)
    → r ≡ number_at 8 (reference_place dims place) page
    → (IsOrdered dims (corner_at dims page (low_place place) 800)
    (corner_at dims page (high_place place) 800) × IsReference level r)
    ↔ IsEntry dims level (item_at dims page place)
unfolding item_at
entry_of_numbers dims place level r page is =
    rw is (λ h. record { ordered = h.0; refers = h.1 }, λ h. (h.ordered, h.refers))

-- ---- an entry written as its box, then its reference, and then its tag where the page has tags

-- a box stays where a number behind all boxes is written
box_stays : (dims place n to x : ℕ) (mid new : List ℕ) → place < 100 → length mid ≡ 4096 → to + n ≤ 4096
    → reference_place dims 0 ≤ to → new ≡ put_number n to x mid
    → box_at dims new (low_place place) (high_place place) 800 ≡ box_at dims mid (low_place place)
    (high_place place) 800
box_stays dims place n to x mid new within size inside behind put =
    let stays : (at : ℕ) → ((axis : ℕ) → axis < dims → at + 800 * axis + 4 ≤ to)
    → corner_at dims new at 800 ≡ corner_at dims mid at 800 =
    λ at before. corner_at-stays (λ m from. IsApart m from n to) mid new dims at 800
    (λ m from clear. ap (number_at m from) put
    ∙ number_at-put_other m from n to x mid (omega (arith, size, inside)) clear)
    (λ axis lt. inl (before axis lt)) in
    same_bounds (stays (low_place place) (λ axis lt. omega arith))
    (stays (high_place place) (λ axis lt. omega arith))
  where
    same_bounds : {l l' h h' : List ℤ} → l ≡ l' → h ≡ h'
        → ◌≡◌ {A = Bounds} (record { low = l; high = h }) (record { low = l'; high = h' })
    same_bounds e f = cc

module _ (dims : ℕ) (tagged : Bool) (place r : ℕ) (old mid next : List ℕ) (b : Bounds) (few : dims ≤ 3)
    (within : place < 100) (size : length mid ≡ 4096)
    (put : next ≡ put_number 8 (reference_place dims place) r mid)
    (keeps : Keeps (IsClearOfBox dims (low_place place) (high_place place) 800) old mid) where
  pub entry_keeps : Keeps (IsClearOfEntry dims tagged place) old next
  entry_keeps n at clear = ap (number_at n at) put
      ∙ number_at-put_other n at 8 (reference_place dims place) r mid (omega arith) clear.reference
      ∙ keeps n at clear.bounds

  module _ (small : r < 256 ^ 8) (is : box_at dims mid (low_place place) (high_place place) 800 ≡ b) where
    box_there : box_at dims next (low_place place) (high_place place) 800 ≡ b
    box_there =
        box_stays dims place 8 (reference_place dims place) r mid next within size (omega arith)
        (omega arith) put ∙ is

    reference_there : number_at 8 (reference_place dims place) next ≡ r
    reference_there = ap (number_at 8 (reference_place dims place)) put
        ∙ number_at-put 8 (reference_place dims place) r mid (omega arith) small

    pub item_without_tag : tagged ≡ has_tags old → tagged ≡ false
        → ◌≡◌ {A = Item} (item_at dims next place) (record { bounds = b; reference = r; tag = 0 })
    item_without_tag tags none =
        sym (item_is dims place next b r 0 (sym box_there) (sym reference_there)
        (sym (tag_none dims place next
        (tags_stay dims tagged place old next entry_keeps ∙ sym tags ∙ none))))

    module _ (t : ℕ) (new : List ℕ) (long : length next ≡ 4096)
        (put_tag : new ≡ put_number 4 (tag_place dims place) t next) (has : tagged ≡ true) where
      pub tagged_keeps : Keeps (IsClearOfEntry dims tagged place) old new
      tagged_keeps n at clear = ap (number_at n at) put_tag
          ∙ number_at-put_other n at 4 (tag_place dims place) t next (omega arith) (clear.tag has)
          ∙ entry_keeps n at clear

      pub item_with_tag : tagged ≡ has_tags old → t < 256 ^ 4
          → ◌≡◌ {A = Item} (item_at dims new place) (record { bounds = b; reference = r; tag = t })
      item_with_tag tags small_tag =
          let box : box_at dims new (low_place place) (high_place place) 800 ≡ b =
          box_stays dims place 4 (tag_place dims place) t next new within long (omega arith)
          (omega arith) put_tag ∙ box_there in
          let reference : number_at 8 (reference_place dims place) new ≡ r =
          ap (number_at 8 (reference_place dims place)) put_tag
          ∙ number_at-put_other 8 (reference_place dims place) 4 (tag_place dims place) t next
          (omega arith) (inl (omega arith)) ∙ reference_there in
          let tag : tag_at dims new place ≡ t =
          tag_there dims place new (tags_stay dims tagged place old new tagged_keeps ∙ sym tags ∙ has)
          ∙ ap (number_at 4 (tag_place dims place)) put_tag
          ∙ number_at-put 4 (tag_place dims place) t next (omega arith) small_tag in
          sym (item_is dims place new b r t (sym box) (sym reference) (sym tag))
