-- The least of keys, found one after the other.
use Rattle.std.proofs.Common.{◌≡◌, ℕ, ◌+◌, ◌<◌, ◌≤◌, List, [], ◌∷◌, length, arith, below_more, subst, sym}
use Rattle.std.proofs.Common.{refl, ap, ◌∙◌, eqb, true, false}
use Rattle.std.specs.Prelude.{if◌then◌else◌}
use Rattle.std.proofs.lemmas.Bool.Decides.{nat_tests}
use Rattle.box_math.specs.Bounds.{Bounds}
use Rattle.box_math.specs.Measures.{volume_of}
use Rattle.tree_node.specs.Nodes.{Item}
use Rattle.tree_node.specs.Boxes.{box_at}
use Rattle.choose_subtree.specs.declared.key.Key.{Key}
use Rattle.choose_subtree.specs.Choice.{overlap_growth, growth_of, numbers_of, numbers_with, overlap_key}
use Rattle.choose_subtree.specs.Choice.{area_key, child_key}
use Rattle.tree_node.specs.Keys.{AtMost, IsFirstLeast}
use Rattle.tree_node.proofs.KeyLemmas.{AtMost-itself, AtMost-trans, AtMost-other}

-- the least of keys that end in the position is the first of the least keys
pub first_least-of_placed : (o e v : ℕ → ℕ) (n b : ℕ) → b < n
    → ((j : ℕ) → j < n → AtMost (o b ∷ e b ∷ v b ∷ b ∷ []) (o j ∷ e j ∷ v j ∷ j ∷ []))
    → IsFirstLeast n (λ k. o k ∷ e k ∷ v k ∷ []) b
first_least-of_placed o e v n b h all = record {
  within = h;
  least = λ j l. let p = all j l in (p.0, λ x. let q = p.1 x in (q.0, λ y. let r = q.1 y in (r.0, λ _. tt)));
  first = λ j l s.
      let p = all j (omega arith) in
      let a : o b ≡ o j = cc in
      let d : e b ≡ e j = cc in
      let f : v b ≡ v j = cc in
      let q = ((p.1 a).1 d).1 f in
      omega (arith, q.0);
}

-- the same of two numbers
pub first_least-of_placed_area : (e v : ℕ → ℕ) (n b : ℕ) → b < n
    → ((j : ℕ) → j < n → AtMost (0 ∷ e b ∷ v b ∷ b ∷ []) (0 ∷ e j ∷ v j ∷ j ∷ []))
    → IsFirstLeast n (λ k. e k ∷ v k ∷ []) b
first_least-of_placed_area e v n b h all = record {
  within = h;
  least = λ j l. let q = (all j l).1 refl in (q.0, λ y. let r = q.1 y in (r.0, λ _. tt));
  first = λ j l s.
      let p = all j (omega arith) in
      let d : e b ≡ e j = cc in
      let f : v b ≡ v j = cc in
      let q = ((p.1 refl).1 d).1 f in
      omega (arith, q.0);
}

-- where the first number of the least by the others is 0, it is the least by all
pub first_least-of_zero : (o : ℕ → ℕ) (key : ℕ → List ℕ) (n b : ℕ) → IsFirstLeast n key b → o b ≡ 0
    → IsFirstLeast n (λ k. o k ∷ key k) b
first_least-of_zero o key n b h z = record {
  within = h.within;
  least = λ j l. (omega (arith, z), λ _. h.least j l);
  first = λ j l s. h.first j l (cc);
}

-- what grows less is at most
pub grows_less : (o g a p dims : ℕ) (items : List Item) (new : Bounds) (k position : ℕ)
    → (o ∷ g ∷ a ∷ p ∷ []) ≡ numbers_with 0 dims items new position → g < growth_of dims (box_at items k) new
    → AtMost (o ∷ g ∷ a ∷ p ∷ []) (numbers_with 0 dims items new k)
grows_less o g a p dims items new k position is less = let none : o ≡ 0 = cc in
    (omega (arith, none), λ _. (omega (arith, less), λ same. absurd (omega (arith, less, same))))

-- of the first n positions the best so far is one below `count`, with its key, and none of them is less
pub record IsBest (key : ℕ → List ℕ) (count n : ℕ) (best : List ℕ) (position : ℕ) : Type 0 where
  pub within : position < count
  pub is : best ≡ key position
  pub least : (j : ℕ) → j < n → AtMost best (key j)

pub best_of_none : (key : ℕ → List ℕ) (count : ℕ) (best : List ℕ) (position : ℕ) → position < count
    → best ≡ key position → IsBest key count 0 best position
best_of_none key count best position h e = record { within = h; is = e; least = λ j l. absurd (omega arith) }

pub best_of_one : (key : ℕ → List ℕ) (count : ℕ) (best : List ℕ) (position : ℕ) → 0 < count → position ≡ 0
    → best ≡ key 0 → IsBest key count 1 best position
best_of_one key count best position h p e = record {
  within = omega arith;
  is = subst (λ k. best ≡ key k) (sym p) e;
  least = λ j l. let z : j ≡ 0 = omega arith in
      subst (λ k. AtMost best (key k)) (sym z) (subst (AtMost best) e (AtMost-itself best));
}

-- one more key, which is no less
pub best_keeps : (key : ℕ → List ℕ) (count n : ℕ) (best : List ℕ) (position : ℕ)
    → IsBest key count n best position → AtMost best (key n) → IsBest key count (n + 1) best position
best_keeps key count n best position b m = record {
  within = b.within;
  is = b.is;
  least = below_more (λ j. AtMost best (key j)) n b.least m;
}

-- one more key, which is less
pub best_takes : (key : ℕ → List ℕ) (count n : ℕ) (best : List ℕ) (position : ℕ) (other : List ℕ)
    → IsBest key count n best position → n < count → other ≡ key n → length best ≡ length other
    → (AtMost best other → ⊥) → IsBest key count (n + 1) other n
best_takes key count n best position other b h e same fails =
    let less = AtMost-other best other same fails in record {
      within = h;
      is = e;
      least = below_more (λ j. AtMost other (key j)) n
          (λ j l. AtMost-trans other best (key j) less (b.least j l))
          (subst (AtMost other) e (AtMost-itself other));
    }

-- the key of the code
pub numbers_of-is : (dims : ℕ) (items : List Item) (new : Bounds) (k o overlap : ℕ) (key : Key) → o ≡ overlap
    → key ≡ record {
      overlap = o;
      growth = growth_of dims (box_at items k) new;
      area = volume_of dims (box_at items k);
      position = k;
    }
    → numbers_of key ≡ numbers_with overlap dims items new k
numbers_of-is dims items new k o overlap key h e = ap numbers_of e
    ∙ ap (λ x. x ∷ growth_of dims (box_at items k) new ∷ volume_of dims (box_at items k) ∷ k ∷ []) h

pub first_least-of_best : (dims : ℕ) (items : List Item) (new : Bounds) (count n : ℕ) (best : List ℕ)
    (position : ℕ) → count ≤ n
    → IsBest (λ k. numbers_with (overlap_growth dims items new k) dims items new k) count n best position
    → IsFirstLeast count (overlap_key dims items new) position
first_least-of_best dims items new count n best position h b =
    first_least-of_placed (overlap_growth dims items new) (λ k. growth_of dims (box_at items k) new)
    (λ k. volume_of dims (box_at items k)) count position b.within
    (λ j l. subst (λ x. AtMost x (numbers_with (overlap_growth dims items new j) dims items new j)) b.is
    (b.least j (omega arith)))

pub first_least-of_best_area : (dims : ℕ) (items : List Item) (new : Bounds) (count n : ℕ) (best : List ℕ)
    (position : ℕ) → count ≤ n → IsBest (numbers_with 0 dims items new) count n best position
    → IsFirstLeast count (area_key dims items new) position
first_least-of_best_area dims items new count n best position h b =
    first_least-of_placed_area (λ k. growth_of dims (box_at items k) new)
    (λ k. volume_of dims (box_at items k)) count position b.within
    (λ j l. subst (λ x. AtMost x (numbers_with 0 dims items new j)) b.is (b.least j (omega arith)))

-- keys that are equal at each position
first_least-along : (key other : ℕ → List ℕ) (n i : ℕ) → ((j : ℕ) → other j ≡ key j) → IsFirstLeast n key i
    → IsFirstLeast n other i
first_least-along key other n i same h = record {
  within = h.within;
  least = λ j l. rw (same i, same j) (h.least j l);
  first = λ j l e. h.first j l (sym (same j) ∙ e ∙ same i);
}

pub chosen_above : (dims : ℕ) (items : List Item) (new : Bounds) (level n i : ℕ) → (level ≡ 1 → ⊥)
    → IsFirstLeast n (area_key dims items new) i → IsFirstLeast n (child_key dims level items new) i
unfolding child_key
chosen_above dims items new level n i other h =
    let test : eqb level 1 ≡ false = grind (arith, nat_tests) in
    first_least-along (area_key dims items new) (child_key dims level items new) n i
    (λ j. ap (λ b. if b then overlap_key dims items new j else area_key dims items new j) test) h

pub chosen_first : (dims : ℕ) (items : List Item) (new : Bounds) (level n i : ℕ) → level ≡ 1
    → IsFirstLeast n (overlap_key dims items new) i → IsFirstLeast n (child_key dims level items new) i
unfolding child_key
chosen_first dims items new level n i is h =
    let test : eqb level 1 ≡ true = grind (arith, nat_tests) in
    first_least-along (overlap_key dims items new) (child_key dims level items new) n i
    (λ j. ap (λ b. if b then overlap_key dims items new j else area_key dims items new j) test) h
