-- What a table holds, chain by chain, and where its pages are.
use Rattle.std.proofs.Common.{◌≡◌, ◌∙◌, ℕ, zero, suc, ◌+◌, ◌<◌, ◌≤◌, Bool, true, false, cond, eqb, ◌||◌}
use Rattle.std.proofs.Common.{Option, Some, None, IsSome, List, [], ◌∷◌, length, map, get_or, sum_by}
use Rattle.std.proofs.Common.{All, refl, sym, ap, subst, ⊎_elim, arith}
use Rattle.bucket_page.specs.Layout.{Entry}
use Rattle.std.proofs.lemmas.Bool.{cases_eq}
use Rattle.std.proofs.lemmas.Bool.Decides.{nat_tests}
use Rattle.std.proofs.lemmas.Cmp.{nat_cmp_total}
use Rattle.std.proofs.lemmas.List.Elements.{All-head, All-tail}
use Rattle.std.proofs.lemmas.List.Sums.{sum_by-cons, sum_by-set}
use Rattle.std.proofs.lemmas.Map.Steps.{length-le_from_distinct_below}
use Rattle.std.specs.FinMap.{get, get-from_entries}
use Rattle.std.specs.List.{IsDistinct, AllByRecursion, flat_map, list_any}
use Rattle.node_page.specs.Standing.{PageMap}
use Rattle.id_words.specs.Objects.{kept_in}
use Rattle.id_words.proofs.ObjectLemmas.{found_is, not_here, not_behind, not_there, occurs_here}
use Rattle.id_chains.specs.Table.{Bucket, ChainStands, IdChains, IdChainsStand, IsFilled, bucket_in}
use Rattle.id_chains.specs.Table.{chain_at, class_of, entries_in, entries_of, link_at, objects_of}
use Rattle.id_chains.specs.Table.{occurs_in_chain, occurs_in_ids}

-- ---- what is found

pub elsewhere : (q class : ℕ) (xs : List Entry) → All (λ object. class_of object.0 ≡ class) xs
    → ¬ (class_of q ≡ class) → kept_in q xs ≡ None
elsewhere q class [] placed other = refl
elsewhere q class (x ∷ xs) placed other =
    let differs : eqb x.0 q ≡ false =
    apart x.0 q
    (λ is. other
    (ap class_of (sym is) ∙ All-head (λ (object : Entry). class_of object.0 ≡ class) x xs placed)) in
    ap (λ b. cond b (Some x.1) (kept_in q xs)) differs
    ∙ elsewhere q class xs (All-tail (λ (object : Entry). class_of object.0 ≡ class) x xs placed) other
  where
    apart : (a b : ℕ) → ¬ (a ≡ b) → eqb a b ≡ false
    apart a b h = grind (arith, nat_tests)

-- the chains of the remainders from one on
abbrev pub ArePlaced : ℕ → List (List Bucket) → Type 0
ArePlaced class [] = Unit {0}
ArePlaced class (c ∷ cs) = All (λ object. class_of object.0 ≡ class) (entries_in c) × ArePlaced (class + 1) cs

none_before : (q class : ℕ) (cs : List (List Bucket)) → ArePlaced class cs → class_of q < class
    → kept_in q (flat_map entries_in cs) ≡ None
none_before q class [] placed before = refl
none_before q class (c ∷ cs) placed before =
    not_here q (entries_in c) (flat_map entries_in cs)
    (elsewhere q class (entries_in c) placed.0 (λ is. omega (arith, is, before)))
    ∙ none_before q (class + 1) cs placed.1 (omega (arith, before))

found_in_chain : (q class i : ℕ) (cs : List (List Bucket)) → ArePlaced class cs → i < length cs
    → class_of q ≡ class + i → kept_in q (flat_map entries_in cs) ≡ kept_in q (entries_in (get_or cs i []))
found_in_chain q class i [] placed within is = absurd (omega (arith, within))
found_in_chain q class zero (c ∷ cs) placed within is =
    not_behind q (entries_in c) (flat_map entries_in cs)
    (none_before q (class + 1) cs placed.1 (omega (arith, is)))
found_in_chain q class (suc i) (c ∷ cs) placed within is =
    not_here q (entries_in c) (flat_map entries_in cs)
    (elsewhere q class (entries_in c) placed.0 (λ same. omega (arith, is, same)))
    ∙ found_in_chain q (class + 1) i cs placed.1 (omega (arith, within)) (omega (arith, is))

are_placed : (class : ℕ) (cs : List (List Bucket))
    → ((i : ℕ) → i < length cs → All (λ object. class_of object.0 ≡ class + i) (entries_in (get_or cs i [])))
    → ArePlaced class cs
are_placed class [] each = tt
are_placed class (c ∷ cs) each = (
  (let here : class + 0 ≡ class = omega arith in
      subst (λ k. All (λ object. class_of object.0 ≡ k) (entries_in c)) here (each 0 (omega arith))),
  are_placed (class + 1) cs (λ i lt.
      let next : class + suc i ≡ (class + 1) + i = omega arith in
      subst (λ k. All (λ object. class_of object.0 ≡ k) (entries_in (get_or cs i []))) next
      (each (suc i) (omega (arith, lt)))),
)

-- what a table has for an identifier is what its chain has
pub found_by_class : (t : IdChains) (q : ℕ) → length t.chains ≡ 1000
    → ((class : ℕ) → class < 1000 → IsFilled class (chain_at t class))
    → get (objects_of t) q ≡ kept_in q (entries_in (chain_at t (class_of q)))
found_by_class t q whole filled =
    let within : class_of q < 1000 = omega arith in
    get-from_entries nat_cmp_total (entries_of t) q ∙ found_is q (entries_of t)
    ∙ found_in_chain q 0 (class_of q) t.chains
    (are_placed 0 t.chains
    (λ i lt. let same : i ≡ 0 + i = omega arith in
    subst (λ k. All (λ object. class_of object.0 ≡ k) (entries_in (get_or t.chains i []))) same
    (filled i (omega (arith, lt, whole))).placed)) (omega (arith, within, whole)) (omega arith)

-- ---- pages

-- a page of a chain is one of the table
pub chain_in_table : (n class : ℕ) (t : IdChains) → class < length t.chains
    → occurs_in_chain n (chain_at t class) ≤ sum_by (occurs_in_chain n) t.chains
chain_in_table n class t within = omega (arith, sum_by-set (occurs_in_chain n) t.chains class [] [] within)

-- each page of a chain that stands is there
pub chain_there : (dims : ℕ) (pages : PageMap) (first : ℕ) (bs : List Bucket) (n : ℕ)
    → ChainStands dims pages first bs → 0 < occurs_in_chain n bs → IsSome (pages n)
chain_there dims pages first [] n stands here = absurd (omega (arith, here))
chain_there dims pages first (b ∷ bs) n stands here = ⊎_elim
    (λ (is : b.page ≡ n). subst (λ k. IsSome (pages k)) is
    (spelled (pages b.page) (record { next = stands.2; entries = b.entries }) stands.3))
    (λ (other : ¬ (b.page ≡ n)). chain_there dims pages stands.2 bs n stands.4
    (let none = not_there b.page n other in omega (arith, here, none)))
    (cases_eq b.page n)
  where
    spelled : (page : Option (List ℕ)) (c : _) → bucket_in dims page ≡ Some c → IsSome page
    spelled None c e = absurd (cc)
    spelled (Some bytes) c e = refl

-- a page of some chain is one of a chain of the list
pub in_some_chain : (n : ℕ) (cs : List (List Bucket)) → 0 < sum_by (occurs_in_chain n) cs
    → (i : ℕ) × (i < length cs) × (0 < occurs_in_chain n (get_or cs i []))
in_some_chain n [] here = absurd (omega (arith, here))
in_some_chain n (c ∷ cs) here = ⊎_elim
    (λ (none : occurs_in_chain n c ≡ 0). let later =
    in_some_chain n cs (omega (arith, sum_by-cons (occurs_in_chain n) c cs, here, none)) in
    (suc later.0, omega (arith, later.1), later.2))
    (λ (some : ¬ (occurs_in_chain n c ≡ 0)). (0, omega arith, omega (arith, some)))
    (cases_eq (occurs_in_chain n c) 0)

-- each page of a table that stands is there
pub table_there : (dims : ℕ) (pages : PageMap) (t : IdChains) (n : ℕ) → IdChainsStand dims pages t
    → 0 < occurs_in_ids n t → IsSome (pages n)
table_there dims pages t n stands here = ⊎_elim
    (λ (is : t.page ≡ n). subst (λ k. IsSome (pages k)) is
    (is_some_page (pages t.page) stands.directory stands.there))
    (λ (other : ¬ (t.page ≡ n)).
    let none = not_there t.page n other in
    let chain = in_some_chain n t.chains (omega (arith, here, none)) in
    let small : chain.0 < 1000 = omega (arith, chain.1, stands.whole) in
    chain_there dims pages (link_at chain.0 stands.directory) (chain_at t chain.0) n
    (stands.chains chain.0 small) chain.2)
    (cases_eq t.page n)
  where
    is_some_page : (page : Option (List ℕ)) (bytes : List ℕ) → page ≡ Some bytes → IsSome page
    is_some_page None bytes e = absurd (cc)
    is_some_page (Some x) bytes e = refl

apart_from : (p : ℕ) (bs : List Bucket) → occurs_in_chain p bs ≡ 0
    → AllByRecursion (λ y. eqb p y ≡ false) (map (λ (b : Bucket). b.page) bs)
apart_from p [] none = tt
apart_from p (b ∷ bs) none = (differ p b.page (omega (arith, none)), apart_from p bs (omega (arith, none)))
  where
    differ : (p k : ℕ) → ◌≡◌ {A = ℕ} (cond (eqb k p) 1 0) 0 → eqb p k ≡ false
    differ p k h = grind (arith, nat_tests)

are_distinct : (bs : List Bucket) → ((n : ℕ) → occurs_in_chain n bs ≤ 1)
    → IsDistinct eqb (map (λ (b : Bucket). b.page) bs)
unfolding IsDistinct
are_distinct [] once = tt
are_distinct (b ∷ bs) once = (
  apart_from b.page bs (omega (arith, once b.page, occurs_here b.page)),
  are_distinct bs (λ n. omega (arith, once n)),
)

occurs_there : (q : ℕ) (bs : List Bucket) → list_any (eqb q) (map (λ (b : Bucket). b.page) bs) ≡ true
    → 0 < occurs_in_chain q bs
occurs_there q [] any = absurd (cc)
occurs_there q (b ∷ bs) any = ⊎_elim
    (λ (is : b.page ≡ q). let one : ◌≡◌ {A = ℕ} (cond (eqb b.page q) 1 0) 1 = ap (λ k. cond (eqb k q) 1 0) is
    ∙ occurs_here q in omega (arith, one))
    (λ (other : ¬ (b.page ≡ q)). let later =
    occurs_there q bs (skip q b.page (list_any (eqb q) (map (λ (b : Bucket). b.page) bs)) other any) in
    omega (arith, later))
    (cases_eq b.page q)
  where
    skip : (q k : ℕ) (rest : Bool) → ¬ (k ≡ q) → (eqb q k || rest) ≡ true → rest ≡ true
    skip q k rest other e = grind (arith, nat_tests)

-- a chain whose pages are below a number, each once, is no longer than that
pub chain_short : (bs : List Bucket) (next : ℕ) → ((n : ℕ) → occurs_in_chain n bs ≤ 1)
    → ((n : ℕ) → 0 < occurs_in_chain n bs → n < next) → length bs ≤ next
chain_short bs next once below =
    let few =
    length-le_from_distinct_below (map (λ (b : Bucket). b.page) bs) next (are_distinct bs once)
    (λ q any. below q (occurs_there q bs any)) in
    omega (arith, few, length-mapped bs)
  where
    length-mapped : (bs : List Bucket) → length (map (λ (b : Bucket). b.page) bs) ≡ length bs
    length-mapped [] = refl
    length-mapped (b ∷ bs) = ap suc (length-mapped bs)
