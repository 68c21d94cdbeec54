-- A tiling of entries is one of whatever is seen as the same entries.
use Rattle.std.proofs.Common.{◌≡◌, ◌∙◌, ℕ, zero, suc, ◌-◌, ◌<◌, ◌≤◌, List, [], ◌∷◌, ◌++◌, length, map, take}
use Rattle.std.proofs.Common.{drop, get_or, refl, sym, ap, subst, ⊎_elim, arith}
use Rattle.std.specs.Int.{div_ceil}
use Rattle.std.proofs.lemmas.Bool.{cases_lt}
use Rattle.std.proofs.lemmas.List.{drop-map, length-map, map-append, take-append-drop, take-map}
use Rattle.std.proofs.Math.Seq.{drop-append_seam, take-append_seam}
use Rattle.tree_node.specs.Nodes.{Item}
use Rattle.tree_node.specs.Positions.{pick}
use Rattle.tree_node.proofs.PositionLemmas.{map-pick}
use Rattle.bulk_load.specs.Sorting.{order_on, sorted_on}
use Rattle.bulk_load.specs.Tiling.{EachTiled, IsLeastRoot, IsSlabbed, IsTiledOn, even_sizes, joined, one_run}
use Rattle.bulk_load.proofs.SortLemmas.{length-sorted}

-- lists of either kind that are seen as the same entries
abbrev Alike : {A B : Type 0} → (A → Item) → (B → Item) → List A → List B → Type 0
Alike item item' xs ys = map item' ys ≡ map item xs

abbrev AllAlike : {A B : Type 0} → (A → Item) → (B → Item) → List (List A) → List (List B) → Type 0
AllAlike item item' runs rs = map (map item') rs ≡ map (map item) runs

alike_length : {A B : Type 0} (item : A → Item) (item' : B → Item) (xs : List A) (ys : List B)
    → Alike item item' xs ys → length ys ≡ length xs
alike_length item item' xs ys alike = sym (length-map ys item') ∙ ap length alike ∙ length-map xs item

-- sorted alike
sorted_alike : {A B : Type 0} (item : A → Item) (item' : B → Item) (dims axis : ℕ) (xs : List A)
    (ys : List B) → Alike item item' xs ys
    → Alike item item' (sorted_on item dims axis xs) (sorted_on item' dims axis ys)
sorted_alike item item' dims axis xs ys alike =
    map-pick item' ys (order_on dims axis (map item' ys)) ∙ ap (λ is. pick is (order_on dims axis is)) alike
    ∙ sym (map-pick item xs (order_on dims axis (map item xs)))

-- cut alike
pub record CutAlike {A B : Type 0} (item : A → Item) (item' : B → Item) (slabs : List (List A))
    (ys : List B) : Type 0 where
  pub cut : List (List B)
  pub whole : joined cut ≡ ys
  pub alike : AllAlike item item' slabs cut

front_alike : {A B : Type 0} (item : A → Item) (item' : B → Item) (xs rest : List A) (ys : List B)
    → Alike item item' (xs ++ rest) ys → Alike item item' xs (take (length xs) ys)
front_alike item item' xs rest ys alike = sym (take-map item' (length xs) ys)
    ∙ ap (take (length xs)) (alike ∙ map-append item xs rest)
    ∙ ap (λ n. take n (map item xs ++ map item rest)) (sym (length-map xs item))
    ∙ take-append_seam (map item xs) (map item rest)

back_alike : {A B : Type 0} (item : A → Item) (item' : B → Item) (xs rest : List A) (ys : List B)
    → Alike item item' (xs ++ rest) ys → Alike item item' rest (drop (length xs) ys)
back_alike item item' xs rest ys alike = sym (drop-map item' (length xs) ys)
    ∙ ap (drop (length xs)) (alike ∙ map-append item xs rest)
    ∙ ap (λ n. drop n (map item xs ++ map item rest)) (sym (length-map xs item))
    ∙ drop-append_seam (map item xs) (map item rest)

nothing_alike : {A B : Type 0} (item : A → Item) (item' : B → Item) (ys : List B) → Alike item item' [] ys
    → [] ≡ ys
nothing_alike item item' [] alike = refl
nothing_alike item item' (y ∷ ys) alike = absurd (omega (arith, ap length alike))

cut_alike : {A B : Type 0} (item : A → Item) (item' : B → Item) (slabs : List (List A)) (ys : List B)
    → Alike item item' (joined slabs) ys → CutAlike item item' slabs ys
cut_alike item item' [] ys alike =
    record { cut = []; whole = nothing_alike item item' ys alike; alike = refl }
cut_alike {A} {B} item item' (slab ∷ slabs) ys alike =
    let later =
    cut_alike item item' slabs (drop (length slab) ys)
    (back_alike item item' slab (joined slabs) ys alike) in
    record {
      cut = take (length slab) ys ∷ later.cut;
      whole = ap (λ (zs : List B). take (length slab) ys ++ zs) later.whole
          ∙ take-append-drop (length slab) ys;
      alike = ap (λ (zs : List Item). zs ∷ map (map item') later.cut)
          (front_alike item item' slab (joined slabs) ys alike)
          ∙ ap (λ (zs : List (List Item)). map item slab ∷ zs) later.alike;
    }

first_alike : {A B : Type 0} (item : A → Item) (item' : B → Item) (run : List A) (r : List B)
    (runs : List (List A)) (rs : List (List B)) → AllAlike item item' (run ∷ runs) (r ∷ rs)
    → Alike item item' run r
first_alike item item' run r runs rs alike = ap (λ (zs : List (List Item)). get_or zs 0 []) alike

rest_alike : {A B : Type 0} (item : A → Item) (item' : B → Item) (run : List A) (r : List B)
    (runs : List (List A)) (rs : List (List B)) → AllAlike item item' (run ∷ runs) (r ∷ rs)
    → AllAlike item item' runs rs
rest_alike item item' run r runs rs alike = ap (λ (zs : List (List Item)). drop 1 zs) alike

pub lengths_alike : {A B : Type 0} (item : A → Item) (item' : B → Item) (runs : List (List A))
    (rs : List (List B)) → AllAlike item item' runs rs → map length rs ≡ map length runs
lengths_alike item item' [] [] alike = refl
lengths_alike item item' [] (r ∷ rs) alike = absurd (omega (arith, ap length alike))
lengths_alike item item' (run ∷ runs) [] alike = absurd (omega (arith, ap length alike))
lengths_alike item item' (run ∷ runs) (r ∷ rs) alike =
    let one : length r ≡ length run =
    alike_length item item' run r (first_alike item item' run r runs rs alike) in
    ap (λ (n : ℕ). n ∷ map length rs) one
    ∙ ap (λ (ns : List ℕ). length run ∷ ns)
    (lengths_alike item item' runs rs (rest_alike item item' run r runs rs alike))

-- joined they are alike too
pub joined_alike : {A B : Type 0} (item : A → Item) (item' : B → Item) (runs : List (List A))
    (rs : List (List B)) → AllAlike item item' runs rs → Alike item item' (joined runs) (joined rs)
joined_alike item item' [] [] alike = refl
joined_alike item item' [] (r ∷ rs) alike = absurd (omega (arith, ap length alike))
joined_alike item item' (run ∷ runs) [] alike = absurd (omega (arith, ap length alike))
joined_alike item item' (run ∷ runs) (r ∷ rs) alike =
    map-append item' r (joined rs)
    ∙ ap (λ (zs : List Item). zs ++ map item' (joined rs)) (first_alike item item' run r runs rs alike)
    ∙ ap (λ (zs : List Item). map item run ++ zs)
    (joined_alike item item' runs rs (rest_alike item item' run r runs rs alike))
    ∙ sym (map-append item run (joined runs))

-- ---- tiled alike

pub record TiledAlike {A B : Type 0} (item : A → Item) (item' : B → Item)
    (tiled : List B → List (List B) → Type 0) (runs : List (List A)) (ys : List B) : Type 0 where
  pub rs : List (List B)
  pub is_tiled : tiled ys rs
  pub alike : AllAlike item item' runs rs

each_alike : {A B : Type 0} (item : A → Item) (item' : B → Item) (tiled : List A → List (List A) → Type 0)
    (tiled' : List B → List (List B) → Type 0)
    → ((slab : List A) (runs : List (List A)) (ys : List B) → Alike item item' slab ys → tiled slab runs
    → TiledAlike item item' tiled' runs ys)
    → (slabs : List (List A)) (cut : List (List B)) (runs : List (List A)) → AllAlike item item' slabs cut
    → EachTiled tiled slabs runs
    → (rs : List (List B)) × (EachTiled tiled' cut rs × AllAlike item item' runs rs)
each_alike {A} {B} item item' tiled tiled' one [] [] runs alike each =
    ([], (refl, ap (λ (zs : List (List A)). map (map item) zs) (sym each)))
each_alike item item' tiled tiled' one [] (c ∷ cut) runs alike each = absurd (omega (arith, ap length alike))
each_alike item item' tiled tiled' one (slab ∷ slabs) [] runs alike each =
    absurd (omega (arith, ap length alike))
each_alike {A} {B} item item' tiled tiled' one (slab ∷ slabs) (c ∷ cut) runs alike each =
    let first = one slab each.0 c (first_alike item item' slab c slabs cut alike) each.1.1.1 in
    let later =
    each_alike item item' tiled tiled' one slabs cut each.1.0
    (rest_alike item item' slab c slabs cut alike) each.1.1.2 in (
      first.rs ++ later.0,
      (
        (first.rs, (later.0, (refl, first.is_tiled, later.1.0))),
        map-append (map item') first.rs later.0
            ∙ ap (λ (zs : List (List Item)). zs ++ map (map item') later.0) first.alike
            ∙ ap (λ (zs : List (List Item)). map (map item) each.0 ++ zs) later.1.1
            ∙ sym (map-append (map item) each.0 each.1.0)
            ∙ ap (λ (zs : List (List A)). map (map item) zs) (sym each.1.1.0),
      ),
    )

one_run_alike : {A B : Type 0} (item : A → Item) (item' : B → Item) (xs : List A) (ys : List B)
    → Alike item item' xs ys → AllAlike item item' (one_run xs) (one_run ys)
one_run_alike item item' [] [] alike = refl
one_run_alike item item' [] (y ∷ ys) alike = absurd (omega (arith, ap length alike))
one_run_alike item item' (x ∷ xs) [] alike = absurd (omega (arith, ap length alike))
one_run_alike item item' (x ∷ xs) (y ∷ ys) alike = ap (λ (zs : List Item). zs ∷ []) alike

pub tiled_alike : {A B : Type 0} (item : A → Item) (item' : B → Item) (dims most axes : ℕ) (xs : List A)
    (runs : List (List A)) (ys : List B) → Alike item item' xs ys
    → IsTiledOn item dims most axes xs runs → TiledAlike item item' (IsTiledOn item' dims most axes) runs ys
tiled_alike {A} {B} item item' dims most zero xs runs ys alike tiled = record {
  rs = ys ∷ [];
  is_tiled = refl;
  alike = ap (λ (zs : List Item). zs ∷ []) alike ∙ ap (λ (zs : List (List A)). map (map item) zs) (sym tiled);
}
tiled_alike {A} {B} item item' dims most (suc axes) xs runs ys alike tiled =
    let same : length ys ≡ length xs = alike_length item item' xs ys alike in
    ⊎_elim
    (λ (more_than : most < length xs).
    let s = tiled.1 more_than in
    let axis = dims - suc axes in
    let order : Alike item item' (joined s.slabs) (sorted_on item' dims axis ys) =
    sorted_alike item item' dims axis xs ys alike ∙ ap (λ (zs : List A). map item zs) (sym s.cut.whole) in
    let c = cut_alike item item' s.slabs (sorted_on item' dims axis ys) order in
    let each =
    each_alike item item' (IsTiledOn item dims most axes) (IsTiledOn item' dims most axes)
    (λ slab rs zs a t. tiled_alike item item' dims most axes slab rs zs a t) s.slabs c.cut runs c.alike
    s.each in
    let slabbed : IsSlabbed item' dims most axis (suc axes) (IsTiledOn item' dims most axes) ys each.0 =
    record {
      count = s.count;
      root = subst (λ (n : ℕ). IsLeastRoot (suc axes) (div_ceil n most) s.count) (sym same) s.root;
      slabs = c.cut;
      cut = record {
        whole = c.whole;
        sizes = lengths_alike item item' s.slabs c.cut c.alike ∙ s.cut.sizes
            ∙ ap (λ (n : ℕ). even_sizes n s.count)
            (length-sorted item dims axis xs ∙ sym same ∙ sym (length-sorted item' dims axis ys));
      };
      each = each.1.0;
    } in
    record {
      rs = each.0;
      is_tiled = (λ few. absurd (omega (arith, few, more_than, same)), λ many. slabbed);
      alike = each.1.1;
    })
    (λ (few : length xs ≤ most). record {
      rs = one_run ys;
      is_tiled = (λ less. refl, λ many. absurd (omega (arith, few, many, same)));
      alike = one_run_alike item item' xs ys alike
          ∙ ap (λ (zs : List (List A)). map (map item) zs) (sym (tiled.0 few));
    })
    (cases_lt most (length xs))
