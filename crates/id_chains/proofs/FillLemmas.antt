-- Objects added run after run.
use Rattle.std.proofs.Common.{◌≡◌, ◌∙◌, ◌⊎◌, ℕ, zero, suc, ◌+◌, ◌/◌, ◌<◌, ◌≤◌, None, List, [], ◌∷◌, ◌++◌}
use Rattle.std.proofs.Common.{length, take, drop, get_or, refl, sym, ap, subst, ⊎_elim, inl, inr, arith}
use Rattle.std.proofs.Common.{length-drop}
use Rattle.box_math.specs.Objects.{Object}
use Rattle.bucket_page.specs.Layout.{Entry}
use Rattle.std.proofs.Math.Seq.{drop-cons, take-add}
use Rattle.std.proofs.lemmas.Bool.{cases_lt}
use Rattle.std.proofs.lemmas.List.{drop-drop, drop_all}
use Rattle.std.specs.List.Sorted.{IsNonDecreasingBy}
use Rattle.std.specs.FinMap as map
use Rattle.std.specs.FinMap.{FinMap}
use Rattle.std.specs.Ordering.{nat_cmp}
use Rattle.page_cache.specs.Cache.{Grows, IsPageMap, pages}
use Rattle.page_cache.specs.Calls.{ChangesUntil, changes_in_turn}
use Rattle.page_cache.specs.declared.cache.PageCache.{PageCache}
use Rattle.node_page.specs.Parts.{Moves}
use Rattle.node_page.specs.Standing.{PageMap}
use Rattle.node_page.proofs.PartLemmas.{moves_in_turn, staying_moves}
use Rattle.id_words.specs.Objects.{AreNew, with_all}
use Rattle.id_chains.specs.Changes.{Fills, Sets}
use Rattle.id_chains.specs.Pages.{IsWholeRun, first_class, next_class}
use Rattle.id_chains.specs.Table.{IdChains, IdChainsStand, class_of, objects_of, part_of}
use Rattle.id_chains.specs.Tidy.{KeepsTidy}
use Rattle.id_chains.proofs.BucketLemmas.{some_object}
use Rattle.id_chains.proofs.TableLemmas.{table_there}
use Rattle.id_chains.proofs.TidyLemmas.{keep_in_turn, same_keep}

with_all-append : (m : FinMap nat_cmp Object) (xs ys : List Entry)
    → with_all m (xs ++ ys) ≡ with_all (with_all m xs) ys
with_all-append m [] ys = refl
with_all-append m (x ∷ xs) ys = with_all-append (map.insert m x.0 x.1) xs ys

-- of new objects the first ones are new, and so are the others beside them
pub first_new : (n : ℕ) (es : List Entry) (m : FinMap nat_cmp Object) → AreNew m es → AreNew m (take n es)
first_new zero es m new = tt
first_new (suc n) [] m new = tt
first_new (suc n) (e ∷ es) m new = (new.0, first_new n es (map.insert m e.0 e.1) new.1)

others_new : (n : ℕ) (es : List Entry) (m : FinMap nat_cmp Object) → AreNew m es
    → AreNew (with_all m (take n es)) (drop n es)
others_new zero es m new = new
others_new (suc n) [] m new = tt
others_new (suc n) (e ∷ es) m new = others_new n es (map.insert m e.0 e.1) new.1

-- a run of one object
pub one_set : (dims : ℕ) (old new : PageMap) (t : IdChains) (id : ℕ) (kept : Object) (count : ℕ) → 0 < count
    → Fills dims old new t (take count ((id, kept) ∷ [])) → Sets dims old new t id kept
one_set dims old new t id kept zero some fills = absurd (omega (arith, some))
one_set dims old new t id kept (suc n) some fills = record {
  table = fills.table;
  page = fills.page;
  stands = fills.stands;
  objects = fills.objects ∙ ap (λ (es : List Entry). with_all (objects_of t) ((id, kept) ∷ es)) (none_more n);
  moves = fills.moves;
}
  where
    none_more : (n : ℕ) → take {A = Entry} n [] ≡ []
    none_more zero = refl
    none_more (suc n) = refl

-- ---- pages that a run takes, in the order of the remainders

abbrev pub AreInOrder : List Entry → Type 0
AreInOrder es = IsNonDecreasingBy (λ (object : Entry). class_of object.0) es

pub next_is_low : (es : List Entry) → next_class es ≤ 1000
next_is_low [] = omega arith
next_is_low (e ∷ es) = omega arith

pub class_of_first : (es : List Entry) (other : Entry) → 0 < length es
    → class_of (get_or es 0 other).0 ≡ first_class es
class_of_first [] other some = absurd (omega (arith, some))
class_of_first (e ∷ es) other some = refl

pub next_of_some : (es : List Entry) → 0 < length es
    → (next_class es ≡ first_class es) × (next_class es < 1000)
next_of_some [] some = absurd (omega (arith, some))
next_of_some (e ∷ es) some = (refl, omega arith)

next_at : (es : List Entry) (i : ℕ) → i < length es
    → next_class (drop i es) ≡ class_of (get_or es i some_object).0
next_at es i within = ap (λ (rest : List Entry). next_class rest) (drop-cons es i some_object within)

next_rises : (es : List Entry) (i j : ℕ) → AreInOrder es → i ≤ j → i < length es
    → next_class (drop i es) ≤ next_class (drop j es)
next_rises es i j sorted later within = ⊎_elim
    (λ (there : j < length es). omega
    (arith, next_at es i within, next_at es j there, sorted i j some_object later there))
    (λ (past : length es ≤ j). omega
    (arith, next_is_low (drop i es), ap (λ (rest : List Entry). next_class rest) (drop_all j es past)))
    (cases_lt j (length es))

-- where the first objects are taken, their first one is that of all, and so is one behind some of them
pub first_of_taken : (most : ℕ) (es : List Entry) → 0 < most → first_class (take most es) ≡ first_class es
first_of_taken zero es some = absurd (omega (arith, some))
first_of_taken (suc n) [] some = refl
first_of_taken (suc n) (e ∷ es) some = refl

next_of_taken : (count most : ℕ) (es : List Entry) → count < most
    → next_class (drop count (take most es)) ≡ next_class (drop count es)
next_of_taken count zero es within = absurd (omega (arith, within))
next_of_taken zero (suc m) [] within = refl
next_of_taken zero (suc m) (e ∷ es) within = refl
next_of_taken (suc n) (suc m) [] within = refl
next_of_taken (suc n) (suc m) (e ∷ es) within = next_of_taken n m es (omega (arith, within))

-- a run of objects that are taken is one of all, where a page has no room for so many
pub whole_of_taken : (count most : ℕ) (es : List Entry) → 100 ≤ most → IsWholeRun (take most es) count
    → IsWholeRun es count
whole_of_taken count most es many whole = ⊎_elim
    (λ (full : 100 ≤ count). inl full)
    (λ (ends : ¬ (next_class (drop count (take most es)) ≡ first_class (take most es))). ⊎_elim
    (λ (less : count < 100). inr (λ (same : next_class (drop count es) ≡ first_class es). ends
    (next_of_taken count most es (omega (arith, less, many)) ∙ same
    ∙ sym (first_of_taken most es (omega (arith, many))))))
    (λ (full : 100 ≤ count). inl full)
    (cases_lt count 100))
    whole

module _ {B A : Type 0} {m : _} where
  -- a run takes a page more only where it fills one, or is the last of its chain
  pub run_takes : (old now new : PageCache B A m) (objects : List Entry) (count more : ℕ)
      → AreInOrder objects → count < length objects
      → Grows (count / 100 + next_class (drop count objects)) old now → Grows 1 now new
      → Grows 0 now new ⊎ IsWholeRun (drop count objects) more
      → Grows ((count + more) / 100 + next_class (drop (count + more) objects)) old new
  run_takes old now new objects count more sorted within so_far one takes =
      let rises = next_rises objects count (count + more) sorted (omega arith) within in
      let first = next_of_some (drop count objects) (omega (arith, within, length-drop count objects)) in
      let after : next_class (drop more (drop count objects)) ≡ next_class (drop (count + more) objects) =
      ap (λ (rest : List Entry). next_class rest) (drop-drop more count objects) in
      ⊎_elim
      (λ (none : Grows 0 now new). omega (arith, so_far, none, rises))
      (λ (whole : IsWholeRun (drop count objects) more). ⊎_elim
      (λ (full : 100 ≤ more). omega (arith, so_far, one, rises, full))
      (λ (ends : ¬ (next_class (drop more (drop count objects)) ≡ first_class (drop count objects))). omega
      (arith, so_far, one, rises, differ _ _ _ _ ends after first.0))
      whole)
      takes
    where
      differ : (a b next first : ℕ) → ¬ (a ≡ first) → a ≡ b → next ≡ first → ¬ (b ≡ next)
      differ a b next first ends same is both = ends (same ∙ both ∙ is)

  -- the table with the objects so far
  pub record Filled (dims : ℕ) (old now : PageCache B A m) (t : IdChains) (objects : List Entry)
      (count : ℕ) : Type 0 where
    pub table : IdChains
    pub page : table.page ≡ t.page
    pub stands : IdChainsStand dims (pages now) table
    pub map_is : IsPageMap now
    pub has : objects_of table ≡ with_all (objects_of t) (take count objects)
    pub rest : AreNew (objects_of table) (drop count objects)
    pub moves : Moves (pages old) (pages now) (part_of t) (part_of table)
    pub tidy : KeepsTidy dims (pages old) (pages now)

  pub record Filling (dims directory : ℕ) (old now : PageCache B A m) (objects : List Entry)
      (count : ℕ) : Type 0 where
    pub changes : ChangesUntil old now None
    pub left : IsPageMap old → (t : IdChains) → t.page ≡ directory → IdChainsStand dims (pages old) t
        → AreNew (objects_of t) objects → Filled dims old now t objects count

  pub filling_begins : (dims directory : ℕ) (cache : PageCache B A m) (objects : List Entry)
      → ChangesUntil cache cache None → Filling dims directory cache cache objects 0
  filling_begins dims directory cache objects changes = record {
    changes = changes;
    left = λ sound t at stands new. record {
      table = t;
      page = refl;
      stands = stands;
      map_is = sound;
      has = refl;
      rest = new;
      moves = staying_moves (pages cache) (pages cache) (part_of t) (λ n. refl) stands.once
          (λ n here. table_there dims (pages cache) t n stands here);
      tidy = same_keep dims (pages cache) (pages cache) (λ n. refl);
    };
  }

  -- so many more are added
  pub fills_on : {dims directory : ℕ} {old now : PageCache B A m} {objects : List Entry} {count : ℕ}
      (so_far : Filling dims directory old now objects count) (more : ℕ) (new : PageCache B A m)
      → ChangesUntil now new None
      → (IsPageMap now → (t : IdChains) → t.page ≡ directory → IdChainsStand dims (pages now) t → IsPageMap new)
      → (IsPageMap now → (t : IdChains) → t.page ≡ directory → IdChainsStand dims (pages now) t
      → AreNew (objects_of t) (drop count objects)
      → Fills dims (pages now) (pages new) t (take more (drop count objects)))
      → (IsPageMap now → (t : IdChains) → t.page ≡ directory → IdChainsStand dims (pages now) t
      → KeepsTidy dims (pages now) (pages new))
      → Filling dims directory old new objects (count + more)
  fills_on {dims} {directory} {old} {now} {objects} {count} so_far more new changes sound adds keep = record {
    changes = changes_in_turn old now new None so_far.changes changes;
    left = λ sound_old t at stands fresh.
        let f = so_far.left sound_old t at stands fresh in
        let filled = adds f.map_is f.table (f.page ∙ at) f.stands f.rest in
        let rest = drop count objects in
        record {
          table = filled.table;
          page = filled.page ∙ f.page;
          stands = filled.stands;
          map_is = sound f.map_is f.table (f.page ∙ at) f.stands;
          has = filled.objects ∙ ap (λ (k : FinMap nat_cmp Object). with_all k (take more rest)) f.has
              ∙ sym (with_all-append (objects_of t) (take count objects) (take more rest))
              ∙ ap (with_all (objects_of t)) (sym (take-add count more objects));
          rest = subst (AreNew (objects_of filled.table)) (drop-drop more count objects)
              (subst (λ (k : FinMap nat_cmp Object). AreNew k (drop more rest)) (sym filled.objects)
              (others_new more rest (objects_of f.table) f.rest));
          moves = moves_in_turn (pages old) (pages now) (pages new) (part_of t) (part_of f.table)
              (part_of filled.table) f.moves filled.moves;
          tidy = keep_in_turn dims (pages old) (pages now) (pages new) f.tidy
              (keep f.map_is f.table (f.page ∙ at) f.stands);
        };
  }

  -- all of them
  pub all_filled : (dims directory : ℕ) (old now : PageCache B A m) (objects : List Entry) (count : ℕ)
      → length objects ≤ count → Filling dims directory old now objects count
      → IsPageMap old → (t : IdChains) → t.page ≡ directory → IdChainsStand dims (pages old) t
      → AreNew (objects_of t) objects → Fills dims (pages old) (pages now) t objects
  all_filled dims directory old now objects count all so_far sound t at stands new =
      let f = so_far.left sound t at stands new in
      record {
        table = f.table;
        page = f.page;
        stands = f.stands;
        objects = f.has ∙ ap (with_all (objects_of t)) (take_whole objects count all);
        moves = f.moves;
      }
    where
      take_whole : (xs : List Entry) (n : ℕ) → length xs ≤ n → take n xs ≡ xs
      take_whole [] zero le = refl
      take_whole [] (suc n) le = refl
      take_whole (x ∷ xs) zero le = absurd (omega (arith, le))
      take_whole (x ∷ xs) (suc n) le = ap (λ l. x ∷ l) (take_whole xs n (omega (arith, le)))
