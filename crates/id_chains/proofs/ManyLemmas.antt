-- A run of objects more in a chain, and in the table.
use Rattle.std.proofs.Common.{◌≡◌, ◌∙◌, ℕ, ◌+◌, ◌<◌, ◌≤◌, All, get_or, is_some, rules, Bool, true, false}
use Rattle.std.proofs.Common.{cond, eqb, Option, Some, None, List, [], ◌∷◌, ◌++◌, length, refl, sym, ap}
use Rattle.std.proofs.Common.{subst, ⊎_elim, arith}
use Rattle.box_math.specs.Objects.{Object}
use Rattle.std.proofs.lemmas.Bool.{cases_eq}
use Rattle.std.proofs.lemmas.Bool.Decides.{nat_tests}
use Rattle.std.proofs.lemmas.Cmp.{nat_cmp_total}
use Rattle.std.proofs.lemmas.List.{append_assoc}
use Rattle.std.proofs.lemmas.List.Elements.{All-cons, All-head, All-tail}
use Rattle.std.specs.FinMap as map
use Rattle.std.specs.FinMap.{FinMap, get-from_entries, get-insert, nat_cmp-IsAntisymmetric, same_map}
use Rattle.std.specs.Ordering.{nat_cmp}
use Rattle.bucket_page.specs.Layout.{BucketContent, Entry}
use Rattle.page_file.specs.Pages.{SameBut}
use Rattle.node_page.specs.Standing.{PageMap}
use Rattle.id_words.specs.Objects.{AreNew, with_all, kept_in, times_in}
use Rattle.id_chains.specs.Changes.{Fills}
use Rattle.id_chains.specs.Pages.{BeginsFull, PutsBefore, first_class, with_more}
use Rattle.id_chains.specs.Table.{Bucket, ChainStands, IdChains, IdChainsStand, IsFilled, bucket_in}
use Rattle.id_chains.specs.Table.{chain_at, class_of, entries_in, entries_of, link_at, objects_of}
use Rattle.id_chains.specs.Table.{occurs_in_chain}
use Rattle.id_words.proofs.ObjectLemmas.{one_more, single_more, times_more, found_is, not_here, occurs_here}
use Rattle.id_words.proofs.ObjectLemmas.{same_key}
use Rattle.id_chains.proofs.AddLemmas.{all_both, not_in_chain, replaced_before}
use Rattle.id_chains.proofs.ReplaceLemmas.{Replaces, chain_stays, moves_with, other_chain, stands_with}
use Rattle.id_chains.proofs.ReplaceLemmas.{this_chain, with_chain}
use Rattle.id_chains.proofs.TableLemmas.{chain_in_table, elsewhere, found_by_class}

-- the objects have this remainder
abbrev pub AreOfClass : ℕ → List Entry → Type 0
AreOfClass class es = All (λ object. class_of object.0 ≡ class) es

-- none of the objects has an identifier that one after it has, or one of the others
abbrev pub AreApart : List Entry → List Entry → Type 0
AreApart others [] = Unit {0}
AreApart others (e ∷ es) = (kept_in e.0 (es ++ others) ≡ None) × AreApart others es

pub placed_more : (class : ℕ) (es : List Entry) (e : Entry) → AreOfClass class es → class_of e.0 ≡ class
    → AreOfClass class (es ++ e ∷ [])
placed_more class es e placed is =
    all_both (λ (object : Entry). class_of object.0 ≡ class) es (e ∷ []) placed
    (All-cons (λ (object : Entry). class_of object.0 ≡ class) e [] is (search rules))

pub first_class_is : (es : List Entry) (e : Entry) → 0 < length es → e ≡ get_or es 0 e
    → first_class es ≡ class_of e.0
first_class_is [] e some is = absurd (omega (arith, some))
first_class_is (x ∷ es) e some is = ap (λ (o : Entry). class_of o.0) (sym is)

-- ---- what is found

found_behind : (q : ℕ) (xs ys zs : List Entry) → kept_in q ys ≡ kept_in q zs
    → kept_in q (xs ++ ys) ≡ kept_in q (xs ++ zs)
found_behind q [] ys zs same = same
found_behind q (x ∷ xs) ys zs same = ap (λ o. cond (eqb x.0 q) (Some x.1) o) (found_behind q xs ys zs same)

-- objects between others are found as if they came first
found_between : (q : ℕ) (xs es ys : List Entry) → AreApart (xs ++ ys) es
    → kept_in q (xs ++ (es ++ ys)) ≡ kept_in q (es ++ (xs ++ ys))
found_between q xs [] ys apart = refl
found_between q xs (e ∷ es) ys apart =
    one_more q e xs (es ++ ys) (found_between e.0 xs es ys apart.1 ∙ apart.0)
    ∙ ap (λ o. cond (eqb e.0 q) (Some e.1) o) (found_between q xs es ys apart.1)

times_between : (q : ℕ) (xs es ys : List Entry)
    → times_in q (xs ++ (es ++ ys)) ≡ times_in q (es ++ (xs ++ ys))
times_between q xs [] ys = refl
times_between q xs (e ∷ es) ys = times_more q e xs (es ++ ys)
    ∙ ap (λ n. (cond (eqb e.0 q) 1 0) + n) (times_between q xs es ys)

single_all : (q : ℕ) (es ys : List Entry) → times_in q ys ≤ 1 → AreApart ys es → times_in q (es ++ ys) ≤ 1
single_all q [] ys single apart = single
single_all q (e ∷ es) ys single apart =
    single_more q e [] (es ++ ys) (single_all q es ys single apart.1) apart.0

placed_between : (P : Entry → Type 0) (xs es ys : List Entry) → All P (xs ++ ys) → All P es
    → All P (xs ++ (es ++ ys))
placed_between P [] es ys all more = all_both P es ys more all
placed_between P (x ∷ xs) es ys all more =
    All-cons P x (xs ++ (es ++ ys)) (All-head P x (xs ++ ys) all)
    (placed_between P xs es ys (All-tail P x (xs ++ ys) all) more)

-- ---- objects that are new to a map

module _ (m : FinMap nat_cmp Object) (e : Entry) where
  inserted : (q : ℕ) → map.get (map.insert m e.0 e.1) q ≡ cond (eqb e.0 q) (Some e.1) (map.get m q)
  inserted q = get-insert nat_cmp_total m e.0 e.1 q
      ∙ ap (λ b. cond b (Some e.1) (map.get m q)) (same_key q e.0)

  inserted_there : map.contains_key (map.insert m e.0 e.1) e.0 ≡ true
  inserted_there = ap is_some (inserted e.0) ∙ itself (eqb e.0 e.0) (map.get m e.0) (is_itself e.0)
    where
      is_itself : (n : ℕ) → eqb n n ≡ true
      is_itself n = grind (arith, nat_tests)

      itself : (b : Bool) (o : Option Object) → b ≡ true → is_some (cond b (Some e.1) o) ≡ true
      itself true o is = refl
      itself false o is = absurd (cc)

  still_there : (q : ℕ) → map.contains_key m q ≡ true → map.contains_key (map.insert m e.0 e.1) q ≡ true
  still_there q there = ap is_some (inserted q) ∙ either (eqb e.0 q) (map.get m q) there
    where
      either : (b : Bool) (o : Option Object) → is_some o ≡ true → is_some (cond b (Some e.1) o) ≡ true
      either true o is = refl
      either false o is = is

  absent_before : (q : ℕ) → map.contains_key (map.insert m e.0 e.1) q ≡ false → map.contains_key m q ≡ false
  absent_before q absent = neither (eqb e.0 q) (map.get m q) (sym (ap is_some (inserted q)) ∙ absent)
    where
      neither : (b : Bool) (o : Option Object) → is_some (cond b (Some e.1) o) ≡ false → is_some o ≡ false
      neither true o is = absurd (cc)
      neither false o is = is

is_none : (o : Option Object) → is_some o ≡ false → o ≡ None
is_none None e = refl
is_none (Some x) e = absurd (cc)

none_of_new : (k : ℕ) (es : List Entry) (m : FinMap nat_cmp Object) → AreNew m es
    → map.contains_key m k ≡ true → kept_in k es ≡ None
none_of_new k [] m new there = refl
none_of_new k (e ∷ es) m new there =
    ap (λ b. cond b (Some e.1) (kept_in k es))
    (⊎_elim (λ (is : e.0 ≡ k). differs is) (λ (other : ¬ (e.0 ≡ k)). is_no e.0 k other) (cases_eq e.0 k))
    ∙ none_of_new k es (map.insert m e.0 e.1) new.1 (still_there m e k there)
  where
    differs : e.0 ≡ k → eqb e.0 k ≡ false
    differs is = let both : true ≡ false = sym there ∙ ap (map.contains_key m) (sym is) ∙ new.0 in absurd (cc)

    is_no : (a b : ℕ) → ¬ (a ≡ b) → eqb a b ≡ false
    is_no a b h = grind (arith, nat_tests)

-- new objects are apart from those of a chain that has none but those of the map
apart_of_new : (class : ℕ) (es : List Entry) (m : FinMap nat_cmp Object) (ys : List Entry) → AreNew m es
    → AreOfClass class es
    → ((q : ℕ) → class_of q ≡ class → map.contains_key m q ≡ false → kept_in q ys ≡ None) → AreApart ys es
apart_of_new class [] m ys new placed none = tt
apart_of_new class (e ∷ es) m ys new placed none = (
  not_here e.0 es ys (none_of_new e.0 es (map.insert m e.0 e.1) new.1 (inserted_there m e))
      ∙ none e.0 (All-head (λ (object : Entry). class_of object.0 ≡ class) e es placed) new.0,
  apart_of_new class es (map.insert m e.0 e.1) ys new.1
      (All-tail (λ (object : Entry). class_of object.0 ≡ class) e es placed)
      (λ q is absent. none q is (absent_before m e q absent)),
)

found_with_all : (es : List Entry) (m : FinMap nat_cmp Object) (ys : List Entry) → AreNew m es
    → ((q : ℕ) → map.get m q ≡ kept_in q ys) → (q : ℕ) → map.get (with_all m es) q ≡ kept_in q (es ++ ys)
found_with_all [] m ys new is q = is q
found_with_all (e ∷ es) m ys new is q =
    found_with_all es (map.insert m e.0 e.1) (e ∷ ys) new.1
    (λ k. inserted m e k ∙ ap (λ o. cond (eqb e.0 k) (Some e.1) o) (is k)) q
    ∙ one_more q e es ys
    (not_here e.0 es ys (none_of_new e.0 es (map.insert m e.0 e.1) new.1 (inserted_there m e))
    ∙ sym (is e.0) ∙ is_none (map.get m e.0) new.0)

-- ---- the table

-- a table with a chain that has the objects more
module _ (dims : ℕ) (old new : PageMap) (t : IdChains) (class : ℕ) (es : List Entry)
    (stands : IdChainsStand dims old t) (small : class < 1000) (fresh : AreNew (objects_of t) es)
    (placed : AreOfClass class es) where
  pub apart_from_chain : AreApart (entries_in (chain_at t class)) es
  apart_from_chain = apart_of_new class es (objects_of t) (entries_in (chain_at t class)) fresh placed
      (λ q is absent. subst (λ k. kept_in q (entries_in (chain_at t k)) ≡ None) is
      (not_in_chain dims old t q stands absent))

  pub single_in_chain : (q : ℕ) → times_in q (es ++ entries_in (chain_at t class)) ≤ 1
  single_in_chain q =
      single_all q es (entries_in (chain_at t class)) ((stands.filled class small).single q) apart_from_chain

  pub fills : (chain : List Bucket) → Replaces dims old new t stands.directory class chain
      → ((q : ℕ) → kept_in q (entries_in chain) ≡ kept_in q (es ++ entries_in (chain_at t class)))
      → Fills dims old new t es
  fills chain r more =
      let within : class < length t.chains = omega (arith, small, stands.whole) in
      let after = stands_with dims old new t class chain small stands r in
      record {
        table = with_chain t class chain;
        page = refl;
        stands = after;
        objects =
            same_map nat_cmp_total nat_cmp-IsAntisymmetric (objects_of (with_chain t class chain))
            (with_all (objects_of t) es) (λ q.
            found_by_class (with_chain t class chain) q after.whole after.filled ∙ each within q
            ∙ sym (found_with_all es (objects_of t) (entries_of t) fresh
            (λ k. get-from_entries nat_cmp_total (entries_of t) k ∙ found_is k (entries_of t)) q));
        moves = moves_with dims old new t class chain small stands r;
      }
    where
      in_table : (q : ℕ) → kept_in q (entries_in (chain_at t (class_of q))) ≡ kept_in q (entries_of t)
      in_table q = sym (found_by_class t q stands.whole stands.filled)
          ∙ get-from_entries nat_cmp_total (entries_of t) q ∙ found_is q (entries_of t)

      each : class < length t.chains → (q : ℕ)
          → kept_in q (entries_in (chain_at (with_chain t class chain) (class_of q))) ≡ kept_in q
          (es ++ entries_of t)
      each within q = ⊎_elim
          (λ (is : class_of q ≡ class).
          ap (λ k. kept_in q (entries_in (chain_at (with_chain t class chain) k))) is
          ∙ ap (λ c. kept_in q (entries_in c)) (this_chain t class chain within)
          ∙ more q
          ∙ found_behind q es (entries_in (chain_at t class)) (entries_of t)
          (ap (λ k. kept_in q (entries_in (chain_at t k))) (sym is) ∙ in_table q))
          (λ (differ : ¬ (class_of q ≡ class)).
          ap (λ c. kept_in q (entries_in c)) (other_chain t class chain within (class_of q) differ)
          ∙ in_table q
          ∙ sym (not_here q es (entries_of t) (elsewhere q class es placed differ)))
          (cases_eq (class_of q) class)

-- a chain with objects more in its first bucket
filled_more : (class page : ℕ) (xs : List Entry) (bs : List Bucket) (es : List Entry)
    → IsFilled class (record { page = page; entries = xs } ∷ bs) → AreOfClass class es
    → AreApart (xs ++ entries_in bs) es
    → IsFilled class (record { page = page; entries = xs ++ es } ∷ bs)
filled_more class page xs bs es filled placed apart =
    let same = append_assoc xs es (entries_in bs) in
    record {
      full = filled.full;
      placed =
          subst (AreOfClass class) (sym same)
          (placed_between (λ (object : Entry). class_of object.0 ≡ class) xs es (entries_in bs) filled.placed
          placed);
      single =
          λ q. subst (λ (all : List Entry). times_in q all ≤ 1) (sym (same))
          (let moved = times_between q xs es (entries_in bs) in
          omega (arith, moved, single_all q es (xs ++ entries_in bs) (filled.single q) apart));
    }

module _ (dims : ℕ) (old new : PageMap) (t : IdChains) (class : ℕ) (es : List Entry) (first : ℕ)
    (c : BucketContent) (stands : IdChainsStand dims old t) (small : class < 1000)
    (fresh : AreNew (objects_of t) es) (placed : AreOfClass class es)
    (link : first ≡ link_at class stands.directory) (read : bucket_in dims (old first) ≡ Some c)
    (written : bucket_in dims (new first) ≡ Some (with_more c es)) (same : SameBut first old new) where
  filled_in_place : (b : Bucket) (bs : List Bucket) → chain_at t class ≡ b ∷ bs
      → ChainStands dims old first (b ∷ bs) → IsFilled class (b ∷ bs) → AreApart (entries_in (b ∷ bs)) es
      → Fills dims old new t es
  filled_in_place b bs is chain filled apart =
      let within : class < length t.chains = omega (arith, small, stands.whole) in
      let longer : Bucket = record { page = b.page; entries = b.entries ++ es } in
      let counts : (n : ℕ)
      → occurs_in_chain n (chain_at t class) ≡ occurs_in_chain n (b ∷ bs) =
      λ n. ap (occurs_in_chain n) is in
      let part : (n : ℕ)
      → occurs_in_chain n (b ∷ bs) ≤ 1 = λ n. let whole = chain_in_table n class t within in
      omega (arith, whole, counts n, stands.once n) in
      let same_content : c ≡ record { next = chain.2; entries = b.entries } = let was = chain.3 in
      let at = chain.0 in cc in
      fills dims old new t class es stands small fresh placed (longer ∷ bs)
      (record {
        directory = stands.directory;
        there = same t.page (λ e.
            let at : t.page ≡ b.page = e ∙ chain.0 in
            let on_directory : ◌≡◌ {A = ℕ} (cond (eqb t.page b.page) 1 0) 1 =
            ap (λ k. cond (eqb t.page k) 1 0) (sym at) ∙ occurs_here t.page in
            let whole = chain_in_table b.page class t within in
            omega (arith, on_directory, stands.once b.page, whole, counts b.page, occurs_here b.page))
            ∙ stands.there;
        spelled = stands.spelled;
        first = subst (λ n. ChainStands dims new n (longer ∷ bs)) link (
          chain.0,
          chain.1,
          chain.2,
          ap (λ n. bucket_in dims (new n)) (sym chain.0) ∙ written
              ∙ ap (λ (k : BucketContent). Some (with_more k es)) same_content,
          chain_stays dims old new chain.2 bs
              (λ n p. same n
              (λ e. let at : n ≡ b.page = e ∙ chain.0 in
              let here : ◌≡◌ {A = ℕ} (cond (eqb b.page n) 1 0) 1 = ap (λ k. cond (eqb b.page k) 1 0) at
              ∙ occurs_here b.page in omega (arith, here, p, part n))) chain.4,
        );
        links = λ other differ. refl;
        filled = filled_more class b.page b.entries bs es filled placed apart;
        others =
            λ n apart gone none'. same n
            (λ e. let at : n ≡ b.page = e ∙ chain.0 in
            let here : ◌≡◌ {A = ℕ} (cond (eqb b.page n) 1 0) 1 = ap (λ k. cond (eqb b.page k) 1 0) at
            ∙ occurs_here b.page in omega (arith, here, none'));
        came = λ n gone some. absurd (omega (arith, gone, some, counts n));
        went = λ n some gone. absurd (omega (arith, gone, some, counts n));
        once = part;
      })
      (λ q. ap (kept_in q) (append_assoc b.entries es (entries_in bs))
      ∙ found_between q b.entries es (entries_in bs) apart
      ∙ ap (λ (k : List Bucket). kept_in q (es ++ entries_in k)) (sym is))

  -- the table with the objects more, in the first page of their chain
  pub fills_in_place : ¬ (first ≡ 0) → Fills dims old new t es
  fills_in_place some =
      go (chain_at t class) refl
      (subst (λ n. ChainStands dims old n (chain_at t class)) (sym link) (stands.chains class small))
      (stands.filled class small) (apart_from_chain dims old new t class es stands small fresh placed)
    where
      go : (chain : List Bucket) → chain_at t class ≡ chain → ChainStands dims old first chain
          → IsFilled class chain → AreApart (entries_in chain) es → Fills dims old new t es
      go [] is chain filled apart = absurd (some chain)
      go (b ∷ bs) is chain filled apart = filled_in_place b bs is chain filled apart

-- the table with the objects more, in a page of their own
pub fills_before : (dims : ℕ) (old new : PageMap) (t : IdChains) (class : ℕ) (es : List Entry) (first : ℕ)
    → (stands : IdChainsStand dims old t) → class < 1000 → AreNew (objects_of t) es → AreOfClass class es
    → first ≡ link_at class stands.directory
    → PutsBefore dims old new t.page class first es stands.directory → BeginsFull (chain_at t class)
    → Fills dims old new t es
fills_before dims old new t class es first stands small fresh placed link put full =
    fills dims old new t class es stands small fresh placed
    (record { page = put.number; entries = es } ∷ chain_at t class)
    (replaced_before dims old new t class first es stands small link put full placed
    (single_in_chain dims old new t class es stands small fresh placed))
    (λ q. refl)
