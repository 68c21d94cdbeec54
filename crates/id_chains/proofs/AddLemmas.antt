-- An object more in a chain, and in the table.
use Rattle.std.proofs.Common.{◌≡◌, ◌∙◌, ℕ, ◌<◌, ◌≤◌, All, drop, is_some, rules, true, false, cond}
use Rattle.std.proofs.Common.{eqb, Option, Some, None, IsSome, List, [], ◌∷◌, ◌++◌, length, sum_by, refl, sym}
use Rattle.std.proofs.Common.{ap, subst, ⊎_elim, arith}
use Rattle.box_math.specs.Objects.{Object}
use Rattle.bucket_page.specs.Layout.{Entry}
use Rattle.std.proofs.lemmas.Bool.{cases_eq}
use Rattle.std.proofs.lemmas.List.Elements.{All-cons, All-head, All-tail}
use Rattle.std.specs.FinMap as map
use Rattle.node_page.specs.Standing.{PageMap}
use Rattle.id_words.specs.Objects.{kept_in, times_in}
use Rattle.id_chains.specs.Table.{Bucket, ChainStands, IdChains, IdChainsStand, chain_at, class_of}
use Rattle.id_chains.specs.Table.{entries_in, link_at, objects_of, occurs_in_chain, occurs_in_ids}
use Rattle.id_chains.specs.Pages.{BeginsFull, HasObject, PutsBefore}
use Rattle.node_page.proofs.PartLemmas.{there_not_missing}
use Rattle.id_chains.proofs.ReplaceLemmas.{Replaces, chain_stays}
use Rattle.id_words.proofs.ObjectLemmas.{not_there, occurs_here}
use Rattle.id_chains.proofs.TableLemmas.{chain_in_table, found_by_class, table_there}

-- an object that the table does not have is not in its chain
pub not_in_chain : (dims : ℕ) (pages : PageMap) (t : IdChains) (id : ℕ) → IdChainsStand dims pages t
    → map.contains_key (objects_of t) id ≡ false → kept_in id (entries_in (chain_at t (class_of id))) ≡ None
not_in_chain dims pages t id stands absent = sym (found_by_class t id stands.whole stands.filled)
    ∙ is_none (map.get (objects_of t) id) absent
  where
    is_none : (b : Option Object) → is_some b ≡ false → b ≡ None
    is_none None e = refl
    is_none (Some x) e = absurd (cc)

-- and one that it has is
pub in_chain : (dims : ℕ) (pages : PageMap) (t : IdChains) (id : ℕ) → IdChainsStand dims pages t
    → map.contains_key (objects_of t) id ≡ true → HasObject id (chain_at t (class_of id))
in_chain dims pages t id stands there = subst IsSome (found_by_class t id stands.whole stands.filled) there

-- a page that was not there is in no table that stands
pub fresh_page : (dims : ℕ) (pages : PageMap) (t : IdChains) (n : ℕ) → IdChainsStand dims pages t → pages n ≡ None
    → occurs_in_ids n t ≡ 0
fresh_page dims pages t n stands none = ⊎_elim
    (λ (e : occurs_in_ids n t ≡ 0). e)
    (λ (some : ¬ (occurs_in_ids n t ≡ 0)). absurd
    (there_not_missing (pages n) (table_there dims pages t n stands (omega (arith, some))) none))
    (cases_eq (occurs_in_ids n t) 0)

all_full : (chain : List Bucket) → BeginsFull chain → All (λ b. length b.entries ≡ 100) (drop 1 chain)
    → All (λ b. length b.entries ≡ 100) chain
all_full [] first rest = search rules
all_full (b ∷ bs) first rest = All-cons (λ (b : Bucket). length b.entries ≡ 100) b bs first rest

pub all_both : (P : Entry → Type 0) (xs ys : List Entry) → All P xs → All P ys → All P (xs ++ ys)
all_both P [] ys here there = there
all_both P (x ∷ xs) ys here there =
    All-cons P x (xs ++ ys) (All-head P x xs here) (all_both P xs ys (All-tail P x xs here) there)

pub replaced_before : (dims : ℕ) (old new : PageMap) (t : IdChains) (class first : ℕ) (es : List Entry)
    → (stands : IdChainsStand dims old t) → class < 1000 → first ≡ link_at class stands.directory
    → (put : PutsBefore dims old new t.page class first es stands.directory) → BeginsFull (chain_at t class)
    → All (λ object. class_of object.0 ≡ class) es
    → ((id : ℕ) → times_in id (es ++ entries_in (chain_at t class)) ≤ 1)
    → Replaces dims old new t stands.directory class
    (record { page = put.number; entries = es } ∷ chain_at t class)
replaced_before dims old new t class first es stands small link put full placed single =
    let chain = chain_at t class in
    let within : class < length t.chains = omega (arith, small, stands.whole) in
    let unused : occurs_in_ids put.number t ≡ 0 = fresh_page dims old t put.number stands put.fresh in
    let part : (n : ℕ)
    → occurs_in_chain n chain ≤ sum_by (occurs_in_chain n) t.chains =
    λ n. chain_in_table n class t within in
    let apart : (n : ℕ) → 0 < occurs_in_chain n chain
    → ¬ (n ≡ put.number) = λ n here is. let p = part put.number in
    let e : occurs_in_chain n chain ≡ occurs_in_chain put.number chain =
    ap (λ k. occurs_in_chain k chain) is in omega (arith, e, here, p, unused) in
    let off_directory : (n : ℕ) → 0 < occurs_in_chain n chain → ¬ (n ≡ t.page) = λ n here is.
    let on_directory : ◌≡◌ {A = ℕ} (cond (eqb t.page n) 1 0) 1 = ap (λ k. cond (eqb t.page k) 1 0) is
    ∙ occurs_here t.page in
    let p = part n in omega (arith, on_directory, here, p, stands.once n) in
    let number_of : (n : ℕ) → occurs_in_chain n chain ≡ 0
    → 0 < occurs_in_chain n (record { page = put.number; entries = es } ∷ chain) → n ≡ put.number
    = λ n none some. ⊎_elim (λ (is : put.number ≡ n). sym is)
    (λ (other : ¬ (put.number ≡ n)). let no = not_there put.number n other in
    absurd (omega (arith, none, some, no))) (cases_eq put.number n) in
    record {
      directory = put.after;
      there = put.there;
      spelled =
          record {
            kind = put.link.kind ∙ stands.spelled.kind;
            dims_is = put.link.dims_is ∙ stands.spelled.dims_is;
          };
      first = (
        put.link.link,
        omega (arith, put.low, put.link.link),
        first,
        put.bucket,
        chain_stays dims old new first chain (λ n here. put.others n (apart n here) (off_directory n here))
            (subst (λ n. ChainStands dims old n chain) (sym link) (stands.chains class small)),
      );
      links = put.link.others;
      filled = record {
        full = all_full chain full (stands.filled class small).full;
        placed =
            all_both (λ (object : Entry). class_of object.0 ≡ class) es (entries_in chain) placed
            (stands.filled class small).placed;
        single = single;
      };
      others =
          λ n off gone none. put.others n
          (λ is. let here : ◌≡◌ {A = ℕ} (cond (eqb put.number n) 1 0) 1 =
          ap (λ k. cond (eqb put.number k) 1 0) is ∙ occurs_here put.number in omega (arith, here, none)) off;
      came = λ n gone some. let is = number_of n gone some in
          (ap old is ∙ put.fresh, ap (λ k. occurs_in_ids k t) is ∙ unused);
      went = λ n some none. absurd (omega (arith, some, none));
      once = λ n. ⊎_elim
          (λ (is : put.number ≡ n). let p = part n in
          let zero_here : occurs_in_ids n t ≡ 0 = ap (λ k. occurs_in_ids k t) (sym is) ∙ unused in
          let one : ◌≡◌ {A = ℕ} (cond (eqb put.number n) 1 0) 1 =
          ap (λ k. cond (eqb put.number k) 1 0) (sym is) ∙ occurs_here put.number in
          omega (arith, p, zero_here, one))
          (λ (other : ¬ (put.number ≡ n)). let no = not_there put.number n other in let p = part n in
          omega (arith, no, p, stands.once n))
          (cases_eq put.number n);
    }

-- the same, from pages that are equal
pub puts_from : (dims : ℕ) (old mid new : PageMap) (directory class first : ℕ) (es : List Entry)
    (page : List ℕ) → ((n : ℕ) → mid n ≡ old n)
    → PutsBefore dims mid new directory class first es page
    → PutsBefore dims old new directory class first es page
puts_from dims old mid new directory class first es page same put = record {
  number = put.number;
  low = put.low;
  fresh = sym (same put.number) ∙ put.fresh;
  bucket = put.bucket;
  tidy = put.tidy;
  after = put.after;
  there = put.there;
  link = put.link;
  others = λ k a b. put.others k a b ∙ same k;
}
