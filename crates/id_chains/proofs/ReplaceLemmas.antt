-- One chain of a table replaced by another.
use Rattle.std.proofs.Common.{◌≡◌, ◌∙◌, ℕ, ◌+◌, ◌<◌, ◌≤◌, false, cond, eqb, Option, Some, None, List, [], ◌∷◌}
use Rattle.std.proofs.Common.{length, set, sum_by, sym, ap, subst, ⊎_elim, arith}
use Rattle.box_math.specs.Objects.{Object}
use Rattle.std.proofs.lemmas.Bool.{cases_eq}
use Rattle.std.proofs.lemmas.Bool.Decides.{nat_tests}
use Rattle.std.proofs.lemmas.List.{get_or-set_other, get_or-set_same, length-set}
use Rattle.std.proofs.lemmas.List.Sums.{sum_by-set}
use Rattle.std.specs.FinMap.{get}
use Rattle.node_page.specs.Parts.{Moves}
use Rattle.node_page.specs.Standing.{PageMap}
use Rattle.id_words.specs.Objects.{kept_in}
use Rattle.id_chains.specs.Table.{Bucket, ChainStands, IdChains, IdChainsStand, IsDirectory, IsFilled}
use Rattle.id_chains.specs.Table.{bucket_in, chain_at, class_of, entries_in, link_at, objects_of}
use Rattle.id_chains.specs.Table.{occurs_in_chain, occurs_in_ids, part_of}
use Rattle.id_words.proofs.ObjectLemmas.{occurs_here}
use Rattle.id_chains.proofs.TableLemmas.{chain_in_table, found_by_class, table_there}

-- the table with another chain for a remainder
abbrev pub with_chain : IdChains → ℕ → List Bucket → IdChains
with_chain t class chain = record { page = t.page; chains = set t.chains class chain }

pub chain_stays : (dims : ℕ) (old new : PageMap) (first : ℕ) (bs : List Bucket)
    → ((n : ℕ) → 0 < occurs_in_chain n bs → new n ≡ old n) → ChainStands dims old first bs
    → ChainStands dims new first bs
chain_stays dims old new first [] same h = h
chain_stays dims old new first (b ∷ bs) same h = (
  h.0,
  h.1,
  h.2,
  ap (bucket_in dims) (same b.page (omega (arith, occurs_here b.page))) ∙ h.3,
  chain_stays dims old new h.2 bs (λ n p. same n (omega (arith, p))) h.4,
)

module _ (t : IdChains) (class : ℕ) (chain : List Bucket) (within : class < length t.chains) where
  -- its pages
  pub count_with : (n : ℕ)
      → occurs_in_ids n (with_chain t class chain) + occurs_in_chain n (chain_at t class) ≡ occurs_in_ids n
      t + occurs_in_chain n chain
  count_with n = omega (arith, sum_by-set (occurs_in_chain n) t.chains class chain [] within)

  -- its chains
  pub this_chain : chain_at (with_chain t class chain) class ≡ chain
  this_chain = get_or-set_same t.chains class chain [] within

  pub other_chain : (other : ℕ) → ¬ (other ≡ class)
      → chain_at (with_chain t class chain) other ≡ chain_at t other
  other_chain other differ = get_or-set_other t.chains class other chain [] differ

-- two chains of a table have no page twice
two_chains : (t : IdChains) (class other n : ℕ) → class < length t.chains → other < length t.chains
    → ¬ (other ≡ class)
    → occurs_in_chain n (chain_at t class) + occurs_in_chain n (chain_at t other) ≤ sum_by
    (occurs_in_chain n) t.chains
two_chains t class other n within there differ =
    let without = with_chain t class [] in
    let rest = chain_in_table n other without (omega (arith, there, length-set t.chains class [])) in
    let same : occurs_in_chain n (chain_at without other) ≡ occurs_in_chain n (chain_at t other) =
    ap (occurs_in_chain n) (other_chain t class [] within other differ) in
    omega (arith, rest, same, sum_by-set (occurs_in_chain n) t.chains class [] [] within)

pub record Replaces (dims : ℕ) (old new : PageMap) (t : IdChains) (was : List ℕ) (class : ℕ)
    (chain : List Bucket) : Type 0 where
  pub directory : List ℕ
  pub there : new t.page ≡ Some directory
  pub spelled : IsDirectory dims directory
  pub first : ChainStands dims new (link_at class directory) chain
  pub links : (other : ℕ) → ¬ (other ≡ class) → link_at other directory ≡ link_at other was
  pub filled : IsFilled class chain
  pub others : (n : ℕ) → ¬ (n ≡ t.page) → occurs_in_chain n (chain_at t class) ≡ 0
      → occurs_in_chain n chain ≡ 0 → new n ≡ old n
  pub came : (n : ℕ) → occurs_in_chain n (chain_at t class) ≡ 0 → 0 < occurs_in_chain n chain
      → (old n ≡ None) × (occurs_in_ids n t ≡ 0)
  pub went : (n : ℕ) → 0 < occurs_in_chain n (chain_at t class) → occurs_in_chain n chain ≡ 0 → new n ≡ None
  pub once : (n : ℕ) → occurs_in_chain n chain ≤ 1

module _ (dims : ℕ) (old new : PageMap) (t : IdChains) (class : ℕ) (chain : List Bucket)
    (within : class < 1000) (stands : IdChainsStand dims old t)
    (r : Replaces dims old new t stands.directory class chain) where
  here : class < length t.chains
  here = omega (arith, within, stands.whole)

  pub once_with : (n : ℕ) → occurs_in_ids n (with_chain t class chain) ≤ 1
  once_with n = ⊎_elim
      (λ (none : occurs_in_chain n (chain_at t class) ≡ 0). ⊎_elim
      (λ (neither : occurs_in_chain n chain ≡ 0). omega
      (arith, none, neither, count_with t class chain here n, stands.once n))
      (λ (new_one : ¬ (occurs_in_chain n chain ≡ 0)). let fresh = r.came n none (omega (arith, new_one)) in
      omega (arith, none, fresh.1, r.once n, count_with t class chain here n))
      (cases_eq (occurs_in_chain n chain) 0))
      (λ (some : ¬ (occurs_in_chain n (chain_at t class) ≡ 0)). omega
      (arith, some, r.once n, count_with t class chain here n, stands.once n))
      (cases_eq (occurs_in_chain n (chain_at t class)) 0)

  -- the other chains are on pages that stay
  stays : (other : ℕ) → other < 1000 → ¬ (other ≡ class) → (n : ℕ) → 0 < occurs_in_chain n (chain_at t other)
      → new n ≡ old n
  stays other small differ n there =
      let both = two_chains t class other n here (omega (arith, small, stands.whole)) differ in
      let part = chain_in_table n other t (omega (arith, small, stands.whole)) in
      let none : occurs_in_chain n (chain_at t class) ≡ 0 = omega (arith, both, there, stands.once n) in
      r.others n
      (λ is. let on_directory : ◌≡◌ {A = ℕ} (cond (eqb t.page n) 1 0) 1 =
      ap (λ k. cond (eqb t.page k) 1 0) is ∙ occurs_here t.page in
      omega (arith, on_directory, part, there, stands.once n))
      none
      (⊎_elim (λ (e : occurs_in_chain n chain ≡ 0). e)
      (λ (some : ¬ (occurs_in_chain n chain ≡ 0)). let fresh = r.came n none (omega (arith, some)) in
      absurd (omega (arith, fresh.1, part, there))) (cases_eq (occurs_in_chain n chain) 0))

  pub stands_with : IdChainsStand dims new (with_chain t class chain)
  stands_with = record {
    directory = r.directory;
    there = r.there;
    low = stands.low;
    spelled = r.spelled;
    whole = length-set t.chains class chain ∙ stands.whole;
    chains = λ other small. ⊎_elim
        (λ (is : other ≡ class). subst
        (λ k. ChainStands dims new (link_at k r.directory) (chain_at (with_chain t class chain) k))
        (sym is)
        (subst (λ c. ChainStands dims new (link_at class r.directory) c)
        (sym (this_chain t class chain here)) r.first))
        (λ (differ : ¬ (other ≡ class)). subst (λ c. ChainStands dims new (link_at other r.directory) c)
        (sym (other_chain t class chain here other differ))
        (subst (λ n. ChainStands dims new n (chain_at t other)) (sym (r.links other differ))
        (chain_stays dims old new (link_at other stands.directory) (chain_at t other)
        (stays other small differ) (stands.chains other small))))
        (cases_eq other class);
    filled = λ other small. ⊎_elim
        (λ (is : other ≡ class). subst (λ k. IsFilled k (chain_at (with_chain t class chain) k)) (sym is)
        (subst (IsFilled class) (sym (this_chain t class chain here)) r.filled))
        (λ (differ : ¬ (other ≡ class)). subst (IsFilled other)
        (sym (other_chain t class chain here other differ)) (stands.filled other small))
        (cases_eq other class);
    once = once_with;
  }

  pub moves_with : Moves old new (part_of t) (part_of (with_chain t class chain))
  moves_with = record {
    once = once_with;
    live = λ n here. table_there dims new (with_chain t class chain) n stands_with here;
    outside = λ n gone none.
        let part = chain_in_table n class t here in
        r.others n
        (λ is. let on_directory : ◌≡◌ {A = ℕ} (cond (eqb t.page n) 1 0) 1 =
        ap (λ k. cond (eqb t.page k) 1 0) is ∙ occurs_here t.page in omega (arith, on_directory, gone))
        (omega (arith, part, gone)) (omega (arith, gone, none, part, count_with t class chain here n));
    came = λ n gone some. let part = chain_in_table n class t here in
        (r.came n (omega (arith, part, gone))
        (omega (arith, gone, some, part, count_with t class chain here n))).0;
    went = λ n some none. ⊎_elim
        (λ (apart : occurs_in_chain n (chain_at t class) ≡ 0). absurd
        (omega (arith, apart, some, none, count_with t class chain here n)))
        (λ (there : ¬ (occurs_in_chain n (chain_at t class) ≡ 0)). r.went n (omega (arith, there))
        (⊎_elim (λ (e : occurs_in_chain n chain ≡ 0). e)
        (λ (kept : ¬ (occurs_in_chain n chain ≡ 0)). let part = chain_in_table n class t here in
        absurd (omega (arith, kept, none, part, count_with t class chain here n, stands.once n, there)))
        (cases_eq (occurs_in_chain n chain) 0)))
        (cases_eq (occurs_in_chain n (chain_at t class)) 0);
  }

-- ---- what it has, where its chain has another box for one identifier, or none, and is otherwise as before

pub found_with : (dims : ℕ) (old new : PageMap) (t : IdChains) (id : ℕ) (chain : List Bucket)
    (now : Option Object) → IdChainsStand dims old t → IdChainsStand dims new (with_chain t (class_of id) chain)
    → ((q : ℕ)
    → kept_in q (entries_in chain) ≡ cond (eqb id q) now (kept_in q (entries_in (chain_at t (class_of id)))))
    → (q : ℕ)
    → get (objects_of (with_chain t (class_of id) chain)) q ≡ cond (eqb id q) now (get (objects_of t) q)
found_with dims old new t id chain now stands after other q =
    found_by_class (with_chain t (class_of id) chain) q after.whole after.filled
    ∙ in_its_chain (omega (arith, stands.whole))
    ∙ ap (λ o. cond (eqb id q) now o) (sym (found_by_class t q stands.whole stands.filled))
  where
    other_key : ¬ (class_of q ≡ class_of id) → eqb id q ≡ false
    other_key differ =
        ⊎_elim (λ (is : id ≡ q). absurd (differ (ap class_of (sym is)))) (λ (no : ¬ (id ≡ q)). is_no id q no)
        (cases_eq id q)
      where
        is_no : (a b : ℕ) → ¬ (a ≡ b) → eqb a b ≡ false
        is_no a b h = grind (arith, nat_tests)

    in_its_chain : class_of id < length t.chains
        → kept_in q (entries_in (chain_at (with_chain t (class_of id) chain) (class_of q))) ≡ cond (eqb id q)
        now (kept_in q (entries_in (chain_at t (class_of q))))
    in_its_chain within = ⊎_elim
        (λ (is : class_of q ≡ class_of id).
        ap (λ k. kept_in q (entries_in (chain_at (with_chain t (class_of id) chain) k))) is
        ∙ ap (λ c. kept_in q (entries_in c)) (this_chain t (class_of id) chain within)
        ∙ other q ∙ ap (λ k. cond (eqb id q) now (kept_in q (entries_in (chain_at t k)))) (sym is))
        (λ (differ : ¬ (class_of q ≡ class_of id)).
        ap (λ c. kept_in q (entries_in c)) (other_chain t (class_of id) chain within (class_of q) differ)
        ∙ ap (λ b. cond b now (kept_in q (entries_in (chain_at t (class_of q))))) (sym (other_key differ)))
        (cases_eq (class_of q) (class_of id))
