-- What holds of tables of chains.
use Rattle.std.proofs.Common.{◌≡◌, ◌∙◌, ℕ, suc, ◌+◌, ◌<◌, ◌≤◌, Option, Some, None, List, [], ◌∷◌}
use Rattle.std.proofs.Common.{length, get_or, All, refl, sym, ap, subst, ⊎_elim, inl, inr, arith}
use Rattle.std.specs.Prelude.{◌⊎◌}
use Rattle.std.specs.List.{flat_map}
use Rattle.std.proofs.lemmas.Bool.{cases_eq}
use Rattle.block_bytes.specs.Kinds.{directory_kind}
use Rattle.bucket_page.specs.Layout.{BucketContent, Entry}
use Rattle.bucket_page.proofs.Reading.{spells}
use Rattle.page_file.specs.Layout.{kind_of}
use Rattle.node_bytes.specs.Layout.{IsNodeKind}
use Rattle.node_page.specs.Standing.{PageMap}
use Rattle.id_words.specs.Objects.{times_in}
use Rattle.id_words.proofs.ObjectLemmas.{none_times, not_there, occurs_here, times-append}
use Rattle.id_chains.specs.Table.{Bucket, ChainStands, IdChains, IdChainsStand, IsDirectory, bucket_in, chain_at}
use Rattle.id_chains.specs.Table.{class_of, entries_in, entries_of, link_at, occurs_in_chain, occurs_in_ids}
use Rattle.id_chains.proofs.CheckedLemmas.{one_chain}
use Rattle.id_chains.proofs.ReplaceLemmas.{chain_stays}
use Rattle.id_chains.proofs.TableLemmas.{chain_in_table, elsewhere, in_some_chain}

-- ---- pages

-- chains stand in pages that are equal where they stand
pub chains_stay : (dims : ℕ) (old new : PageMap) (t : IdChains)
    → ((n : ℕ) → 0 < occurs_in_ids n t → new n ≡ old n) → IdChainsStand dims old t → IdChainsStand dims new t
chains_stay dims old new t same s = record {
  directory = s.directory;
  there = (let here = occurs_here t.page in same t.page (omega (arith, here))) ∙ s.there;
  low = s.low;
  spelled = s.spelled;
  whole = s.whole;
  chains = λ class within. chain_stays dims old new (link_at class s.directory) (chain_at t class)
      (λ n here. same n (omega (arith, here, chain_in_table n class t (omega (arith, within, s.whole)))))
      (s.chains class within);
  filled = s.filled;
  once = s.once;
}

-- a page that is there, and no node
abbrev pub IsOther : Option (List ℕ) → Type 0
IsOther page = (bytes : List ℕ) × (page ≡ Some bytes) × (IsNodeKind (kind_of bytes) → ⊥)

bucket_is_other : (dims : ℕ) (page : Option (List ℕ)) (c : BucketContent) → bucket_in dims page ≡ Some c
    → IsOther page
bucket_is_other dims None c is = absurd (cc)
bucket_is_other dims (Some bytes) c is = (bytes, refl, λ node. apart (spells dims bytes c is).head.kind node)
  where
    apart : {kind : ℕ} → (kind ≡ 7) ⊎ (kind ≡ 4) → IsNodeKind kind → ⊥
    apart (inl a) (inl b) = omega (arith, a, b)
    apart (inl a) (inr b) = omega (arith, a, b)
    apart (inr a) (inl b) = omega (arith, a, b)
    apart (inr a) (inr b) = omega (arith, a, b)

directory_is_other : (dims : ℕ) (page : Option (List ℕ)) (bytes : List ℕ) → page ≡ Some bytes
    → IsDirectory dims bytes → IsOther page
directory_is_other dims page bytes is spelled = (bytes, is, λ node. apart spelled.kind node)
  where
    apart : {kind : ℕ} → kind ≡ directory_kind → IsNodeKind kind → ⊥
    apart a (inl b) = omega (arith, a, b)
    apart a (inr b) = omega (arith, a, b)

chain_is_other : (dims : ℕ) (pages : PageMap) (first : ℕ) (bs : List Bucket) (n : ℕ)
    → ChainStands dims pages first bs → 0 < occurs_in_chain n bs → IsOther (pages n)
chain_is_other dims pages first [] n stands here = absurd (omega (arith, here))
chain_is_other dims pages first (b ∷ bs) n stands here = ⊎_elim
    (λ (is : b.page ≡ n). subst (λ k. IsOther (pages k)) is (bucket_is_other dims (pages b.page) _ stands.3))
    (λ (other : ¬ (b.page ≡ n)). chain_is_other dims pages stands.2 bs n stands.4
    (let none = not_there b.page n other in omega (arith, here, none)))
    (cases_eq b.page n)

-- none of their pages is a node
pub chains_are_other : (dims : ℕ) (pages : PageMap) (t : IdChains) (n : ℕ) → IdChainsStand dims pages t
    → 0 < occurs_in_ids n t → IsOther (pages n)
chains_are_other dims pages t n stands here = ⊎_elim
    (λ (is : t.page ≡ n). subst (λ k. IsOther (pages k)) is
    (directory_is_other dims (pages t.page) stands.directory stands.there stands.spelled))
    (λ (other : ¬ (t.page ≡ n)).
    let none = not_there t.page n other in
    let chain = in_some_chain n t.chains (omega (arith, here, none)) in
    let small : chain.0 < 1000 = omega (arith, chain.1, stands.whole) in
    chain_is_other dims pages (link_at chain.0 stands.directory) (chain_at t chain.0) n
    (stands.chains chain.0 small) chain.2)
    (cases_eq t.page n)

-- ---- one table of chains stands at a page

same_lists : {X : Type 0} (xs ys : List X) (d : X) → length xs ≡ length ys
    → ((k : ℕ) → k < length xs → get_or xs k d ≡ get_or ys k d) → xs ≡ ys
same_lists [] [] d many same = refl
same_lists [] (y ∷ ys) d many same = absurd (omega (arith, many))
same_lists (x ∷ xs) [] d many same = absurd (omega (arith, many))
same_lists (x ∷ xs) (y ∷ ys) d many same =
    let first = same 0 (omega arith) in
    let rest = same_lists xs ys d (omega (arith, many)) (λ k lt. same (suc k) (omega (arith, lt))) in
    cc

pub one_of_chains : (dims : ℕ) (m : PageMap) (s t : IdChains) → s.page ≡ t.page → IdChainsStand dims m s
    → IdChainsStand dims m t → s ≡ t
one_of_chains dims m s t at a b =
    let there : ◌≡◌ {A = Option (List ℕ)} (Some a.directory) (Some b.directory) = sym a.there ∙ ap m at
    ∙ b.there in
    let same : ◌≡◌ {A = List ℕ} a.directory b.directory = cc in
    let chains = same_lists s.chains t.chains [] (a.whole ∙ sym b.whole) (λ class lt.
    one_chain dims m (link_at class a.directory) (get_or s.chains class []) (get_or t.chains class [])
    (a.chains class (omega (arith, lt, a.whole)))
    (subst (λ (d : List ℕ). ChainStands dims m (link_at class d) (get_or t.chains class [])) (sym same)
    (b.chains class (omega (arith, lt, a.whole))))) in
    ap (λ (p : ℕ). record { page = p; chains = s.chains }) at
    ∙ ap (λ (cs : List (List Bucket)). record { page = t.page; chains = cs }) chains

-- ---- they have each identifier once

abbrev IsOfClass : ℕ → Entry → Type 0
IsOfClass class object = class_of object.0 ≡ class

-- in chains of remainders from one on, an identifier is once, and not at all where its remainder lies before
-- them
once_in_chains : (q class : ℕ) (cs : List (List Bucket))
    → ((i : ℕ) → i < length cs → All (IsOfClass (class + i)) (entries_in (get_or cs i [])))
    → ((i : ℕ) → i < length cs → times_in q (entries_in (get_or cs i [])) ≤ 1)
    → (times_in q (flat_map entries_in cs) ≤ 1)
    × (class_of q < class → times_in q (flat_map entries_in cs) ≡ 0)
once_in_chains q class [] placed single = (omega arith, λ before. refl)
once_in_chains q class (c ∷ cs) placed single =
    let here : All (IsOfClass class) (entries_in c) =
    (let same : class + 0 ≡ class = omega arith in
    subst (λ (k : ℕ). All (IsOfClass k) (entries_in c)) same (placed 0 (omega arith))) in
    let later = once_in_chains q (class + 1) cs
    (λ i lt. let next : class + suc i ≡ (class + 1) + i = omega arith in
    subst (λ (k : ℕ). All (IsOfClass k) (entries_in (get_or cs i []))) next
    (placed (suc i) (omega (arith, lt))))
    (λ i lt. single (suc i) (omega (arith, lt))) in
    let none : ¬ (class_of q ≡ class)
    → times_in q (entries_in c) ≡ 0 =
    λ other. none_times q (entries_in c) (elsewhere q class (entries_in c) here other) in
    let sum = times-append q (entries_in c) (flat_map entries_in cs) in (
      ⊎_elim
          (λ (is : class_of q ≡ class). omega
          (arith, sum, single 0 (omega arith), later.1 (omega (arith, is))))
          (λ (other : ¬ (class_of q ≡ class)). omega (arith, sum, none other, later.0))
          (cases_eq (class_of q) class),
      λ before. omega (arith, sum, none (λ is. omega (arith, is, before)), later.1 (omega (arith, before))),
    )

pub once_in_all_chains : (dims : ℕ) (pages : PageMap) (t : IdChains) (q : ℕ) → IdChainsStand dims pages t
    → times_in q (entries_of t) ≤ 1
once_in_all_chains dims pages t q stands =
    (once_in_chains q 0 t.chains
    (λ i lt. let same : i ≡ 0 + i = omega arith in
    subst (λ (k : ℕ). All (IsOfClass k) (entries_in (get_or t.chains i []))) same
    (stands.filled i (omega (arith, lt, stands.whole))).placed)
    (λ i lt. (stands.filled i (omega (arith, lt, stands.whole))).single q)).0
