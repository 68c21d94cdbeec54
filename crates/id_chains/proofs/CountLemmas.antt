-- How many pages a table has.
use Rattle.std.proofs.Common.{◌≡◌, ℕ, suc, ◌+◌, ◌*◌, ◌<◌, ◌≤◌, List, [], ◌∷◌, length, get_or, All, arith}
use Rattle.std.specs.Prelude.{drop, sum_by}
use Rattle.std.specs.List.{flat_map}
use Rattle.std.proofs.lemmas.List.{length-append}
use Rattle.std.proofs.lemmas.List.Elements.{All-head, All-tail}
use Rattle.std.proofs.lemmas.List.Sums.{sum_by-cons}
use Rattle.box_math.specs.Measures.{sum_over}
use Rattle.box_math.proofs.Growth.{sum_over-same}
use Rattle.node_page.specs.Parts.{both, one_page}
use Rattle.node_page.specs.Standing.{PageMap}
use Rattle.node_page.proofs.CountLemmas.{sum_both, sum_none, sum_one}
use Rattle.id_chains.specs.Table.{Bucket, IdChains, IdChainsStand, entries_in, entries_of, occurs_in_chain}
use Rattle.id_chains.specs.Table.{occurs_in_ids}

-- a chain has a page for each bucket
pages_of_chain : (limit : ℕ) (bs : List Bucket) → sum_over limit (λ n. occurs_in_chain n bs) ≤ length bs
pages_of_chain limit [] = omega (arith, sum_none limit)
pages_of_chain limit (b ∷ bs) =
    omega (
      arith,
      sum_both limit (one_page b.page) (λ n. occurs_in_chain n bs),
      sum_one limit b.page,
      pages_of_chain limit bs,
    )

-- full buckets have a hundred objects each
full_buckets : (bs : List Bucket) → All (λ (b : Bucket). length b.entries ≡ 100) bs
    → 100 * length bs ≤ length (entries_in bs)
full_buckets [] full = omega arith
full_buckets (b ∷ bs) full =
    let here : length b.entries ≡ 100 = All-head (λ (x : Bucket). length x.entries ≡ 100) b bs full in
    let later = full_buckets bs (All-tail (λ (x : Bucket). length x.entries ≡ 100) b bs full) in
    omega (arith, here, later, length-append b.entries (entries_in bs))

-- so has a chain but for its first bucket
long_chain : (bs : List Bucket) → All (λ (b : Bucket). length b.entries ≡ 100) (drop 1 bs)
    → 100 * length bs ≤ length (entries_in bs) + 100
long_chain [] full = omega arith
long_chain (b ∷ bs) full = omega (arith, full_buckets bs full, length-append b.entries (entries_in bs))

pages_of_chains : (limit : ℕ) (cs : List (List Bucket))
    → ((i : ℕ) → i < length cs → All (λ (b : Bucket). length b.entries ≡ 100) (drop 1 (get_or cs i [])))
    → 100 * sum_over limit (λ n. sum_by (occurs_in_chain n) cs) ≤ length
    (flat_map entries_in cs) + 100 * length cs
pages_of_chains limit [] full = omega (arith, sum_none limit)
pages_of_chains limit (c ∷ cs) full =
    let parts =
    sum_over-same limit (λ n. sum_by (occurs_in_chain n) (c ∷ cs))
    (both (λ n. occurs_in_chain n c) (λ n. sum_by (occurs_in_chain n) cs))
    (λ n lt. sum_by-cons (occurs_in_chain n) c cs) in
    omega (
      arith,
      parts,
      sum_both limit (λ n. occurs_in_chain n c) (λ n. sum_by (occurs_in_chain n) cs),
      pages_of_chain limit c,
      long_chain c (full 0 (omega arith)),
      pages_of_chains limit cs (λ i lt. full (suc i) (omega (arith, lt))),
      length-append (entries_in c) (flat_map entries_in cs),
    )

-- a table has its directory, a bucket for each hundred objects, and one more in each of its thousand chains
pub pages_of_ids : (dims limit : ℕ) (pages : PageMap) (t : IdChains) → IdChainsStand dims pages t
    → 100 * sum_over limit (λ n. occurs_in_ids n t) ≤ length (entries_of t) + 100100
pages_of_ids dims limit pages t stands =
    omega (
      arith,
      sum_both limit (one_page t.page) (λ n. sum_by (occurs_in_chain n) t.chains),
      sum_one limit t.page,
      pages_of_chains limit t.chains (λ i lt. (stands.filled i (omega (arith, lt, stands.whole))).full),
      stands.whole,
    )
