-- A chain in which one object has been written into the place of another.
use Rattle.std.proofs.Common.{◌≡◌, ◌∙◌, ℕ, ◌<◌, ◌≤◌, All, set, Some, List, [], ◌∷◌, ◌++◌, length, refl, sym}
use Rattle.std.proofs.Common.{ap, arith}
use Rattle.std.proofs.lemmas.List.{append_assoc}
use Rattle.std.proofs.lemmas.List.Elements.{All-cons, All-head, All-tail}
use Rattle.bucket_page.specs.Layout.{BucketContent, replaced, Entry}
use Rattle.page_file.specs.Pages.{SameBut}
use Rattle.node_page.specs.Standing.{PageMap}
use Rattle.id_chains.specs.Table.{Bucket, ChainStands, bucket_in, occurs_in_chain}
use Rattle.id_chains.proofs.PlaceLemmas.{here_at, occurs-append}
use Rattle.id_chains.proofs.ReplaceLemmas.{chain_stays}

-- the bucket at a page has an object in a place, and all other pages stay
pub record PutsAt (dims : ℕ) (old new : PageMap) (page place : ℕ) (x : Entry) : Type 0 where
  pub others : SameBut page old new
  pub written : (c : BucketContent) → bucket_in dims (old page) ≡ Some c → place < length c.entries
      → bucket_in dims (new page) ≡ Some (replaced c place x)

-- a chain stands with another bucket on one of its pages
stands_changed : (dims : ℕ) (old mid : PageMap) (first : ℕ) (bs : List Bucket) (b : Bucket) (es : List Entry)
    (after : List Bucket) → ((n : ℕ) → occurs_in_chain n (bs ++ b ∷ after) ≤ 1) → SameBut b.page old mid
    → ((c : BucketContent) → bucket_in dims (old b.page) ≡ Some c → c.entries ≡ b.entries
    → bucket_in dims (mid b.page) ≡ Some (record { next = c.next; entries = es }))
    → ChainStands dims old first (bs ++ b ∷ after)
    → ChainStands dims mid first (bs ++ record { page = b.page; entries = es } ∷ after)
stands_changed dims old mid first [] b es after once same written h = (
  h.0,
  h.1,
  h.2,
  written (record { next = h.2; entries = b.entries }) h.3 refl,
  chain_stays dims old mid h.2 after
      (λ n here. same n (λ is. let one = here_at b.page n (sym is) in omega (arith, one, here, once n))) h.4,
)
stands_changed dims old mid first (a ∷ bs) b es after once same written h = (
  h.0,
  h.1,
  h.2,
  ap (bucket_in dims)
      (same a.page
      (λ is. let one = here_at a.page b.page is in let two = here_at b.page b.page refl in
      let more = occurs-append b.page bs (b ∷ after) in omega (arith, one, two, more, once b.page))) ∙ h.3,
  stands_changed dims old mid h.2 bs b es after (λ n. omega (arith, once n)) same written h.4,
)

-- and is as full
pub full_changed : (bs : List Bucket) (b : Bucket) (es : List Entry) (after : List Bucket)
    → length es ≡ length b.entries → All (λ (b : Bucket). length b.entries ≡ 100) (bs ++ b ∷ after)
    → All (λ (b : Bucket). length b.entries ≡ 100) (bs ++ record { page = b.page; entries = es } ∷ after)
full_changed [] b es after size full =
    All-cons (λ (b : Bucket). length b.entries ≡ 100) (record { page = b.page; entries = es }) after
    (size ∙ All-head (λ (b : Bucket). length b.entries ≡ 100) b after full)
    (All-tail (λ (b : Bucket). length b.entries ≡ 100) b after full)
full_changed (a ∷ bs) b es after size full =
    All-cons (λ (b : Bucket). length b.entries ≡ 100) a
    (bs ++ record { page = b.page; entries = es } ∷ after)
    (All-head (λ (b : Bucket). length b.entries ≡ 100) a (bs ++ b ∷ after) full)
    (full_changed bs b es after size
    (All-tail (λ (b : Bucket). length b.entries ≡ 100) a (bs ++ b ∷ after) full))

-- the chain of a bucket in which an object has been written into a place
pub puts_in_chain : (dims : ℕ) (old new : PageMap) (first page place : ℕ) (x : Entry) (bs : List Bucket)
    (b : Bucket) (after : List Bucket) → b.page ≡ page → place < length b.entries
    → ((n : ℕ) → occurs_in_chain n (bs ++ b ∷ after) ≤ 1) → PutsAt dims old new page place x
    → ChainStands dims old first (bs ++ b ∷ after)
    → ChainStands dims new first (bs ++ record { page = b.page; entries = set b.entries place x } ∷ after)
puts_in_chain dims old new first page place x bs b after page_is within once puts stands =
    stands_changed dims old new first bs b (set b.entries place x) after once
    (λ n other. puts.others n (λ at_page. other (at_page ∙ sym page_is)))
    (λ c there entries. ap (λ n. bucket_in dims (new n)) page_is
    ∙ puts.written c (ap (λ n. bucket_in dims (old n)) (sym page_is) ∙ there)
    (let e = ap length entries in omega (arith, e, within))
    ∙ ap (λ (es : List Entry). Some (record { next = c.next; entries = set es place x })) entries)
    stands

pub regroup : (F G A B E : List Entry) (y : Entry)
    → F ++ (G ++ ((A ++ y ∷ B) ++ E)) ≡ (F ++ (G ++ A)) ++ y ∷ (B ++ E)
regroup F G A B E y = simp append_assoc
