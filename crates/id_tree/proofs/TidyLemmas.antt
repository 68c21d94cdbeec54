-- Pages that stay tidy.
use Rattle.std.proofs.Common.{◌≡◌, ◌∙◌, ℕ, List, Option, Some, None, Result, Ok, Err, sym, subst, ⊎_elim}
use Rattle.std.proofs.Common.{inl, inr, arith}
use Rattle.std.specs.Prelude.{IfSome, OnOk}
use Rattle.std.proofs.lemmas.Bool.{cases_eq}
use Rattle.bucket_page.specs.Layout.{Entry}
use Rattle.page_file.specs.Pages.{SameBut}
use Rattle.node_page.specs.Standing.{PageMap}
use Rattle.id_page.specs.Fork.{ForkContent, IsTidyFork, fork_at}
use Rattle.id_page.specs.Leaf.{IsTidyLeaf, leaf_at}
use Rattle.id_page.proofs.ForkReading.{fork_spells}
use Rattle.id_page.proofs.LeafReading.{leaf_spells}
use Rattle.id_tree.specs.Tidy.{AreAsTidy, AreTidy, IsAsTidy, IsTidyNode, IsTidyPage, KeepsTidy}

-- ---- one page

if_some : {X : Type 0} (o : Option X) (P Q : X → Type 0) → ((x : X) → P x → Q x) → IfSome o P → IfSome o Q
if_some None P Q f p = tt
if_some (Some x) P Q f p = f x p

pub page_of_node : (dims : ℕ) (page : List ℕ) → IsTidyNode dims page → IsTidyPage dims page
page_of_node dims page node = ⊎_elim
    (λ f. record { fork = λ kind. f.1; leaf = λ kind. absurd (omega (arith, f.0, kind)) })
    (λ l. record { fork = λ kind. absurd (omega (arith, l.0, kind)); leaf = λ kind. l.1 })
    node

pub fork_node : (dims : ℕ) (page : List ℕ) (c : ForkContent) → fork_at dims page ≡ Some c → IsTidyFork page
    → IsTidyNode dims page
fork_node dims page c is tidy = inl ((fork_spells dims page c is).head.kind, tidy)

pub leaf_node : (dims : ℕ) (page : List ℕ) (objects : List Entry) → leaf_at dims page ≡ Some objects
    → IsTidyLeaf dims page → IsTidyNode dims page
leaf_node dims page objects is tidy = inr ((leaf_spells dims page objects is).head.kind, tidy)

pub tidy_fork : (dims : ℕ) (page : List ℕ) (c : ForkContent) → fork_at dims page ≡ Some c
    → IsTidyPage dims page
    → IsTidyFork page
tidy_fork dims page c is tidy = tidy.fork (fork_spells dims page c is).head.kind

pub tidy_leaf : (dims : ℕ) (page : List ℕ) (objects : List Entry) → leaf_at dims page ≡ Some objects
    → IsTidyPage dims page → IsTidyLeaf dims page
tidy_leaf dims page objects is tidy = tidy.leaf (leaf_spells dims page objects is).head.kind

pub node_fork : (dims : ℕ) (page : List ℕ) (c : ForkContent) → fork_at dims page ≡ Some c
    → IsTidyNode dims page
    → IsTidyFork page
node_fork dims page c is node = tidy_fork dims page c is (page_of_node dims page node)

-- a page of a map
pub bytes_tidy : (dims : ℕ) (pages : PageMap) (n : ℕ) (bytes : List ℕ) → pages n ≡ Some bytes
    → AreTidy dims pages
    → IsTidyPage dims bytes
bytes_tidy dims pages n bytes is tidy = subst (λ (p : Option (List ℕ)). IfSome p (IsTidyPage dims)) is
    (tidy n)

pub fork_as_tidy : (dims : ℕ) (pages : PageMap) (n : ℕ) (bytes : List ℕ) (c : ForkContent)
    → pages n ≡ Some bytes
    → fork_at dims bytes ≡ Some c → IsAsTidy dims pages bytes
fork_as_tidy dims pages n bytes c there is tidy =
    fork_node dims bytes c is (tidy_fork dims bytes c is (bytes_tidy dims pages n bytes there tidy))

-- ---- all pages

pub still_tidy : (dims : ℕ) (old new : PageMap) → KeepsTidy dims old new → AreTidy dims old → AreTidy dims new
still_tidy dims old new keeps tidy n = ⊎_elim
    (λ (same : new n ≡ old n). subst (λ (p : Option (List ℕ)). IfSome p (IsTidyPage dims)) (sym same)
    (tidy n))
    (λ (node : IfSome (new n) (IsTidyNode dims)).
    if_some (new n) (IsTidyNode dims) (IsTidyPage dims) (page_of_node dims) node)
    (keeps tidy n)

pub tidy_in_turn : (dims : ℕ) (old mid new : PageMap) → KeepsTidy dims old mid → KeepsTidy dims mid new
    → KeepsTidy dims old new
tidy_in_turn dims old mid new a b tidy n = ⊎_elim
    (λ (same : new n ≡ mid n). ⊎_elim
    (λ (before : mid n ≡ old n). inl (same ∙ before))
    (λ (node : IfSome (mid n) (IsTidyNode dims)).
    inr (subst (λ (p : Option (List ℕ)). IfSome p (IsTidyNode dims)) (sym same) node))
    (a tidy n))
    (λ (node : IfSome (new n) (IsTidyNode dims)). inr node)
    (b (still_tidy dims old mid a tidy) n)

pub tidy_same : (dims : ℕ) (old new : PageMap) → ((n : ℕ) → new n ≡ old n) → KeepsTidy dims old new
tidy_same dims old new same tidy n = inl (same n)

-- a call after one that wrote nothing, and after one that kept pages tidy
pub tidy_after : {T E : Type 0} (r : Result T E) (dims : ℕ) (old mid new : PageMap) → KeepsTidy dims old mid
    → OnOk r (KeepsTidy dims mid new) → OnOk r (KeepsTidy dims old new)
tidy_after (Ok x) dims old mid new before keeps = tidy_in_turn dims old mid new before keeps
tidy_after (Err e) dims old mid new before keeps = tt

pub tidy_from : {T E : Type 0} (r : Result T E) (dims : ℕ) (old mid new : PageMap) → ((n : ℕ) → mid n ≡ old n)
    → OnOk r (KeepsTidy dims mid new) → OnOk r (KeepsTidy dims old new)
tidy_from r dims old mid new same keeps = tidy_after r dims old mid new (tidy_same dims old mid same) keeps

-- bytes written into a page after such a change, which are tidy where all pages were before it
pub tidy_put : (dims : ℕ) (old mid new : PageMap) (n : ℕ) (bytes : List ℕ) → KeepsTidy dims old mid
    → SameBut n mid new → new n ≡ Some bytes → IsAsTidy dims old bytes → KeepsTidy dims old new
tidy_put dims old mid new n bytes keeps others there node tidy k = ⊎_elim
    (λ (is : k ≡ n). inr (subst (λ (q : ℕ). IfSome (new q) (IsTidyNode dims)) (sym is)
    (subst (λ (p : Option (List ℕ)). IfSome p (IsTidyNode dims)) (sym there) (node tidy))))
    (λ (other : ¬ (k ≡ n)). ⊎_elim
    (λ (same : mid k ≡ old k). inl (others k other ∙ same))
    (λ (made : IfSome (mid k) (IsTidyNode dims)).
    inr (subst (λ (p : Option (List ℕ)). IfSome p (IsTidyNode dims)) (sym (others k other)) made))
    (keeps tidy k))
    (cases_eq k n)

pub tidy_written : (dims : ℕ) (old new : PageMap) (n : ℕ) (bytes : List ℕ) → SameBut n old new
    → new n ≡ Some bytes → IsAsTidy dims old bytes → KeepsTidy dims old new
tidy_written dims old new n bytes others there node =
    tidy_put dims old old new n bytes (tidy_same dims old old (λ k. refl_at old k)) others there node
  where
    refl_at : (m : PageMap) (k : ℕ) → m k ≡ m k
    refl_at m k = cc

-- a page freed after such a change
pub tidy_freed : (dims : ℕ) (old mid new : PageMap) (n : ℕ) → KeepsTidy dims old mid → SameBut n mid new
    → new n ≡ None → KeepsTidy dims old new
tidy_freed dims old mid new n keeps others gone tidy k = ⊎_elim
    (λ (is : k ≡ n). inr (subst (λ (q : ℕ). IfSome (new q) (IsTidyNode dims)) (sym is)
    (subst (λ (p : Option (List ℕ)). IfSome p (IsTidyNode dims)) (sym gone) tt)))
    (λ (other : ¬ (k ≡ n)). ⊎_elim
    (λ (same : mid k ≡ old k). inl (others k other ∙ same))
    (λ (made : IfSome (mid k) (IsTidyNode dims)).
    inr (subst (λ (p : Option (List ℕ)). IfSome p (IsTidyNode dims)) (sym (others k other)) made))
    (keeps tidy k))
    (cases_eq k n)

-- the pages are the same in both maps
tidy_back : (dims : ℕ) (old mid : PageMap) → ((n : ℕ) → mid n ≡ old n) → AreTidy dims mid → AreTidy dims old
tidy_back dims old mid same tidy n = subst (λ (p : Option (List ℕ)). IfSome p (IsTidyPage dims)) (same n)
    (tidy n)

tidy_on : (dims : ℕ) (old mid : PageMap) → ((n : ℕ) → mid n ≡ old n) → AreTidy dims old → AreTidy dims mid
tidy_on dims old mid same tidy n =
    subst (λ (p : Option (List ℕ)). IfSome p (IsTidyPage dims)) (sym (same n)) (tidy n)

pub as_tidy_on : (dims : ℕ) (old mid : PageMap) (bytes : List ℕ) → ((n : ℕ) → mid n ≡ old n)
    → IsAsTidy dims old bytes → IsAsTidy dims mid bytes
as_tidy_on dims old mid bytes same node tidy = node (tidy_back dims old mid same tidy)

pub as_tidy_back : (dims : ℕ) (old mid : PageMap) (bytes : List ℕ) → ((n : ℕ) → mid n ≡ old n)
    → IsAsTidy dims mid bytes → IsAsTidy dims old bytes
as_tidy_back dims old mid bytes same node tidy = node (tidy_on dims old mid same tidy)

pub both_tidy_on : (dims : ℕ) (old mid : PageMap) (first second : List ℕ) → ((n : ℕ) → mid n ≡ old n)
    → AreAsTidy dims old first second → AreAsTidy dims mid first second
both_tidy_on dims old mid first second same node = record {
  first = as_tidy_on dims old mid first same node.first;
  second = as_tidy_on dims old mid second same node.second;
}

pub both_tidy_back : (dims : ℕ) (old mid : PageMap) (first second : List ℕ) → ((n : ℕ) → mid n ≡ old n)
    → AreAsTidy dims mid first second → AreAsTidy dims old first second
both_tidy_back dims old mid first second same node = record {
  first = as_tidy_back dims old mid first same node.first;
  second = as_tidy_back dims old mid second same node.second;
}
