-- A new table.
use Rattle.std.proofs.Common.{◌≡◌, ◌∙◌, ℕ, zero, suc, ◌<◌, ◌≤◌, Some, None, List, [], ◌∷◌, length, get_or}
use Rattle.std.proofs.Common.{sum_by, refl, sym, ap, subst, arith, rules}
use Rattle.std.proofs.lemmas.Bool.Decides.{nat_tests}
use Rattle.std.specs.FinMap as map
use Rattle.std.specs.List.{flat_map}
use Rattle.page_file.specs.Pages.{SameBut}
use Rattle.node_page.specs.Parts.{no_page, one_page}
use Rattle.node_page.specs.Standing.{PageMap}
use Rattle.node_page.proofs.PartLemmas.{moves_same, one_page_moves}
use Rattle.id_chains.specs.Changes.{Makes}
use Rattle.id_chains.specs.Pages.{NewDirectory}
use Rattle.id_chains.proofs.BucketLemmas.{is_there}
use Rattle.id_chains.specs.Table.{Bucket, ChainStands, IsFilled, entries_in, link_at, occurs_in_chain}
use Rattle.id_chains.specs.Table.{occurs_in_ids, part_of}

empties : ℕ → List (List Bucket)
empties zero = []
empties (suc n) = [] ∷ empties n

many : (n : ℕ) → length (empties n) ≡ n
unfolding empties
many zero = refl
many (suc n) = ap suc (many n)

each_empty : (n i : ℕ) → get_or (empties n) i [] ≡ []
unfolding empties
each_empty zero i = refl
each_empty (suc n) zero = refl
each_empty (suc n) (suc i) = each_empty n i

no_entries : (n : ℕ) → flat_map entries_in (empties n) ≡ []
unfolding empties
no_entries zero = refl
no_entries (suc n) = no_entries n

no_pages : (n k : ℕ) → sum_by (occurs_in_chain k) (empties n) ≡ 0
unfolding empties
no_pages zero k = refl
no_pages (suc n) k = no_pages n k

at_most_one : (page n : ℕ) → one_page page n ≤ 1
at_most_one page n = grind (arith, nat_tests)

empty_filled : (class : ℕ) → IsFilled class []
empty_filled class = record { full = search rules; placed = search rules; single = λ id. omega arith }

pub made : (dims : ℕ) (old mid new : PageMap) (directory : ℕ) (bytes : List ℕ) → 2 < directory
    → old directory ≡ None → SameBut directory old mid → SameBut directory mid new
    → new directory ≡ Some bytes → NewDirectory dims bytes
    → Makes dims old new directory
made dims old mid new directory bytes low fresh first second there is = record {
  table = record { page = directory; chains = empties 1000 };
  page = refl;
  stands = record {
    directory = bytes;
    there = there;
    low = low;
    spelled = is.spelled;
    whole = many 1000;
    chains =
        λ class within. subst (λ c. ChainStands dims new (link_at class bytes) c)
        (sym (each_empty 1000 class)) (is.empty class);
    filled = λ class within. subst (IsFilled class) (sym (each_empty 1000 class)) (empty_filled class);
    once = λ n. omega (arith, count n, at_most_one directory n);
  };
  objects = ap map.from_entries (no_entries 1000);
  moves = moves_same old new no_page no_page (one_page directory)
      (part_of (record { page = directory; chains = empties 1000 })) (λ n. refl) (λ n. sym (count n))
      ((one_page_moves old new directory (λ k other. second k other ∙ first k other)).0 fresh
      (is_there (new directory) bytes there));
}
  where
    count : (n : ℕ)
        → occurs_in_ids n (record { page = directory; chains = empties 1000 }) ≡ one_page directory n
    count n = let none = no_pages 1000 n in omega (arith, none)
