-- A table that was checked, from its root on.
use Rattle.std.proofs.Common.{◌≡◌, ◌∙◌, ℕ, ◌+◌, ◌<◌, ◌≤◌, Bool, true, false, cond}
use Rattle.std.proofs.Common.{eqb, Some, List, [], ◌∷◌, length, All}
use Rattle.std.proofs.Common.{rules, refl, sym, ap, subst, arith}
use Rattle.std.proofs.lemmas.List.Elements.{All-cons}
use Rattle.std.specs.BTreeSet.{BTreeSet}
use Rattle.bucket_page.specs.Layout.{Entry}
use Rattle.id_page.specs.Fork.{Link}
use Rattle.id_words.specs.Seen.{seen_times}
use Rattle.node_page.specs.Checked.{named_pages}
use Rattle.node_page.specs.Standing.{PageMap}
use Rattle.node_page.proofs.VisitLemmas.{times_more}
use Rattle.id_tree.specs.Checked.{AddsNode}
use Rattle.id_tree.specs.Checked.{FindsRoot, IsCheckedTable, MayAdd}
use Rattle.id_tree.specs.Tree.{IdTree, end}
use Rattle.id_tree.specs.Tree.{TreeStands, fork_in, links_of}
use Rattle.id_tree.specs.Tree.{objects_in}
use Rattle.id_tree.proofs.NodeLemmas.{some_objects}
use Rattle.id_tree.proofs.CheckLemmas.{links_found}

-- the root of a table that has objects
pub may_add_root : (dims : ℕ) (pages : PageMap) (t : IdTree) (root level : ℕ) (list : List ℕ)
    (seen : BTreeSet ℕ) → TreeStands dims pages t → t.page ≡ root → t.level ≡ level
    → 0 < length (links_of t.row) → list ≡ root ∷ [] → ((id : ℕ) → seen_times seen id ≡ 0)
    → MayAdd dims pages root level true 0 18446744073709551615 t.row list seen
may_add_root dims pages t root level list seen s at at_level some alone none =
    subst (λ p. MayAdd dims pages p level true 0 18446744073709551615 t.row list seen) at
    (subst (λ l. MayAdd dims pages t.page l true 0 18446744073709551615 t.row list seen) at_level (record {
      stands = record {
        low_page = s.low;
        node = s.root;
        below = s.below;
        parted = s.parted;
        filled = s.filled;
        some = some_objects dims pages t.level t.row s.high s.below some;
        large = λ (never : true ≡ false). absurd (cc);
        from = from_zero (objects_in t.row);
      };
      upto = λ never. absurd (omega (arith, never));
      once = λ n. omega (arith, ap (named n) alone, one_named n, s.once n);
      single = λ id. omega (arith, none id, s.single id);
    }))
  where
    named : ℕ → List ℕ → ℕ
    named n xs = named_pages xs n

    one_named : (n : ℕ) → named_pages (root ∷ []) n ≡ cond (eqb t.page n) 1 0
    one_named n = let same : ◌≡◌ {A = ℕ} (cond (eqb root n) 1 0) (cond (eqb t.page n) 1 0) =
        ap (λ k. cond (eqb k n) 1 0) (sym at) in omega (arith, times_more n root [], same)

    from_zero : (xs : List Entry) → All (λ o. 0 ≤ o.0) xs
    from_zero [] = search rules
    from_zero (x ∷ xs) = All-cons (λ (o : Entry). 0 ≤ o.0) x xs (omega arith) (from_zero xs)

-- a root without children
pub empty_checked : (dims : ℕ) (pages : PageMap) (root : ℕ) (bytes : List ℕ) (level : ℕ) (list : List ℕ)
    → 2 < root → pages root ≡ Some bytes → FindsRoot dims level 0 bytes → list ≡ root ∷ []
    → IsCheckedTable dims pages root [] list
empty_checked dims pages root bytes level list low there f alone = record {
  table = table;
  page_is = refl;
  stands = record {
    low = low;
    high = f.high;
    bounded = f.bounded;
    root = record {
      leaf = λ none. absurd (omega (arith, none, f.high));
      fork = λ up. ap (fork_in dims) there ∙ f.is
          ∙ ap (λ (ls : List Link). Some (record { level = level; links = ls }))
          (no_link f.links (sym f.count_is));
    };
    below = tt;
    parted = tt;
    filled = tt;
    wide = λ up. absurd (let two = f.wide up in omega (arith, two));
    single = λ id. omega arith;
    once = λ n. few (eqb root n);
  };
  pairs_are = refl;
  pages_are = λ n. omega (arith, ap (named n) alone, times_more n root []);
}
  where
    table : IdTree
    table = record { page = root; level = level; row = end }

    named : ℕ → List ℕ → ℕ
    named n xs = named_pages xs n

    no_link : (ls : List Link) → length ls ≡ 0 → ls ≡ []
    no_link [] e = refl
    no_link (l ∷ ls) e = absurd (omega (arith, e))

    few : (b : Bool) → (cond b 1 0) + 0 ≤ 1
    few true = omega arith
    few false = omega arith

-- one with children, and what is below it
pub table_checked : (dims : ℕ) (pages : PageMap) (root : ℕ) (bytes : List ℕ) (level count : ℕ)
    (pairs : List Entry) (list_before list : List ℕ) (seen_before seen : BTreeSet ℕ) → pages root ≡ Some bytes
    → FindsRoot dims level count bytes → list_before ≡ root ∷ []
    → ((n : ℕ) → named_pages list n ≤ 1) → ((id : ℕ) → seen_times seen_before id ≡ 0)
    → ((id : ℕ) → seen_times seen id ≤ 1) → AddsNode dims pages root level true 0 18446744073709551615 []
    pairs list_before list seen_before seen → IsCheckedTable dims pages root pairs list
table_checked dims pages root bytes level count pairs list_before list seen_before seen there f alone once
    none few a =
    let links = links_found dims pages root level a.row bytes f.links f.high a.stands.node there f.is in
    record {
      table = record { page = root; level = level; row = a.row };
      page_is = refl;
      stands = record {
        low = a.stands.low_page;
        high = f.high;
        bounded = f.bounded;
        root = a.stands.node;
        below = a.stands.below;
        parted = a.stands.parted;
        filled = a.stands.filled;
        wide = λ up. let two = f.wide up in omega (arith, two, f.count_is, ap length links);
        single = λ id. omega (arith, few id, none id, a.adds.seen_are id);
        once = λ n. omega (arith, once n, a.adds.pages_are n, ap (named n) alone, times_more n root []);
      };
      pairs_are = a.adds.pairs_are;
      pages_are = λ n. omega (arith, a.adds.pages_are n, ap (named n) alone, times_more n root []);
    }
  where
    named : ℕ → List ℕ → ℕ
    named n xs = named_pages xs n
