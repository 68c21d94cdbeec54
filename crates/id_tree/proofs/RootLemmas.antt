-- The root of a table.
use Rattle.std.proofs.Common.{◌≡◌, ◌∙◌, ℕ, ◌+◌, ◌-◌, ◌<◌, ◌≤◌, ◌⊎◌, Bool, true, false, cond, eqb, is_some}
use Rattle.std.proofs.Common.{Option, Some, None, IsSome, List, [], length, refl, sym, ap, subst, ⊎_elim}
use Rattle.std.proofs.Common.{arith}
use Rattle.std.proofs.lemmas.Bool.{cases_eq}
use Rattle.std.proofs.lemmas.Bool.Decides.{nat_tests}
use Rattle.std.proofs.lemmas.Cmp.{nat_cmp_total}
use Rattle.std.specs.FinMap as map
use Rattle.std.specs.FinMap.{get-from_entries, get-insert, nat_cmp-IsAntisymmetric, same_map}
use Rattle.box_math.specs.Objects.{Object}
use Rattle.bucket_page.specs.Layout.{Entry}
use Rattle.node_page.specs.Parts.{Moves, no_page, one_page}
use Rattle.node_page.specs.Standing.{PageMap}
use Rattle.node_page.proofs.PartLemmas.{moves_from, moves_same, one_page_moves, there_not_missing}
use Rattle.id_page.specs.Fork.{fork_at}
use Rattle.id_words.proofs.ObjectLemmas.{none_times, found_is, same_key}
use Rattle.id_words.specs.Objects.{kept_in, times_in}
use Rattle.id_tree.specs.Changes.{Makes, Sets}
use Rattle.id_tree.specs.Writes.{Gives, NamesNew}
use Rattle.id_tree.specs.Rows.{NodeStands, part_at}
use Rattle.id_tree.specs.Steps.{Becomes, Step, adds, puts, drops, Turns, come, gone, kept_after}
use Rattle.id_tree.specs.Tree.{HasNode, IdTree, IsFilled, IsParted, Row, end, more, child, RowStands}
use Rattle.id_tree.specs.Tree.{TreeStands, fork_in, leaf_in, links_of, objects_in, objects_of, occurs}
use Rattle.id_tree.specs.Tree.{part_of}
use Rattle.id_tree.proofs.NodeLemmas.{is_there, node_there, not_there, occurs_here, part_there, row_stays}
use Rattle.id_tree.proofs.NodeLemmas.{there_of_fork}

-- what the table has is what its root has
pub has : (t : IdTree) (id : ℕ) → map.get (objects_of t) id ≡ kept_in id (objects_in t.row)
has t id = get-from_entries nat_cmp_total (objects_in t.row) id ∙ found_is id (objects_in t.row)

is_none : (b : Option Object) → is_some b ≡ false → b ≡ None
is_none None e = refl
is_none (Some x) e = absurd (cc)

pub absent_of : (t : IdTree) (id : ℕ) → map.contains_key (objects_of t) id ≡ false
    → kept_in id (objects_in t.row) ≡ None
absent_of t id absent = sym (has t id) ∙ is_none (map.get (objects_of t) id) absent

-- a table is the node of its root
pub root_stands : (dims : ℕ) (pages : PageMap) (t : IdTree) → TreeStands dims pages t
    → NodeStands dims pages t.page t.level true t.row
root_stands dims pages t s =
    record {
      low = s.low;
      node = s.root;
      below = s.below;
      parted = s.parted;
      filled = s.filled;
      once =
          s.once;
    }

-- the fork at the root
pub root_fork : (dims : ℕ) (pages : PageMap) (root : ℕ) (t : IdTree) → t.page ≡ root → TreeStands dims pages t
    → fork_in dims (pages root) ≡ Some (record { level = t.level; links = links_of t.row })
root_fork dims pages root t at stands = ap (λ n. fork_in dims (pages n)) (sym at)
    ∙ stands.root.fork stands.high

pub root_live : (dims : ℕ) (pages : PageMap) (t : IdTree) (root : ℕ) → t.page ≡ root → TreeStands dims pages t
    → IsSome (pages root)
root_live dims pages t root at s = subst (λ p. IsSome (pages p)) at
    (node_there dims pages t.page t.level t.row s.root)

-- ---- a new table

at_most_one : (page n : ℕ) → one_page page n ≤ 1
at_most_one page n = grind (arith, nat_tests)

pub made : (dims : ℕ) (old new : PageMap) (root : ℕ) (bytes : List ℕ) → Gives old new root bytes
    → fork_at dims bytes ≡ Some (record { level = 1; links = [] }) → Makes dims old new root
made dims old new root bytes given is = record {
  table = table;
  page = refl;
  stands = record {
    low = given.low;
    high = omega arith;
    bounded = omega arith;
    root = record
        { leaf = λ never. absurd (omega (arith, never)); fork = λ high. ap (fork_in dims) given.there ∙ is };
    below = tt;
    parted = tt;
    filled = tt;
    wide = λ up. absurd (omega (arith, up));
    single = λ id. omega arith;
    once = λ n. omega (arith, at_most_one root n);
  };
  objects = refl;
  moves = moves_same old new no_page no_page (one_page root) (part_of table) (λ n. refl) (λ n. omega arith)
      ((one_page_moves old new root given.others).0 given.fresh (is_there (new root) bytes given.there));
}
  where
    table : IdTree
    table = record { page = root; level = 1; row = end }

-- ---- a root that changed

at_most : (b : Bool) (n : ℕ) → n ≤ 1 → cond b n 0 ≤ 1
at_most true n few = few
at_most false n few = omega arith

-- an object more, or another one for one that is there: no identifier is there twice
single_after : (id : ℕ) (step : Step) (old new : List Entry) → Turns id step old new
    → (come step ≡ 0) ⊎ (kept_in id old ≡ None) → ((q : ℕ) → times_in q old ≤ 1) → (q : ℕ)
    → times_in q new ≤ 1
single_after id step old new turns fresh single q = ⊎_elim
    (λ (none : come step ≡ 0). let no = nothing (eqb id q) (come step) none in
    omega (arith, turns.times q, single q, no))
    (λ (absent : kept_in id old ≡ None). ⊎_elim
    (λ (is : id ≡ q). let zero_times : times_in q old ≡ 0 = ap (λ k. times_in k old) (sym is)
    ∙ none_times id old absent in let few = at_most (eqb id q) (come step) (one_at_most step) in
    omega (arith, turns.times q, zero_times, few))
    (λ (other : ¬ (id ≡ q)). let no = not_here (eqb id q) (come step) (apart id q other) in
    omega (arith, turns.times q, no, single q))
    (cases_eq id q))
    fresh
  where
    nothing : (b : Bool) (n : ℕ) → n ≡ 0 → ◌≡◌ {A = ℕ} (cond b n 0) 0
    nothing true n none = none
    nothing false n none = refl

    not_here : (b : Bool) (n : ℕ) → b ≡ false → ◌≡◌ {A = ℕ} (cond b n 0) 0
    not_here true n none = absurd (cc)
    not_here false n none = refl

    apart : (a b : ℕ) → ¬ (a ≡ b) → eqb a b ≡ false
    apart a b h = grind (arith, nat_tests)

    one_at_most : (step : Step) → come step ≤ 1
    one_at_most (adds kept) = omega arith
    one_at_most (puts kept) = omega arith
    one_at_most drops = omega arith

-- a root of a level that became another one by a step, as a table
pub record IsRoot (dims : ℕ) (old new : PageMap) (t : IdTree) (level id : ℕ) (step : Step) (now : Row) : Type
    0 where
  pub high : 0 < level
  pub bounded : level ≤ 6
  pub stands : NodeStands dims new t.page level true now
  pub turns : Turns id step (objects_in t.row) (objects_in now)
  pub moves : Moves old new (part_at t.page t.row) (part_at t.page now)
  pub wide : 1 < level → 2 ≤ length (links_of now)

pub tree_of : (dims : ℕ) (old new : PageMap) (t : IdTree) (level id : ℕ) (step : Step) (now : Row)
    → TreeStands dims old t → (come step ≡ 0) ⊎ (kept_in id (objects_in t.row) ≡ None)
    → IsRoot dims old new t level id step now
    → TreeStands dims new (record { page = t.page; level = level; row = now })
tree_of dims old new t level id step now s fresh r = record {
  low = r.stands.low;
  high = r.high;
  bounded = r.bounded;
  root = r.stands.node;
  below = r.stands.below;
  parted = r.stands.parted;
  filled = r.stands.filled;
  wide = r.wide;
  single = single_after id step (objects_in t.row) (objects_in now) r.turns fresh s.single;
  once = r.stands.once;
}

unfoldable pub sets_of : (dims : ℕ) (old new : PageMap) (t : IdTree) (level id : ℕ) (step : Step)
    (kept : Object) (now : Row) → kept_after step ≡ Some kept → TreeStands dims old t
    → (come step ≡ 0) ⊎ (kept_in id (objects_in t.row) ≡ None)
    → IsRoot dims old new t level id step now → Sets dims old new t id kept
sets_of dims old new t level id step kept now sets s fresh r = record {
  table = table;
  page = refl;
  stands = tree_of dims old new t level id step now s fresh r;
  objects = same_map nat_cmp_total nat_cmp-IsAntisymmetric (objects_of table)
      (map.insert (objects_of t) id kept) (λ q.
      has table q ∙ r.turns.kept q ∙ ap (λ o. cond (eqb id q) o (kept_in q (objects_in t.row))) sets
      ∙ ap (λ o. cond (eqb id q) (Some kept) o) (sym (has t q))
      ∙ ap (λ b. cond b (Some kept) (map.get (objects_of t) q)) (sym (same_key q id))
      ∙ sym (get-insert nat_cmp_total (objects_of t) id kept q));
  moves = r.moves;
}
  where
    table : IdTree
    table = record { page = t.page; level = level; row = now }

-- a root that became another one on its level
pub becomes_root : (dims : ℕ) (old new : PageMap) (t : IdTree) (id : ℕ) (step : Step) → gone step ≡ 0
    → TreeStands dims old t → (b : Becomes dims old new t.page t.level true t.row id step)
    → IsRoot dims old new t t.level id step b.now
becomes_root dims old new t id step none s b = record {
  high = s.high;
  bounded = s.bounded;
  stands = b.stands;
  turns = b.turns;
  moves = b.moves;
  wide = λ up. let two = s.wide up in omega (arith, two, b.wide, none);
}

pub sets_from : (dims : ℕ) (old mid new : PageMap) (t : IdTree) (id : ℕ) (kept : Object)
    → ((n : ℕ) → mid n ≡ old n) → Sets dims mid new t id kept → Sets dims old new t id kept
sets_from dims old mid new t id kept same s =
    record {
      table = s.table;
      page = s.page;
      stands = s.stands;
      objects = s.objects;
      moves =
          moves_from old mid new (part_of t) (part_of s.table) same s.moves;
    }

pub tree_same : (dims : ℕ) (old new : PageMap) (t : IdTree) → ((n : ℕ) → new n ≡ old n)
    → TreeStands dims old t → TreeStands dims new t
tree_same dims old new t same s = record {
  low = s.low;
  high = s.high;
  bounded = s.bounded;
  root = record {
    leaf = λ low. ap (leaf_in dims) (same t.page) ∙ s.root.leaf low;
    fork =
        λ high. ap (fork_in dims) (same t.page) ∙ s.root.fork high;
  };
  below = row_stays dims old new t.level t.row (λ n p. same n) s.below;
  parted = s.parted;
  filled = s.filled;
  wide = s.wide;
  single = s.single;
  once = s.once;
}

-- ---- a new page below the root

module _ (dims : ℕ) (old new : PageMap) (root level was number : ℕ) (bytes : List ℕ) (row below : Row)
    (s : NodeStands dims old root was true row) (w : NamesNew dims old new root (level + 1) number bytes)
    (node : HasNode dims new number level below) (stands : RowStands dims new level below)
    (same : (n : ℕ) → occurs n below ≡ occurs n row) (some : 0 < length (objects_in below))
    (parted : IsParted below) (filled : IsFilled dims level true below) where
  now : Row
  now = more (child 0 number below) end

  unused : part_at root row number ≡ 0
  unused = ⊎_elim
      (λ (e : part_at root row number ≡ 0). e)
      (λ (here : ¬ (part_at root row number ≡ 0)). absurd
      (there_not_missing (old number)
      (part_there dims old root was true row number s (omega (arith, here))) w.fresh))
      (cases_eq (part_at root row number) 0)

  counts : (n : ℕ) → part_at root now n ≡ part_at root row n + cond (eqb number n) 1 0
  unfolding now
  counts n = omega (arith, same n)

  once : (n : ℕ) → part_at root now n ≤ 1
  once n = ⊎_elim
      (λ (is : number ≡ n). let none : part_at root row n ≡ 0 = ap (part_at root row) (sym is)
      ∙ unused in let one : ◌≡◌ {A = ℕ} (cond (eqb number n) 1 0) 1 =
      ap (λ k. cond (eqb number k) 1 0) (sym is) ∙ occurs_here number in
      omega (arith, counts n, none, one))
      (λ (other : ¬ (number ≡ n)). let no = not_there number n other in omega (arith, counts n, no, s.once n))
      (cases_eq number n)

  pub rooted : NodeStands dims new root (level + 1) true (more (child 0 number below) end)
  unfolding now
  rooted =
      let down : level + 1 - 1 ≡ level = omega arith in
      record {
        low = s.low;
        node = record { leaf = λ low. absurd (omega (arith, low)); fork = λ high. w.named };
        below = (
          omega arith,
          w.low,
          some,
          subst (λ l. HasNode dims new number l below) (sym down) node,
          subst
              (λ l. RowStands dims new l below) (sym down) stands,
          tt,
        );
        parted = (parted, tt, tt);
        filled = (
          (λ (never : true ≡ false). absurd (cc)),
          subst (λ l. IsFilled dims l true below) (sym down)
              filled,
          tt,
        );
        once = once;
      }

  pub rooted_moves : Moves old new (part_at root row) (part_at root (more (child 0 number below) end))
  unfolding now
  rooted_moves = record {
    outside = λ n none gone. w.others n
        (λ is. let one : ◌≡◌ {A = ℕ} (cond (eqb number n) 1 0) 1 = ap (λ k. cond (eqb number k) 1 0) is
        ∙ occurs_here number in omega (arith, one, gone, counts n))
        (λ is. let one : ◌≡◌ {A = ℕ} (cond (eqb root n) 1 0) 1 = ap (λ k. cond (eqb root k) 1 0) is
        ∙ occurs_here root in omega (arith, one, none));
    came = λ n none here. ⊎_elim
        (λ (is : number ≡ n). ap old (sym is) ∙ w.fresh)
        (λ (other : ¬ (number ≡ n)). let no = not_there number n other in
        absurd (omega (arith, none, here, no, counts n)))
        (cases_eq number n);
    went = λ n here none. absurd (omega (arith, here, none, counts n));
    live = λ n here. ⊎_elim
        (λ (is : n ≡ root). subst (λ k. IsSome (new k)) (sym is) (there_of_fork dims (new root) _ w.named))
        (λ (off : ¬ (n ≡ root)). ⊎_elim
        (λ (is : n ≡ number). subst (λ k. IsSome (new k)) (sym is)
        (node_there dims new number level below node))
        (λ (off_new : ¬ (n ≡ number)).
        let none = not_there number n (λ is. off_new (sym is)) in
        subst IsSome (sym (w.others n off_new off))
        (part_there dims old root was true row n s (omega (arith, here, counts n, none))))
        (cases_eq n number))
        (cases_eq n root);
    once = once;
  }

pub names_from : (dims : ℕ) (old mid new : PageMap) (root level number : ℕ) (bytes : List ℕ)
    → ((n : ℕ) → mid n ≡ old n) → NamesNew dims mid new root level number bytes
    → NamesNew dims old new root level number bytes
names_from dims old mid new root level number bytes same w = record {
  low = w.low;
  fresh = sym (same number) ∙ w.fresh;
  apart = w.apart;
  others = λ n off other. w.others n off other ∙ same n;
  there = w.there;
  named = w.named;
}
