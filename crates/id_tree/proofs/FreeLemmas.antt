-- Nodes freed one after the other.
use Rattle.std.proofs.Common.{IsErrAnd, Result, Ok, Err, subst, sym, ◌≡◌, ◌∙◌, ℕ, ◌+◌, ◌-◌, ◌<◌, ◌≤◌, Bool}
use Rattle.std.proofs.Common.{true, cond, eqb, None, IsSome, List, [], ◌∷◌, length, get_or, refl, ap, arith}
use Rattle.std.proofs.Common.{length-append}
use Rattle.page_file.specs.Fault.{IsOfDevice}
use Rattle.page_file.specs.declared.fault.Fault.{Fault}
use Rattle.page_cache.specs.Cache.{IsPageMap, Grows, next_of, pages}
use Rattle.page_cache.specs.declared.cache.PageCache.{PageCache}
use Rattle.node_page.specs.Parts.{Part, Moves, both, no_page, one_page}
use Rattle.id_tree.specs.Freeing.{Frees}
use Rattle.std.proofs.lemmas.List.{get_or_at}
use Rattle.page_file.specs.Pages.{SameBut}
use Rattle.page_cache.specs.Calls.{ChangesUntil}
use Rattle.node_page.specs.Standing.{PageMap}
use Rattle.node_page.proofs.PartLemmas.{moves_beside, moves_in_turn, moves_same, one_page_moves}
use Rattle.node_page.proofs.PartLemmas.{the_rest_stays}
use Rattle.id_page.specs.Fork.{Link}
use Rattle.id_tree.specs.Rows.{NodeStands, joined, part_at}
use Rattle.id_tree.specs.Tree.{IdTree, TreeStands, IsFilled, IsParted, Row, end, more, object, child}
use Rattle.id_tree.specs.Tree.{RowStands, at_edge, links_of, occurs}
use Rattle.id_tree.proofs.NodeLemmas.{leaf_pages, no_links, node_stays, occurs_here, part_there, row_stays}
use Rattle.id_tree.proofs.NodeLemmas.{stands_same}
use Rattle.id_tree.proofs.RootLemmas.{root_stands}
use Rattle.id_tree.proofs.RowLemmas.{filled-behind, joined-end, joined-joined, links-joined, occurs-joined}
use Rattle.id_tree.proofs.RowLemmas.{parted-behind, stands-behind}

-- one part is freed, and then another one beside it
frees_both : (old mid new : PageMap) (first second : Part) → Moves old mid first no_page
    → ((n : ℕ) → 0 < second n → IsSome (old n)) → ((n : ℕ) → both first second n ≤ 1)
    → Moves mid new second no_page → Moves old new (both first second) no_page
frees_both old mid new first second a there apart b =
    moves_in_turn old mid new (both first second) second no_page
    (moves_same old mid (both first second) (both first second) (both no_page second) second (λ n. refl)
    (λ n. omega arith) (moves_beside old mid first no_page second a there apart)) b

-- the first children of a node are freed, so many
pub record FreesFirst (old now : PageMap) (row : Row) (count : ℕ) : Type 0 where
  pub left : Row
  pub right : Row
  pub is : row ≡ joined left right
  pub long : length (links_of left) ≡ count
  pub moves : Moves old now (λ n. occurs n left) no_page

pub none_freed : (old now : PageMap) (row : Row) → ((n : ℕ) → now n ≡ old n) → FreesFirst old now row 0
none_freed old now row same = record {
  left = end;
  right = row;
  is = refl;
  long = refl;
  moves = record {
    outside = λ n none gone. same n;
    came = λ n none some. absurd (omega (arith, some));
    went = λ n some none. absurd (omega (arith, some));
    live = λ n some. absurd (omega (arith, some));
    once = λ n. omega arith;
  };
}

-- the next child
pub record Next (dims : ℕ) (pages : PageMap) (level : ℕ) (edge : Bool) (right : Row) : Type 0 where
  pub key : ℕ
  pub page : ℕ
  pub below : Row
  pub rest : Row
  pub is : right ≡ more (child key page below) rest

next_in : (dims : ℕ) (pages : PageMap) (level : ℕ) (edge : Bool) (right : Row) → 0 < level
    → RowStands dims pages level right → 0 < length (links_of right) → Next dims pages level edge right
next_in dims pages level edge end high stands some = absurd (omega (arith, some))
next_in dims pages level edge (more (object i o) rest) high stands some =
    absurd (omega (arith, high, stands.0))
next_in dims pages level edge (more (child key page below) rest) high stands some =
    record { key = key; page = page; below = below; rest = rest; is = refl }

module _ (dims : ℕ) (old now : PageMap) (page level : ℕ) (edge : Bool) (row : Row) (count : ℕ)
    (high : 0 < level) (s : NodeStands dims old page level edge row) (f : FreesFirst old now row count)
    (within : count < length (links_of row)) where
  split : RowStands dims old level (joined f.left f.right)
  split = subst (RowStands dims old level) f.is s.below

  on_right : RowStands dims old level f.right
  on_right = stands-behind dims old level f.left f.right split

  pub next : Next dims old level edge f.right
  next =
      let parts = ap length (ap links_of f.is ∙ links-joined f.left f.right) in
      next_in dims old level edge f.right high on_right
      (omega (arith, parts, within, f.long, length-append (links_of f.left) (links_of f.right)))

  whole : row ≡ joined f.left (more (child next.key next.page next.below) next.rest)
  whole = f.is ∙ ap (joined f.left) next.is

  pub next_link : (other : Link) → get_or (links_of row) count other ≡ (next.key, next.page)
  next_link other =
      ap (λ (ls : List Link). get_or ls count other)
      (ap links_of whole ∙ links-joined f.left (more (child next.key next.page next.below) next.rest))
      ∙ get_or_at (links_of f.left) (next.key, next.page) (links_of next.rest) other count f.long

  here : RowStands dims old level (more (child next.key next.page next.below) next.rest)
  here = subst (RowStands dims old level) next.is on_right

  counted : (n : ℕ) → part_at page row n ≡ cond (eqb page n) 1
      0 + (occurs n f.left + (part_at next.page next.below n + occurs n next.rest))
  counted n =
      omega (
        arith,
        ap (occurs n) whole,
        occurs-joined n f.left
            (more (child next.key next.page next.below) next.rest),
      )

  apart : (n : ℕ) → both (λ n. occurs n f.left) (part_at next.page next.below) n ≤ 1
  apart n = omega (arith, counted n, s.once n)

  there : (n : ℕ) → 0 < part_at next.page next.below n → IsSome (old n)
  there n some = part_there dims old page level edge row n s (omega (arith, some, counted n))

  still : (n : ℕ) → 0 < part_at next.page next.below n → now n ≡ old n
  still n some =
      (the_rest_stays old now (λ n. occurs n f.left) no_page (part_at next.page next.below) f.moves there
      apart n some).0

  -- the next child stands still
  pub next_stands : NodeStands dims now next.page (level - 1) (at_edge edge next.rest) next.below
  next_stands = record {
    low = here.1;
    node = node_stays dims old now next.page (level - 1) next.below
        (still next.page (omega (arith, occurs_here next.page))) here.3;
    below = row_stays dims old now (level - 1) next.below (λ n at. still n (omega (arith, at))) here.4;
    parted = (parted-behind f.left (more (child next.key next.page next.below) next.rest)
        (subst IsParted whole s.parted)).0;
    filled = (filled-behind dims level edge f.left (more (child next.key next.page next.below) next.rest)
        (subst (IsFilled dims level edge) whole s.filled)).1;
    once = λ n. omega (arith, counted n, s.once n);
  }

  -- once it is freed too, one more is
  pub one_freed : (new : PageMap) → Moves now new (part_at next.page next.below) no_page
      → FreesFirst old new row (count + 1)
  one_freed new moves =
      let left : Row = joined f.left (more (child next.key next.page next.below) end) in
      record {
        left = left;
        right = next.rest;
        is = whole ∙ sym (joined-joined f.left (more (child next.key next.page next.below) end) next.rest);
        long =
            let parts = ap length (links-joined f.left (more (child next.key next.page next.below) end)) in
            omega (arith, parts, f.long, length-append (links_of f.left) ((next.key, next.page) ∷ []));
        moves = moves_same old new (both (λ n. occurs n f.left) (part_at next.page next.below))
            (λ n. occurs n left) no_page no_page
            (λ n. omega (arith, occurs-joined n f.left (more (child next.key next.page next.below) end)))
            (λ n. refl)
            (frees_both old now new (λ n. occurs n f.left) (part_at next.page next.below) f.moves there apart
            moves);
      }

-- once all children are freed the page itself is
module _ (dims : ℕ) (old now : PageMap) (page level : ℕ) (edge : Bool) (row : Row) (count : ℕ)
    (high : 0 < level) (s : NodeStands dims old page level edge row) (f : FreesFirst old now row count)
    (all : length (links_of row) ≤ count) where
  all_left : f.left ≡ row
  all_left =
      let parts = ap length (ap links_of f.is ∙ links-joined f.left f.right) in
      let none = no_links dims old level f.right high
      (stands-behind dims old level f.left f.right (subst (RowStands dims old level) f.is s.below))
      (omega (arith, parts, all, f.long, length-append (links_of f.left) (links_of f.right))) in
      sym (joined-end f.left) ∙ ap (joined f.left) (sym none) ∙ sym f.is

  row_moves : Moves old now (λ n. occurs n row) no_page
  row_moves = subst (λ r. Moves old now (λ n. occurs n r) no_page) all_left f.moves

  own : (n : ℕ) → 0 < one_page page n → IsSome (old n)
  own n some = part_there dims old page level edge row n s (omega (arith, some))

  apart_own : (n : ℕ) → both (λ n. occurs n row) (one_page page) n ≤ 1
  apart_own n = omega (arith, s.once n)

  pub page_still : IsSome (now page)
  page_still =
      subst IsSome
      (sym (the_rest_stays old now (λ n. occurs n row) no_page (one_page page) row_moves own apart_own page
      (omega (arith, occurs_here page))).0) (own page (omega (arith, occurs_here page)))

  pub all_freed : (new : PageMap) → SameBut page now new → new page ≡ None
      → Moves old new (part_at page row) no_page
  all_freed new others gone = moves_same old new (both (λ n. occurs n row) (one_page page)) (part_at page row)
      no_page no_page (λ n. omega arith) (λ n. refl)
      (frees_both old now new (λ n. occurs n row) (one_page page) row_moves own apart_own
      ((one_page_moves now new page others).2 gone))

-- a leaf is one page
pub leaf_freed : (dims : ℕ) (old new : PageMap) (page level : ℕ) (edge : Bool) (row : Row) → level ≡ 0
    → NodeStands dims old page level edge row → SameBut page old new → new page ≡ None
    → Moves old new (part_at page row) no_page
leaf_freed dims old new page level edge row low s others gone =
    moves_same old new (one_page page) (part_at page row) no_page no_page
    (λ n. omega (arith, leaf_pages dims old row n (subst (λ l. RowStands dims old l row) low s.below)))
    (λ n. refl) ((one_page_moves old new page others).2 gone)

-- the root as a node
pub root_node : (dims : ℕ) (old new : PageMap) (t : IdTree) (root level : ℕ) → t.page ≡ root → level ≡ t.level
    → ((n : ℕ) → new n ≡ old n) → TreeStands dims old t → NodeStands dims new root level true t.row
root_node dims old new t root level at is same s =
    subst (λ l. NodeStands dims new root l true t.row) (sym is)
    (subst (λ p. NodeStands dims new p t.level true t.row) at
    (stands_same dims old new t.page t.level true t.row same (root_stands dims old t s)))

-- ---- so far

module _ {B A : Type 0} {m : _} where
  pub record Freeing (dims page level : ℕ) (old now : PageCache B A m) (count : ℕ) : Type 0 where
    pub changes : ChangesUntil old now None
    pub next : next_of now ≡ next_of old
    pub grows : Grows 0 old now
    pub left : IsPageMap old → (edge : Bool) (row : Row) → NodeStands dims (pages old) page level edge row
        → IsPageMap now × FreesFirst (pages old) (pages now) row count

-- a refusal
module _ {B A : Type 0} {m : _} where
  pub frees_none : {old new : PageCache B A m} {r : Result (Unit {0}) Fault} {part : Part} (f : Fault)
      → IsErrAnd r (λ e. e ≡ f) → IsPageMap new → IsOfDevice f → Frees old new r part
  frees_none {r = Ok x} f is sound of = elim is [ ]
  frees_none {r = Err e} f is sound of =
      record { sound = sound; freed = tt; faults = subst IsOfDevice (sym is) of }
