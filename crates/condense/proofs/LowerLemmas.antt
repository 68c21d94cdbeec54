-- The root gives way to its only child, and so on.
use Rattle.std.proofs.Common.{◌≡◌, ◌∙◌, ℕ, suc, ◌+◌, ◌-◌, ◌<◌, IsSome, Some}
use Rattle.std.proofs.Common.{None, length, get_or, refl, sym, ap, subst, arith}
use Rattle.page_file.specs.Pages.{SameBut}
use Rattle.tree_node.specs.declared.node.Root.{Root}
use Rattle.tree_node.specs.Boxes.{no_item}
use Rattle.tree_node.specs.Nodes.{Item}
use Rattle.tree_node.specs.Trees.{Row, end, more, object, child, Tree, occurs, occurs_in, row_items}
use Rattle.tree_node.specs.Trees.{row_length}
use Rattle.tree_node.proofs.RowLemmas.{occurs_here}
use Rattle.node_page.specs.Parts.{Moves, no_page, one_page}
use Rattle.node_page.specs.Standing.{PageMap, HasNode, Stands, node_in}
use Rattle.node_page.proofs.PartLemmas.{moves_in_turn, moves_same, one_page_moves, staying_moves}
use Rattle.node_page.proofs.StandingLemmas.{equal_pages_stand, page_of_node, pages_are_there}
use Rattle.reinsert.specs.Children.{Child, child_at, occurs_at}
use Rattle.reinsert.specs.Inserted.{IsRootOf}
use Rattle.reinsert.proofs.ChildLemmas.{HasChild, has_child}
use Rattle.reinsert.proofs.StandLemmas.{moves_with}
use Rattle.condense.specs.Filled.{GivesWayTo}
use Rattle.condense.specs.Removal.{GivesWay}
use Rattle.condense.proofs.CutLemmas.{length-items}

-- the roots so far have given way
pub record Lowered (dims : ℕ) (m m1 : PageMap) (t : Tree) (now : Root) : Type 0 where
  pub mid : Tree
  pub at : IsRootOf now mid
  pub stands : Stands dims m1 mid
  pub moves : Moves m m1 (λ n. occurs_in n t) (λ n. occurs_in n mid)
  pub goes : (count : ℕ) (new : Tree) → GivesWay count mid new → (total : ℕ) × GivesWay total t new

pub lowered_first : (dims : ℕ) (m : PageMap) (t : Tree) (root : Root) → IsRootOf root t → Stands dims m t
    → Lowered dims m m t root
lowered_first dims m t root at stands = record {
  mid = t;
  at = at;
  stands = stands;
  moves = staying_moves m m (λ n. occurs_in n t) (λ n. refl) stands.distinct
      (λ n there. pages_are_there dims m t n stands there);
  goes = λ count new h. (count, h);
}

pub lowered_same : (dims : ℕ) (m m1 m2 : PageMap) (t : Tree) (now : Root) → ((n : ℕ) → m2 n ≡ m1 n)
    → Lowered dims m m1 t now → Lowered dims m m2 t now
lowered_same dims m m1 m2 t now same h = record {
  mid = h.mid;
  at = h.at;
  stands = equal_pages_stand dims m1 m2 h.mid (λ n there. same n) h.stands;
  moves = moves_in_turn m m1 m2 _ _ _ h.moves
      (staying_moves m1 m2 (λ n. occurs_in n h.mid) same h.moves.once h.moves.live);
  goes = h.goes;
}

-- an only child has all pages below
only_child : (n : ℕ) (row : Row) (c : Child) → row_length row ≡ 1 → child_at row 0 ≡ Some c
    → occurs n row ≡ occurs_at c.page n c.row
only_child n end c one is = absurd (cc)
only_child n (more (object b i) rest) c one is = absurd (cc)
only_child n (more (child b page below) end) c one is =
    let this : record { page = page; row = below } ≡ c = cc in
    omega (arith, ap (λ (x : Child). occurs_at x.page n x.row) this)
only_child n (more (child b page below) (more x rest)) c one is = absurd (omega (arith, one))

pub root_is_live : (dims : ℕ) (m m1 : PageMap) (t : Tree) (now : Root) → Lowered dims m m1 t now
    → IsSome (m1 now.page)
root_is_live dims m m1 t now h =
    subst (λ n. IsSome (m1 n)) h.at.page (page_of_node dims (m1 h.mid.page) _ h.stands.root)

-- the node that its page had before it was only read
pub root_node : (dims : ℕ) (m m0 m1 : PageMap) (t : Tree) (now : Root) (h : Lowered dims m m1 t now)
    → ((n : ℕ) → m1 n ≡ m0 n) → HasNode dims m0 now.page h.mid.level h.mid.row
root_node dims m m0 m1 t now h same = ap (node_in dims) (sym (same now.page))
    ∙ subst (λ n. HasNode dims m1 n h.mid.level h.mid.row) h.at.page h.stands.root

module _ {dims : ℕ} (m m1 m2 : PageMap) (t : Tree) (now below : Root) (h : Lowered dims m m1 t now)
    (high : 0 < now.level)
    (one : length (row_items h.mid.row) ≡ 1)
    (refers : (d : Item) → below.page ≡ (get_or (row_items h.mid.row) 0 d).reference)
    (low : below.level ≡ now.level - 1) (others : SameBut now.page m1 m2)
    (gone : m2 now.page ≡ None) where
  count : row_length h.mid.row ≡ 1
  count = omega (arith, one, length-items h.mid.row)

  c : HasChild dims m1 h.mid.level h.mid.row 0
  c = has_child dims m1 h.mid.level h.mid.row 0 (omega (arith, high, h.at.level))
      (omega (arith, count, length-items h.mid.row)) h.stands.below

  page : below.page ≡ c.from.page
  page = let d = no_item in refers d ∙ c.reference d

  down : h.mid.level - 1 ≡ below.level
  down = omega (arith, low, h.at.level)

  abbrev next : Tree
  next = record { page = c.from.page; level = h.mid.level - 1; row = c.from.row }

  all : (n : ℕ) → occurs_in n h.mid ≡ one_page h.mid.page n + occurs_in n next
  all n = omega (arith, only_child n h.mid.row c.from count c.there)

  apart : (n : ℕ) → 0 < occurs_in n next → ¬ (n ≡ now.page)
  apart n there same =
      omega (
        arith,
        there,
        all n,
        h.stands.distinct n,
        occurs_here n,
        ap (λ k. one_page k n) (h.at.page ∙ sym same),
      )

  next_stands : Stands dims m2 next
  next_stands = equal_pages_stand dims m1 m2 next (λ n there. others n (apart n there))
      (record { root = c.node; below = c.stands; distinct = λ n. omega (arith, all n, h.stands.distinct n) })

  step : Moves m1 m2 (λ n. occurs_in n h.mid) (λ n. occurs_in n next)
  step =
      let off : Moves m1 m2 (one_page h.mid.page) no_page =
      subst (λ k. Moves m1 m2 (one_page k) no_page) (sym h.at.page)
      ((one_page_moves m1 m2 now.page others).2 gone) in
      moves_same m1 m2 _ _ _ _ (λ n. sym (all n)) (λ n. omega arith)
      (moves_with m1 m2 (one_page h.mid.page) no_page (λ n. occurs_in n next) off
      (λ n. omega (arith, all n, h.stands.distinct n))
      (λ n there. pages_are_there dims m1 h.mid n h.stands (omega (arith, there, all n))))

  pub lowered_more : Lowered dims m m2 t below
  lowered_more = record {
    mid = next;
    at = record { page = sym page; level = down };
    stands = next_stands;
    moves = moves_in_turn m m1 m2 _ _ _ h.moves step;
    goes = λ k new gives. h.goes (suc k) new (omega (arith, high, h.at.level), count, c.from, c.there, gives);
  }

-- a leaf, or a root with another count of entries, does not give way
pub lowered_end : (dims : ℕ) (m m1 : PageMap) (t : Tree) (now : Root) (h : Lowered dims m m1 t now)
    → (0 < now.level → ¬ (row_length h.mid.row ≡ 1)) → GivesWayTo dims m m1 t now
lowered_end dims m m1 t now h stays =
    let total = h.goes 0 h.mid (refl, λ high. stays (omega (arith, high, h.at.level))) in
    record { new = h.mid; at = h.at; stands = h.stands; count = total.0; lowered = total.1; moves = h.moves }
