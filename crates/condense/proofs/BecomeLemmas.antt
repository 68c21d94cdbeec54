-- What a node has become: in its page, with enough entries or too few, or in hand.
use Rattle.std.proofs.Common.{◌≡◌, ◌∙◌, ℕ, zero, suc, ◌<◌, Bool, false, true, List, [], ◌∷◌, Option, Some, length}
use Rattle.std.proofs.Common.{map, refl, sym, ap, arith}
use Rattle.box_math.specs.Bounds.{Bounds}
use Rattle.tree_node.specs.Boxes.{box_at, least_box}
use Rattle.tree_node.specs.Nodes.{Item, NodeContent, content_of, item_of}
use Rattle.tree_node.specs.Shape.{least_entries}
use Rattle.tree_node.specs.declared.node.Node.{Node}
use Rattle.tree_node.specs.declared.node.Root.{Root}
use Rattle.node_bytes.specs.Enlarged.{set_box}
use Rattle.node_page.specs.Standing.{PageMap, node_in}
use Rattle.condense.specs.Becoming.{IfFew, IsFewInHand, IsNow, IsSettledAs, IsWrittenWith, is_written}
use Rattle.condense.specs.Taken.{IsCut}
use Rattle.condense.specs.declared.hand.Became.{Became}
use Rattle.condense.specs.declared.hand.InHand.{InHand}
use Rattle.condense.specs.declared.hand.Became.TheVariants.{Few, Settled, Unwritten}

-- an entry that gets the box that it has stays
pub set_box_same : (items : List Item) (at : ℕ) (b : Bounds) → at < length items → box_at items at ≡ b
    → set_box items at b ≡ items
set_box_same [] at b within is = refl
set_box_same (item ∷ items) zero b within is =
    ap (λ (x : Bounds). record { bounds = x; reference = item.reference; tag = item.tag } ∷ items) (sym is)
set_box_same (item ∷ items) (suc at) b within is =
    ap (λ (xs : List Item). item ∷ xs) (set_box_same items at b (omega (arith, within)) is)

module _ {D : ℕ} (most count : ℕ) (least : Bounds) where
  pub cut_written : (became : Became D) (level : ℕ) (hand : Node D) → IsWrittenWith most count least became
      → IsFewInHand most level hand became
  cut_written (Settled box) level hand is = tt
  cut_written Few level hand is = tt
  cut_written Unwritten level hand is = absurd is

  pub now_written : (became : Became D) (page : Option (List ℕ)) (level : ℕ) (items : List Item)
      (hand : Node D) → node_in D page ≡ Some (record { level = level; entries = items })
      → count ≡ length items → least ≡ least_box D items → IsWrittenWith most count least became
      → IsNow most page level items hand became
  now_written (Settled box) page level items hand there many round is =
      (there, omega (arith, is.0, many), is.1 ∙ round)
  now_written Few page level items hand there many round is = (there, omega (arith, is, many))
  now_written Unwritten page level items hand there many round is = absurd is

  pub few_written : (became : Became D) (n : ℕ) → count ≡ n → IsWrittenWith most count least became
      → IfFew became (n < least_entries most)
  few_written (Settled box) n many is = tt
  few_written Few n many is = omega (arith, is, many)
  few_written Unwritten n many is = absurd is

-- ---- the root

pub in_page : {D : ℕ} (most : ℕ) (page : Option (List ℕ)) (level : ℕ) (items : List Item) (hand : Node D)
    (became : Became D) → IsNow most page level items hand became → is_written became ≡ true
    → node_in D page ≡ Some (record { level = level; entries = items })
in_page most page level items hand (Settled box) now is = now.0
in_page most page level items hand Few now is = now.0
in_page most page level items hand Unwritten now is = absurd (cc)

pub in_hand : {D : ℕ} (most : ℕ) (page : Option (List ℕ)) (level : ℕ) (items : List Item) (hand : Node D)
    (became : Became D) → IsNow most page level items hand became → is_written became ≡ false
    → items ≡ map item_of hand.entries.items
in_hand most page level items hand (Settled box) now is = absurd (cc)
in_hand most page level items hand Few now is = absurd (cc)
in_hand most page level items hand Unwritten now is = now.0

-- and once it is written where it is not settled, its page has it
pub root_written : {D : ℕ} (root : Root) (m m' : PageMap) (items : List Item) (hand : InHand D)
    → IsSettledAs D root m items hand → (hand.settled ≡ true → m' root.page ≡ m root.page)
    → (hand.settled ≡ false → hand.node.level ≡ root.level)
    → (hand.settled ≡ false → node_in D (m' root.page) ≡ Some (content_of hand.node))
    → node_in D (m' root.page) ≡ Some (record { level = root.level; entries = items })
root_written {D} root m m' items hand is stays level written = case hand.settled refl
  where
    case : (b : Bool) → hand.settled ≡ b
        → node_in D (m' root.page) ≡ Some (record { level = root.level; entries = items })
    case true settled = ap (node_in D) (stays settled) ∙ is.0 settled
    case false unwritten = written unwritten
        ∙ ap (λ (l : ℕ). Some
        (let c : NodeContent = record { level = l; entries = map item_of hand.node.entries.items } in c))
        (level unwritten)
        ∙ ap (λ (xs : List Item). Some (let c : NodeContent = record { level = root.level; entries = xs } in c))
        (sym (is.1 unwritten))

pub cut_in_hand : {D : ℕ} (most level : ℕ) (hand : Node D) (became : Became D)
    → IsFewInHand most level hand became → is_written became ≡ false → IsCut level (content_of hand)
cut_in_hand most level hand (Settled box) cut is = absurd (cc)
cut_in_hand most level hand Few cut is = absurd (cc)
cut_in_hand most level hand Unwritten cut is = cut.0
