-- The page that is damaged is one that a walk comes to from one of two roots.
use Rattle.std.proofs.Common.{◌≡◌, ◌∙◌, ℕ, zero, suc, ◌<◌, List, [], ◌∷◌, Contains, Option, Some, None}
use Rattle.std.proofs.Common.{length, map, get_or, ap, refl, sym, subst, arith}
use Rattle.std.proofs.lemmas.List.{length-map}
use Rattle.box_math.specs.Bounds.{Bounds}
use Rattle.tree_node.specs.Boxes.{no_item}
use Rattle.tree_node.specs.declared.node.Entry.{Entry}
use Rattle.tree_node.specs.Nodes.{Item, NodeContent, item_of}
use Rattle.tree_node.proofs.RowLemmas.{entry_item}
use Rattle.node_page.specs.Checked.{ComesBelow, ComesTo, Names}
use Rattle.node_page.specs.Standing.{PageMap}
use Rattle.node_page.proofs.DamageLemmas.{comes_below_so, entry_names}
use Rattle.spatial_join.specs.Opening.{lone, sole}

-- an entry above the leaves names its page
pub names_here : {dims : ℕ} (c : NodeContent) (entries all : List (Entry dims)) (i : ℕ) (e : Entry dims)
    → c.entries ≡ map item_of all → entries ≡ all → 0 < c.level → i < length entries
    → e ≡ get_or entries i e → Names c e.reference
names_here c entries all i e whole same above within is =
    entry_names c (map item_of entries) i (item_of e) (whole ∙ ap (map item_of) (sym same)) above
    (omega (arith, within, length-map entries item_of)) (entry_item entries i e within is)

-- a node with one entry, or none, names no other page
only_named : (o : Option Bounds) (page next i : ℕ)
    → i < length (map (λ (item : Item). item.reference) (lone o page))
    → get_or (map (λ (item : Item). item.reference) (lone o page)) i next ≡ next → next ≡ page
only_named None page next i within is = absurd (omega (arith, within))
only_named (Some b) page next zero within is = sym is
only_named (Some b) page next (suc i) within is = absurd (omega (arith, within))

pub below_lone : (dims : ℕ) (m : PageMap) (c : NodeContent) (o : Option Bounds) (page n : ℕ)
    → c.entries ≡ lone o page → ComesBelow dims m c n → ComesTo dims m page n
below_lone dims m c o page n is below =
    let named = subst (λ (xs : List Item). Contains (map (λ (item : Item). item.reference) xs) below.0) is
    below.1.1 in
    subst (λ (k : ℕ). ComesTo dims m k n) (only_named o page below.0 named.0 named.1 named.2) below.2

-- walks are the same where the pages are
pub comes_to_so : (dims : ℕ) (old new : PageMap) (page n : ℕ) → ((k : ℕ) → new k ≡ old k)
    → ComesTo dims new page n → ComesTo dims old page n
comes_to_so dims old new page n same walk =
    let item : Item = record { bounds = no_item.bounds; reference = page; tag = 0 } in
    let above : NodeContent = sole 1 item in
    below_lone dims old above (Some no_item.bounds) page n refl
    (comes_below_so dims old new above n same (
      page,
      entry_names above (item ∷ []) 0 item refl (omega arith)
          (omega arith) refl,
      walk,
    ))
