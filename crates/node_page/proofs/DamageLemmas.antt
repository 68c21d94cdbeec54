-- The page that is damaged is one that a walk comes to.
use Rattle.std.proofs.Common.{◌≡◌, ◌∙◌, ◌⊎◌, ℕ, zero, suc, ◌-◌, ◌<◌, ◌≤◌, ◌^◌, Option, Some, List, [], ◌∷◌}
use Rattle.std.proofs.Common.{length, map, get_or, sym, ap, subst, ⊎_elim, arith}
use Rattle.std.proofs.lemmas.List.{length-map}
use Rattle.page_file.specs.Fault.{IsOfDevice}
use Rattle.page_file.specs.declared.fault.Fault.{Fault}
use Rattle.page_file.specs.declared.fault.Fault.TheVariants as fault
use Rattle.tree_node.specs.Boxes.{no_item}
use Rattle.tree_node.specs.Nodes.{Item, NodeContent, references_of}
use Rattle.node_page.specs.Checked.{ComesBelow, ComesTo, ComesToNone, Leads, Names}
use Rattle.node_page.specs.Standing.{PageMap, node_in}
use Rattle.node_page.proofs.NodeLemmas.{bytes_of_node}
use Rattle.node_bytes.proofs.Reading.{spellable, spells}

-- the only page that a fault can name
pub damaged_visit : (f : Fault) (page n : ℕ) → (f ≡ fault.Memory) ⊎ (f ≡ fault.Damaged page)
    → f ≡ fault.Damaged n → n ≡ page
damaged_visit f page n either damaged =
    ⊎_elim (λ (is : f ≡ fault.Memory). absurd (cc)) (λ (is : f ≡ fault.Damaged page). cc) either

pub damaged_read : (f : Fault) (page n : ℕ) → IsOfDevice f ⊎ (f ≡ fault.Damaged page) → f ≡ fault.Damaged n
    → n ≡ page
damaged_read f page n either damaged = ⊎_elim
    (λ (device : IsOfDevice f). ⊎_elim (λ (is : f ≡ fault.Memory). absurd (cc))
    (λ (is : f ≡ fault.Device). absurd (cc)) device)
    (λ (is : f ≡ fault.Damaged page). cc)
    either

reference_at : (items : List Item) (i : ℕ) (x : Item) → i < length items → x ≡ get_or items i x
    → get_or (map (λ (item : Item). item.reference) items) i x.reference ≡ x.reference
reference_at [] i x lt is = absurd (omega (arith, lt))
reference_at (y ∷ ys) zero x lt is = ap (λ (e : Item). e.reference) (sym is)
reference_at (y ∷ ys) (suc i) x lt is = reference_at ys i x (omega arith) is

-- an entry above the leaves names its page
pub entry_names : (c : NodeContent) (items : List Item) (i : ℕ) (x : Item) → c.entries ≡ items → 0 < c.level
    → i < length items → x ≡ get_or items i x → Names c x.reference
entry_names c items i x same above within is =
    let there : get_or (references_of c) i x.reference ≡ x.reference =
    subst (λ (xs : List Item). get_or (map (λ (item : Item). item.reference) xs) i
    x.reference ≡ x.reference) (sym same) (reference_at items i x within is) in (
      above,
      (
        i,
        omega (arith, within, ap length same, length-map c.entries (λ (item : Item). item.reference)),
        there,
      ),
    )

module _ (dims : ℕ) (m : PageMap) where
  -- the page of a child, and a page below it
  pub comes_to_child : (c : NodeContent) (page n : ℕ) → Names c page → n ≡ page → ComesBelow dims m c n
  comes_to_child c page n names is = (page, names, ([], is))

  pub comes_on : (page : ℕ) (c : NodeContent) (n : ℕ) → node_in dims (m page) ≡ Some c
      → ComesBelow dims m c n → ComesTo dims m page n
  comes_on page c n there below = (below.0 ∷ below.2.0, ((c, there, below.1), below.2.1))

  pub comes_below_child : (c below : NodeContent) (page n : ℕ) → Names c page
      → node_in dims (m page) ≡ Some below → ComesBelow dims m below n → ComesBelow dims m c n
  comes_below_child c below page n names there walk = (page, names, comes_on page below n there walk)

-- walks are the same where the pages are
leads_so : (dims : ℕ) (old new : PageMap) (page : ℕ) (walk : List ℕ) (n : ℕ) → ((k : ℕ) → new k ≡ old k)
    → Leads dims new page walk n → Leads dims old page walk n
leads_so dims old new page [] n same leads = leads
leads_so dims old new page (next ∷ walk) n same leads = (
  (leads.0.0, ap (node_in dims) (sym (same page)) ∙ leads.0.1, leads.0.2),
  leads_so dims old new next walk n same leads.1,
)

pub comes_below_so : (dims : ℕ) (old new : PageMap) (c : NodeContent) (n : ℕ) → ((k : ℕ) → new k ≡ old k)
    → ComesBelow dims new c n → ComesBelow dims old c n
comes_below_so dims old new c n same below =
    (below.0, below.1, (below.2.0, leads_so dims old new below.0 below.2.0 n same below.2.1))

pub comes_so : (dims : ℕ) (old new : PageMap) (page n : ℕ) → ((k : ℕ) → new k ≡ old k)
    → ComesTo dims new page n → ComesTo dims old page n
comes_so dims old new page n same walk = (walk.0, leads_so dims old new page walk.0 n same walk.1)

-- memory and the device are no damage
pub not_damaged : (f : Fault) (n : ℕ) → IsOfDevice f → f ≡ fault.Damaged n → ⊥
not_damaged f n device damaged =
    ⊎_elim (λ (is : f ≡ fault.Memory). absurd (cc)) (λ (is : f ≡ fault.Device). absurd (cc)) device

-- a page of no node, and a page of none below a child
pub none_here : (dims : ℕ) (m : PageMap) (page level n : ℕ) → n ≡ page
    → ((c : NodeContent) → node_in dims (m page) ≡ Some c → ¬ (c.level ≡ level))
    → ComesToNone dims m page level n
none_here dims m page level n is none = (
  [],
  is,
  λ c there same. none c (subst (λ (k : ℕ). node_in dims (m k) ≡ Some c) is there) (omega (arith, same)),
)

pub none_on : (dims : ℕ) (old new : PageMap) (page level : ℕ) (c : NodeContent) (next n : ℕ)
    → node_in dims (old page) ≡ Some c → Names c next → 0 < level → ((k : ℕ) → new k ≡ old k)
    → ComesToNone dims new next (level - 1) n → ComesToNone dims old page level n
none_on dims old new page level c next n there names above same none = (
  next ∷ none.0,
  ((c, there, names), leads_so dims old new next none.0 n same none.1),
  λ d is e. none.2 d (ap (node_in dims) (same n) ∙ is) (omega (arith, above, e)),
)

-- ---- each page that a walk comes to is the first one, or has a number that a node can refer to

named_at : (items : List Item) (k page : ℕ) → k < length items
    → get_or (map (λ (item : Item). item.reference) items) k page ≡ page
    → (get_or items k no_item).reference ≡ page
named_at [] k page lt is = absurd (omega (arith, lt))
named_at (x ∷ xs) zero page lt is = is
named_at (x ∷ xs) (suc k) page lt is = named_at xs k page (omega (arith, lt)) is

name_in_range : (dims : ℕ) (page : Option (List ℕ)) (c : NodeContent) (next : ℕ)
    → node_in dims page ≡ Some c → Names c next → (3 ≤ next) × (next < 2 ^ 31)
name_in_range dims page c next there names =
    let bytes = bytes_of_node dims page c there in
    let within : names.1.0 < length c.entries =
    omega (arith, names.1.1, length-map c.entries (λ (item : Item). item.reference)) in
    let node = spellable dims bytes.0 c (spells dims bytes.0 c bytes.2) in
    let range = node.refers names.1.0 no_item within names.0 in
    subst (λ (k : ℕ). (3 ≤ k) × (k < 2 ^ 31)) (named_at c.entries names.1.0 next within names.1.2)
    (range.0, range.1)

leads_in_range : (dims : ℕ) (m : PageMap) (page : ℕ) (walk : List ℕ) (n : ℕ) → (3 ≤ page) × (page < 2 ^ 31)
    → Leads dims m page walk n → (3 ≤ n) × (n < 2 ^ 31)
leads_in_range dims m page [] n range leads =
    subst (λ (k : ℕ). (3 ≤ k) × (k < 2 ^ 31)) (sym leads) range
leads_in_range dims m page (next ∷ walk) n range leads =
    leads_in_range dims m next walk n (name_in_range dims (m page) leads.0.0 next leads.0.1 leads.0.2) leads.1

pub comes_in_range : (dims : ℕ) (m : PageMap) (page n : ℕ) → (3 ≤ page) × (page < 2 ^ 31)
    → ComesTo dims m page n → (3 ≤ n) × (n < 2 ^ 31)
comes_in_range dims m page n range walk = leads_in_range dims m page walk.0 n range walk.1
