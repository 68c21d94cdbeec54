-- What a page spells, and the test of it.
use Rattle.std.proofs.Common.{◌≡◌, ◌≢◌, ℕ, zero, suc, ◌^◌, ◌<◌, ◌≤◌, ◌&&◌, ◌||◌, ◌==◌, Bool, true, false, nat_le}
use Rattle.std.proofs.Common.{nat_lt, List, length, get_or, Option, Some, None, IfSome, IfNone, option_map}
use Rattle.std.proofs.Common.{refl, sym, ◌∙◌, ap, subst, arith, inl, inr, ◌↔◌}
use Rattle.std.proofs.lemmas.Bool.{cases_eq}
use Rattle.std.proofs.lemmas.Bool.Decides.{nat_tests}
use Rattle.std.proofs.lemmas.Option.{cond_some}
use Rattle.block_bytes.specs.Numbers.{number_at}
use Rattle.block_bytes.specs.PlaceLaws.{get_or-first_places, length-first_places}
use Rattle.box_math.specs.Bounds.{IsDims, all_over, dims_test, ordered_test}
use Rattle.box_bytes.specs.Laws.{all_over-each, all_over-from}
use Rattle.box_math.proofs.TestLaws.{ordered_test_true}
use Rattle.tree_node.specs.declared.node.Node.{Node}
use Rattle.tree_node.specs.Nodes.{Item, NodeContent, content_of}
use Rattle.node_bytes.specs.Layout.{item_at, items_at, IsReference, IsOfLevel, IsSpellable, IsEntry}
use Rattle.node_bytes.specs.Layout.{IsNodeKind, HasNodeHead, Spells, entry_test, node_test, node_at}
use Rattle.node_bytes.proofs.Places.{none_above, tag_none}

-- ---- the test of an entry, and of a page

refers_means : (level r : ℕ) (b : Bool) → (b && (level == 0 || (nat_le 3 r && nat_lt r (2 ^ 31)))) ≡ true
    → (b ≡ true) × IsReference level r
refers_means level r b h =
    (grind (arith, nat_tests), λ above. (grind (arith, nat_tests), grind (arith, nat_tests)))

refers_test : (level r : ℕ) (b : Bool) → b ≡ true → IsReference level r
    → (b && (level == 0 || (nat_le 3 r && nat_lt r (2 ^ 31)))) ≡ true
refers_test zero r b holds refers = grind (arith, nat_tests)
refers_test (suc level) r b holds refers = let both = refers (omega arith) in
    grind (arith, nat_tests, both.0, both.1)

entry_means : (dims level : ℕ) (item : Item) → entry_test dims level item ≡ true → IsEntry dims level item
entry_means dims level item h =
    let parts = refers_means level item.reference (ordered_test dims item.bounds.low item.bounds.high) h in
    record { ordered = (ordered_test_true dims item.bounds.low item.bounds.high).0 parts.0; refers = parts.1 }

entry_passes : (dims level : ℕ) (item : Item) → IsEntry dims level item → entry_test dims level item ≡ true
entry_passes dims level item is =
    refers_test level item.reference (ordered_test dims item.bounds.low item.bounds.high)
    ((ordered_test_true dims item.bounds.low item.bounds.high).1 is.ordered) is.refers

kind_means : (k : ℕ) → (k == 6 || k == 2) ≡ true → IsNodeKind k
kind_means k h = elim (cases_eq k 6) [ inl e ↦ inl e | inr o ↦ inr (grind (arith, nat_tests)) ]

kind_test : (k : ℕ) → IsNodeKind k → (k == 6 || k == 2) ≡ true
kind_test k (inl e) = grind (arith, nat_tests)
kind_test k (inr e) = grind (arith, nat_tests)

head_means : (kind : Bool) (d dims n l : ℕ) (b : Bool)
    → (kind && d == dims && nat_le n 100 && (l == 0 || nat_le 1 n) && b) ≡ true
    → (kind ≡ true) × (d ≡ dims) × (n ≤ 100) × (0 < l → 1 ≤ n) × (b ≡ true)
head_means kind d dims n l b h = (
  grind (arith, nat_tests),
  grind (arith, nat_tests),
  grind (arith, nat_tests),
  λ above. grind (arith, nat_tests),
  grind (arith, nat_tests),
)

head_test : (kind : Bool) (d dims n l : ℕ) (b : Bool) → kind ≡ true → d ≡ dims → n ≤ 100 → (0 < l → 1 ≤ n)
    → b ≡ true → (kind && d == dims && nat_le n 100 && (l == 0 || nat_le 1 n) && b) ≡ true
head_test kind d dims n zero b node is few some holds = grind (arith, nat_tests)
head_test kind d dims n (suc l) b node is few some holds = let more = some (omega arith) in
    grind (arith, nat_tests)

dims_means : (dims : ℕ) (b : Bool) → (dims_test dims && b) ≡ true → IsDims dims × (b ≡ true)
dims_means dims b h = ((grind (arith, nat_tests), grind (arith, nat_tests)), grind (arith, nat_tests))

dims_pass : (dims : ℕ) (b : Bool) → IsDims dims → b ≡ true → (dims_test dims && b) ≡ true
dims_pass dims b is holds = grind (arith, nat_tests, is.0, is.1)

-- where the page spells a node, reading it gives that node
pub spelled : (dims : ℕ) (page : List ℕ) (c : NodeContent) → Spells dims page c → node_at dims page ≡ Some c
unfolding node_at node_test
spelled dims page c s =
    let n = number_at 2 2 page in
    let l = number_at 1 4 page in
    let level : l ≡ c.level = s.head.level_is in
    let test : ℕ → Bool = λ place. entry_test dims l (item_at dims page place) in
    let each : all_over n test ≡ true =
    all_over-from n test
    (λ place lt. entry_passes dims l (item_at dims page place)
    (subst (λ (m : ℕ). IsEntry dims m (item_at dims page place)) (sym level) (s.each place lt))) in
    let kind = number_at 1 0 page in
    let passes = head_test (dims_test dims && (kind == 6 || kind == 2)) (number_at 1 1 page) dims n l
    (all_over n test) (dims_pass dims (kind == 6 || kind == 2) s.head.axes (kind_test kind s.head.kind))
    s.head.dims_is s.head.few (λ above. s.head.some (omega arith)) each in
    rw passes
    (ap (λ (m : ℕ). Some (record { level = m; entries = items_at dims page n })) level
    ∙ ap (λ (es : List Item). Some (record { level = c.level; entries = es })) (sym s.entries))

-- and what reading gives is spelled so
pub spells : (dims : ℕ) (page : List ℕ) (c : NodeContent) → node_at dims page ≡ Some c → Spells dims page c
unfolding node_at node_test
spells dims page c h =
    let n = number_at 2 2 page in
    let l = number_at 1 4 page in
    let test = all_over n (λ place. entry_test dims l (item_at dims page place)) in
    let kind = number_at 1 0 page in
    let parts =
    cond_some
    (dims_test dims && (kind == 6 || kind == 2) && number_at 1 1 page == dims && nat_le n 100
    && (l == 0 || nat_le 1 n) && test) (record { level = l; entries = items_at dims page n }) c h in
    let means = head_means (dims_test dims && (kind == 6 || kind == 2)) (number_at 1 1 page) dims n l test
    parts.0 in
    let axes = dims_means dims (kind == 6 || kind == 2) means.0 in
    let level : l ≡ c.level = ap (λ (x : NodeContent). x.level) parts.1 in
    record {
      head = record {
        axes = axes.0;
        kind = kind_means kind axes.1;
        dims_is = means.1;
        level_is = level;
        few = means.2;
        some = λ above. means.3 (omega arith);
      };
      each = λ place lt. subst (λ (m : ℕ). IsEntry dims m (item_at dims page place)) level
          (entry_means dims l (item_at dims page place)
          (all_over-each n (λ k. entry_test dims l (item_at dims page k)) means.4 place lt));
      entries = sym (ap (λ (x : NodeContent). x.entries) parts.1);
    }

-- the test tells whether the page spells a node
pub test_of_node : (dims : ℕ) (page : List ℕ) (c : NodeContent) → node_at dims page ≡ Some c
    → node_test dims page ≡ true
unfolding node_at
test_of_node dims page c h =
    (cond_some (node_test dims page)
    (record { level = number_at 1 4 page; entries = items_at dims page (number_at 2 2 page) }) c h).0

pub node_of_test : (dims : ℕ) (page : List ℕ) → node_test dims page ≡ true
    → node_at dims page ≡ Some (record {
      level = number_at 1 4 page;
      entries = items_at dims page (number_at 2 2 page);
    })
unfolding node_at
node_of_test dims page h = rw h refl

pub no_test : (dims : ℕ) (page : List ℕ) → ((c : NodeContent) → node_at dims page ≡ Some c → ⊥)
    → node_test dims page ≡ false
no_test dims page none = case (node_test dims page) refl
  where
    case : (t : Bool) → node_test dims page ≡ t → node_test dims page ≡ false
    case true t = absurd (none _ (node_of_test dims page t))
    case false t = t

-- ---- what readers of a page that spells a node know

pub size_of : (dims : ℕ) (page : List ℕ) (c : NodeContent) → Spells dims page c
    → number_at 2 2 page ≡ length c.entries
size_of dims page c s =
    sym (ap length s.entries ∙ length-first_places (item_at dims page) (number_at 2 2 page))

pub item_of_node : (dims : ℕ) (page : List ℕ) (c : NodeContent) (place : ℕ) (other : Item)
    → Spells dims page c → place < length c.entries → get_or c.entries place other ≡ item_at dims page place
item_of_node dims page c place other s lt =
    let size = size_of dims page c s in
    ap (λ (es : List Item). get_or es place other) s.entries
    ∙ get_or-first_places (item_at dims page) (number_at 2 2 page) place other (omega arith)

-- above the leaves no entry has a tag
no_tag : (dims place : ℕ) (page : List ℕ) → 0 < number_at 1 4 page → (item_at dims page place).tag ≡ 0
unfolding item_at
no_tag dims place page above = tag_none dims place page (none_above page above)

-- what a page spells can be spelled
pub spellable : (dims : ℕ) (page : List ℕ) (c : NodeContent) → Spells dims page c → IsSpellable c
spellable dims page c s =
    let size = size_of dims page c s in
    let few = s.head.few in
    let of_level : (k : ℕ) → IsReference c.level (item_at dims page k).reference
    → IsOfLevel c.level (item_at dims page k).reference (item_at dims page k).tag =
    λ k refers above.
    ((refers above).0, (refers above).1, no_tag dims k page (omega (arith, above, s.head.level_is))) in
    record {
      few = omega arith;
      some = λ above. let some = s.head.some above in omega arith;
      refers =
          λ k other lt. subst (λ (item : Item). IsOfLevel c.level item.reference item.tag)
          (sym (item_of_node dims page c k other s lt)) (of_level k (s.each k (omega arith)).refers);
    }

-- ---- decoding

-- without its head the page spells no node of the level
pub no_head : (dims level : ℕ) (page : List ℕ) → (HasNodeHead dims level page → ⊥) → (c : NodeContent)
    → node_at dims page ≡ Some c → c.level ≢ level
no_head dims level page none c is =
    λ same. none (subst (λ (l : ℕ). HasNodeHead dims l page) same (spells dims page c is).head)

-- nor with a place that holds no entry of it
pub no_place : (dims level place : ℕ) (page : List ℕ) → place < number_at 2 2 page
    → (IsEntry dims level (item_at dims page place) → ⊥) → (c : NodeContent) → node_at dims page ≡ Some c
    → c.level ≢ level
no_place dims level place page lt none c is =
    λ same. none
    (subst (λ (l : ℕ). IsEntry dims l (item_at dims page place)) same ((spells dims page c is).each place lt))

-- nor where not each place holds one
pub no_places : (dims level : ℕ) (page : List ℕ)
    → (((place : ℕ) → place < number_at 2 2 page → IsEntry dims level (item_at dims page place)) → ⊥)
    → (c : NodeContent) → node_at dims page ≡ Some c → c.level ≢ level
no_places dims level page none c is =
    λ same. none
    (λ place lt. subst (λ (l : ℕ). IsEntry dims l (item_at dims page place)) same
    ((spells dims page c is).each place lt))

-- with its head and an entry in each place it spells a node
pub all_places : (dims level count : ℕ) (page : List ℕ) (items : List Item) → HasNodeHead dims level page
    → count ≡ number_at 2 2 page → items ≡ items_at dims page count
    → ((place : ℕ) → place < count → IsEntry dims level (item_at dims page place))
    → node_at dims page ≡ Some (record { level = level; entries = items })
all_places dims level count page items head same is each =
    spelled dims page (record { level = level; entries = items }) (record {
      head = head;
      each = λ place lt. each place (omega arith);
      entries = is ∙ ap (items_at dims page) same;
    })

-- where the page spells the node, one that is decoded is that, and none is none of its level
pub comes_back : {D : ℕ} (o : Option (Node D)) (c : NodeContent) (found : Option NodeContent)
    → found ≡ Some c → IfSome o (λ node. found ≡ Some (content_of node))
    → IfNone o ((other : NodeContent) → found ≡ Some other → other.level ≢ c.level)
    → option_map content_of o ≡ Some c
comes_back (Some node) c found is some none = sym some ∙ is
comes_back None c found is some none = absurd (none c is refl)

-- ---- a page of which the test is known

module _ (dims : ℕ) (page : List ℕ) where
  -- on a page of its level, a test of the entries is one of the page
  pub entries_tell : (level count : ℕ) (test : Bool) → HasNodeHead dims level page → level ≡ number_at 1 4 page
      → count ≡ number_at 2 2 page
      → ((test ≡ true) ↔ ((place : ℕ) → place < count → IsEntry dims level (item_at dims page place)))
      → test ≡ node_test dims page
  entries_tell level count true head is same means =
      sym (test_of_node dims page _ (all_places dims level count page (items_at dims page count) head same refl
      (means.0 refl)))
  entries_tell level count false head is same means =
      sym (no_test dims page (λ c node. no_places dims level page
      (λ each. let found : false ≡ true = means.1 (λ place lt. each place (omega arith)) in cc) c node
      (sym (spells dims page c node).head.level_is ∙ sym is)))

  -- and so is one of the head that fails
  pub head_tells : (level : ℕ) (test : Bool) → level ≡ number_at 1 4 page
      → ((test ≡ true) ↔ HasNodeHead dims level page) → test ≡ false → test ≡ node_test dims page
  head_tells level test is means fails =
      fails ∙ sym (no_test dims page (λ c node. no_head dims level page
      (λ head. let found : test ≡ true = means.1 head in cc) c node
      (sym (spells dims page c node).head.level_is ∙ sym is)))

  module _ (level count : ℕ) (known : node_test dims page ≡ true) (is : level ≡ number_at 1 4 page)
      (same : count ≡ number_at 2 2 page) where
    -- a page that passed the test spells the node of its places
    pub known_node : node_at dims page
        ≡ Some (record { level = level; entries = items_at dims page count })
    known_node =
        node_of_test dims page known
        ∙ ap (λ (l : ℕ). Some (record { level = l; entries = items_at dims page (number_at 2 2 page) })) (sym is)
        ∙ ap (λ (n : ℕ). Some (record { level = level; entries = items_at dims page n })) (sym same)

    pub known_entries : (place : ℕ) → place < count → IsEntry dims level (item_at dims page place)
    known_entries place lt =
        (spells dims page (record { level = level; entries = items_at dims page count }) known_node).each place
        (omega arith)

    pub known_few : count ≤ 100
    known_few =
        let s = spells dims page (record { level = level; entries = items_at dims page count }) known_node in
        let few = s.head.few in omega arith
