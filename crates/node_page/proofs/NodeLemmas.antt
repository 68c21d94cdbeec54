-- A node at a page of a map, and a page that was refused.
use Rattle.std.proofs.Common.{◌≡◌, ◌∙◌, ◌⊎◌, ℕ, ◌<◌, ◌≤◌, List, Option, Some, Result, Ok, Err, IfErr, OnOk}
use Rattle.std.proofs.Common.{IsErrAnd, sym, ap, subst, inl, inr, ⊎_elim, arith, length, map, None, refl}
use Rattle.std.proofs.lemmas.Bool.{cases_lt}
use Rattle.std.proofs.lemmas.List.{length-map}
use Rattle.std.proofs.lemmas.List.Elements.{All-from_get_or}
use Rattle.box_math.specs.Bounds.{origin_box}
use Rattle.page_file.specs.Fault.{IsOfDevice}
use Rattle.page_file.specs.declared.fault.Fault.{Fault}
use Rattle.page_file.specs.declared.fault.Fault.TheVariants as fault
use Rattle.tree_node.specs.Nodes.{NodeContent, Item, content_of, item_of}
use Rattle.node_bytes.specs.Layout.{IsOfLevel, IsSpellable, node_at}
use Rattle.node_page.specs.Standing.{node_in}
use Rattle.tree_node.specs.declared.node.Node.{Node}

-- the answer of a call that was refused
pub at_error : {T E : Type 0} (r : Result T E) (f : E) (P : E → Type 0) → IsErrAnd r (λ e. e ≡ f) → P f
    → IfErr r P
at_error (Ok x) f P is p = tt
at_error (Err e) f P is p = subst P (sym is) p

-- what a refusal says, said in another way
pub if_error : {T E : Type 0} (r : Result T E) (P Q : E → Type 0) → ((e : E) → P e → Q e) → IfErr r P
    → IfErr r Q
if_error (Ok x) P Q so h = h
if_error (Err e) P Q so h = so e h

-- it is that refusal
pub is_refusal : {T : Type 0} (r : Result T Fault) (f d : Fault) → IsErrAnd r (λ e. e ≡ f) → f ≡ d → r ≡ Err d
is_refusal (Ok x) f d is same = elim is [ ]
is_refusal (Err e) f d is same = ap (λ (x : Fault). Err x) (is ∙ same)

-- what an answer says, said in another way
pub on_ok : {T E X Y : Type 0} (r : Result T E) → (X → Y) → OnOk r X → OnOk r Y
on_ok (Ok x) f h = f h
on_ok (Err e) f h = h

-- a page outside those given out is damaged, and another one is refused for want of memory or by the device
pub page_refused : (n next : ℕ) (f : Fault) → (2 ≤ n → n < next → IsOfDevice f)
    → ((n < 2) ⊎ (next ≤ n) → f ≡ fault.Damaged n) → IsOfDevice f ⊎ (f ≡ fault.Damaged n)
page_refused n next f inside outside = ⊎_elim
    (λ (low : n < 2). inr (outside (inl low)))
    (λ (high : 2 ≤ n). ⊎_elim
    (λ (below : n < next). inl (inside high below))
    (λ (above : next ≤ n). inr (outside (inr above)))
    (cases_lt n next))
    (cases_lt n 2)

-- the node of a page that is there is the one that it spells
pub node_of_page : (dims : ℕ) (page : Option (List ℕ)) (bytes : List ℕ) (c : Option NodeContent)
    → page ≡ Some bytes → node_at dims bytes ≡ c → node_in dims page ≡ c
node_of_page dims page bytes c there spelled = ap (node_in dims) there ∙ spelled

-- the bytes of a page that spells a node
pub bytes_of_node : (dims : ℕ) (page : Option (List ℕ)) (c : NodeContent) → node_in dims page ≡ Some c
    → (bytes : List ℕ) × (page ≡ Some bytes) × (node_at dims bytes ≡ Some c)
bytes_of_node dims None c is = absurd (cc)
bytes_of_node dims (Some bytes) c is = (bytes, refl, is)

-- a leaf of at most 100 entries can be spelled
pub leaf_spellable : {dims : ℕ} (leaf : Node dims) → leaf.level ≡ 0 → length leaf.entries.items ≤ 100
    → IsSpellable (content_of leaf)
leaf_spellable leaf low few = record {
  few = omega (arith, few, length-map leaf.entries.items item_of);
  some = λ above. absurd (omega (arith, low, above));
  refers =
      All-from_get_or (λ (item : Item). IsOfLevel leaf.level item.reference item.tag)
      (map item_of leaf.entries.items) (record { bounds = origin_box 2; reference = 0; tag = 0 })
      (λ i lt above. absurd (omega (arith, low, above)));
}
