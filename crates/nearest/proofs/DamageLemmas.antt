-- The nodes that wait in a search are nodes that walks from the root come to.
use Rattle.std.proofs.Common.{◌≡◌, ◌∙◌, ◌⊎◌, ℕ, ◌<◌, Some, List, [], ◌∷◌, ◌++◌, All, IsPermutation, map}
use Rattle.std.proofs.Common.{get_or, refl, sym, ap, subst, rules}
use Rattle.std.proofs.lemmas.List.{append_assoc}
use Rattle.std.proofs.lemmas.List.Elements.{All-append, All-cons, All-from_get_or, All-head, All-map}
use Rattle.std.proofs.lemmas.List.Elements.{All-nil, All-tail}
use Rattle.std.proofs.lemmas.List.Sorted.{All-permutation, IsPermutation-append_left}
use Rattle.page_file.specs.Fault.{IsOfDevice}
use Rattle.page_file.specs.declared.fault.Fault.{Fault}
use Rattle.page_file.specs.declared.fault.Fault.TheVariants as fault
use Rattle.box_math.specs.Bounds.{Bounds}
use Rattle.tree_node.specs.Boxes.{no_item}
use Rattle.tree_node.specs.Nodes.{Item, NodeContent}
use Rattle.node_page.specs.Checked.{ComesTo, Leads, Names}
use Rattle.node_page.specs.Standing.{PageMap, node_in}
use Rattle.node_page.proofs.DamageLemmas.{damaged_read, entry_names}
use Rattle.nearest.specs.declared.candidate.Candidate.{Candidate}
use Rattle.nearest.specs.Candidates.{candidate_at}
use Rattle.nearest.proofs.FrontierLemmas.{all_front}

-- the pages of the children are those that the node names
pub children_are_named : (far : Bounds → ℕ) (c : NodeContent) → 0 < c.level
    → All (λ child. Names c child.page) (map (candidate_at far c.level) c.entries)
children_are_named far c above =
    let named : Item → Type 0 = λ item. Names c item.reference in
    All-map (λ (child : Candidate). Names c child.page) (candidate_at far c.level) c.entries
    (All-from_get_or named c.entries no_item
    (λ i within. entry_names c c.entries i (get_or c.entries i no_item) refl above within (search rules)))

-- a walk goes on to a child
leads_on : (dims : ℕ) (m : PageMap) (page : ℕ) (walk : List ℕ) (last next : ℕ) (c : NodeContent)
    → node_in dims (m last) ≡ Some c → Names c next → Leads dims m page walk last
    → Leads dims m page (walk ++ next ∷ []) next
leads_on dims m page [] last next c there names leads =
    ((c, ap (λ (n : ℕ). node_in dims (m n)) (sym leads) ∙ there, names), refl)
leads_on dims m page (step ∷ walk) last next c there names leads =
    (leads.0, leads_on dims m step walk last next c there names leads.1)

module _ (dims : ℕ) (m : PageMap) (page : ℕ) where
  -- a walk from the page comes to it
  abbrev pub IsReached : Candidate → Type 0
  IsReached c = ComesTo dims m page c.page

  pub children_reached : (x : Candidate) (c : NodeContent) (children : List Candidate) → IsReached x
      → node_in dims (m x.page) ≡ Some c → All (λ child. Names c child.page) children
      → All IsReached children
  children_reached x c children walk there named = λ i d within.
      let next = (get_or children i d).page in
      (walk.0 ++ next ∷ [], leads_on dims m page walk.0 x.page next c there (named i d within) walk.1)

  -- the only page that a node that was read can be refused for
  pub refused_there : (x : Candidate) (f : Fault) (n : ℕ) → IsReached x
      → IsOfDevice f ⊎ (f ≡ fault.Damaged x.page) → f ≡ fault.Damaged n → ComesTo dims m page n
  refused_there x f n walk either damaged =
      subst (λ (k : ℕ). ComesTo dims m page k) (sym (damaged_read f x.page n either damaged)) walk

-- ---- what holds of all that wait goes with them

module _ (P : Candidate → Type 0) where
  pub begins_so : (x : Candidate) (queue : List Candidate) → P x → IsPermutation (x ∷ []) queue
      → All P (queue ++ [])
  begins_so x queue px perm =
      All-append P queue [] (All-permutation P (x ∷ []) queue perm (All-cons P x [] px (All-nil P)))
      (All-nil P)

  module _ (queue fresh rest : List Candidate) (x : Candidate) (perm : IsPermutation queue (x ∷ rest))
      (all : All P (queue ++ fresh)) where
    both : All P (x ∷ (rest ++ fresh))
    both =
        All-permutation P (queue ++ fresh) (x ∷ (rest ++ fresh))
        (IsPermutation-append_left fresh queue (x ∷ rest) perm) all

    pub of_first : P x
    of_first = All-head P x (rest ++ fresh) both

    -- what was new was moved into the queue, but for what is gone
    pub of_settled : (waiting gone : List Candidate) → IsPermutation (rest ++ fresh) (waiting ++ gone)
        → All P waiting
    of_settled waiting gone moved =
        all_front P waiting gone
        (All-permutation P (rest ++ fresh) (waiting ++ gone) moved (All-tail P x (rest ++ fresh) both))

    -- and what was appended then was shared between the two
    pub of_shared : (waiting kept gone newest added later newer : List Candidate)
        → IsPermutation (rest ++ fresh) ((waiting ++ kept) ++ gone) → newest ≡ kept ++ added → All P added
        → IsPermutation (waiting ++ newest) (later ++ newer) → All P (later ++ newer)
    of_shared waiting kept gone newest added later newer moved grown new shared =
        let old = of_settled (waiting ++ kept) gone moved in
        let now : (waiting ++ kept) ++ added ≡ waiting ++ newest = append_assoc waiting kept added
        ∙ ap (λ (cs : List Candidate). waiting ++ cs) (sym grown) in
        All-permutation P (waiting ++ newest) (later ++ newer) shared
        (subst (λ (cs : List Candidate). All P cs) now (All-append P (waiting ++ kept) added old new))
