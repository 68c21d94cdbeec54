-- The entries of a node that leaves are kept, one after the other from the last.
use Rattle.std.proofs.Common.{◌≡◌, ◌∙◌, ℕ, ◌+◌, ◌-◌, ◌<◌, List, [], ◌∷◌, ◌++◌, length, map, take, reverse}
use Rattle.std.proofs.Common.{get_or, sym, ap, arith, append_assoc}
use Rattle.std.proofs.lemmas.List.{take_more, get_or-reverse, length-map, get_or-map, map-append}
use Rattle.std.proofs.lemmas.List.{length-reverse}
use Rattle.tree_node.specs.declared.node.Entry.{Entry}
use Rattle.reinsert.specs.Placed.{held_with}
use Rattle.condense.specs.declared.kept.Orphan.{Orphan}
use Rattle.condense.specs.Taken.{orphan_held}

turned_more : {A : Type 0} (xs : List A) (p : ℕ) (d : A) → p < length xs
    → take (p + 1) (reverse xs) ≡ take p (reverse xs) ++ get_or xs (length xs - 1 - p) d ∷ []
turned_more xs p d within = take_more (reverse xs) p d (omega (arith, length-reverse xs, within))
    ∙ ap (λ x. take p (reverse xs) ++ x ∷ []) (get_or-reverse xs p d within)

pub held_more : {D : ℕ} (olds orphans new : List (Orphan D)) (entries : List (Entry D)) (level p : ℕ)
    (e : Entry D)
    → map orphan_held orphans ≡ map orphan_held olds ++ take p (reverse (map (held_with level) entries))
    → new ≡ orphans ++ record { entry = e; level = level } ∷ []
    → p < length entries → e ≡ get_or entries (length entries - 1 - p) e
    → map orphan_held new ≡ map orphan_held olds ++ take (p + 1) (reverse (map (held_with level) entries))
held_more olds orphans new entries level p e before is within this =
    let hs = map (held_with level) entries in
    let h = held_with level e in
    let count : length hs ≡ length entries = length-map entries (held_with level) in
    let at : get_or hs (length hs - 1 - p) h ≡ h =
    ap (λ n. get_or hs (n - 1 - p) h) count
    ∙ get_or-map (held_with level) entries (length entries - 1 - p) e h (omega (arith, within))
    ∙ ap (held_with level) (sym this) in
    ap (map orphan_held) is ∙ map-append orphan_held orphans (record { entry = e; level = level } ∷ [])
    ∙ ap (λ xs. xs ++ h ∷ []) before
    ∙ append_assoc (map orphan_held olds) (take p (reverse hs)) (h ∷ [])
    ∙ ap (λ xs. map orphan_held olds ++ xs)
    (ap (λ x. take p (reverse hs) ++ x ∷ []) (sym at)
    ∙ sym (turned_more hs p h (omega (arith, count, within))))
