-- A fork page with one child more, another one, or one less.
use Rattle.std.proofs.Common.{◌≡◌, ℕ, ◌+◌, ◌-◌, ◌<◌, ◌≤◌, List, [], ◌∷◌, ◌++◌, length, get_or, set, take}
use Rattle.std.proofs.Common.{Some, sym, ◌∙◌, ap, arith, below_more, inl, inr, ⊎_elim}
use Rattle.std.proofs.lemmas.Bool.{cases_eq}
use Rattle.std.proofs.lemmas.List.{get_or-set_other, get_or-set_same, get_or-take, get_or_append_left}
use Rattle.std.proofs.lemmas.List.{get_or_at, length-append, length-set, length-take-le}
use Rattle.block_bytes.specs.Kinds.{HasHead}
use Rattle.block_bytes.specs.Laws.{number_at-put, number_at-put_other}
use Rattle.block_bytes.specs.Numbers.{number_at, put_number}
use Rattle.id_page.specs.Fork.{ForkContent, HasForkHead, Link, fork_at, link_at, with_links}
use Rattle.id_page.specs.Layout.{IsTidy}
use Rattle.id_page.proofs.ForkReading.{count_of_fork, fork_is, fork_spells, link_of_fork, some_link}
use Rattle.id_page.proofs.LinkPlaces.{link_kept}
use Rattle.id_page.proofs.Rows.{Edits, head_byte, unnamed_behind}

module _ (dims place count : ℕ) (old new : List ℕ) (c : ForkContent) (is : fork_at dims old ≡ Some c)
    (edits : Edits 12 place count old new) where
  still_level : number_at 1 4 new ≡ c.level
  still_level = head_byte 12 place count 4 old new edits (inr (omega arith)) (omega arith)
      ∙ (fork_spells dims old c is).level_is

  still_head : count ≤ 340 → HasForkHead dims new
  still_head few = let s = fork_spells dims old c is in let high = s.head.high in let same = s.level_is in
      let here = still_level in record {
        kind = head_byte 12 place count 0 old new edits (inl (omega arith)) (omega arith) ∙ s.head.kind;
        dims_is = head_byte 12 place count 1 old new edits (inl (omega arith)) (omega arith) ∙ s.head.dims_is;
        few = omega (arith, few, edits.counted);
        high = omega (arith, high, same, here);
      }

  still_link : (k : ℕ) → ¬ (k ≡ place) → k < length c.links → get_or c.links k some_link ≡ link_at new k
  still_link k other lt = link_of_fork dims old c k some_link is lt
      ∙ sym (link_kept place count k old new edits other)

pub fork_pushed : (dims n : ℕ) (old new : List ℕ) (c : ForkContent) (link : Link) → fork_at dims old ≡ Some c
    → n ≡ number_at 2 2 old → n < 340
    → Edits 12 n (n + 1) old new → link_at new n ≡ link
    → fork_at dims new ≡ Some (with_links c (c.links ++ link ∷ []))
fork_pushed dims n old new c link is now room edits written =
    let long : n ≡ length c.links = now ∙ count_of_fork dims old c is in
    let longer : length (c.links ++ link ∷ []) ≡ n + 1 = length-append c.links (link ∷ [])
    ∙ omega (arith, long) in
    fork_is dims new (with_links c (c.links ++ link ∷ []))
    (still_head dims n (n + 1) old new c is edits (omega (arith, room)))
    (still_level dims n (n + 1) old new c is edits) (edits.counted ∙ sym longer)
    (λ k lt. below_more (λ j. get_or (c.links ++ link ∷ []) j some_link ≡ link_at new j) n
    (λ j less. get_or_append_left c.links (link ∷ []) some_link j (omega (arith, less, long))
    ∙ still_link dims n (n + 1) old new c is edits j (λ e. absurd (omega (arith, less, e)))
    (omega (arith, less, long)))
    (get_or_at c.links link [] some_link n (sym long) ∙ sym written) k (omega (arith, lt, longer)))

pub fork_replaced : (dims place : ℕ) (old new : List ℕ) (c : ForkContent) (link : Link)
    → fork_at dims old ≡ Some c → place < length c.links
    → Edits 12 place (number_at 2 2 old) old new → link_at new place ≡ link
    → fork_at dims new ≡ Some (with_links c (set c.links place link))
fork_replaced dims place old new c link is within edits written =
    let n = number_at 2 2 old in
    let long : n ≡ length c.links = count_of_fork dims old c is in
    let as_long = length-set c.links place link in
    fork_is dims new (with_links c (set c.links place link))
    (still_head dims place n old new c is edits (fork_spells dims old c is).head.few)
    (still_level dims place n old new c is edits) (edits.counted ∙ long ∙ sym as_long)
    (λ k lt. ⊎_elim
    (λ (here : k ≡ place). ap (λ i. get_or (set c.links place link) i some_link) here
    ∙ get_or-set_same c.links place link some_link within ∙ sym written ∙ ap (link_at new) (sym here))
    (λ (other : ¬ (k ≡ place)). get_or-set_other c.links place k link some_link other
    ∙ still_link dims place n old new c is edits k other (omega (arith, lt, as_long)))
    (cases_eq k place))

pub fork_popped : (dims less : ℕ) (old new : List ℕ) (c : ForkContent) → fork_at dims old ≡ Some c
    → number_at 2 2 old ≡ less + 1
    → Edits 12 less less old new → fork_at dims new ≡ Some (with_links c (take (length c.links - 1) c.links))
fork_popped dims less old new c is some edits =
    let long : number_at 2 2 old ≡ length c.links = count_of_fork dims old c is in
    let few = (fork_spells dims old c is).head.few in
    let shorter : length (take less c.links) ≡ less =
    length-take-le less c.links (omega (arith, long, some)) in
    fork_is dims new (with_links c (take less c.links))
    (still_head dims less less old new c is edits (omega (arith, few, some)))
    (still_level dims less less old new c is edits) (edits.counted ∙ sym shorter)
    (λ k lt. get_or-take less c.links k some_link (omega (arith, lt, shorter))
    ∙ still_link dims less less old new c is edits k (λ e. absurd (omega (arith, lt, shorter, e)))
    (omega (arith, lt, shorter, long, some)))
    ∙ ap (λ (n : ℕ). Some (with_links c (take n c.links)))
    (let e : less ≡ length c.links - 1 = omega (arith, long, some) in e)

-- ---- a fork without children

module _ (dims level : ℕ) (old : List ℕ) (long : length old ≡ 4096) (small : level < 256) where
  pub level_there : number_at 1 4 (put_number 1 4 level old) ≡ level
  level_there = number_at-put 1 4 level old (omega (arith, long)) (omega (arith, small))

  pub no_count : HasHead 8 dims 0 old → number_at 2 2 (put_number 1 4 level old) ≡ 0
  no_count h = number_at-put_other 2 2 1 4 level old (omega (arith, long)) (inl (omega arith)) ∙ h.count_is

  pub fork_empty : HasHead 8 dims 0 old → 1 ≤ level
      → fork_at dims (put_number 1 4 level old) ≡ Some (record { level = level; links = [] })
  fork_empty h high =
      let new = put_number 1 4 level old in
      fork_is dims new (record { level = level; links = [] }) (record {
        kind = number_at-put_other 1 0 1 4 level old (omega (arith, long)) (inl (omega arith)) ∙ h.kind_is;
        dims_is = number_at-put_other 1 1 1 4 level old (omega (arith, long)) (inl (omega arith)) ∙ h.dims_is;
        few = omega (arith, no_count h);
        high = omega (arith, high, level_there);
      }) level_there (no_count h) (λ k lt. absurd (omega (arith, lt)))

  pub empty_tidy : ((k : ℕ) → 4 ≤ k → number_at 1 k old ≡ 0) → IsTidy 5 12 (put_number 1 4 level old)
  empty_tidy rest = λ k unnamed.
      let behind : 5 ≤ k = unnamed_behind 5 12 (number_at 2 2 (put_number 1 4 level old)) k unnamed in
      number_at-put_other 1 k 1 4 level old (omega (arith, long)) (inr (omega (arith, behind)))
      ∙ rest k (omega (arith, behind))
