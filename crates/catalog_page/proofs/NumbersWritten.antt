-- The numbers of a record, written one after the other.
use Rattle.std.proofs.Common.{◌≡◌, ℕ, ◌+◌, ◌^◌, ◌<◌, ◌≤◌, List, length, ◌∙◌, arith, inl, inr, ⊎_elim}
use Rattle.block_bytes.specs.Numbers.{number_at, IsApart, put_number}
use Rattle.block_bytes.specs.Laws.{number_at-put, number_at-put_other, length-put}
use Rattle.catalog_page.specs.Layout.{Record, HasNumbers, ChangesOnly}

module _ (at : ℕ) (layer : Record) (page : List ℕ) (size : length page ≡ 4096) (within : at + 44 ≤ 4096) where
  dims_page : List ℕ
  dims_page = put_number 1 (at + 25) layer.dims page

  fanout_page : List ℕ
  fanout_page = put_number 1 (at + 26) layer.fanout dims_page

  level_page : List ℕ
  level_page = put_number 1 (at + 27) layer.level fanout_page

  root_page : List ℕ
  root_page = put_number 4 (at + 28) layer.root level_page

  ids_page : List ℕ
  ids_page = put_number 4 (at + 32) layer.ids_root root_page

  dims_size : length dims_page ≡ 4096
  unfolding dims_page
  dims_size = length-put 1 (at + 25) layer.dims page (omega arith) ∙ size

  fanout_size : length fanout_page ≡ 4096
  unfolding fanout_page
  fanout_size = length-put 1 (at + 26) layer.fanout dims_page (omega (arith, dims_size)) ∙ dims_size

  level_size : length level_page ≡ 4096
  unfolding level_page
  level_size = length-put 1 (at + 27) layer.level fanout_page (omega (arith, fanout_size)) ∙ fanout_size

  root_size : length root_page ≡ 4096
  unfolding root_page
  root_size = length-put 4 (at + 28) layer.root level_page (omega (arith, level_size)) ∙ level_size

  ids_size : length ids_page ≡ 4096
  unfolding ids_page
  ids_size = length-put 4 (at + 32) layer.ids_root root_page (omega (arith, root_size)) ∙ root_size

  at_dims : (n from : ℕ) → IsApart n from 1 (at + 25) → number_at n from dims_page ≡ number_at n from page
  unfolding dims_page
  at_dims n from clear = number_at-put_other n from 1 (at + 25) layer.dims page (omega arith) clear

  at_fanout : (n from : ℕ) → IsApart n from 1 (at + 26)
      → number_at n from fanout_page ≡ number_at n from dims_page
  unfolding fanout_page
  at_fanout n from clear =
      number_at-put_other n from 1 (at + 26) layer.fanout dims_page (omega (arith, dims_size)) clear

  at_level : (n from : ℕ) → IsApart n from 1 (at + 27)
      → number_at n from level_page ≡ number_at n from fanout_page
  unfolding level_page
  at_level n from clear =
      number_at-put_other n from 1 (at + 27) layer.level fanout_page (omega (arith, fanout_size)) clear

  at_root : (n from : ℕ) → IsApart n from 4 (at + 28)
      → number_at n from root_page ≡ number_at n from level_page
  unfolding root_page
  at_root n from clear =
      number_at-put_other n from 4 (at + 28) layer.root level_page (omega (arith, level_size)) clear

  at_ids : (n from : ℕ) → IsApart n from 4 (at + 32)
      → number_at n from ids_page ≡ number_at n from root_page
  unfolding ids_page
  at_ids n from clear =
      number_at-put_other n from 4 (at + 32) layer.ids_root root_page (omega (arith, root_size)) clear

  at_count : (n from : ℕ) → IsApart n from 8 (at + 36)
      → number_at n from (put_number 8 (at + 36) layer.count ids_page) ≡ number_at n from ids_page
  at_count n from clear =
      number_at-put_other n from 8 (at + 36) layer.count ids_page (omega (arith, ids_size)) clear

  has_numbers : layer.dims < 256 → layer.fanout < 256 → layer.level < 256 → layer.root < 2 ^ 32
      → layer.ids_root < 2 ^ 32 → layer.count < 2 ^ 64
      → HasNumbers at layer (put_number 8 (at + 36) layer.count ids_page)
  unfolding dims_page fanout_page level_page root_page ids_page
  has_numbers d f l r t c = record {
    dims_is = at_count 1 (at + 25) (inl (omega arith)) ∙ at_ids 1 (at + 25) (inl (omega arith))
        ∙ at_root 1 (at + 25) (inl (omega arith)) ∙ at_level 1 (at + 25) (inl (omega arith))
        ∙ at_fanout 1 (at + 25) (inl (omega arith))
        ∙ number_at-put 1 (at + 25) layer.dims page (omega arith) (omega arith);
    fanout_is = at_count 1 (at + 26) (inl (omega arith)) ∙ at_ids 1 (at + 26) (inl (omega arith))
        ∙ at_root 1 (at + 26) (inl (omega arith)) ∙ at_level 1 (at + 26) (inl (omega arith))
        ∙ number_at-put 1 (at + 26) layer.fanout dims_page (omega (arith, dims_size)) (omega arith);
    level_is = at_count 1 (at + 27) (inl (omega arith)) ∙ at_ids 1 (at + 27) (inl (omega arith))
        ∙ at_root 1 (at + 27) (inl (omega arith))
        ∙ number_at-put 1 (at + 27) layer.level fanout_page (omega (arith, fanout_size)) (omega arith);
    root_is = at_count 4 (at + 28) (inl (omega arith)) ∙ at_ids 4 (at + 28) (inl (omega arith))
        ∙ number_at-put 4 (at + 28) layer.root level_page (omega (arith, level_size)) (omega arith);
    ids_root_is = at_count 4 (at + 32) (inl (omega arith))
        ∙ number_at-put 4 (at + 32) layer.ids_root root_page (omega (arith, root_size)) (omega arith);
    count_is =
        number_at-put 8 (at + 36) layer.count ids_page (omega (arith, ids_size)) (omega arith);
  }

  -- bytes apart from all of the numbers are apart from each
  within_numbers : (k n to : ℕ) → at + 25 ≤ to → to + n ≤ at + 44 → IsApart 1 k 19 (at + 25)
      → IsApart 1 k n to
  within_numbers k n to above below clear =
      ⊎_elim (λ (h : k + 1 ≤ at + 25). inl (omega arith)) (λ (h : at + 25 + 19 ≤ k). inr (omega arith)) clear

  changes_only : ChangesOnly 19 (at + 25) page (put_number 8 (at + 36) layer.count ids_page)
  changes_only = λ k clear.
      at_count 1 k (within_numbers k 8 (at + 36) (omega arith) (omega arith) clear)
      ∙ at_ids 1 k (within_numbers k 4 (at + 32) (omega arith) (omega arith) clear)
      ∙ at_root 1 k (within_numbers k 4 (at + 28) (omega arith) (omega arith) clear)
      ∙ at_level 1 k (within_numbers k 1 (at + 27) (omega arith) (omega arith) clear)
      ∙ at_fanout 1 k (within_numbers k 1 (at + 26) (omega arith) (omega arith) clear)
      ∙ at_dims 1 k (within_numbers k 1 (at + 25) (omega arith) (omega arith) clear)

-- the page with the numbers of a layer
abbrev pub with_numbers : ℕ → Record → List ℕ → List ℕ
with_numbers at layer page =
    put_number 8 (at + 36) layer.count
    (put_number 4 (at + 32) layer.ids_root (put_number 4 (at + 28) layer.root
    (put_number 1 (at + 27) layer.level
    (put_number 1 (at + 26) layer.fanout (put_number 1 (at + 25) layer.dims page)))))

pub numbers_written : (at : ℕ) (layer : Record) (page : List ℕ) → length page ≡ 4096 → at + 44 ≤ 4096
    → layer.dims < 256 → layer.fanout < 256 → layer.level < 256 → layer.root < 2 ^ 32
    → layer.ids_root < 2 ^ 32 → layer.count < 2 ^ 64 → HasNumbers at layer (with_numbers at layer page)
unfolding dims_page fanout_page level_page root_page ids_page
numbers_written at layer page size within d f l r t c = has_numbers at layer page size within d f l r t c

pub numbers_change : (at : ℕ) (layer : Record) (page : List ℕ) → length page ≡ 4096 → at + 44 ≤ 4096
    → ChangesOnly 19 (at + 25) page (with_numbers at layer page)
unfolding dims_page fanout_page level_page root_page ids_page
numbers_change at layer page size within = changes_only at layer page size within
