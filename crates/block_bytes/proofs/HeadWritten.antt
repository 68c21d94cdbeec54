-- The head of a page with entries, in a page of zeros.
use Rattle.std.proofs.Common.{◌≡◌, ℕ, ◌^◌, ◌<◌, ◌≤◌, List, length, ◌∙◌, arith, inl, inr}
use Rattle.block_bytes.specs.Kinds.{HasHead}
use Rattle.block_bytes.specs.Numbers.{number_at, IsApart, zeros, put_number}
use Rattle.block_bytes.specs.Laws.{number_at-put, number_at-put_other, number_at-zeros, length-put}
use Rattle.block_bytes.specs.Laws.{length-zeros}

module _ (kind dims count : ℕ) (m : kind < 256) (d : dims < 256) (n : count < 2 ^ 16) where
  kind_page : List ℕ
  kind_page = put_number 1 0 kind zeros

  dims_page : List ℕ
  dims_page = put_number 1 1 dims kind_page

  kind_size : length kind_page ≡ 4096
  unfolding kind_page
  kind_size = length-put 1 0 kind zeros (omega (arith, length-zeros)) ∙ length-zeros

  dims_size : length dims_page ≡ 4096
  unfolding dims_page
  dims_size = length-put 1 1 dims kind_page (omega (arith, kind_size)) ∙ kind_size

  at_dims : (m at : ℕ) → IsApart m at 1 1 → number_at m at dims_page ≡ number_at m at kind_page
  unfolding dims_page
  at_dims m at clear = number_at-put_other m at 1 1 dims kind_page (omega (arith, kind_size)) clear

  at_count : (m at : ℕ) → IsApart m at 2 2
      → number_at m at (put_number 2 2 count dims_page) ≡ number_at m at dims_page
  at_count m at clear = number_at-put_other m at 2 2 count dims_page (omega (arith, dims_size)) clear

  is_head : HasHead kind dims count (put_number 2 2 count dims_page)
  unfolding kind_page dims_page
  is_head = record {
    kind_is = at_count 1 0 (inl (omega arith)) ∙ at_dims 1 0 (inl (omega arith))
        ∙ number_at-put 1 0 kind zeros (omega (arith, length-zeros)) (omega arith);
    dims_is = at_count 1 1 (inl (omega arith))
        ∙ number_at-put 1 1 dims kind_page (omega (arith, kind_size)) (omega arith);
    count_is = number_at-put 2 2 count dims_page (omega (arith, dims_size)) (omega arith);
  }

  none_behind : (k : ℕ) → 4 ≤ k → number_at 1 k (put_number 2 2 count dims_page) ≡ 0
  unfolding kind_page
  none_behind k h =
      at_count 1 k (inr (omega arith)) ∙ at_dims 1 k (inr (omega arith))
      ∙ number_at-put_other 1 k 1 0 kind zeros (omega (arith, length-zeros)) (inr (omega arith))
      ∙ number_at-zeros 1 k

pub head_written : (kind dims count : ℕ) → kind < 256 → dims < 256 → count < 2 ^ 16
    → HasHead kind dims count (put_number 2 2 count (put_number 1 1 dims (put_number 1 0 kind zeros)))
unfolding kind_page dims_page
head_written kind dims count m d n = is_head kind dims count m d n

pub head_rest : (kind dims count : ℕ) → kind < 256 → dims < 256 → count < 2 ^ 16 → (k : ℕ) → 4 ≤ k
    → number_at 1 k (put_number 2 2 count (put_number 1 1 dims (put_number 1 0 kind zeros))) ≡ 0
unfolding kind_page dims_page
head_rest kind dims count m d n = none_behind kind dims count m d n
