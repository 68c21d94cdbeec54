-- The head of a bucket page: that of a page with entries, and then the next page.
use Rattle.std.proofs.Common.{◌≡◌, ℕ, ◌^◌, ◌<◌, ◌≤◌, List, length, ◌∙◌, arith, inl, inr}
use Rattle.block_bytes.specs.Kinds.{HasHead, bucket_kind}
use Rattle.block_bytes.specs.Numbers.{number_at, put_number}
use Rattle.block_bytes.specs.Laws.{number_at-put, number_at-put_other}
use Rattle.bucket_page.specs.Layout.{IsHead}

pub head_written : (dims count next : ℕ) (page : List ℕ) → length page ≡ 4096 → next < 2 ^ 32
    → HasHead bucket_kind dims count page → IsHead dims count next (put_number 4 4 next page)
head_written dims count next page size small h = record {
  head = record {
    kind_is = number_at-put_other 1 0 4 4 next page (omega arith) (inl (omega arith)) ∙ h.kind_is;
    dims_is = number_at-put_other 1 1 4 4 next page (omega arith) (inl (omega arith)) ∙ h.dims_is;
    count_is = number_at-put_other 2 2 4 4 next page (omega arith) (inl (omega arith)) ∙ h.count_is;
  };
  next_is = number_at-put 4 4 next page (omega arith) (omega arith);
}

pub head_rest : (next k : ℕ) (page : List ℕ) → length page ≡ 4096
    → ((k : ℕ) → 4 ≤ k → number_at 1 k page ≡ 0) → 8 ≤ k → number_at 1 k (put_number 4 4 next page) ≡ 0
head_rest next k page size rest h = number_at-put_other 1 k 4 4 next page (omega arith) (inr (omega arith))
    ∙ rest k (omega arith)
