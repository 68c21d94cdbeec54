-- The head of a node page: that of a page with entries, and then the level.
use Rattle.std.proofs.Common.{◌≡◌, ℕ, ◌<◌, ◌≤◌, List, length, ◌∙◌, arith, inl, inr}
use Rattle.block_bytes.specs.Kinds.{HasHead, node_kind}
use Rattle.block_bytes.specs.Numbers.{number_at, put_number}
use Rattle.block_bytes.specs.Laws.{number_at-put, number_at-put_other}
use Rattle.node_bytes.specs.Layout.{IsHead}

pub head_written : (dims level count : ℕ) (page : List ℕ) → length page ≡ 4096 → level < 256
    → HasHead node_kind dims count page → IsHead dims level count (put_number 1 4 level page)
head_written dims level count page size small h = record {
  head = record {
    kind_is = number_at-put_other 1 0 1 4 level page (omega arith) (inl (omega arith)) ∙ h.kind_is;
    dims_is = number_at-put_other 1 1 1 4 level page (omega arith) (inl (omega arith)) ∙ h.dims_is;
    count_is = number_at-put_other 2 2 1 4 level page (omega arith) (inl (omega arith)) ∙ h.count_is;
  };
  level_is = number_at-put 1 4 level page (omega arith) (omega arith);
}

pub head_rest : (level k : ℕ) (page : List ℕ) → length page ≡ 4096
    → ((k : ℕ) → 4 ≤ k → number_at 1 k page ≡ 0) → 5 ≤ k → number_at 1 k (put_number 1 4 level page) ≡ 0
head_rest level k page size rest h = number_at-put_other 1 k 1 4 level page (omega arith) (inr (omega arith))
    ∙ rest k (omega arith)
