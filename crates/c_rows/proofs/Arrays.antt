-- An array that has been written from its beginning.
use Rattle.std.proofs.Common.{◌≡◌, ◌-◌, ℕ, List, ◌++◌, length, take, drop, replicate, sym, ap, ◌∙◌}
use Rattle.std.proofs.lemmas.List.{take-append-drop, drop-replicate}
use Rattle.std.proofs.Math.Seq.{take-length}

-- one that begins with all of a list, and goes on as a row of zeros does
pub list_then_zeros : (xs bytes : List ℕ) (n k : ℕ) → k ≡ length xs → take k bytes ≡ take k xs
    → drop k bytes ≡ drop k (replicate n 0) → bytes ≡ xs ++ replicate (n - length xs) 0
list_then_zeros xs bytes n k is done left =
    sym (take-append-drop k bytes)
    ∙ ap (λ ys. ys ++ drop k bytes) (done ∙ ap (λ i. take i xs) is ∙ take-length xs)
    ∙ ap (λ ys. xs ++ ys) (left ∙ drop-replicate k n 0 ∙ ap (λ i. replicate (n - i) 0) is)
