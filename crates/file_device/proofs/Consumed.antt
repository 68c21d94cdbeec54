-- What was read of known bytes, and what stands in the buffer then.
use Rattle.std.proofs.Common.{◌≡◌, ◌∙◌, ℕ, ◌+◌, ◌<◌, ◌≤◌, List, [], ◌++◌, length, take, drop, slice_index}
use Rattle.std.proofs.Common.{Option, Some, None, IfSome, refl, sym, ap, subst, append_assoc, arith, ⊎_elim}
use Rattle.std.specs.Io.KnownBytes.{Consumes, Keeps, IsAtEnd}
use Rattle.std.proofs.lemmas.Bool.{cases_lt}
use Rattle.std.proofs.lemmas.List.{append-nil, drop_at, get_or_append_left, get_or_past, get_or-take}
use Rattle.std.proofs.lemmas.List.{length-take-le, take-append-le}
use Rattle.std.proofs.lemmas.Slice.{take-put_mid_below}
use Rattle.std.proofs.Math.Seq.{take-add}
use borrow.Rule.Slice.PartMut.{put_mid, post_of}
use Rattle.file_device.specs.File.{bytes_at}
use Rattle.file_device.specs.Pieces.{bytes_are}

pub consumes_none : (a : Option (List ℕ)) → Consumes a a []
consumes_none None = tt
consumes_none (Some a) = refl

consumes_more : (a b c : Option (List ℕ)) (x y : List ℕ) → Consumes a b x → Consumes b c y
    → Consumes a c (x ++ y)
consumes_more None b c x y p q = tt
consumes_more (Some a) None c x y p q = absurd p
consumes_more (Some a) (Some b) None x y p q = absurd q
consumes_more (Some a) (Some b) (Some c) x y p q = p ∙ ap (λ t. x ++ t) q ∙ sym (append_assoc x y c)

consumes_kept : (a b c : Option (List ℕ)) (x : List ℕ) → Consumes a b x → Keeps b c → Consumes a c x
consumes_kept None b c x p q = tt
consumes_kept (Some a) None c x p q = absurd p
consumes_kept (Some a) (Some b) None x p q = absurd q
consumes_kept (Some a) (Some b) (Some c) x p q = p ∙ ap (λ t. x ++ t) (sym q)

-- one part of a buffer was replaced
front_more : (done k n : ℕ) (into part : List ℕ) → done ≤ length into → n ≤ length part
    → take (done + n) (put_mid done k into part) ≡ take done into ++ take n part
front_more done k n into part within fits =
    take-add done n (put_mid done k into part)
    ∙ ap (λ l. l ++ take n (drop done (put_mid done k into part)))
    (take-put_mid_below done k into part done (omega arith) within)
    ∙ ap (λ l. take done into ++ take n l)
    (drop_at (take done into) (part ++ post_of done k into) done (length-take-le done into within))
    ∙ ap (λ l. take done into ++ l) (take-append-le n part (post_of done k into) fits)

-- after a read into that part
pub read_more : (a b c : Option (List ℕ)) (done k n : ℕ) (into part : List ℕ) → done ≤ length into
    → n ≤ length part
    → Consumes a b (take done into) → Consumes b c (take n part)
    → Consumes a c (take (done + n) (put_mid done k into part))
read_more a b c done k n into part within fits so_far read =
    subst (Consumes a c) (sym (front_more done k n into part within fits))
    (consumes_more a b c (take done into) (take n part) so_far read)

-- after a read that failed
pub read_none : (a b c : Option (List ℕ)) (done k : ℕ) (into part : List ℕ) → done ≤ length into
    → Consumes a b (take done into) → Keeps b c → Consumes a c (take done (put_mid done k into part))
read_none a b c done k into part within so_far kept =
    subst (Consumes a c) (sym (take-put_mid_below done k into part done (omega arith) within))
    (consumes_kept a b c (take done into) so_far kept)

-- a full buffer has the first bytes
pub full_is : (a b : Option (List ℕ)) (into : List ℕ) → length into ≡ 4096 → Consumes a b into
    → IfSome a (λ rest. into ≡ bytes_at 0 rest)
full_is None b into size read = tt
full_is (Some rest) None into size read = absurd read
full_is (Some rest) (Some left) into size read =
    sym (bytes_are 0 rest into size
    (λ k small. subst (λ (l : List ℕ). slice_index l (0 + k) ≡ slice_index into k) (sym read)
    (here k small)))
  where
    none : (k : ℕ) → 0 + k ≡ k
    none k = omega arith

    here : (k : ℕ) → k < 4096 → slice_index (into ++ left) (0 + k) ≡ slice_index into k
    here k small = ap (slice_index (into ++ left)) (none k)
        ∙ get_or_append_left into left 0 k (omega (arith, small, size))

-- so has one that is zero from the end of the file on
pub short_is : (a b : Option (List ℕ)) (done : ℕ) (into cleared : List ℕ) → length into ≡ 4096
    → length cleared ≡ 4096 → done ≤ 4096
    → Consumes a b (take done into) → IsAtEnd b
    → ((k : ℕ) → k < done → slice_index cleared k ≡ slice_index into k)
    → ((k : ℕ) → done ≤ k → slice_index cleared k ≡ 0)
    → IfSome a (λ rest. cleared ≡ bytes_at 0 rest)
short_is None b done into cleared size size' le read ended before after = tt
short_is (Some rest) None done into cleared size size' le read ended before after = absurd read
short_is (Some rest) (Some left) done into cleared size size' le read ended before after =
    sym (bytes_are 0 rest cleared size' (λ k small. ap (slice_index rest) (none k) ∙ at k))
  where
    none : (k : ℕ) → 0 + k ≡ k
    none k = omega arith

    is : rest ≡ take done into
    is = read ∙ ap (λ (l : List ℕ). take done into ++ l) ended ∙ append-nil (take done into)

    beyond : (l : List ℕ) (k : ℕ) → length l ≤ k → slice_index l k ≡ 0
    beyond l k le = get_or_past l k 0 le

    at : (k : ℕ) → slice_index rest k ≡ slice_index cleared k
    at k = ap (λ (l : List ℕ). slice_index l k) is ∙ ⊎_elim
        (λ (lt : k < done). get_or-take done into k 0 lt ∙ sym (before k lt))
        (λ (ge : done ≤ k). beyond (take done into) k
        (omega (arith, ge, le, size, length-take-le done into (omega (arith, le, size))))
        ∙ sym (after k ge))
        (cases_lt k done)
