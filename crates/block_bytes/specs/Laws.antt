-- What is read from a block in which a number was written.
use Rattle.std.specs.Prelude.{◌≡◌, ℕ, zero, suc, ◌+◌, ◌-◌, ◌*◌, ◌/◌, ◌^◌, ◌<◌, ◌≤◌, ℤ, FitsSigned, List, ◌++◌}
use Rattle.std.specs.Prelude.{length, take, drop, get_or, replicate, refl}
use Rattle.std.specs.Int.{w32, cast_signed, cast_unsigned}
use Rattle.std.proofs.Common.{sym, ◌∙◌, ap, subst, arith, length-append, length-drop, append_assoc, ⊎_elim}
use Rattle.std.proofs.lemmas.List.{drop_at, get_or-take, get_or-drop, get_or_append_left, get_or-append-add}
use Rattle.std.proofs.lemmas.List.{length-take-le, length-replicate}
use Rattle.std.proofs.lemmas.Int.{ints, to_z-of_z, of_z-to_z}
use Rattle.std.proofs.lemmas.Nat.{div-mul-add}
use Rattle.byteorder.specs.Endian.{big_from, big_bytes}
use Rattle.byteorder.specs.Numbers.{big_number-reads_back, length-bytes_high_first, big_from-lt}
use Rattle.block_bytes.specs.Numbers.{zeros, number_at, put_number, signed_at, put_signed, IsApart, AreBytes}

pub length-zeros : length zeros ≡ 4096
unfolding zeros
length-zeros = length-replicate {A = ℕ} 4096 0

pub length-put : (n at x : ℕ) (block : List ℕ) → at + n ≤ length block
    → length (put_number n at x block) ≡ length block
unfolding put_number
length-put n at x block fits = omega (
  arith,
  length-append (take at block) (big_bytes n x ++ drop (at + n) block),
  length-append (big_bytes n x) (drop (at + n) block),
  length-take-le at block (omega arith),
  length-drop (at + n) block,
  length-bytes_high_first n x,
)

-- what was written is read back
pub number_at-put : (n at x : ℕ) (block : List ℕ) → at + n ≤ length block → x < 256 ^ n
    → number_at n at (put_number n at x block) ≡ x
unfolding put_number number_at
number_at-put n at x block fits small =
    ap (big_from 0 n)
    (drop_at (take at block) (big_bytes n x ++ drop (at + n) block) at
    (length-take-le at block (omega arith)))
    ∙ big_number-reads_back n x (drop (at + n) block) small

put_below : (n at x : ℕ) (block : List ℕ) (k : ℕ) → at + n ≤ length block → k < at
    → get_or (put_number n at x block) k 0 ≡ get_or block k 0
unfolding put_number
put_below n at x block k fits below =
    get_or_append_left (take at block) (big_bytes n x ++ drop (at + n) block) 0 k
    (omega (arith, length-take-le at block (omega arith)))
    ∙ get_or-take at block k 0 below

put_above : (n at x : ℕ) (block : List ℕ) (k : ℕ) → at + n ≤ length block → at + n ≤ k
    → get_or (put_number n at x block) k 0 ≡ get_or block k 0
unfolding put_number
put_above n at x block k fits above =
    let front = take at block ++ big_bytes n x in
    let size : length front ≡ at + n =
    omega (
      arith,
      length-append (take at block) (big_bytes n x),
      length-take-le at block (omega arith),
      length-bytes_high_first n x,
    ) in
    let j : ℕ = k - (at + n) in
    let place : k ≡ length front + j = omega (arith, size) in
    ap (λ (l : List ℕ). get_or l k 0)
    (sym (append_assoc (take at block) (big_bytes n x) (drop (at + n) block)))
    ∙ ap (λ (i : ℕ). get_or (front ++ drop (at + n) block) i 0) place
    ∙ get_or-append-add front (drop (at + n) block) j 0
    ∙ get_or-drop (at + n) block j 0
    ∙ ap (λ (i : ℕ). get_or block i 0) (let e : at + n + j ≡ k = omega arith in e)

-- a number is that of its bytes
same_from : (i j n : ℕ) (xs ys : List ℕ) → ((k : ℕ) → k < n → get_or xs (i + k) 0 ≡ get_or ys (j + k) 0)
    → big_from i n xs ≡ big_from j n ys
same_from i j zero xs ys same = refl
same_from i j (suc n) xs ys same =
    let first : get_or xs i 0 ≡ get_or ys j 0 =
    ap (λ (k : ℕ). get_or xs k 0) (let e : i ≡ i + 0 = omega arith in e) ∙ same 0 (omega arith)
    ∙ ap (λ (k : ℕ). get_or ys k 0) (let e : j + 0 ≡ j = omega arith in e) in
    let rest : big_from (suc i) n xs ≡ big_from (suc j) n ys = same_from (suc i) (suc j) n xs ys (λ k lt.
    ap (λ (m : ℕ). get_or xs m 0) (let e : suc i + k ≡ i + suc k = omega arith in e)
    ∙ same (suc k) (omega arith)
    ∙ ap (λ (m : ℕ). get_or ys m 0) (let e : j + suc k ≡ suc j + k = omega arith in e)) in
    ap (λ (b : ℕ). b * 256 ^ n + big_from (suc i) n xs) first
    ∙ ap (λ (r : ℕ). get_or ys j 0 * 256 ^ n + r) rest

-- a byte is a number of its own
pub byte_at : (at : ℕ) (block : List ℕ) → get_or block at 0 ≡ number_at 1 at block
unfolding number_at
byte_at at block =
    sym (ap (λ (b : ℕ). b * 1 + 0)
    (get_or-drop at block 0 0 ∙ ap (λ (k : ℕ). get_or block k 0) (let e : at + 0 ≡ at = omega arith in e))
    ∙ (let e : get_or block at 0 * 1 + 0 ≡ get_or block at 0 = omega arith in e))

-- a number is read from its own bytes alone
pub number_at-same : (n at : ℕ) (a b : List ℕ)
    → ((k : ℕ) → at ≤ k → k < at + n → number_at 1 k a ≡ number_at 1 k b)
    → number_at n at a ≡ number_at n at b
unfolding number_at
number_at-same n at a b same = same_from 0 0 n _ _ (λ k lt.
    get_or-drop at a (0 + k) 0
    ∙ byte_at (at + (0 + k)) a ∙ same (at + (0 + k)) (omega arith) (omega arith)
    ∙ sym (byte_at (at + (0 + k)) b)
    ∙ sym (get_or-drop at b (0 + k) 0))

-- what is read from other places stays
pub number_at-put_other : (n at m to x : ℕ) (block : List ℕ) → to + m ≤ length block → IsApart n at m to
    → number_at n at (put_number m to x block) ≡ number_at n at block
unfolding number_at
number_at-put_other n at m to x block fits apart = same_from 0 0 n _ _ (λ k lt.
    get_or-drop at (put_number m to x block) (0 + k) 0
    ∙ ⊎_elim (λ (b : at + n ≤ to). put_below m to x block (at + (0 + k)) fits (omega arith))
    (λ (a : to + m ≤ at). put_above m to x block (at + (0 + k)) fits (omega arith)) apart
    ∙ sym (get_or-drop at block (0 + k) 0))

zero_from : (i n m : ℕ) (xs : List ℕ) → ((k : ℕ) → get_or xs k 0 ≡ 0) → big_from i n xs ≡ 0
zero_from i zero m xs none = refl
zero_from i (suc n) m xs none = ap (λ (b : ℕ). b * 256 ^ n + big_from (suc i) n xs) (none i)
    ∙ (let e : 0 * 256 ^ n + big_from (suc i) n xs ≡ big_from (suc i) n xs = omega arith in e)
    ∙ zero_from (suc i) n m xs none

get_or-replicate : (n k : ℕ) → ◌≡◌ {A = ℕ} (get_or (replicate n 0) k 0) 0
get_or-replicate zero k = refl
get_or-replicate (suc n) zero = refl
get_or-replicate (suc n) (suc k) = get_or-replicate n k

-- a block of zeros has zeros everywhere
pub number_at-zeros : (n at : ℕ) → number_at n at zeros ≡ 0
unfolding number_at zeros
number_at-zeros n at =
    zero_from 0 n 0 (drop at (replicate 4096 0))
    (λ k. get_or-drop at (replicate 4096 0) k 0 ∙ get_or-replicate 4096 (at + k))

-- no number of n bytes reaches 256 ^ n
pub number_at-lt : (n at : ℕ) (block : List ℕ) → AreBytes block → number_at n at block < 256 ^ n
unfolding number_at
number_at-lt n at block bytes =
    big_from-lt 0 n (drop at block)
    (λ k. subst (λ (b : ℕ). b < 256) (sym (get_or-drop at block k 0)) (bytes (at + k)))

pub length-put_signed : (at : ℕ) (z : ℤ) (block : List ℕ) → at + 4 ≤ length block
    → length (put_signed at z block) ≡ length block
unfolding put_signed
length-put_signed at z block fits = length-put 4 at (cast_unsigned w32 z) block fits

pub number_at-put_signed_other : (n at to : ℕ) (z : ℤ) (block : List ℕ) → to + 4 ≤ length block
    → IsApart n at 4 to → number_at n at (put_signed to z block) ≡ number_at n at block
unfolding put_signed
number_at-put_signed_other n at to z block fits apart =
    number_at-put_other n at 4 to (cast_unsigned w32 z) block fits apart

bits_fit : (z : ℤ) → FitsSigned w32 z → cast_unsigned w32 z < 256 ^ 4
bits_fit z fits = omega (arith, ints)

pub signed_at-put : (at : ℕ) (z : ℤ) (block : List ℕ) → at + 4 ≤ length block → FitsSigned w32 z
    → signed_at at (put_signed at z block) ≡ z
unfolding signed_at put_signed
signed_at-put at z block fits small =
    ap (cast_signed w32) (number_at-put 4 at (cast_unsigned w32 z) block fits (bits_fit z small))
    ∙ to_z-of_z w32 z small

-- a signed number is read from its own bytes alone
pub signed_at-same : (at : ℕ) (a b : List ℕ) → number_at 4 at a ≡ number_at 4 at b
    → signed_at at a ≡ signed_at at b
unfolding signed_at
signed_at-same at a b same = ap (cast_signed w32) same

-- the first of two digits
high_same : (m a b r s : ℕ) → a * m + r ≡ b * m + s → r < m → s < m → a ≡ b
high_same m a b r s e rl sl = sym (div-mul-add a m r rl) ∙ ap (λ (x : ℕ). x / m) e ∙ div-mul-add b m s sl

next_from : (i n : ℕ) (xs ys : List ℕ) → get_or xs i 0 ≡ get_or ys i 0
    → ((k : ℕ) → k < n → get_or xs (suc i + k) 0 ≡ get_or ys (suc i + k) 0) → (k : ℕ) → k < suc n
    → get_or xs (i + k) 0 ≡ get_or ys (i + k) 0
next_from i n xs ys first rest zero lt = ap (λ (j : ℕ). get_or xs j 0) (let e : i + 0 ≡ i = omega arith in e)
    ∙ first ∙ ap (λ (j : ℕ). get_or ys j 0) (let e : i ≡ i + 0 = omega arith in e)
next_from i n xs ys first rest (suc k) lt =
    ap (λ (j : ℕ). get_or xs j 0) (let e : i + suc k ≡ suc i + k = omega arith in e) ∙ rest k (omega arith)
    ∙ ap (λ (j : ℕ). get_or ys j 0) (let e : suc i + k ≡ i + suc k = omega arith in e)

bytes_from : (i n : ℕ) (xs ys : List ℕ) → ((k : ℕ) → get_or xs k 0 < 256) → ((k : ℕ) → get_or ys k 0 < 256)
    → big_from i n xs ≡ big_from i n ys
    → (k : ℕ) → k < n → get_or xs (i + k) 0 ≡ get_or ys (i + k) 0
bytes_from i zero xs ys bx by e k lt = absurd (omega arith)
bytes_from i (suc n) xs ys bx by e k lt =
    let x = get_or xs i 0 in
    let y = get_or ys i 0 in
    let first : x ≡ y =
    high_same (256 ^ n) x y (big_from (suc i) n xs) (big_from (suc i) n ys) e
    (big_from-lt (suc i) n xs bx) (big_from-lt (suc i) n ys by) in
    let scaled : x * 256 ^ n ≡ y * 256 ^ n = ap (λ (b : ℕ). b * 256 ^ n) first in
    let rest : big_from (suc i) n xs ≡ big_from (suc i) n ys = omega (arith, e) in
    next_from i n xs ys first (bytes_from (suc i) n xs ys bx by rest) k lt

dropped_bytes : (at : ℕ) (page : List ℕ) → AreBytes page → (k : ℕ) → get_or (drop at page) k 0 < 256
dropped_bytes at page bytes k = subst (λ (b : ℕ). b < 256) (sym (get_or-drop at page k 0)) (bytes (at + k))

-- a number fixes its bytes
pub number_at-fixes : (n at : ℕ) (a b : List ℕ) → AreBytes a → AreBytes b
    → number_at n at a ≡ number_at n at b → (k : ℕ) → at ≤ k → k < at + n → number_at 1 k a ≡ number_at 1 k b
unfolding number_at
number_at-fixes n at a b ba bb e k le lt =
    let j : ℕ = k - at in
    let there : at + (0 + j) ≡ k = omega arith in
    let one : get_or a (at + (0 + j)) 0 ≡ get_or b (at + (0 + j)) 0 =
    sym (get_or-drop at a (0 + j) 0)
    ∙ bytes_from 0 n (drop at a) (drop at b) (dropped_bytes at a ba) (dropped_bytes at b bb) e j
    (omega arith) ∙ get_or-drop at b (0 + j) 0 in
    sym (byte_at k a) ∙ ap (λ (i : ℕ). get_or a i 0) (sym there) ∙ one ∙ ap (λ (i : ℕ). get_or b i 0) there
    ∙ byte_at k b

-- and a signed number fixes its number without a sign
pub signed_at-fixes : (at : ℕ) (a b : List ℕ) → AreBytes a → AreBytes b → signed_at at a ≡ signed_at at b
    → number_at 4 at a ≡ number_at 4 at b
unfolding signed_at
signed_at-fixes at a b ba bb e =
    let la : number_at 4 at a < 256 ^ 4 = number_at-lt 4 at a ba in
    let lb : number_at 4 at b < 256 ^ 4 = number_at-lt 4 at b bb in
    sym (of_z-to_z w32 (number_at 4 at a) (omega arith)) ∙ ap (cast_unsigned w32) e
    ∙ of_z-to_z w32 (number_at 4 at b) (omega arith)

-- what the laws of a block of bytes are proved by
pub ruleset laws = (
  length-put,
  number_at-put,
  signed_at-put,
  number_at-put_other,
  number_at-same,
  length-put_signed,
  number_at-put_signed_other,
  signed_at-same,
  length-zeros,
  number_at-zeros,
  number_at-lt,
)

-- and the laws of what a number says of its bytes
pub ruleset fixing = (number_at-fixes, signed_at-fixes)

-- what is passed and read of a signed number is that number
pub ruleset signed_values = (to_z-of_z)
