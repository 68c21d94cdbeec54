-- The slots of each bucket, chained: what a chain leads to, and one slot more.
use Rattle.std.proofs.Common.{◌≡◌, ◌∙◌, ◌^◌, ℕ, suc, zero, ◌+◌, ◌<◌, ◌≤◌, Bool, if◌then◌else◌, List, [], ◌∷◌}
use Rattle.std.proofs.Common.{◌++◌, length, replicate, set, take, refl, sym, ap, subst, arith, ⊎_elim}
use Rattle.std.specs.Prelude.{slice_index}
use Rattle.std.proofs.lemmas.Bool.{cases_lt, cases_eq, eq-eqb, ne_eqb}
use Rattle.std.proofs.lemmas.List.{get_or_append_left, get_or_push, get_or-replicate}
use Rattle.std.proofs.lemmas.List.{get_or-set_same, get_or-set_other, length-set, length_push, length-take-le}
use Rattle.std.proofs.lemmas.List.{take_more}
use Rattle.committed_log.specs.Buckets.{AreChained, bucket_in, last_among}

-- below a number more, and not there
below : (j k : ℕ) → j < suc k → ¬ (j ≡ k) → j < k
below j k less ne =
    ⊎_elim (λ (l : j < k). l) (λ (ge : k ≤ j). absurd (ne (omega (arith, ge, less)))) (cases_lt j k)

-- ---- the last slot of a bucket

module _ (bucket : ℕ → ℕ) (b : ℕ) (homes : List ℕ) where
  among_none_yet : last_among bucket b homes 0 ≡ 0
  unfolding last_among
  among_none_yet = refl

  among_here : (m : ℕ) → bucket (slice_index homes m) ≡ b → last_among bucket b homes (suc m) ≡ suc m
  unfolding last_among
  among_here m e =
      ap (λ (t : Bool). if t then suc m else last_among bucket b homes m)
      (eq-eqb (bucket (slice_index homes m)) b e)

  among_apart : (m : ℕ) → ¬ (bucket (slice_index homes m) ≡ b)
      → last_among bucket b homes (suc m) ≡ last_among bucket b homes m
  unfolding last_among
  among_apart m ne =
      ap (λ (t : Bool). if t then suc m else last_among bucket b homes m)
      (ne_eqb (bucket (slice_index homes m)) b ne)

  among_within : (m : ℕ) → last_among bucket b homes m ≤ m
  among_within zero = omega (arith, among_none_yet)
  among_within (suc m) = ⊎_elim
      (λ (e : bucket (slice_index homes m) ≡ b). omega (arith, among_here m e))
      (λ (ne : ¬ (bucket (slice_index homes m) ≡ b)). omega (arith, among_apart m ne, among_within m))
      (cases_eq (bucket (slice_index homes m)) b)

  among_none : (m k : ℕ) → last_among bucket b homes m ≤ k → k < m → ¬ (bucket (slice_index homes k) ≡ b)
  among_none zero k le lt = absurd (omega (arith, lt))
  among_none (suc m) k le lt = ⊎_elim
      (λ (e : bucket (slice_index homes m) ≡ b). absurd (omega (arith, among_here m e, le, lt)))
      (λ (ne : ¬ (bucket (slice_index homes m) ≡ b)). ⊎_elim
      (λ (here : k ≡ m). subst (λ (n : ℕ). ¬ (bucket (slice_index homes n) ≡ b)) (sym here) ne)
      (λ (apart : ¬ (k ≡ m)). among_none m k (omega (arith, among_apart m ne, le)) (below k m lt apart))
      (cases_eq k m))
      (cases_eq (bucket (slice_index homes m)) b)

  among_home : (m k : ℕ) → last_among bucket b homes m ≡ suc k → bucket (slice_index homes k) ≡ b
  among_home zero k is = absurd (omega (arith, among_none_yet, is))
  among_home (suc m) k is = ⊎_elim
      (λ (e : bucket (slice_index homes m) ≡ b). let same : m ≡ k = omega (arith, among_here m e, is) in
      subst (λ (n : ℕ). bucket (slice_index homes n) ≡ b) same e)
      (λ (ne : ¬ (bucket (slice_index homes m) ≡ b)). among_home m k (sym (among_apart m ne) ∙ is))
      (cases_eq (bucket (slice_index homes m)) b)

-- the same homes
among_same : (bucket : ℕ → ℕ) (b : ℕ) (homes homes' : List ℕ) (m : ℕ)
    → ((k : ℕ) → k < m → slice_index homes' k ≡ slice_index homes k)
    → last_among bucket b homes' m ≡ last_among bucket b homes m
among_same bucket b homes homes' zero same = among_none_yet bucket b homes'
    ∙ sym (among_none_yet bucket b homes)
among_same bucket b homes homes' (suc m) same =
    let here : slice_index homes' m ≡ slice_index homes m = same m (omega arith) in
    ⊎_elim
    (λ (e : bucket (slice_index homes m) ≡ b). among_here bucket b homes' m (ap bucket here ∙ e)
    ∙ sym (among_here bucket b homes m e))
    (λ (ne : ¬ (bucket (slice_index homes m) ≡ b)).
    among_apart bucket b homes' m (λ e. ne (sym (ap bucket here) ∙ e))
    ∙ among_same bucket b homes homes' m (λ k lt. same k (omega (arith, lt)))
    ∙ sym (among_apart bucket b homes m ne))
    (cases_eq (bucket (slice_index homes m)) b)

-- ---- no slots, and one slot more

pub chained_empty : (before heads : List ℕ) → before ≡ [] → heads ≡ replicate (length heads) 0
    → length heads < 2 ^ 32 → AreChained [] before heads
chained_empty before heads none zeros few = record {
  few = omega arith;
  few_buckets = few;
  some_bucket = λ e. refl;
  as_many = ap length none;
  heads_are = λ b lt. ap (λ (l : List ℕ). slice_index l b) zeros ∙ get_or-replicate (length heads) b 0 0 lt
      ∙ sym (among_none_yet (bucket_in (length heads)) b []);
  before_are = λ k lt. absurd (omega (arith, lt));
}

pub chained_more : (homes before heads : List ℕ) (i b n x : ℕ) → AreChained homes before heads
    → b ≡ bucket_in (length heads) i → b < length heads → n ≡ length homes + 1 → n < 2 ^ 32
    → x ≡ slice_index heads b
    → AreChained (homes ++ i ∷ []) (before ++ x ∷ []) (set heads b n)
chained_more homes before heads i b n x c is lt n_is few x_is = record {
  few = omega (arith, long, n_is, few);
  few_buckets = omega (arith, width, c.few_buckets);
  some_bucket = λ e. absurd (omega (arith, e, width, lt));
  as_many = length_push before x ∙ ap (λ (k : ℕ). k + 1) c.as_many ∙ sym long;
  heads_are =
      λ d less. subst
      (λ (w : ℕ). slice_index (set heads b n) d ≡ last_among (bucket_in w) d (homes ++ i ∷ [])
      (length (homes ++ i ∷ []))) (sym width) (head_is d (omega (arith, less, width)));
  before_are =
      λ k less. subst
      (λ (w : ℕ). slice_index (before ++ x ∷ []) k ≡ last_among (bucket_in w)
      (bucket_in w (slice_index (homes ++ i ∷ []) k)) (homes ++ i ∷ []) k) (sym width)
      (before_is k (omega (arith, less, long)));
}
  where
    f : ℕ → ℕ
    f = bucket_in (length heads)

    width : length (set heads b n) ≡ length heads
    width = length-set heads b n

    long : length (homes ++ i ∷ []) ≡ length homes + 1
    long = length_push homes i

    same : (k : ℕ) → k < length homes → slice_index (homes ++ i ∷ []) k ≡ slice_index homes k
    same k less = get_or_append_left homes (i ∷ []) 0 k less

    here : slice_index (homes ++ i ∷ []) (length homes) ≡ i
    here = get_or_push homes i 0 (length homes) refl

    next : length (homes ++ i ∷ []) ≡ suc (length homes)
    next = omega (arith, long)

    head_is : (d : ℕ) → d < length heads
        → slice_index (set heads b n) d ≡ last_among f d (homes ++ i ∷ []) (length (homes ++ i ∷ []))
    head_is d less = ⊎_elim
        (λ (e : d ≡ b). subst
        (λ (k : ℕ). slice_index (set heads b n) k ≡ last_among f k (homes ++ i ∷ [])
        (length (homes ++ i ∷ []))) (sym e)
        (get_or-set_same heads b n 0 lt ∙ n_is ∙ suc_of (length homes)
        ∙ sym (among_here f b (homes ++ i ∷ []) (length homes) (ap f here ∙ sym is))
        ∙ ap (last_among f b (homes ++ i ∷ [])) (sym next)))
        (λ (ne : ¬ (d ≡ b)). get_or-set_other heads b d n 0 ne ∙ c.heads_are d less
        ∙ sym (among_same f d homes (homes ++ i ∷ []) (length homes) same)
        ∙ sym (among_apart f d (homes ++ i ∷ []) (length homes) (λ e. ne (sym e ∙ ap f here ∙ sym is)))
        ∙ ap (last_among f d (homes ++ i ∷ [])) (sym next))
        (cases_eq d b)
      where
        suc_of : (k : ℕ) → k + 1 ≡ suc k
        suc_of k = omega arith

    before_is : (k : ℕ) → k < length homes + 1
        → slice_index (before ++ x ∷ []) k ≡ last_among f (f (slice_index (homes ++ i ∷ []) k))
        (homes ++ i ∷ []) k
    before_is k less = ⊎_elim
        (λ (e : k ≡ length homes). subst
        (λ (j : ℕ). slice_index (before ++ x ∷ []) j ≡ last_among f (f (slice_index (homes ++ i ∷ []) j))
        (homes ++ i ∷ []) j) (sym e)
        (get_or_push before x 0 (length homes) c.as_many ∙ x_is ∙ c.heads_are b lt
        ∙ ap (λ (d : ℕ). last_among f d homes (length homes)) (is ∙ ap f (sym here))
        ∙ sym (among_same f (f (slice_index (homes ++ i ∷ []) (length homes))) homes (homes ++ i ∷ [])
        (length homes) same)))
        (λ (ne : ¬ (k ≡ length homes)).
        let at : k < length homes = below k (length homes) (omega (arith, less)) ne in
        get_or_append_left before (x ∷ []) 0 k (omega (arith, at, c.as_many)) ∙ c.before_are k at
        ∙ ap (λ (h : ℕ). last_among f (f h) homes k) (sym (same k at))
        ∙ sym (among_same f (f (slice_index (homes ++ i ∷ []) k)) homes (homes ++ i ∷ []) k
        (λ j lt2. same j (omega (arith, lt2, at)))))
        (cases_eq k (length homes))

-- the first k slots of all, and one more
pub chained_step : (homes before heads : List ℕ) (i b k n x : ℕ) → AreChained (take k homes) before heads
    → k < length homes → i ≡ slice_index homes k → b ≡ bucket_in (length heads) i → b < length heads
    → n ≡ k + 1 → length homes < 2 ^ 32 → x ≡ slice_index heads b
    → AreChained (take (k + 1) homes) (before ++ x ∷ []) (set heads b n)
chained_step homes before heads i b k n x c at i_is is lt n_is few x_is =
    let size : length (take k homes) ≡ k = length-take-le k homes (omega (arith, at)) in
    subst (λ (hs : List ℕ). AreChained hs (before ++ x ∷ []) (set heads b n))
    (ap (λ (j : ℕ). take k homes ++ j ∷ []) i_is ∙ sym (take_more homes k 0 at))
    (chained_more (take k homes) before heads i b n x c is lt (omega (arith, n_is, size))
    (omega (arith, n_is, at, few)) x_is)

-- ---- a search down a chain

-- No slot from number `next` on holds block i, and the slot before is in its bucket, if there is one.
pub record IsSought (homes heads : List ℕ) (i next : ℕ) : Type 0 where
  pub within : next ≤ length homes
  pub none : (k : ℕ) → next ≤ k → k < length homes → ¬ (slice_index homes k ≡ i)
  pub bucket : (k : ℕ) → next ≡ suc k
      → bucket_in (length heads) (slice_index homes k) ≡ bucket_in (length heads) i

pub sought_first : (homes before heads : List ℕ) (i b next : ℕ) → AreChained homes before heads
    → b ≡ bucket_in (length heads) i → b < length heads → next ≡ slice_index heads b
    → IsSought homes heads i next
sought_first homes before heads i b next c is lt next_is =
    let f : ℕ → ℕ = bucket_in (length heads) in
    let at : next ≡ last_among f b homes (length homes) = next_is ∙ c.heads_are b lt in
    record {
      within = omega (arith, at, among_within f b homes (length homes));
      none = λ k le less e. among_none f b homes (length homes) k (omega (arith, at, le)) less
          (ap f e ∙ sym is);
      bucket = λ k one. among_home f b homes (length homes) k (sym at ∙ one) ∙ is;
    }

pub sought_next : (homes before heads : List ℕ) (i slot next next' : ℕ) → AreChained homes before heads
    → IsSought homes heads i next → next ≡ slot + 1 → ¬ (slice_index homes slot ≡ i)
    → next' ≡ slice_index before slot → IsSought homes heads i next'
sought_next homes before heads i slot next next' c s is ne next_is =
    let f : ℕ → ℕ = bucket_in (length heads) in
    let one : next ≡ suc slot = omega (arith, is) in
    let there : slot < length homes = omega (arith, one, s.within) in
    let b : f (slice_index homes slot) ≡ f i = s.bucket slot one in
    let at : next' ≡ last_among f (f i) homes slot = next_is ∙ c.before_are slot there
    ∙ ap (λ (d : ℕ). last_among f d homes slot) b in
    record {
      within = omega (arith, at, among_within f (f i) homes slot, there);
      none = λ k le less. ⊎_elim
          (λ (lt : k < slot). λ e. among_none f (f i) homes slot k (omega (arith, at, le)) lt (ap f e))
          (λ (ge : slot ≤ k). ⊎_elim
          (λ (here : k ≡ slot). subst (λ (n : ℕ). ¬ (slice_index homes n ≡ i)) (sym here) ne)
          (λ (apart : ¬ (k ≡ slot)). s.none k (past k slot next one ge apart) less)
          (cases_eq k slot))
          (cases_lt k slot);
      bucket = λ k two. among_home f (f i) homes slot k (sym at ∙ two);
    }
  where
    past : (k slot next : ℕ) → next ≡ suc slot → slot ≤ k → ¬ (k ≡ slot) → next ≤ k
    past k slot next one ge apart =
        ⊎_elim (λ (lt : slot < k). omega (arith, lt, one))
        (λ (le : k ≤ slot). absurd (apart (omega (arith, le, ge)))) (cases_lt slot k)

-- the slot before it, in a chain
pub before_less : (homes before heads : List ℕ) (slot next : ℕ) → AreChained homes before heads
    → slot < length homes → next ≡ slice_index before slot → next ≤ slot
before_less homes before heads slot next c there next_is =
    let f : ℕ → ℕ = bucket_in (length heads) in
    omega (arith, next_is ∙ c.before_are slot there, among_within f (f (slice_index homes slot)) homes slot)
