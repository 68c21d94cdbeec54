-- A bucket at a page of a map, and its objects by place.
use Rattle.std.proofs.Common.{◌≡◌, ◌∙◌, ℕ, ◌+◌, ◌<◌, Result, Ok, Err, IfErr, true, false, cond, eqb, Option}
use Rattle.std.proofs.Common.{Some, None, IsSome, List, length, get_or, drop, refl, sym, ap, subst, arith}
use Rattle.std.proofs.lemmas.Bool.Decides.{nat_tests}
use Rattle.std.proofs.lemmas.List.{drop_more}
use Rattle.box_math.specs.Bounds.{origin_box}
use Rattle.bucket_page.specs.Layout.{BucketContent, bucket_at, Entry}
use Rattle.id_words.specs.Objects.{kept_in}
use Rattle.id_chains.specs.Table.{bucket_in}

-- an object, where it is of no matter which
abbrev pub some_object : Entry
some_object = (0, (origin_box 2, 0))

is_same : (a b : ℕ) → a ≡ b → eqb a b ≡ true
is_same a b h = grind (arith, nat_tests)

is_other : (a b : ℕ) → ¬ (a ≡ b) → eqb a b ≡ false
is_other a b h = grind (arith, nat_tests)

-- the object at a place does not have the identifier
pub passed : (id here place : ℕ) (es : List Entry) → place < length es
    → here ≡ (get_or es place some_object).0 → ¬ (here ≡ id) → kept_in id es ≡ kept_in id (drop place es)
    → kept_in id es ≡ kept_in id (drop (place + 1) es)
passed id here place es within is other so_far =
    let x = get_or es place some_object in
    so_far ∙ ap (kept_in id) (drop_more es place some_object within)
    ∙ ap (λ b. cond b (Some x.1) (kept_in id (drop (place + 1) es)))
    (is_other x.0 id (λ same. other (is ∙ same)))

-- it has it
pub met : (id here place : ℕ) (es : List Entry) (object : Entry) → place < length es
    → here ≡ (get_or es place some_object).0 → here ≡ id
    → ◌≡◌ {A = Option Entry} (Some object) (Some (get_or es place some_object))
    → kept_in id es ≡ kept_in id (drop place es) → Some object.1 ≡ kept_in id es
met id here place es object within is same read so_far =
    let x = get_or es place some_object in
    let object_is : object ≡ x = cc in
    ap (λ (o : Entry). Some o.1) object_is
    ∙ sym (so_far ∙ ap (kept_in id) (drop_more es place some_object within)
    ∙ ap (λ b. cond b (Some x.1) (kept_in id (drop (place + 1) es))) (is_same x.0 id (sym is ∙ same)))

-- ---- pages

pub page_of_bucket : (dims : ℕ) (page : Option (List ℕ)) (c : BucketContent) → bucket_in dims page ≡ Some c
    → IsSome page
page_of_bucket dims None c e = absurd (cc)
page_of_bucket dims (Some bytes) c e = refl

pub bucket_bytes : (dims : ℕ) (page : Option (List ℕ)) (bytes : List ℕ) (c : BucketContent)
    → page ≡ Some bytes → bucket_in dims page ≡ Some c → bucket_at dims bytes ≡ Some c
bucket_bytes dims page bytes c there is = sym (ap (bucket_in dims) there) ∙ is

pub bytes_of_bucket : (dims : ℕ) (page : Option (List ℕ)) (c : BucketContent) → bucket_in dims page ≡ Some c
    → (bytes : List ℕ) × (page ≡ Some bytes) × (bucket_at dims bytes ≡ Some c)
bytes_of_bucket dims None c is = absurd (cc)
bytes_of_bucket dims (Some bytes) c is = (bytes, refl, is)

pub is_there : (page : Option (List ℕ)) (bytes : List ℕ) → page ≡ Some bytes → IsSome page
is_there None bytes e = absurd (cc)
is_there (Some x) bytes e = refl

-- a page that is there is not one that was not
pub apart_pages : (pages : ℕ → Option (List ℕ)) (d n : ℕ) → IsSome (pages d) → pages n ≡ None → ¬ (d ≡ n)
apart_pages pages d n there none is = nothing (pages n) none (subst (λ k. IsSome (pages k)) is there)
  where
    nothing : (page : Option (List ℕ)) → page ≡ None → IsSome page → ⊥
    nothing None e h = cc
    nothing (Some x) e h = cc

pub if_err : {T E : Type 0} (r : Result T E) (P Q : E → Type 0) → ((f : E) → P f → Q f) → IfErr r P
    → IfErr r Q
if_err (Ok x) P Q f h = tt
if_err (Err e) P Q f h = f e h
