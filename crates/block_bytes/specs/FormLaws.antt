-- The laws of each way in which pages spell something, from what a page that spells it has.
use Rattle.std.specs.Prelude.{◌≡◌, ℕ, List, Option, Some, None, refl}
use Rattle.std.proofs.Common.{sym, ◌∙◌, ⊎_elim}
use Rattle.std.proofs.lemmas.Bool.{cases_eq}
use Rattle.block_bytes.specs.Numbers.{number_at, AreBytes}
use Rattle.block_bytes.specs.Forms.{HasOnePage, ReadsNamed, SameNamed}

-- where nothing is read there is nothing
pub none_read : {X : Type 0} (o : Option X) → ((x : X) → o ≡ Some x → ⊥) → o ≡ None
none_read None never = refl
none_read (Some x) never = absurd (never x refl)

same_options : {X : Type 0} (o p : Option X) → ((x : X) → o ≡ Some x → p ≡ Some x)
    → ((x : X) → p ≡ Some x → o ≡ Some x) → o ≡ p
same_options (Some x) p f g = sym (f x refl)
same_options None (Some y) f g = g y refl
same_options None None f g = refl

-- Only named bytes are read, where a page with the same named bytes spells the same, and names none more.
pub reads_named : {X : Type 0} (read : List ℕ → Option X) (IsNamed : List ℕ → ℕ → Type 0)
    → ((a b : List ℕ) (x : X) → SameNamed IsNamed a b → read a ≡ Some x → read b ≡ Some x)
    → ((a b : List ℕ) → SameNamed IsNamed a b → (k : ℕ) → IsNamed b k → IsNamed a k) → ReadsNamed read IsNamed
reads_named read IsNamed kept named a b same =
    same_options (read a) (read b) (λ x is. kept a b x same is)
    (λ x is. kept b a x (λ k of. sym (same k (named a b same k of))) is)

-- There is one page, where two that spell the same have the same named bytes, and name the same.
pub has_one_page : {X : Type 0} (read : List ℕ → Option X) (IsNamed : List ℕ → ℕ → Type 0)
    → ((a b : List ℕ) (x : X) → AreBytes a → AreBytes b → read a ≡ Some x → read b ≡ Some x
    → SameNamed IsNamed a b)
    → ((a b : List ℕ) (x : X) → read a ≡ Some x → read b ≡ Some x → (k : ℕ) → IsNamed b k → IsNamed a k)
    → HasOnePage read IsNamed
has_one_page read IsNamed fixed named a b x ba bb pa pb k = ⊎_elim
    (λ (same : number_at 1 k a ≡ number_at 1 k b). same)
    (λ (other : number_at 1 k a ≡ number_at 1 k b → ⊥).
    pa.rest k (λ of. other (fixed a b x ba bb pa.spelled pb.spelled k of))
    ∙ sym (pb.rest k
    (λ of. other (fixed a b x ba bb pa.spelled pb.spelled k (named a b x pa.spelled pb.spelled k of)))))
    (cases_eq (number_at 1 k a) (number_at 1 k b))
