-- How the words of a line follow from its bytes, from the front.
use Rattle.std.proofs.Common.{◌≡◌, ℕ, ◌+◌, ◌<◌, Bool, true, false, not, cond, List, [], ◌∷◌, take, drop, refl}
use Rattle.std.proofs.Common.{sym, ap, ◌∙◌, ◌⊎◌, inl, inr, ⊎_elim, one-add, arith}
use Rattle.std.specs.List.{prefix_len}
use Rattle.std.proofs.lemmas.Bool.{false≢true}
use Rattle.command_language.specs.Lines.{is_blank, words_of, begins_word, onto_first}

abbrev pub in_word : ℕ → Bool
in_word b = not (is_blank b)

-- the text after its first blanks
abbrev pub from_word : List ℕ → List ℕ
from_word xs = drop (prefix_len is_blank xs) xs

skip_step : (x : ℕ) (xs : List ℕ) → words_of (from_word xs) ≡ words_of xs → (b : Bool) → is_blank x ≡ b
    → words_of (drop (cond b (1 + prefix_len is_blank xs) 0) (x ∷ xs)) ≡ words_of (x ∷ xs)
skip_step x xs ih true e = rw one-add (rw e ih)
skip_step x xs ih false e = refl

pub words_of-from_word : (xs : List ℕ) → words_of (from_word xs) ≡ words_of xs
words_of-from_word [] = refl
words_of-from_word (x ∷ xs) = skip_step x xs (words_of-from_word xs) (is_blank x) refl

begin_step : (x : ℕ) (xs : List ℕ) → ((from_word xs ≡ []) ⊎ (begins_word (from_word xs) ≡ true)) → (b : Bool)
    → is_blank x ≡ b
    → (drop (cond b (1 + prefix_len is_blank xs) 0) (x ∷ xs) ≡ [])
    ⊎ (begins_word (drop (cond b (1 + prefix_len is_blank xs) 0) (x ∷ xs)) ≡ true)
begin_step x xs ih true e = rw one-add ih
begin_step x xs ih false e = inr (rw e refl)

pub from_word-begins : (xs : List ℕ) → (from_word xs ≡ []) ⊎ (begins_word (from_word xs) ≡ true)
from_word-begins [] = inl refl
from_word-begins (x ∷ xs) = begin_step x xs (from_word-begins xs) (is_blank x) refl

-- what begins no word has none at its front
none_taken : (xs : List ℕ) → begins_word xs ≡ false → prefix_len in_word xs ≡ 0
none_taken [] h = refl
none_taken (x ∷ xs) h = rw h refl

-- the first word is at the front
abbrev FirstWord : List ℕ → Type 0
FirstWord xs = words_of xs ≡ take (prefix_len in_word xs) xs ∷ words_of (drop (prefix_len in_word xs) xs)

more_step : (x : ℕ) (xs : List ℕ) → (begins_word xs ≡ true → FirstWord xs) → (b : Bool) → begins_word xs ≡ b
    → cond b (onto_first x (words_of xs))
    ((x ∷ []) ∷ words_of xs) ≡ (x ∷ take (prefix_len in_word xs) xs) ∷ words_of
    (drop (prefix_len in_word xs) xs)
more_step x xs ih true e = rw (ih e) refl
more_step x xs ih false e = rw (none_taken xs e) refl

word_step : (x : ℕ) (xs : List ℕ) → (begins_word xs ≡ true → FirstWord xs) → is_blank x ≡ false
    → FirstWord (x ∷ xs)
word_step x xs ih e = rw (e, one-add) (more_step x xs ih (begins_word xs) refl)

pub words_of-word : (xs : List ℕ) → begins_word xs ≡ true → FirstWord xs
words_of-word [] h = absurd (false≢true h)
words_of-word (x ∷ xs) h = word_step x xs (words_of-word xs) (begun (is_blank x) h)
  where
    begun : (b : Bool) → not b ≡ true → b ≡ false
    begun true h = absurd (false≢true h)
    begun false h = refl

taken : (ys : List ℕ) → begins_word ys ≡ true → 0 < prefix_len in_word ys
taken [] b = absurd (false≢true b)
taken (y ∷ ys) b = rw b (omega arith)

-- a text that begins no word after its blanks has none
pub no_word : (xs : List ℕ) → prefix_len in_word (from_word xs) ≡ 0 → words_of xs ≡ []
no_word xs h =
    ⊎_elim (λ e. sym (words_of-from_word xs) ∙ ap words_of e)
    (λ b. absurd (omega (arith, taken (from_word xs) b))) (from_word-begins xs)

-- else its first word is that
pub one_word : (xs : List ℕ) → 0 < prefix_len in_word (from_word xs)
    → words_of xs ≡ take (prefix_len in_word (from_word xs)) (from_word xs) ∷ words_of
    (drop (prefix_len in_word (from_word xs)) (from_word xs))
one_word xs some =
    ⊎_elim (λ e. absurd (omega (arith, ap (prefix_len in_word) e)))
    (λ b. sym (words_of-from_word xs) ∙ words_of-word (from_word xs) b) (from_word-begins xs)
