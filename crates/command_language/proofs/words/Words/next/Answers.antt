-- The goals of `Words::next` that are proved by hand.
use Rattle.std.proofs.Common.{◌≡◌, ℕ, [], ◌∷◌, List, ◌<◌, take, drop, sym, ap, ◌∙◌, arith}
use Rattle.std.specs.List.{prefix_len}
use Rattle.command_language.specs.Lines.{is_blank, words_of}
use Rattle.command_language.proofs.WordLemmas.{in_word, from_word, no_word, one_word}
use Rattle.command_language.proofs.words.Words.next.Goals as goal

none_left : (xs from : List ℕ) (n len : ℕ) → n ≡ prefix_len is_blank xs → from ≡ drop n xs
    → len ≡ prefix_len in_word from → len ≡ 0 → words_of xs ≡ []
none_left xs from n len a b d z =
    no_word xs
    (ap (λ y. prefix_len in_word (drop y xs)) (sym a) ∙ ap (prefix_len in_word) (sym b) ∙ sym d ∙ z)

one_taken : (xs from word rest : List ℕ) (n len : ℕ) → n ≡ prefix_len is_blank xs → from ≡ drop n xs
    → len ≡ prefix_len in_word from → 0 < len → word ≡ take len from → rest ≡ drop len from
    → words_of xs ≡ word ∷ words_of rest
one_taken xs from word rest n len a b d z p q =
    let f : from ≡ from_word xs = b ∙ ap (λ y. drop y xs) a in
    let l : len ≡ prefix_len in_word (from_word xs) = d ∙ ap (prefix_len in_word) f in
    one_word xs (omega (arith, l))
    ∙ sym (ap (λ w. w ∷ words_of rest) (p ∙ ap (take len) f ∙ ap (λ k. take k (from_word xs)) l)
    ∙ ap (λ r. take (prefix_len in_word (from_word xs)) (from_word xs) ∷ words_of r)
    (q ∙ ap (drop len) f ∙ ap (λ k. drop k (from_word xs)) l))

pub returns-then-len-eq0 : goal.returns-then-len-eq0
returns-then-len-eq0 c = sym c.self.view_is
    ∙ none_left _ _ _ _ c.blank_len.ensures.count c.split_at.ensures.back c.word_len-len.ensures.count
    c.if-len-eq0.true

pub returns : goal.returns
returns c = sym c.self.view_is
    ∙ one_taken _ _ _ _ _ _ c.blank_len.ensures.count c.split_at.ensures.back c.word_len-len.ensures.count
    (omega arith) c.split_at-2.ensures.front c.split_at-2.ensures.back
