-- A word that names a layer, with a fanout or without one.
use Rattle.std.proofs.Common.{◌≡◌, ◌∙◌, ◌+◌, ℕ, List, None, Some, ap, drop, inl, inr, refl, subst}
use Rattle.std.proofs.Common.{sym}
use Rattle.std.proofs.Common.{◌-◌, arith, length, length-drop, take}
use Rattle.std.proofs.lemmas.List.{take_all}
use Rattle.std.specs.Str.Parse.{IsNumeral, digits_value}
use Rattle.program_words.specs.Targets.{IsTarget, colon_in}
use Rattle.program_words.proofs.importing.target_of.Goals as goal

plain : (word bytes : List ℕ) → bytes ≡ word → None ≡ colon_in bytes → IsTarget word bytes 100
plain word bytes same none = inl (ap colon_in (sym same) ∙ sym none, same, refl)

-- what stands behind the colon
behind : (at : ℕ) (bytes : List ℕ) → take (length bytes - (at + 1)) (drop (at + 1) bytes) ≡ drop (at + 1)
    bytes
behind at bytes =
    take_all (length bytes - (at + 1)) (drop (at + 1) bytes) (omega (arith, length-drop (at + 1) bytes))

with_fanout : (word bytes text : List ℕ) (at fanout : ℕ) → bytes ≡ word → Some at ≡ colon_in bytes
    → text ≡ drop (at + 1) bytes → IsNumeral 10 text → fanout ≡ digits_value 10 text
    → IsTarget word (take at bytes) fanout
with_fanout word bytes text at fanout same colon rest digits value =
    let all : text ≡ drop (at + 1) word = rest ∙ ap (drop (at + 1)) same in
    inr (record {
      at = at;
      colon = ap colon_in (sym same) ∙ sym colon;
      layer_is = ap (take at) same;
      digits = subst (IsNumeral 10) all digits;
      fanout_is = value ∙ ap (digits_value 10) all;
    })

pub returns-in-None : goal.returns-in-None
returns-in-None c =
    plain c.args.word.now c.as_bytes-bytes.result.now c.as_bytes-bytes.ensures.value c.in-None.ensures

pub returns-in_ok-whole_number-in-Some : goal.returns-in_ok-whole_number-in-Some
returns-in_ok-whole_number-in-Some c =
    let h = c.in_ok-whole_number-in-Some.ensures in
    let bytes = c.as_bytes-bytes.result.now in
    with_fanout c.args.word.now bytes _ c.in-Some.at c.in_ok-whole_number-in-Some.field-0
    c.as_bytes-bytes.ensures.value c.in-Some.ensures (behind c.in-Some.at bytes) h.0.0 h.1
