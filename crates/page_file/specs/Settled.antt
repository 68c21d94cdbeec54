-- Blocks that pass the checks of opening, and what lies in them.
use Rattle.std.proofs.Common.{◌≡◌, ◌∙◌, ℕ, ◌<◌, ◌≤◌, ◌+◌, ◌-◌, List, [], ◌∷◌, Bool, true, false, ◌&&◌, not}
use Rattle.std.proofs.Common.{nat_le, nat_lt, ◌==◌, Some, None, length, refl, sym, ap, arith, subst, cond}
use Rattle.std.proofs.lemmas.Bool.Decides.{nat_tests}
use Rattle.block_device.specs.Device.{Blocks, block_at}
use Rattle.block_bytes.specs.Numbers.{number_at}
use Rattle.page_file.specs.declared.fault.Fault.TheVariants.{NotAStore, NotClosed, WrongVersion, Damaged}
use Rattle.page_file.specs.declared.header.Header.{Header}
use Rattle.page_file.specs.declared.header.Version.{Version}
use Rattle.page_file.specs.Layout.{gate_text, header_text, header_version, is_known, version_from}
use Rattle.page_file.specs.Layout.{IsShutGate, IsHeader}
use Rattle.page_file.specs.Opening.{Check, failed_check, first_fault, gate_checks, header_checks}
use Rattle.page_file.specs.Opening.{header_of_block, is_sound}
use Rattle.page_file.specs.Pages.{header_in, may_link}

-- a check that was passed, and those after it
passed : (a : Check) (cs : List Check) → first_fault (a ∷ cs) ≡ None → (a.0 ≡ false) × (first_fault cs ≡ None)
passed a cs e = case a.0 e
  where
    case : (t : Bool) → cond t (Some a.1) (first_fault cs) ≡ None → (t ≡ false) × (first_fault cs ≡ None)
    case true e = absurd (cc)
    case false e = (refl, e)

pass : (a : Check) (cs : List Check) → a.0 ≡ false → first_fault cs ≡ None → first_fault (a ∷ cs) ≡ None
pass a cs e rest = ap (λ (t : Bool). cond t (Some a.1) (first_fault cs)) e ∙ rest

not_false : (b : Bool) → not b ≡ false → b ≡ true
not_false true e = refl
not_false false e = absurd (cc)

equal : (a b : ℕ) → not (a == b) ≡ false → a ≡ b
equal a b t = grind (arith, nat_tests)

not_apart : (a b : ℕ) → a ≡ b → not (a == b) ≡ false
not_apart a b e = grind (arith, nat_tests)

-- what passes the checks
pub record Passes (blocks : Blocks) : Type 0 where
  pub three : 3 ≤ length blocks
  pub gate : IsShutGate (block_at 0 blocks)
  pub header : IsHeader (header_in blocks) (block_at 1 blocks)
  pub within : (header_in blocks).next ≤ length blocks
  pub sound : is_sound (header_in blocks) ≡ true

pub passes_from : (blocks : Blocks) → failed_check blocks ≡ None → Passes blocks
unfolding failed_check gate_checks header_checks
passes_from blocks e =
    let page = block_at 1 blocks in
    let fit : Bool = nat_le (number_at 4 12 page) (length blocks) && is_sound (header_of_block page) in
    let last : Check = (not fit, Damaged 1) in
    let known : Check = (not (is_known (header_version page)), WrongVersion) in
    let text : Check = (not (number_at 8 0 page == header_text), NotAStore) in
    let shut : Check = (not (number_at 1 8 (block_at 0 blocks) == 1), NotClosed) in
    let gate : Check = (not (number_at 8 0 (block_at 0 blocks) == gate_text), NotAStore) in
    let few : Check = (nat_lt (length blocks) 3, NotAStore) in
    let a = passed few (gate ∷ (shut ∷ (text ∷ (known ∷ (last ∷ []))))) e in
    let b = passed gate (shut ∷ (text ∷ (known ∷ (last ∷ [])))) a.1 in
    let c = passed shut (text ∷ (known ∷ (last ∷ []))) b.1 in
    let d = passed text (known ∷ (last ∷ [])) c.1 in
    let f = passed known (last ∷ []) d.1 in
    let g = not_false fit (passed last [] f.1).0 in
    let fits = both (nat_le (number_at 4 12 page) (length blocks)) (is_sound (header_of_block page)) g in
    record {
      three = let t = a.0 in grind (arith, nat_tests);
      gate = record { text = equal _ _ b.0; shut = equal _ _ c.0 };
      header =
          record {
            text = equal _ _ d.0;
            known = not_false _ f.0;
            version_is = refl;
            next_is = refl;
            first_is = refl;
            count_is = refl;
          };
      within = let t = fits.0 in grind (arith, nat_tests);
      sound = fits.1;
    }
  where
    both : (x y : Bool) → (x && y) ≡ true → (x ≡ true) × (y ≡ true)
    both true y e = (refl, e)
    both false y e = absurd (cc)

pub passes_to : (blocks : Blocks) → Passes blocks → failed_check blocks ≡ None
unfolding failed_check gate_checks header_checks
passes_to blocks p =
    let page = block_at 1 blocks in
    let fit : Bool = nat_le (number_at 4 12 page) (length blocks) && is_sound (header_of_block page) in
    let few : nat_lt (length blocks) 3 ≡ false = let t = p.three in grind (arith, nat_tests) in
    let le : nat_le (number_at 4 12 page) (length blocks) ≡ true = let t = p.within in
    grind (arith, nat_tests) in
    let fits : fit ≡ true = ap (λ (t : Bool). t && is_sound (header_of_block page)) le ∙ p.sound in
    let last : Check = (not fit, Damaged 1) in
    let known : Check = (not (is_known (header_version page)), WrongVersion) in
    let text : Check = (not (number_at 8 0 page == header_text), NotAStore) in
    let shut : Check = (not (number_at 1 8 (block_at 0 blocks) == 1), NotClosed) in
    let gate : Check = (not (number_at 8 0 (block_at 0 blocks) == gate_text), NotAStore) in
    pass (nat_lt (length blocks) 3, NotAStore) (gate ∷ (shut ∷ (text ∷ (known ∷ (last ∷ []))))) few
    (pass gate (shut ∷ (text ∷ (known ∷ (last ∷ [])))) (not_apart _ _ p.gate.text)
    (pass shut (text ∷ (known ∷ (last ∷ []))) (not_apart _ _ p.gate.shut)
    (pass text (known ∷ (last ∷ [])) (not_apart _ _ p.header.text)
    (pass known (last ∷ []) (ap not p.header.known)
    (pass last [] (ap not fits) refl)))))

abbrev made : Version → ℕ → ℕ → ℕ → Header
made version next first count = record { version = version; next = next; first = first; count = count }

-- a block that reads as a header says what it says
pub header_is : (h : Header) (block : List ℕ) → IsHeader h block → header_of_block block ≡ h
header_is h block is =
    ap (λ (v : Version). made v (number_at 4 12 block) (number_at 4 16 block) (number_at 4 20 block))
    is.version_is
    ∙ ap (λ (n : ℕ). made h.version n (number_at 4 16 block) (number_at 4 20 block)) is.next_is
    ∙ ap (λ (f : ℕ). made h.version h.next f (number_at 4 20 block)) is.first_is
    ∙ ap (λ (c : ℕ). made h.version h.next h.first c) is.count_is

-- a file that is settled on these blocks passes the checks
pub settled_passes : (blocks : Blocks) (h : Header) → IsShutGate (block_at 0 blocks)
    → IsHeader h (block_at 1 blocks) → h.next ≤ length blocks → is_sound h ≡ true → 3 ≤ h.next → Passes blocks
settled_passes blocks h gate header within sound low =
    let same : h ≡ header_in blocks = sym (header_is h (block_at 1 blocks) header) in
    record {
      three = omega (arith, low, within);
      gate = gate;
      header = subst (λ (x : Header). IsHeader x (block_at 1 blocks)) same header;
      within = subst (λ (x : Header). x.next ≤ length blocks) same within;
      sound = subst (λ (x : Header). is_sound x ≡ true) same sound;
    }

-- what sound numbers say of each other
pub record Sound (h : Header) : Type 0 where
  pub start : 3 ≤ h.next
  pub first_below : h.first < h.next
  pub few_free : h.count < h.next

pub sound_says : (h : Header) → is_sound h ≡ true → Sound h
sound_says h e = record {
  start = grind (arith, nat_tests);
  first_below = grind (arith, nat_tests);
  few_free = grind (arith, nat_tests);
}

-- they stay sound where a page more is given out, and where one is freed
pub more_given : (h : Header) → is_sound h ≡ true
    → is_sound (made h.version (h.next + 1) h.first h.count) ≡ true
more_given h e = grind (arith, nat_tests)

pub more_free : (h : Header) (n : ℕ) → is_sound h ≡ true → 3 ≤ n → n < h.next → h.count < h.next - 3
    → is_sound (made h.version h.next n (h.count + 1)) ≡ true
more_free h n e low below room = grind (arith, nat_tests)

-- and where the first free one is taken, whose link is as the format has it
pub one_less_free : (h : Header) (link : ℕ) → is_sound h ≡ true → 0 < h.count
    → may_link h.count h.next link ≡ true → is_sound (made h.version h.next link (h.count - 1)) ≡ true
one_less_free h link e some linked = grind (arith, nat_tests)
