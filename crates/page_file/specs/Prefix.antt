-- What opening makes of blocks depends on those below `next` alone, where the free pages are a chain: so
-- blocks that begin with a closed file's are that file.
use Rattle.std.proofs.Common.{◌≡◌, ◌∙◌, ℕ, zero, suc, ◌<◌, ◌≤◌, List, [], ◌∷◌, Bool, true, false, ◌&&◌, not}
use Rattle.std.proofs.Common.{nat_le, nat_lt, eqb, if◌then◌else◌, Option, Some, None, length, refl, sym, ap}
use Rattle.std.proofs.Common.{subst, arith, ⊎_elim}
use Rattle.std.specs.Set.{is_member}
use Rattle.std.proofs.lemmas.Bool.{cases_lt}
use Rattle.std.proofs.lemmas.Bool.Decides.{nat_tests}
use Rattle.block_device.specs.Device.{Begins, Blocks, block_at}
use Rattle.page_file.specs.File.{IsNewFile, IsPageMap, LiesIn}
use Rattle.page_file.specs.Layout.{IsHeader, IsShutGate, kind_of, link_of, opened_version}
use Rattle.page_file.specs.Opening.{failed_check, header_of_block, is_sound}
use Rattle.page_file.specs.Pages.{IsChain, IsSoundMap, chain, header_in, next_in, page_of, pages_in}
use Rattle.page_file.specs.Settled.{passes_from, passes_to}
use Rattle.page_file.specs.declared.file.PageFile.{PageFile}
use Rattle.page_file.specs.declared.header.Header.{Header}

module _ (kept c : Blocks) (b : Begins kept c) where
  header_same : 3 ≤ length kept → header_in c ≡ header_in kept
  header_same three = ap header_of_block (b.same 1 (omega (arith, three)))

  -- no check of opening fails
  pub passes_more : failed_check kept ≡ None → failed_check c ≡ None
  passes_more e =
      let p = passes_from kept e in
      let h : header_in c ≡ header_in kept = header_same p.three in
      passes_to c (record {
        three = omega (arith, p.three, b.no_shorter);
        gate = subst IsShutGate (sym (b.same 0 (omega (arith, p.three)))) p.gate;
        header =
            subst (λ (x : Header). IsHeader x (block_at 1 c)) (sym h)
            (subst (IsHeader (header_in kept)) (sym (b.same 1 (omega (arith, p.three)))) p.header);
        within = omega (arith, ap (λ (x : Header). x.next) h, p.within, b.no_shorter);
        sound = ap is_sound h ∙ p.sound;
      })

  -- the chain of free pages
  chain_same : (next count n : ℕ) → next ≤ length kept → IsChain kept next count n
      → chain c count n ≡ chain kept count n
  chain_same next zero n le is = refl
  chain_same next (suc count) n le is =
      let here : block_at n c ≡ block_at n kept = b.same n (omega (arith, is.1, le)) in
      ap (λ (l : List ℕ). if nat_lt n 3 then [] else n ∷ l)
      (ap (λ (x : List ℕ). chain c count (link_of x)) here
      ∙ chain_same next count (link_of (block_at n kept)) le is.3)

  chain_more : (next count n : ℕ) → next ≤ length kept → IsChain kept next count n → IsChain c next count n
  chain_more next zero n le is = is
  chain_more next (suc count) n le is =
      let here : block_at n c ≡ block_at n kept = b.same n (omega (arith, is.1, le)) in (
        is.0,
        is.1,
        ap kind_of here ∙ is.2,
        subst (λ (x : List ℕ). IsChain c next count (link_of x)) (sym here)
            (chain_more next count (link_of (block_at n kept)) le is.3),
      )

  -- the same page map, as sound
  module _ (passes : failed_check kept ≡ None) (sound : IsSoundMap kept) where
    within : next_in kept ≤ length kept
    within = (passes_from kept passes).within

    header_is : header_in c ≡ header_in kept
    header_is = header_same (passes_from kept passes).three

    pub version_more : opened_version c ≡ opened_version kept
    version_more = ap (λ (h : Header). h.version) header_is

    pub next_more : next_in c ≡ next_in kept
    next_more = ap (λ (h : Header). h.next) header_is

    abbrev live : Bool → ℕ → Header → Blocks → List ℕ → Option (List ℕ)
    live low n h blocks free = if low
        && (nat_lt n h.next && not (is_member eqb free n)) then Some (block_at n blocks) else None

    pub pages_more : (n : ℕ) → pages_in c n ≡ pages_in kept n
    pages_more n =
        ap (λ (h : Header). page_of c h n) header_is
        ∙ ap (λ (free : List ℕ). live (nat_le 2 n) n (header_in kept) c free)
        (chain_same (header_in kept).next (header_in kept).count (header_in kept).first within sound)
        ∙ ⊎_elim
        (λ (lt : n < (header_in kept).next). ap
        (λ (x : List ℕ). if nat_le 2 n
        && (nat_lt n (header_in kept).next
        && not (is_member eqb (chain kept (header_in kept).count (header_in kept).first) n)) then Some x
        else None) (b.same n (omega (arith, lt, within))))
        (λ (ge : (header_in kept).next ≤ n). none n c (past n ge) ∙ sym (none n kept (past n ge)))
        (cases_lt n (header_in kept).next)
      where
        past : (n : ℕ) → (header_in kept).next ≤ n → nat_lt n (header_in kept).next ≡ false
        past n ge = grind (arith, nat_tests)

        and_false : (low member : Bool) → (low && (false && member)) ≡ false
        and_false true member = refl
        and_false false member = refl

        none : (n : ℕ) (blocks : Blocks) → nat_lt n (header_in kept).next ≡ false
            → live (nat_le 2 n) n (header_in kept) blocks
            (chain kept (header_in kept).count (header_in kept).first) ≡ None
        none n blocks e =
            ap (λ (t : Bool). if nat_le 2 n
            && (t && not (is_member eqb (chain kept (header_in kept).count (header_in kept).first) n))
            then Some (block_at n blocks) else None) e
            ∙ ap (λ (t : Bool). if t then Some (block_at n blocks) else None)
            (and_false (nat_le 2 n)
            (not (is_member eqb (chain kept (header_in kept).count (header_in kept).first) n)))

    pub sound_more : IsSoundMap c
    sound_more =
        subst (λ (h : Header). IsChain c h.next h.count h.first) (sym header_is)
        (chain_more (header_in kept).next (header_in kept).count (header_in kept).first within sound)

-- so a file lies in what begins with blocks in which it lies, where its free pages are a chain
pub lies_longer : {D : Type 0} {m : _} (file : PageFile D m) (kept c : Blocks) → IsPageMap file
    → LiesIn file kept → Begins kept c → LiesIn file c
lies_longer file kept c map lies b =
    let sound : IsSoundMap kept = lies.sound.0 map in
    record {
      passes = passes_more kept c b lies.passes;
      version = version_more kept c b lies.passes sound ∙ lies.version;
      next = next_more kept c b lies.passes sound ∙ lies.next;
      pages_there = λ k. pages_more kept c b lies.passes sound k ∙ lies.pages_there k;
      sound = (λ _. sound_more kept c b lies.passes sound, λ _. map);
    }

-- and so is a new file
pub new_longer : (kept c : Blocks) → IsNewFile kept → Begins kept c → IsNewFile c
new_longer kept c is b = record {
  passes = passes_more kept c b is.passes;
  version = version_more kept c b is.passes is.sound ∙ is.version;
  next = next_more kept c b is.passes is.sound ∙ is.next;
  catalog = pages_more kept c b is.passes is.sound 2 ∙ is.catalog;
  others = λ k ne. pages_more kept c b is.passes is.sound k ∙ is.others k ne;
  sound = sound_more kept c b is.passes is.sound;
}
