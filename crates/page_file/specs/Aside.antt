-- Blocks that differ from those of a settled file in the gate alone.
use Rattle.std.proofs.Common.{◌≡◌, ◌⊎◌, ◌∙◌, ℕ, ◌≤◌, List, Bool, true, false, cond, Option, Some, None, refl}
use Rattle.std.proofs.Common.{sym, ap, arith, subst, inl, inr, ⊎_elim}
use Rattle.std.specs.Prelude.{is_some, ◌↔◌}
use Rattle.std.proofs.lemmas.Bool.Decides.{nat_tests}
use Rattle.block_device.specs.Device.{Blocks, block_at}
use Rattle.page_file.specs.declared.fault.Fault.{Fault}
use Rattle.page_file.specs.declared.file.PageFile.{PageFile}
use Rattle.page_file.specs.declared.gate.Gate.TheVariants.{Open}
use Rattle.page_file.specs.declared.header.Header.{Header}
use Rattle.page_file.specs.File.{IsHonest, IsNewFile, LiesIn, gate_of}
use Rattle.page_file.specs.Layout.{IsHeader, catalog_block, new_header, opened_version}
use Rattle.page_file.specs.Opening.{IsRefused, failed_check, header_of_block}
use Rattle.page_file.specs.Pages.{HasFreeChain, IsSoundMap, header_in, is_live, next_in, page_of, pages_in}
use Rattle.page_file.specs.Stops.{SameButGate}
use Rattle.page_file.specs.Frames.{aside_at}
use Rattle.page_file.specs.Live.{free_same, new_free, pages_same}
use Rattle.page_file.specs.Settled.{header_is}

-- blocks in which opening finds the same as in those
pub record FindsSame (c blocks : Blocks) : Type 0 where
  pub passes : failed_check c ≡ None
  pub version : opened_version c ≡ opened_version blocks
  pub next : next_in c ≡ next_in blocks
  pub pages_there : (k : ℕ) → pages_in c k ≡ pages_in blocks k
  pub sound : IsSoundMap c ↔ IsSoundMap blocks

refused_or : (o : Option Fault) → (is_some o ≡ true) ⊎ (o ≡ None)
refused_or None = inr refl
refused_or (Some f) = inl refl

finds_same : (c blocks : Blocks) → SameButGate c blocks → failed_check c ≡ None → FindsSame c blocks
finds_same c blocks same passes =
    let behind : (k : ℕ) → 2 ≤ k
    → block_at k c ≡ block_at k blocks = λ k low. aside_at c blocks k same (omega (arith, low)) in
    let header : header_in c ≡ header_in blocks =
    ap (λ (b : List ℕ). header_of_block b) (aside_at c blocks 1 same (omega arith)) in
    record {
      passes = passes;
      version = ap (λ (h : Header). h.version) header;
      next = ap (λ (h : Header). h.next) header;
      pages_there = λ k. ap (λ (h : Header). page_of c h k) header
          ∙ pages_same blocks c (header_in blocks) behind k;
      sound = (
        λ s. free_same c blocks (header_in blocks) (λ k low. sym (behind k low))
            (subst (λ (h : Header). HasFreeChain c h) header s),
        λ s. subst (λ (h : Header). HasFreeChain c h) (sym header)
            (free_same blocks c (header_in blocks) behind s),
      );
    }

pub aside_passes : (c blocks : Blocks) → SameButGate c blocks → IsRefused c ⊎ FindsSame c blocks
aside_passes c blocks same = case (refused_or (failed_check c))
  where
    case : IsRefused c ⊎ (failed_check c ≡ None) → IsRefused c ⊎ FindsSame c blocks
    case (inl refused) = inl refused
    case (inr passes) = inr (finds_same c blocks same passes)

-- a file whose gate is not open lies in what differs from its blocks in the gate alone, unless opening
-- refuses it
pub aside_lies : {D : Type 0} {m : _} (file : PageFile D m) (c : Blocks) → IsHonest file
    → ¬ (gate_of file ≡ Open) → SameButGate c (m.shown file.device) → IsRefused c ⊎ LiesIn file c
aside_lies {m = m} file c h closed same = ⊎_elim
    (λ (refused : IsRefused c). inl refused)
    (λ (found : FindsSame c blocks). inr (record {
      passes = found.passes;
      version = found.version ∙ ap (λ (x : Header). x.version) header;
      next = found.next ∙ ap (λ (x : Header). x.next) header;
      pages_there = λ k. found.pages_there k ∙ ap (λ (x : Header). page_of blocks x k) header;
      sound = (
        λ p. found.sound.1 (subst (λ (x : Header). HasFreeChain blocks x) (sym header) p.free),
        λ s. record {
          honest = h;
          free = subst (λ (x : Header). HasFreeChain blocks x) header (found.sound.0 s);
        },
      );
    }))
    (aside_passes c blocks same)
  where
    blocks : Blocks
    blocks = m.shown file.device

    header : header_in blocks ≡ file.header
    header = header_is file.header (block_at 1 blocks) (file.settled h closed)

not_live : (blocks : Blocks) (k : ℕ) → ¬ (k ≡ 2) → is_live blocks new_header k ≡ false
not_live blocks k ne = grind (arith, nat_tests)

-- what differs in the gate alone from a new file's blocks is a new file, unless opening refuses it
pub new_aside : (blocks c : Blocks) → IsHeader new_header (block_at 1 blocks)
    → block_at 2 blocks ≡ catalog_block → SameButGate c blocks → IsRefused c ⊎ IsNewFile c
new_aside blocks c is catalog same = ⊎_elim
    (λ (refused : IsRefused c). inl refused)
    (λ (found : FindsSame c blocks). inr (record {
      passes = found.passes;
      version = found.version ∙ ap (λ (x : Header). x.version) header;
      next = found.next ∙ ap (λ (x : Header). x.next) header;
      catalog = found.pages_there 2 ∙ ap (λ (x : Header). page_of blocks x 2) header ∙ ap Some catalog;
      others = λ k ne. found.pages_there k ∙ ap (λ (x : Header). page_of blocks x k) header
          ∙ ap (λ (t : Bool). cond t (Some (block_at k blocks)) None) (not_live blocks k ne);
      sound = found.sound.1 (subst (λ (x : Header). HasFreeChain blocks x) (sym header) (new_free blocks));
    }))
    (aside_passes c blocks same)
  where
    header : header_in blocks ≡ new_header
    header = header_is new_header (block_at 1 blocks) is
