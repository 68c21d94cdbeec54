-- A page is given out below, while no frame holds it: the same is given out behind what is held.
use Rattle.std.proofs.Common.{inl, inr, ◌≡◌, ◌∙◌, ℕ, zero, suc, ◌≤◌, ◌-◌, true, List, length, Option, None}
use Rattle.std.proofs.Common.{unwrap_or, refl, sym, ap, arith, ⊎_elim}
use Rattle.block_bytes.specs.Numbers.{zeros}
use Rattle.block_device.specs.Device.{Blocks, block_at}
use Rattle.page_file.specs.Layout.{link_of}
use Rattle.page_file.specs.Opening.{is_sound}
use Rattle.page_file.specs.Pages.{HasGiven, MayHaveGiven, next_given, next_of_free, with_free, with_given}
use Rattle.page_file.specs.Reused.{le_given}
use Rattle.page_file.specs.Settled.{sound_says}
use Rattle.page_file.specs.declared.header.Header.{Header}
use Rattle.page_cache.specs.Frames.{laid_over}
use Rattle.page_cache.specs.Laid.{block_at-laid, written_below}
use Rattle.page_cache.proofs.Changed.{torn_below}

-- a fact of the next number and of the first free page is one of the page that is given out
pub either_given : (P : ℕ → Type 0) (h : Header) → P h.next → P h.first → P (next_given h)
either_given P h at_next at_first = case h.count
  where
    case : (c : ℕ) → P (next_of_free c h)
    case zero = at_next
    case (suc c) = at_first

module _ (f : ℕ → Option (List ℕ)) (bs : Blocks) (h : Header) (sound : is_sound h ≡ true)
    (room : h.next ≤ length bs) where
  pub first_same : f h.first ≡ None → block_at h.first (laid_over f bs) ≡ block_at h.first bs
  first_same none = block_at-laid f bs h.first (omega (arith, (sound_says h sound).first_below, room))
      ∙ ap (λ o. unwrap_or o (block_at h.first bs)) none

  with_same : f h.first ≡ None → with_given (laid_over f bs) h ≡ with_given bs h
  with_same none = case h.count
    where
      case : (c : ℕ) → with_free c (laid_over f bs) h ≡ with_free c bs h
      case zero = refl
      case (suc c) =
          ap (λ (b : List ℕ). record {
            version = h.version;
            next = h.next;
            first = link_of b;
            count = h.count - 1;
          })
          (first_same none)

  module _ (cs : Blocks) (h2 : Header) (none : f h.first ≡ None) (none_next : f h.next ≡ None) where
    pub none_given : f (next_given h) ≡ None
    none_given = either_given (λ n. f n ≡ None) h none_next none

    pub gives_behind : HasGiven bs cs h h2 → HasGiven (laid_over f bs) (laid_over f cs) h h2
    gives_behind gives = record {
      header = gives.header ∙ sym (with_same none);
      block = ap (laid_over f) gives.block
          ∙ written_below f (next_given h) zeros bs (le_given bs cs h h2 sound room) none_given;
      torn = torn_below f (next_given h) bs cs (le_given bs cs h h2 sound room) none_given gives.torn;
    }

    pub may_behind : MayHaveGiven bs cs h h2 → MayHaveGiven (laid_over f bs) (laid_over f cs) h h2
    may_behind may = record {
      torn = torn_below f (next_given h) bs cs (le_given bs cs h h2 sound room) none_given may.torn;
      header = ⊎_elim
          (λ same. inl (
            same.0,
            ⊎_elim (λ (none : h.count ≡ 0). inl none) (λ (e : cs ≡ bs). inr (ap (laid_over f) e)) same.1,
          ))
          (λ taken. inr (taken.0 ∙ sym (with_same none), taken.1))
          may.header;
    }
