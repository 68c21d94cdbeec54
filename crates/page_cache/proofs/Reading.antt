-- A look at a page, as the reading of what the page spells.
use Rattle.std.proofs.Common.{◌≡◌, ◌∙◌, ◌≤◌, ◌<◌, ℕ, inl, inr, ap, subst, sym}
use Rattle.std.specs.Prelude.{Result, Ok, Err, IsErrAnd}
use Rattle.page_file.specs.Fault.{IsOfDevice}
use Rattle.page_file.specs.File as below
use Rattle.page_file.specs.declared.fault.Fault.{Fault}
use Rattle.page_file.specs.declared.fault.Fault.TheVariants as fault
use Rattle.page_file.specs.declared.file.PageFile.{PageFile}
use Rattle.page_cache.specs.Cache.{IsHeld, IsHonest, held_pages, next_of}
use Rattle.page_cache.specs.Calls.{IsLookedAt, IsReadAt, asks_in_turn}
use Rattle.page_cache.specs.Keeps.{KeepsBlocks}
use Rattle.page_cache.specs.declared.cache.PageCache.{PageCache}
use Rattle.page_cache.proofs.Behind.{kept_asks}

-- damage is no fault of memory or of the device
damage_is_not_of_device : (n : ℕ) → IsOfDevice (fault.Damaged n) → ⊥
damage_is_not_of_device n (inl is) = let same = is in cc
damage_is_not_of_device n (inr is) = let same = is in cc

module _ {D A : Type 0} {m : _} {S T : Type 0} where
  -- the page was not lent, and its fault is handed on
  pub not_lent : (old new : PageCache D A m) (n : ℕ) (f : Fault) (result : Result T Fault)
      → IsErrAnd result (λ e. e ≡ f) → IsLookedAt {T = S} old new n (Err f)
      → (IsHonest old → 2 ≤ n → n < next_of old → IsOfDevice f) → IsReadAt old new n result
  not_lent old new n f (Ok x) is look faults = elim is [ ]
  not_lent old new n f (Err e) is look faults = subst (λ (e : Fault). IsReadAt {T = T} old new n (Err e)) (sym is)
      (record {
        asks = look.asks;
        looks = tt;
        refused_looks = inl look.looks;
        holds = tt;
        used = tt;
        refused_used = elim look.uses.refused [ inl same ↦ inl same | inr room ↦ inr (inl room) ];
        damaged = λ honest from below damaged.
            let same : f ≡ fault.Damaged n = let both = damaged in cc in
            absurd (damage_is_not_of_device n (subst IsOfDevice same (faults honest from below)));
        quiet = look.outside;
      })

  module _ (old mid new : PageCache D A m) (n : ℕ) (x : S) (look : IsLookedAt {T = S} old mid n (Ok x))
      (keeps : KeepsBlocks mid new) (file : new.file ≡ mid.file) where
    -- it was lent, and spells what was looked for
    pub lent : (y : T) → (IsHeld mid n → IsHeld new n) → held_pages new ≡ held_pages mid
        → IsReadAt old new n (Ok y)
    lent y holds held = record {
      asks = asks_in_turn old mid new _ look.asks
          (kept_asks mid new _ keeps (ap (λ (f : PageFile D m). m.faults (below.device_of f)) file));
      looks = keeps.looks ∙ look.looks;
      refused_looks = tt;
      holds = holds look.holds;
      used = held ∙ look.uses.used;
      refused_used = tt;
      damaged = λ honest from below none. absurd (let both = none in cc);
      quiet = λ out. ap (λ (f : PageFile D m). below.device_of f) file ∙ look.outside out;
    }

    -- it was lent, and does not
    pub spells_none : held_pages new ≡ held_pages mid → IsReadAt {T = T} old new n (Err (fault.Damaged n))
    spells_none held = record {
      asks = asks_in_turn old mid new _ look.asks
          (kept_asks mid new _ keeps (ap (λ (f : PageFile D m). m.faults (below.device_of f)) file));
      looks = tt;
      refused_looks = inr (keeps.looks ∙ look.looks);
      holds = tt;
      used = tt;
      refused_used = inr (inr (held ∙ look.uses.used));
      damaged = λ honest from below is. keeps.looks ∙ look.looks;
      quiet = λ out. ap (λ (f : PageFile D m). below.device_of f) file ∙ look.outside out;
    }
