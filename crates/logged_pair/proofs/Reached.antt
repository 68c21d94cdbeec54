-- What is read is one of the commits, once one has begun.
use Rattle.std.proofs.Common.{◌≡◌, ◌∙◌, ℕ, Bool, true, false, List, take, Ok, Err, OnOk, OnErr, refl, sym, inr}
use Rattle.block_device.specs.Device.{Blocks}
use Rattle.logged_pair.specs.Stages.{CommitsIn, shown_through}
use Rattle.logged_pair.proofs.Stood.{Answer}

pub same_shown : (r : Answer) (commits : Blocks → Type 0) (a b : Blocks) → a ≡ b
    → OnOk r ((c : Blocks) → commits c → c ≡ a) → OnOk r ((c : Blocks) → commits c → c ≡ b)
same_shown (Ok u) commits a b e all = λ c is. all c is ∙ e
same_shown (Err x) commits a b e all = tt

pub reached : (r : Answer) (deciding : Bool) (kept : ℕ) (slots : List ℕ) (base journal s : Blocks)
    → OnOk r (deciding ≡ false) → OnErr r (deciding ≡ true)
    → OnOk r ((c : Blocks) → CommitsIn deciding kept slots base journal c → c ≡ s)
    → shown_through slots journal base ≡ s → CommitsIn deciding kept slots base journal s
reached (Ok u) false kept slots base journal s done on durable shown = sym (durable (take kept base) refl)
reached (Err e) false kept slots base journal s done on durable shown =
    let no : false ≡ true = on in absurd (cc)
reached r true kept slots base journal s done on durable shown = inr (sym shown)
