-- The goals of `PageFile::settle` that are proved by hand.
use Rattle.std.proofs.Common.{◌≡◌, ◌∙◌, ◌⊎◌, sym, subst, inl, inr, ⊎_elim}
use Rattle.block_device.specs.Device.{Blocks, LeavesOnly}
use Rattle.block_device.specs.Moments.{leaves_then, leaves_weaker}
use Rattle.page_file.specs.Aside.{aside_lies}
use Rattle.page_file.specs.File.{IsHonest, LiesIn, blocks_of, device_of, gate_of}
use Rattle.page_file.specs.Opening.{IsRefused}
use Rattle.page_file.specs.Stops.{SameButGate}
use Rattle.page_file.specs.declared.file.PageFile.{PageFile}
use Rattle.page_file.specs.declared.gate.Gate.TheVariants.{Open}
use Rattle.page_file.proofs.file.PageFile.settle.Goals.{then-eq+in_ok-settle_blocks, else-eq}
use Rattle.page_file.proofs.file.PageFile.settle.Goals as goal

-- blocks that opening refuses, or the file's own, the gate aside, in which it lies
abbrev Settles : {D : Type 0} {m : _} → PageFile D m → Blocks → Type 0
Settles file c = IsRefused c ⊎ (SameButGate c (blocks_of file) × LiesIn file c)

shut_behind : {D : Type 0} {m : _} (mid new : PageFile D m) → IsHonest new → ¬ (gate_of new ≡ Open)
    → SameButGate (blocks_of new) (blocks_of mid)
    → LeavesOnly m.moment m.left_since m.recovery mid.device new.device (λ c. SameButGate c (blocks_of mid))
    → LeavesOnly m.moment m.left_since m.recovery mid.device new.device (Settles new)
shut_behind {m = m} mid new h closed same stops =
    leaves_weaker m.moment m.left_since m.recovery mid.device new.device (λ c. SameButGate c (blocks_of mid))
    (Settles new)
    (λ c aside. let here : SameButGate c (blocks_of new) = aside ∙ sym same in
    ⊎_elim (λ refused. inl refused) (λ lies. inr (here, lies)) (aside_lies new c h closed here)) stops

pub returns-clause-stops : goal.returns-clause-stops
returns-clause-stops g c = λ h.
    let d = g.D.BlockDevice in
    let old = c.args.self.now in
    let mid = c.if-eq.self in
    let new = c.shut.new.self in
    let shut : IsHonest mid
    → LeavesOnly d.moment d.left_since d.recovery (device_of mid) (device_of new) (Settles new) =
    λ honest.
    shut_behind mid new (c.shut.ensures.honest.0 honest) c.shut.ensures.closed (c.shut.ensures.same honest)
    (c.shut.ensures.stops honest) in
    elim c.if-eq.branch [
      | then-eq+in_ok-settle_blocks w ↦ leaves_then d.moment d.left_since d.recovery (device_of old)
          (device_of mid) (device_of new) (Settles new)
          (leaves_weaker d.moment d.left_since d.recovery (device_of old) (device_of mid) IsRefused
          (Settles new) (λ b refused. inl refused)
          (subst (λ (file : PageFile _ _). LeavesOnly d.moment d.left_since d.recovery (device_of old)
          (device_of file) IsRefused) (sym w.self-is) (w.settle_blocks.ensures.stops h)))
          (shut (subst (λ (file : PageFile _ _). IsHonest file) (sym w.self-is)
          (w.settle_blocks.ensures.honest.0 h)))
      | else-eq w ↦ subst
          (λ (file : PageFile _ _). LeavesOnly d.moment d.left_since d.recovery (device_of file)
          (device_of new) (Settles new)) w.self-is
          (shut (subst (λ (file : PageFile _ _). IsHonest file) (sym w.self-is) h))
    ]
