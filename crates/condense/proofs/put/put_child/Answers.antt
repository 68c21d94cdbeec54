-- The goals of `put_child` that are proved by hand.
use Rattle.std.proofs.Common.{◌∙◌, ◌+◌, ℕ, Some, arith, inl, refl, ap, subst, sym}
use Rattle.std.proofs.lemmas.Result.{IfOk-weaker}
use Rattle.page_cache.specs.Cache.{pages}
use Rattle.box_math.specs.Bounds.{Bounds}
use Rattle.tree_node.specs.Nodes.{NodeContent}
use Rattle.node_bytes.specs.Enlarged.{set_box}
use Rattle.node_page.proofs.StandingLemmas.{page_of_node}
use Rattle.condense.specs.Becoming.{IsNow}
use Rattle.condense.specs.Steps.{PutsChild}
use Rattle.condense.specs.Taken.{HasTaken, held_now}
use Rattle.condense.specs.declared.hand.Became.TheVariants as became
use Rattle.condense.proofs.DamageLemmas.{others_keep, with_ok}
use Rattle.condense.proofs.TakeLemmas.{child_settled}
use Rattle.condense.proofs.put.put_child.Goals as goal

pub returns-in-Settled : goal.returns-in-Settled
returns-in-Settled g c =
    let D = g.row.D in
    let old = c.args.cache.now in
    let new = c.set_least.new.cache in
    let at = c.args.step.at in
    let next = c.args.step.next in
    let page = next.below.page in
    let least = c.in-Settled.least in
    let hand = c.args.hand.now in
    let a = c.set_least.ensures.alters hand in
    let settled : PutsChild c.args.fanout.most at next (became.Settled least) old new hand hand
    c.args.kept.now
    c.args.kept.now c.set_least.result = record {
      changes = a.changes;
      grows = a.grows;
      cut = a.cut;
      room = omega arith;
      taken = λ h above child m m1 id removed row held lower took others now.
          let held1 = held_now c.args.kept.now in
          let taken =
          child_settled c.args.fanout.most m m1 (pages old) at.page at.level id removed row next.place held
          held1
          above.node.entries page c.requires.is_next.above above.within above.names others lower took now.1
          (now.0 ∙ ap (λ (l : ℕ). Some (let k : NodeContent = record { level = l; entries = lower } in k))
          c.requires.is_next.level) in
          IfOk-weaker c.set_least.result
          (IsNow c.args.fanout.most (pages new at.page) at.level (set_box above.node.entries next.place least)
          hand)
          _
          (λ now_is is. record {
            items = set_box above.node.entries next.place least;
            between = pages old;
            taken = subst (λ (b : Bounds). HasTaken D c.args.fanout.most m (pages old) at.level id removed row
                held
                held1 (set_box above.node.entries next.place b)) (sym now.2) taken;
            others = a.others h.honest (page_of_node D (pages old at.page) above.node above.there);
            now = is;
          })
          (a.now h.honest above.node above.there above.level_is);
      sound = λ h above child. a.sound h (page_of_node D (pages old at.page) above.node above.there);
      still = λ h above child. a.still h.honest above.node above.there above.level_is;
      stay = λ h above child. others_keep D (pages old) (pages new) at.page
          (a.others h.honest (page_of_node D (pages old at.page) above.node above.there)) (at.level + 1)
          above.node above.there (omega (arith, above.level_is));
      faults = λ h above child. a.faults h.honest above.node above.there above.level_is above.within;
      touched = λ h live. with_ok c.set_least.result _ (inl refl);
      other_faults = a.other_faults;
    } in
    subst (λ b. PutsChild c.args.fanout.most at next b old new hand hand c.args.kept.now c.args.kept.now
    c.set_least.result) (sym c.in-Settled.is) settled
