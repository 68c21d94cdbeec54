-- The goals of `leave_out` that are proved by hand.
use Rattle.std.proofs.Common.{rules, ◌∙◌, ◌+◌, All, arith, inr, map, ap, ℕ, ◌++◌, reverse}
use Rattle.std.proofs.lemmas.Result.{IfOk-weaker}
use Rattle.page_file.specs.Fault.{IsOfDevice}
use Rattle.page_cache.specs.Cache.{pages}
use Rattle.page_cache.specs.Calls.{changes_in_turn, fault_in}
use Rattle.tree_node.specs.declared.node.Entry.{Entry}
use Rattle.node_bytes.specs.Layout.{IsOfLevel}
use Rattle.node_page.specs.Standing.{PageMap}
use Rattle.node_page.proofs.NodeLemmas.{at_error}
use Rattle.node_page.proofs.StandingLemmas.{page_of_node}
use Rattle.reinsert.proofs.AboveLemmas.{All-mapped}
use Rattle.reinsert.proofs.FaultLemmas.{changes_refused, no_answer, no_success}
use Rattle.reinsert.specs.Placed.{held_with}
use Rattle.condense.specs.Becoming.{IsNow}
use Rattle.condense.specs.Taken.{held_now, items_without}
use Rattle.condense.proofs.DamageLemmas.{above_stay, others_keep, parent_stays, with_ok}
use Rattle.condense.proofs.CutLemmas.{fewest_is_low}
use Rattle.condense.proofs.TakeLemmas.{child_left}
use Rattle.condense.proofs.put.leave_out.Goals as goal

pub keep-requires : goal.keep-requires
keep-requires g c =
    let level = c.args.step.next.below.level in
    let es = c.args.hand.now.entries.items in
    let refers : All (λ (e : Entry g.row.D). IsOfLevel level e.reference e.tag) es =
    All-mapped level es c.requires.cut.refers in
    let low = fewest_is_low c.args.fanout.most c.args.fanout.within.1 in
    (search rules, (search rules, (search rules, (omega (arith, c.requires.room, c.requires.few, low), refers))))

pub returns-in_err-free : goal.returns-in_err-free
returns-in_err-free g c = record {
  changes = changes_refused c.args.cache.now c.free.new.self c.in_err-free.field-0.0 c.from_residual.result
      c.from_residual.ensures.1 c.in_err-free.ensures.changes;
  grows = search rules;
  cut = no_answer c.from_residual.result c.in_err-free.field-0.0 _ c.from_residual.ensures.1;
  room = search rules;
  taken = λ h above child m m1 id removed row held lower took others now. no_answer c.from_residual.result
      c.in_err-free.field-0.0 _ c.from_residual.ensures.1;
  sound = λ h above child. c.free.ensures.sound h
      (page_of_node g.row.D (pages c.args.cache.now c.args.step.next.below.page) child.node child.there);
  still = λ h above child. no_answer c.from_residual.result c.in_err-free.field-0.0 _ c.from_residual.ensures.1;
  stay = λ h above child.
      let m : PageMap = pages c.args.cache.now in
      let page = c.args.step.next.below.page in
      let live = page_of_node g.row.D (m page) child.node child.there in
      others_keep g.row.D m (pages c.free.new.self) page (c.free.ensures.others h.honest live)
      (c.args.step.at.level + 1) child.node child.there
      (omega (arith, child.level_is, c.requires.is_next.level));
  faults = λ h above child.
      let live =
      page_of_node g.row.D (pages c.args.cache.now c.args.step.next.below.page) child.node child.there in
      at_error c.from_residual.result c.in_err-free.field-0.0 IsOfDevice c.from_residual.ensures.1
      (c.in_err-free.ensures.faults h live (λ two. omega (arith, two, c.requires.is_next.page)));
  touched = λ h live. no_success c.from_residual.result c.in_err-free.field-0.0 _ c.from_residual.ensures.1;
  other_faults = at_error c.from_residual.result c.in_err-free.field-0.0 _
      c.from_residual.ensures.1 c.in_err-free.ensures.other_faults;
}

pub returns : goal.returns
returns g c =
    let D = g.row.D in
    let old = c.args.cache.now in
    let freed = c.free.new.self in
    let new = c.take_at.new.cache in
    let page = c.args.step.next.below.page in
    let at = c.args.step.at in
    let take = c.take_at.ensures in
    let m : PageMap = pages old in
    let mf : PageMap = pages freed in
    let mn : PageMap = pages new in
    record {
      changes = changes_in_turn old freed new (fault_in c.take_at.result) c.in_ok-free.ensures.changes
          take.changes;
      grows = search rules;
      cut = take.cut;
      room = omega (
        arith,
        c.keep.ensures.len,
        c.requires.few,
        fewest_is_low c.args.fanout.most
            c.args.fanout.within.1,
      );
      taken = λ h above child m0 m1 id removed row held lower took others now.
          let live = page_of_node D (m page) child.node child.there in
          let honest = (c.free.ensures.sound h live).honest in
          let apart = c.free.ensures.others h.honest live in
          let there =
          parent_stays D m mf at c.args.step.next c.requires.is_next above child.node child.there child.level_is apart in
          let taken =
          child_left c.args.fanout.most m0 m1 mf at.page at.level id removed row c.args.step.next.place held
          (held_now c.args.kept.now) above.node.entries page c.requires.is_next.above above.within above.names
          (λ k other. apart k other ∙ others k other) (held_now c.keep.new.self)
          c.args.hand.now.entries.items lower now.0 took c.requires.few
          (c.in_ok-free.ensures.freed h.honest live) (c.keep.ensures.held
          ∙ ap (λ (l : ℕ). held_now c.args.kept.now ++ reverse (map (held_with l) c.args.hand.now.entries.items))
          c.requires.is_next.level) in
          IfOk-weaker c.take_at.result
          (IsNow c.args.fanout.most (mn at.page) at.level (items_without above.node.entries
          c.args.step.next.place)
          c.take_at.new.hand) _
          (λ became is. record {
            items = items_without above.node.entries c.args.step.next.place;
            between = mf;
            taken = taken;
            others = take.others honest (page_of_node D (mf at.page) above.node there);
            now = is;
          })
          (take.now honest above.node there above.level_is);
      sound = λ h above child.
          let live = page_of_node D (m page) child.node child.there in
          let there =
          parent_stays D m mf at c.args.step.next c.requires.is_next above child.node child.there child.level_is
          (c.free.ensures.others h.honest live) in
          take.sound (c.free.ensures.sound h live) (page_of_node D (mf at.page) above.node there);
      still = λ h above child.
          let live = page_of_node D (m page) child.node child.there in
          let there =
          parent_stays D m mf at c.args.step.next c.requires.is_next above child.node child.there child.level_is
          (c.free.ensures.others h.honest live) in
          take.still (c.free.ensures.sound h live).honest above.node there above.level_is;
      stay = λ h above child.
          let live = page_of_node D (m page) child.node child.there in
          let apart = c.free.ensures.others h.honest live in
          let there =
          parent_stays D m mf at c.args.step.next c.requires.is_next above child.node child.there child.level_is apart in
          above_stay D m mf at c.args.step.next c.requires.is_next above child.node child.there child.level_is apart mn
          (take.others (c.free.ensures.sound h live).honest (page_of_node D (mf at.page) above.node there));
      faults = λ h above child.
          let live = page_of_node D (m page) child.node child.there in
          let there =
          parent_stays D m mf at c.args.step.next c.requires.is_next above child.node child.there child.level_is
          (c.free.ensures.others h.honest live) in
          take.faults (c.free.ensures.sound h live).honest above.node there above.level_is above.within;
      touched = λ h live. with_ok c.take_at.result _
          (inr (take.changes.touched c.in_ok-free.ensures.touched));
      other_faults = take.other_faults;
    }
