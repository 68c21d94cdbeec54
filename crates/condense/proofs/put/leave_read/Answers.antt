-- The goals of `leave_read` that are proved by hand.
use Rattle.std.proofs.Common.{rules, ◌∙◌, ◌+◌, ◌<◌, All, None, Some, arith, ap, subst, sym, map, length}
use Rattle.std.proofs.lemmas.List.{length-map}
use Rattle.std.specs.Prelude.{IsSome}
use Rattle.page_file.specs.Fault.{IsOfDevice}
use Rattle.page_file.specs.declared.fault.Fault.TheVariants.{Damaged}
use Rattle.page_cache.specs.Cache.{IsPageMap, pages}
use Rattle.page_cache.specs.Calls.{AsksUntil, asks_and_changes, asks_and_gives_up, asks_changes, no_call_asks}
use Rattle.tree_node.specs.Nodes.{Item, NodeContent, content_of, item_of}
use Rattle.tree_node.specs.Shape.{least_entries}
use Rattle.node_bytes.specs.Layout.{IsOfLevel}
use Rattle.node_page.specs.Standing.{node_in}
use Rattle.node_page.proofs.NodeLemmas.{at_error}
use Rattle.node_page.proofs.StandingLemmas.{page_of_node, same_content}
use Rattle.reinsert.proofs.FaultLemmas.{damaged_asks, no_answer, no_success}
use Rattle.condense.specs.Becoming.{IsStill}
use Rattle.condense.specs.Taken.{IsCut}
use Rattle.condense.specs.declared.hand.Became.TheVariants as became
use Rattle.condense.proofs.DamageLemmas.{leads_same, same_keeps}
use Rattle.condense.proofs.put.leave_read.Goals as goal

pub returns-in_err-read_into : goal.returns-in_err-read_into
returns-in_err-read_into g c =
    let old = c.args.cache.now in
    let new = c.read_into.new.cache in
    let f = c.in_err-read_into.field-0.0 in
    let r = c.from_residual.result in
    let is = c.from_residual.ensures.1 in
    let err = c.in_err-read_into.ensures in
    let first : AsksUntil old new (Some f) = err.asks in
    record {
      changes = asks_and_gives_up old old new f r is (no_call_asks old) first;
      grows = search rules;
      cut = no_answer r f _ is;
      room = omega arith;
      taken = λ h above child m m1 id removed row held lower took others now. no_answer r f _ is;
      sound = λ h above child. first.map.sound.0 h;
      still = λ h above child. no_answer r f _ is;
      stay = λ h above child. same_keeps g.row.D (c.args.step.at.level + 1) (pages old) (pages new)
          (first.map.pages_stay h.honest);
      faults = λ h above child. at_error r f IsOfDevice is
          (err.there h.honest child.node child.there child.level_is);
      touched = λ h live. no_success r f _ is;
      other_faults = at_error r f _ is err.other_faults;
    }

pub returns-then-len-least_entries : goal.returns-then-len-least_entries
returns-then-len-least_entries g c =
    let D = g.row.D in
    let old = c.args.cache.now in
    let new = c.read_into.new.cache in
    let page = c.args.step.next.below.page in
    let first : AsksUntil old new None = c.in_ok-read_into.ensures.asks in
    record {
      changes = asks_changes old new (Some (Damaged page)) (damaged_asks old new page first);
      grows = search rules;
      cut = tt;
      room = omega arith;
      taken = λ h above child m m1 id removed row held lower took others now. tt;
      sound = λ h above child. first.map.sound.0 h;
      still = λ h above child. tt;
      stay = λ h above child. same_keeps D (c.args.step.at.level + 1) (pages old) (pages new)
          (first.map.pages_stay h.honest);
      faults = λ h above child.
          let now = c.read_into.new.node in
          let same =
          same_content D (pages old) page (content_of now) child.node
          (c.in_ok-read_into.ensures.node h.honest (page_of_node D (pages old page) child.node child.there))
          child.there in
          absurd (omega (
            arith,
            child.few,
            ap (λ (k : NodeContent). length k.entries) same,
            length-map now.entries.items (item_of {D = D}),
            c.if-len-least_entries.true,
            c.len.ensures.value,
            c.least_entries.ensures.value,
          ));
      touched = λ h live. tt;
      other_faults = search rules;
    }

pub leave_out-requires : goal.leave_out-requires
leave_out-requires g c =
    let now = c.read_into.new.node in
    let ok = c.in_ok-read_into.ensures in
    let cut : IsCut c.args.step.next.below.level (content_of now) = record {
      level_is = ok.level;
      few = ok.spellable.few;
      refers = subst (λ l. All (λ (item : Item). IsOfLevel l item.reference item.tag)
          (map (item_of {D = g.row.D}) now.entries.items)) ok.level ok.spellable.refers;
    } in
    let few : length now.entries.items < least_entries c.args.fanout.most = omega (
      arith,
      c.if-len-least_entries.false,
      c.len.ensures.value,
      c.least_entries.ensures.value,
    ) in (
      search rules,
      (
        search rules,
        (
          search rules,
          (c.requires.is_next, (cut, (few, c.requires.room))),
        ),
      ),
    )

pub returns : goal.returns
returns g c =
    let D = g.row.D in
    let old = c.args.cache.now in
    let mid = c.read_into.new.cache in
    let new = c.leave_out.new.cache in
    let page = c.args.step.next.below.page in
    let level = c.args.step.next.below.level in
    let at = c.args.step.at in
    let next = c.args.step.next in
    let hand = c.read_into.new.node in
    let ok = c.in_ok-read_into.ensures in
    let out = c.leave_out.ensures in
    let first : AsksUntil old mid None = ok.asks in
    let child_mid : IsPageMap old → IsStill {D = D} c.args.fanout.most page level (pages old) became.Few
    → IsStill {D = D} c.args.fanout.most page level (pages mid) became.Unwritten = λ h child. record {
      node = child.node;
      there = ap (node_in D) (first.map.pages_stay h.honest page) ∙ child.there;
      level_is = child.level_is;
      few = tt;
    } in
    record {
      changes = asks_and_changes old mid new c.leave_out.result first out.changes;
      grows = search rules;
      cut = out.cut;
      room = out.room;
      taken = λ h above child m m1 id removed row held lower took others now.
          let same =
          same_content D (pages old) page (content_of hand) (record { level = level; entries = lower })
          (ok.node h.honest (page_of_node D (pages old page) child.node child.there)) now.0 in
          out.taken (first.map.sound.0 h)
          (leads_same D (pages old) (pages mid) at next (first.map.pages_stay h.honest) above)
          (child_mid h child) m m1 id removed row held lower took
          (λ k other. first.map.pages_stay h.honest k ∙ others k other)
          (ap (λ (k : NodeContent). k.entries) (sym same), now.1);
      sound = λ h above child. out.sound (first.map.sound.0 h)
          (leads_same D (pages old) (pages mid) at next (first.map.pages_stay h.honest) above)
          (child_mid h child);
      still = λ h above child. out.still (first.map.sound.0 h)
          (leads_same D (pages old) (pages mid) at next (first.map.pages_stay h.honest) above)
          (child_mid h child);
      stay = λ h above child n x is high. out.stay (first.map.sound.0 h)
          (leads_same D (pages old) (pages mid) at next (first.map.pages_stay h.honest) above)
          (child_mid h child) n x (ap (node_in D) (first.map.pages_stay h.honest n) ∙ is) high;
      faults = λ h above child. out.faults (first.map.sound.0 h)
          (leads_same D (pages old) (pages mid) at next (first.map.pages_stay h.honest) above)
          (child_mid h child);
      touched = λ h live. out.touched (first.map.sound.0 h)
          (subst IsSome (sym (first.map.pages_stay h.honest page)) live);
      other_faults = out.other_faults;
    }
