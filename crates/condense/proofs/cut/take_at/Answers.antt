-- The goals of `take_at` that are proved by hand.
use Rattle.std.proofs.Common.{rules, ◌≡◌, ◌∙◌, ◌+◌, ℕ, None, Some, IfSome, length, map, refl, sym, ap}
use Rattle.std.proofs.Common.{subst, arith, inr}
use Rattle.std.specs.Prelude.{IsSome}
use Rattle.std.proofs.lemmas.List.{length-map}
use Rattle.page_file.specs.Fault.{IsOfDevice}
use Rattle.page_file.specs.declared.fault.Fault.TheVariants as fault
use Rattle.page_cache.specs.Cache.{pages}
use Rattle.page_cache.specs.Calls.{AsksUntil, asks_and_gives_up, asks_changes, asks_in_turn}
use Rattle.tree_node.specs.Boxes.{least_box}
use Rattle.tree_node.specs.Nodes.{NodeContent, content_of, item_of}
use Rattle.node_bytes.specs.Taken.{without_entry}
use Rattle.node_page.specs.Standing.{node_in}
use Rattle.node_page.proofs.NodeLemmas.{at_error}
use Rattle.node_page.proofs.StandingLemmas.{page_of_node, same_content}
use Rattle.reinsert.proofs.FaultLemmas.{at_none, changes_refused, damaged_asks, no_answer, no_success}
use Rattle.condense.specs.Taken.{IsCut, items_without}
use Rattle.condense.proofs.CutLemmas.{cut_removed, items-removed, length-without}
use Rattle.condense.proofs.RemoveLemmas.{never_some, on_err}
use Rattle.condense.proofs.cut.take_at.Goals as goal

pub returns-in-Some : goal.returns-in-Some
returns-in-Some g c =
    let D = g.row.D in
    let place = c.args.place in
    let page = c.args.at.page in
    let ok = c.in_ok-least.ensures in
    record {
      changes = ok.changes;
      grows = search rules;
      cut = tt;
      now = λ h x there level.
          let taken =
          subst (λ o. IfSome o (λ least. (node_in D (pages c.take_entry.new.cache page)
          ≡ Some (without_entry x place)) × (least ≡ least_box D (without_entry x place).entries))) c.in-Some.is
          (ok.taken h x there) in
          let room = (ok.room h x there).0 (subst (λ o. IsSome o) (sym c.in-Some.is) refl) in (
            taken.0 ∙ ap (λ (l : ℕ). Some
                (let k : NodeContent = record { level = l; entries = items_without x.entries place } in k)) level,
            omega (
              arith,
              length-without x.entries place room.0,
              room.1,
              c.least_entries-fewest.ensures.value,
            ),
            taken.1,
          );
      still = λ h x there level.
          let taken =
          subst (λ o. IfSome o (λ least. (node_in D (pages c.take_entry.new.cache page)
          ≡ Some (without_entry x place)) × (least ≡ least_box D (without_entry x place).entries))) c.in-Some.is
          (ok.taken h x there) in
          record { node = without_entry x place; there = taken.0; level_is = level; few = tt };
      others = c.take_entry.ensures.others;
      sound = c.take_entry.ensures.sound;
      refused = tt;
      given_node = λ h. let given = ok.given_node h in
          record { node = given.0; there = given.1; level_is = given.2 };
      faults = λ h x there level within. tt;
      named = λ h. tt;
      other_faults = tt;
    }

pub returns-in_err-least : goal.returns-in_err-least
returns-in_err-least g c =
    let f = c.in_err-least.field-0.0 in
    let r = c.from_residual.result in
    let is = c.from_residual.ensures.1 in
    let err = c.in_err-least.ensures in
    record {
      changes = changes_refused c.args.cache.now c.take_entry.new.cache f r is err.changes;
      grows = search rules;
      cut = no_answer r f _ is;
      now = λ h x there level. no_answer r f _ is;
      still = λ h x there level. no_answer r f _ is;
      others = c.take_entry.ensures.others;
      sound = c.take_entry.ensures.sound;
      refused = on_err r _ err.refused.touched;
      given_node = λ h. no_success r f _ is;
      faults = λ h x there level within. at_error r f IsOfDevice is (err.faults h x there level);
      named = λ h. at_error r f _ is (err.named h);
      other_faults = at_error r f _ is err.other_faults;
    }

pub returns-in_err-read_into : goal.returns-in_err-read_into
returns-in_err-read_into g c =
    let old = c.args.cache.now in
    let mid = c.take_entry.new.cache in
    let new = c.read_into.new.cache in
    let first : AsksUntil old mid None =
    at_none c.in_ok-least.field-0 (AsksUntil old mid None) c.in_ok-least.ensures.cannot c.in_default.not-Some in
    let f = c.in_err-read_into.field-0.0 in
    let r = c.from_residual-in_err-read_into.result in
    let is = c.from_residual-in_err-read_into.ensures.1 in
    let err = c.in_err-read_into.ensures in
    let then : AsksUntil mid new (Some f) = err.asks in
    record {
      changes = asks_and_gives_up old mid new f r is first then;
      grows = search rules;
      cut = no_answer r f _ is;
      now = λ h x there level. no_answer r f _ is;
      still = λ h x there level. no_answer r f _ is;
      others = λ h live k other. then.map.pages_stay (first.gate.honest.0 h) k ∙ first.map.pages_stay h k;
      sound = λ h live. then.map.sound.0 (first.map.sound.0 h);
      refused = on_err r _ (then.touched ∙ first.touched);
      given_node = λ h. no_success r f _ is;
      faults = λ h x there level within. at_error r f IsOfDevice is
          (err.there (first.gate.honest.0 h) x
          (ap (node_in g.row.D) (first.map.pages_stay h c.args.at.page) ∙ there) level);
      named = λ h. at_error r f _ is
          (err.faults (first.gate.honest.0 h));
      other_faults = at_error r f _ is err.other_faults;
    }

pub returns-then-not-has_few : goal.returns-then-not-has_few
returns-then-not-has_few g c =
    let D = g.row.D in
    let old = c.args.cache.now in
    let mid = c.take_entry.new.cache in
    let new = c.read_into.new.cache in
    let page = c.args.at.page in
    let first : AsksUntil old mid None =
    at_none c.in_ok-least.field-0 (AsksUntil old mid None) c.in_ok-least.ensures.cannot c.in_default.not-Some in
    let then : AsksUntil mid new None = c.in_ok-read_into.ensures.asks in
    record {
      changes = asks_changes old new (Some (fault.Damaged page))
          (damaged_asks old new page (asks_in_turn old mid new None first then));
      grows = search rules;
      cut = tt;
      now = λ h x there level. tt;
      still = λ h x there level. tt;
      others = λ h live k other. then.map.pages_stay (first.gate.honest.0 h) k ∙ first.map.pages_stay h k;
      sound = λ h live. then.map.sound.0 (first.map.sound.0 h);
      refused = then.touched ∙ first.touched;
      given_node = λ h. tt;
      faults = λ h x there level within.
          let now = c.read_into.new.node in
          let here = ap (node_in D) (first.map.pages_stay h page) ∙ there in
          let same =
          same_content D (pages mid) page (content_of now) x
          (c.in_ok-read_into.ensures.node (first.gate.honest.0 h)
          (page_of_node D (pages mid page) x here)) here in
          let count : length now.entries.items ≡ length x.entries =
          omega (
            arith,
            ap (λ (k : NodeContent). length k.entries) same,
            length-map now.entries.items (item_of {D = D}),
          ) in
          let many = c.has_few.ensures.no c.if-not-has_few.true (omega (arith, count, within)) in
          absurd (never_some c.in_ok-least.field-0 c.in_default.not-Some
          ((c.in_ok-least.ensures.room h x there).1
          (within, omega (arith, many, count))));
      named = λ h. inr refl;
      other_faults = search rules;
    }

pub returns : goal.returns
returns g c =
    let D = g.row.D in
    let old = c.args.cache.now in
    let mid = c.take_entry.new.cache in
    let new = c.read_into.new.cache in
    let page = c.args.at.page in
    let place = c.args.place in
    let now = c.read_into.new.node in
    let first : AsksUntil old mid None =
    at_none c.in_ok-least.field-0 (AsksUntil old mid None) c.in_ok-least.ensures.cannot c.in_default.not-Some in
    let ok = c.in_ok-read_into.ensures in
    let then : AsksUntil mid new None = ok.asks in
    let has = c.has_few.ensures.yes c.if-not-has_few.false in
    let removed = items-removed c.remove.new.self.items now.entries.items place c.remove.ensures.items in
    let fewer : length c.remove.new.self.items + 1 ≡ length now.entries.items =
    omega (
      arith,
      ap length removed,
      length-without (map (item_of {D = D}) now.entries.items) place
          (omega (arith, has.0, length-map now.entries.items (item_of {D = D}))),
      length-map now.entries.items (item_of {D = D}),
      length-map c.remove.new.self.items (item_of {D = D}),
    ) in
    record {
      changes = asks_changes old new None (asks_in_turn old mid new None first then);
      grows = search rules;
      cut = (
        subst (λ l. IsCut l (content_of (record { level = now.level; entries = c.remove.new.self; dims = now.dims }))) ok.level
            (cut_removed now.level now.entries.items c.remove.new.self.items place ok.spellable has.0
            c.remove.ensures.items),
        omega (arith, fewer, has.1, c.least_entries-fewest.ensures.value),
      );
      now = λ h x there level.
          let here = ap (node_in D) (first.map.pages_stay h page) ∙ there in
          let same =
          same_content D (pages mid) page (content_of now) x
          (ok.node (first.gate.honest.0 h) (page_of_node D (pages mid page) x here)) here in
          let items : items_without x.entries place ≡ map item_of c.remove.new.self.items =
          ap (λ (k : NodeContent). items_without k.entries place) (sym same) ∙ sym removed in (
            items,
            omega (
              arith,
              ap length items,
              length-map c.remove.new.self.items (item_of {D = D}),
              fewer,
              has.1,
              c.least_entries-fewest.ensures.value,
            ),
          );
      still = λ h x there level. record {
        node = x;
        there = ap (node_in D) (then.map.pages_stay (first.gate.honest.0 h) page ∙ first.map.pages_stay h page)
            ∙ there;
        level_is = level;
        few = tt;
      };
      others = λ h live k other. then.map.pages_stay (first.gate.honest.0 h) k ∙ first.map.pages_stay h k;
      sound = λ h live. then.map.sound.0 (first.map.sound.0 h);
      refused = tt;
      given_node = λ h. record {
        node = content_of now;
        there = ap (node_in D) (sym (first.map.given_stay h page)) ∙ ok.given_node (first.gate.honest.0 h);
        level_is = ok.level;
      };
      faults = λ h x there level within. tt;
      named = λ h. tt;
      other_faults = tt;
    }

pub remove-requires : goal.remove-requires
remove-requires g c = (search rules, (c.has_few.ensures.yes c.if-not-has_few.false).0)
