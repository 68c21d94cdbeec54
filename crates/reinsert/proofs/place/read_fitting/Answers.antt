-- The goals of `read_fitting` that are proved by hand.
use Rattle.std.proofs.Common.{inr, refl}
use Rattle.std.proofs.Common.{rules, subst, ap, All, arith, length}
use Rattle.std.proofs.lemmas.List.{length-map}
use Rattle.page_file.specs.Fault.{IsOfDevice}
use Rattle.page_cache.specs.Cache.{pages}
use Rattle.tree_node.specs.declared.node.Entry.{Entry}
use Rattle.tree_node.specs.Nodes.{NodeContent, content_of, item_of}
use Rattle.node_bytes.specs.Layout.{IsOfLevel}
use Rattle.node_page.specs.Standing.{PageMap}
use Rattle.node_page.proofs.NodeLemmas.{at_error}
use Rattle.node_page.proofs.StandingLemmas.{page_of_node, same_content}
use Rattle.reinsert.proofs.AboveLemmas.{All-mapped}
use Rattle.reinsert.proofs.FaultLemmas.{asks_refused, damaged_asks, no_success}
use Rattle.reinsert.proofs.place.read_fitting.Goals as goal

pub returns-in_err-read_into : goal.returns-in_err-read_into
returns-in_err-read_into g c = record {
  asks = asks_refused c.args.cache.now c.read_into.new.cache c.in_err-read_into.field-0.0
      c.from_residual.result c.from_residual.ensures.1 c.in_err-read_into.ensures.asks;
  node = λ h live. no_success c.from_residual.result c.in_err-read_into.field-0.0 _ c.from_residual.ensures.1;
  faults = λ honest node there level few.
      at_error c.from_residual.result c.in_err-read_into.field-0.0 IsOfDevice c.from_residual.ensures.1
      (c.in_err-read_into.ensures.there honest node there level);
  level = no_success c.from_residual.result c.in_err-read_into.field-0.0 _ c.from_residual.ensures.1;
  few = no_success c.from_residual.result c.in_err-read_into.field-0.0 _ c.from_residual.ensures.1;
  some = no_success c.from_residual.result c.in_err-read_into.field-0.0 _ c.from_residual.ensures.1;
  refers = no_success c.from_residual.result c.in_err-read_into.field-0.0 _ c.from_residual.ensures.1;
  given_node = λ h. no_success c.from_residual.result c.in_err-read_into.field-0.0 _
      c.from_residual.ensures.1;
  damaged = λ h. at_error c.from_residual.result c.in_err-read_into.field-0.0
      _ c.from_residual.ensures.1
      (c.in_err-read_into.ensures.faults h);
  other_faults = at_error c.from_residual.result c.in_err-read_into.field-0.0 _
      c.from_residual.ensures.1 c.in_err-read_into.ensures.other_faults;
}

pub returns-then-len-entries : goal.returns-then-len-entries
returns-then-len-entries g c = record {
  asks = damaged_asks c.args.cache.now c.read_into.new.cache c.args.at.page c.in_ok-read_into.ensures.asks;
  node = λ h live. tt;
  faults = λ honest node there level few.
      let m : PageMap = pages c.args.cache.now in
      let read = c.in_ok-read_into.ensures.node honest (page_of_node g.row.D (m c.args.at.page) _ there) in
      let same = same_content g.row.D m c.args.at.page node (content_of c.read_into.new.node) there read in
      absurd (omega (
        arith,
        ap (λ (x : NodeContent). length x.entries) same,
        length-map c.read_into.new.node.entries.items item_of,
        few,
        c.if-len-entries.true,
        c.entries.ensures,
        c.len.ensures.value,
      ));
  level = search rules;
  few = search rules;
  some = search rules;
  refers = search rules;
  given_node = λ h. tt;
  damaged = λ h. inr refl;
  other_faults = search rules;
}

pub returns : goal.returns
returns g c = record {
  asks = search rules;
  node = λ h live. c.in_ok-read_into.ensures.node h live;
  faults = λ honest node there level few. tt;
  level = search rules;
  few = search rules;
  some = λ high. omega (
    arith,
    c.in_ok-read_into.ensures.spellable.some
        (omega (arith, c.in_ok-read_into.ensures.level, high)),
    length-map c.read_into.new.node.entries.items
        (item_of {D = g.row.D}),
  );
  refers = subst (λ l. All (λ (e : Entry g.row.D). IsOfLevel l e.reference e.tag)
      c.read_into.new.node.entries.items) c.in_ok-read_into.ensures.level
      (All-mapped c.read_into.new.node.level c.read_into.new.node.entries.items
      c.in_ok-read_into.ensures.spellable.refers);
  given_node = λ h. c.in_ok-read_into.ensures.given_node h;
  damaged = λ h. tt;
  other_faults = search rules;
}
