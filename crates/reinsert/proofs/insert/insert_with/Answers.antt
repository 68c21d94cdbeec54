-- The goals of `insert_with` that are proved by hand.
use Rattle.std.proofs.Common.{rules, rules, ◌++◌, [], ◌∷◌, List, Bool, None, sym, subst, refl, arith}
use Rattle.std.proofs.Common.{◌≡◌, ◌∙◌, ⊎_elim, inl, inr, true}
use Rattle.std.proofs.lemmas.Bool.{true≢false}
use Rattle.page_file.specs.declared.fault.Fault.TheVariants as fault
use Rattle.page_cache.specs.Cache.{given, pages, touched_of}
use Rattle.page_cache.specs.Calls.{changes_and_refuses, changes_in_turn}
use Rattle.node_page.specs.Standing.{PageMap}
use Rattle.tree_node.specs.declared.node.Root.{Root}
use Rattle.node_page.specs.Checked.{ComesTo}
use Rattle.node_page.proofs.DamageLemmas.{comes_in_range, comes_so, damaged_read}
use Rattle.node_page.proofs.NodeLemmas.{at_error}
use Rattle.reinsert.specs.declared.waiting.Wait.{Wait}
use Rattle.reinsert.specs.Called.{called_from}
use Rattle.node_page.specs.Faults.{IsNoDamage, IsChangeFault, NamesInRange}
use Rattle.reinsert.specs.Inserted.{IsAt}
use Rattle.reinsert.specs.Placing.{State}
use Rattle.reinsert.proofs.FromLemmas.{at_begin}
use Rattle.reinsert.proofs.FaultLemmas.{changes_refused, damaged_at_once, no_answer, no_success}
use Rattle.reinsert.proofs.FaultLemmas.{none_before}
use Rattle.reinsert.proofs.InsertLemmas.{begun, inserted_end, reached_first, reached_more}
use Rattle.reinsert.proofs.StateLemmas.{first_has_shape, low_root, placings_keep_shape}
use Rattle.reinsert.proofs.insert.insert_with.Goals as goal

pub returns-then-root-ge40-clause-inserts : goal.returns-then-root-ge40-clause-inserts
returns-then-root-ge40-clause-inserts g c = record {
  changes = damaged_at_once c.args.cache.now c.args.root.page;
  grows = search rules;
  root = search rules;
  inserted = λ h t branch elsewhere can. tt;
  faults = λ h t branch elsewhere can shape boxes entry.
      let D = g.row.D in
      let m : PageMap = pages c.args.cache.now in
      let first : Wait D = record { entry = c.args.entry.now; level = c.args.level } in
      let low =
      low_root c.args.fanout.most elsewhere m c.args.root [] first (called_from c.args.root.level)
      (at_begin c.args.root.level t branch c.args.level)
      (begun D c.args.root.level m c.args.root first t branch elsewhere can)
      (first_has_shape D c.args.fanout.most c.args.root.level c.args.level t branch can.fits shape boxes entry)
      c.requires.root.1 in
      absurd (omega (arith, low, c.if-root-ge40.true));
  damage = λ h none n damaged.
      ([], damaged_read (fault.Damaged c.args.root.page) c.args.root.page n (inr refl) damaged);
  sound = λ h. tt;
  number = λ h n damaged.
      let page = c.args.root.page in
      comes_in_range g.row.D (given c.args.cache.now) page n c.requires.root
      ([], damaged_read (fault.Damaged page) page n (inr refl) damaged);
  other_faults = search rules;
}

pub returns-in_err-now-clause-inserts : goal.returns-in_err-now-clause-inserts
returns-in_err-now-clause-inserts g c = record {
  changes = changes_refused c.args.cache.now c.place_one.new.cache c.in_err-now.field-0.0
      c.from_residual.result c.from_residual.ensures.1 c.in_err-now.ensures.changes;
  grows = omega (arith, c.in_err-now.ensures.grows);
  root = no_answer c.from_residual.result c.in_err-now.field-0.0 _ c.from_residual.ensures.1;
  inserted = λ h t branch elsewhere can. no_answer c.from_residual.result c.in_err-now.field-0.0 _
      c.from_residual.ensures.1;
  faults = λ h t branch elsewhere can shape boxes entry.
      let D = g.row.D in
      let m : PageMap = pages c.args.cache.now in
      let first : Wait D = record { entry = c.args.entry.now; level = c.args.level } in
      let s : State = at_begin c.args.root.level t branch c.args.level in
      let at = begun D c.args.root.level m c.args.root first t branch elsewhere can in
      let at1 =
      subst (λ (ws : List (Wait D)). IsAt D m c.args.root (ws ++ first ∷ []) (called_from c.args.root.level) elsewhere s)
      (sym c.begin.ensures.waits) at in
      let at2 =
      subst (λ (cs : List Bool). IsAt D m c.args.root (c.begin.new.self.waits.items ++ first ∷ []) cs
      elsewhere s) (sym c.begin.ensures.called) at1 in
      at_error c.from_residual.result c.in_err-now.field-0.0 (IsNoDamage c.place_one.new.cache)
      c.from_residual.ensures.1
      (c.in_err-now.ensures.faults h s elsewhere at2
      (first_has_shape D c.args.fanout.most c.args.root.level c.args.level t branch can.fits shape boxes entry));
  damage = λ h none.
      at_error c.from_residual.result c.in_err-now.field-0.0 _
      c.from_residual.ensures.1 (c.in_err-now.ensures.damage h);
  sound = λ h. no_success c.from_residual.result c.in_err-now.field-0.0 _ c.from_residual.ensures.1;
  number = λ h.
      at_error c.from_residual.result c.in_err-now.field-0.0 NamesInRange
      c.from_residual.ensures.1
      (λ n damaged. comes_in_range g.row.D (given c.args.cache.now) c.args.root.page n c.requires.root
      (c.in_err-now.ensures.damage h n damaged));
  other_faults = at_error c.from_residual.result c.in_err-now.field-0.0 (IsChangeFault c.place_one.new.cache)
      c.from_residual.ensures.1 c.in_err-now.ensures.other_faults;
}

pub placing-init : goal.placing-init
placing-init g c = (
  c.in_ok-now.ensures.changes,
  c.in_ok-now.ensures.root,
  omega (arith, c.in_ok-now.ensures.measure, c.begin.ensures.measure),
  omega (arith, c.in_ok-now.ensures.measure, c.begin.ensures.measure, c.in_ok-now.ensures.grows),
  λ h t branch elsewhere can.
      let D = g.row.D in
      let m : PageMap = pages c.args.cache.now in
      let first : Wait D = record { entry = c.args.entry.now; level = c.args.level } in
      let s : State = at_begin c.args.root.level t branch c.args.level in
      let at = begun D c.args.root.level m c.args.root first t branch elsewhere can in
      let at1 =
      subst (λ (ws : List (Wait D)). IsAt D m c.args.root (ws ++ first ∷ []) (called_from c.args.root.level) elsewhere s)
      (sym c.begin.ensures.waits) at in
      let at2 =
      subst (λ (cs : List Bool). IsAt D m c.args.root (c.begin.new.self.waits.items ++ first ∷ []) cs
      elsewhere s) (sym c.begin.ensures.called) at1 in
      let step = c.in_ok-now.ensures.placed h s elsewhere at2 in (
        step.0,
        reached_first D c.args.fanout.most elsewhere m (pages c.place_one.new.cache) s c.in_ok-now.now
            c.place_one.new.waiting.waits.items c.place_one.new.waiting.called step.1,
      ),
  λ h. (c.in_ok-now.ensures.sound h, c.in_ok-now.ensures.stays),
)

pub returns-in_err-now-2-clause-inserts : goal.returns-in_err-now-2-clause-inserts
returns-in_err-now-2-clause-inserts g c = record {
  changes = changes_and_refuses c.args.cache.now c.placing.cache c.place_one-in-Some.new.cache
      c.in_err-now-2.field-0.0 c.from_residual-in_err-now-2.result c.from_residual-in_err-now-2.ensures.1
      c.placing.invariant.0 c.in_err-now-2.ensures.changes;
  grows = omega (
    arith,
    c.placing.invariant.2,
    c.placing.invariant.3,
    c.in-Some.ensures.measure,
    c.in_err-now-2.ensures.grows,
  );
  root = no_answer c.from_residual-in_err-now-2.result c.in_err-now-2.field-0.0 _
      c.from_residual-in_err-now-2.ensures.1;
  inserted = λ h t branch elsewhere can. no_answer c.from_residual-in_err-now-2.result
      c.in_err-now-2.field-0.0 _ c.from_residual-in_err-now-2.ensures.1;
  faults = λ h t branch elsewhere can shape boxes entry.
      let D = g.row.D in
      let m1 : PageMap = pages c.placing.cache in
      let r = c.placing.invariant.4 h t branch elsewhere can in
      let at1 =
      subst (λ (ws : List (Wait D)). IsAt D m1 c.placing.now ws c.placing.waiting.called elsewhere
      r.1.last) c.in-Some.ensures.some r.1.isat in
      let at2 =
      subst (λ (cs : List Bool). IsAt D m1 c.placing.now
      (c.next.new.self.waits.items ++ c.in-Some.wait ∷ []) cs elsewhere r.1.last)
      (sym c.next.ensures.called) at1 in
      let last =
      placings_keep_shape D c.args.fanout.most elsewhere r.1.count (at_begin c.args.root.level t branch c.args.level) r.1.last
      r.1.run (omega (arith, c.args.fanout.within))
      (first_has_shape D c.args.fanout.most c.args.root.level c.args.level t branch can.fits shape boxes entry) in
      at_error c.from_residual-in_err-now-2.result c.in_err-now-2.field-0.0
      (IsNoDamage c.place_one-in-Some.new.cache) c.from_residual-in_err-now-2.ensures.1
      (c.in_err-now-2.ensures.faults r.0 r.1.last elsewhere at2 last);
  damage = λ h none.
      let D = g.row.D in
      let m = given c.args.cache.now in
      let mid = c.placing.cache in
      let so_far = c.placing.invariant.5 h in
      let before =
      none_before (touched_of mid) (touched_of c.place_one-in-Some.new.cache)
      c.in_err-now-2.ensures.changes.touched none in
      let same = (c.placing.invariant.0.untouched before).given_stay h.honest in
      at_error c.from_residual-in_err-now-2.result c.in_err-now-2.field-0.0 _
      c.from_residual-in_err-now-2.ensures.1
      (λ n damaged. ⊎_elim
      (λ (stays : c.placing.now ≡ c.args.root). comes_so D m (given mid) c.args.root.page n same
      (subst (λ (root : Root). ComesTo D (given mid) root.page n) stays
      (c.in_err-now-2.ensures.damage so_far.0 n damaged)))
      (λ (touched : touched_of mid ≡ true). absurd (true≢false (sym touched ∙ before)))
      so_far.1);
  sound = λ h. no_success c.from_residual-in_err-now-2.result c.in_err-now-2.field-0.0 _
      c.from_residual-in_err-now-2.ensures.1;
  number = λ h.
      at_error c.from_residual-in_err-now-2.result c.in_err-now-2.field-0.0 NamesInRange
      c.from_residual-in_err-now-2.ensures.1
      (λ n damaged. comes_in_range g.row.D (given c.placing.cache) c.placing.now.page n
      c.placing.invariant.1.page (c.in_err-now-2.ensures.damage (c.placing.invariant.5 h).0 n damaged));
  other_faults = at_error c.from_residual-in_err-now-2.result c.in_err-now-2.field-0.0
      (IsChangeFault c.place_one-in-Some.new.cache)
      c.from_residual-in_err-now-2.ensures.1 c.in_err-now-2.ensures.other_faults;
}

pub placing-preserved : goal.placing-preserved
placing-preserved g c = (
  changes_in_turn c.args.cache.now c.placing.cache c.place_one-in-Some.new.cache None c.placing.invariant.0
      c.in_ok-now-2.ensures.changes,
  record {
    rises = omega (arith, c.placing.invariant.1.rises, c.in_ok-now-2.ensures.root.rises);
    low = c.in_ok-now-2.ensures.root.low;
    page = c.in_ok-now-2.ensures.root.page;
  },
  omega (arith, c.placing.invariant.2, c.in-Some.ensures.measure, c.in_ok-now-2.ensures.measure),
  omega (
    arith,
    c.placing.invariant.2,
    c.placing.invariant.3,
    c.in-Some.ensures.measure,
    c.in_ok-now-2.ensures.measure,
    c.in_ok-now-2.ensures.grows,
  ),
  λ h t branch elsewhere can.
      let D = g.row.D in
      let m : PageMap = pages c.args.cache.now in
      let m1 : PageMap = pages c.placing.cache in
      let s : State = at_begin c.args.root.level t branch c.args.level in
      let r = c.placing.invariant.4 h t branch elsewhere can in
      let at1 =
      subst (λ (ws : List (Wait D)). IsAt D m1 c.placing.now ws c.placing.waiting.called elsewhere
      r.1.last) c.in-Some.ensures.some r.1.isat in
      let at2 =
      subst (λ (cs : List Bool). IsAt D m1 c.placing.now
      (c.next.new.self.waits.items ++ c.in-Some.wait ∷ []) cs elsewhere r.1.last)
      (sym c.next.ensures.called) at1 in
      let step = c.in_ok-now-2.ensures.placed r.0 r.1.last elsewhere at2 in (
        step.0,
        reached_more D c.args.fanout.most elsewhere m m1 (pages c.place_one-in-Some.new.cache) s c.placing.now
            c.in_ok-now-2.now c.placing.waiting.waits.items c.place_one-in-Some.new.waiting.waits.items
            c.placing.waiting.called c.place_one-in-Some.new.waiting.called r.1 step.1,
      ),
  λ h. let so_far = c.placing.invariant.5 h in (
    c.in_ok-now-2.ensures.sound so_far.0,
    ⊎_elim
        (λ (again : c.in_ok-now-2.now ≡ c.placing.now). ⊎_elim
        (λ (was : c.placing.now ≡ c.args.root). inl (again ∙ was))
        (λ (touched : touched_of c.placing.cache ≡ true).
        inr (c.in_ok-now-2.ensures.changes.touched touched))
        so_far.1)
        (λ (touched : touched_of c.place_one-in-Some.new.cache ≡ true). inr touched)
        c.in_ok-now-2.ensures.stays,
  ),
)

pub returns-clause-inserts : goal.returns-clause-inserts
returns-clause-inserts g c = record {
  changes = c.placing.invariant.0;
  grows = omega (arith, c.placing.invariant.2, c.placing.invariant.3);
  root = c.placing.invariant.1;
  inserted = λ h t branch elsewhere can.
      let r = c.placing.invariant.4 h t branch elsewhere can in (
        r.0,
        inserted_end g.row.D c.args.fanout.most c.args.root.level c.args.level elsewhere
            (pages c.args.cache.now) (pages c.placing.cache) t branch c.placing.now
            c.placing.waiting.waits.items c.placing.waiting.called (omega (arith, c.requires.levels))
            can.at.level r.1 (c.in_default.ensures.none refl),
      );
  faults = λ h t branch elsewhere can shape boxes entry. tt;
  damage = λ h none. tt;
  sound = λ h. (c.placing.invariant.5 h).0;
  number = λ h. tt;
  other_faults = search rules;
}

-- ---- in any pages of a sound map

pub place_one-requires-in-Some : goal.place_one-requires-in-Some
place_one-requires-in-Some g c = (
  search rules,
  (
    search (c.requires-raw),
    (
      c.placing.invariant.1.low,
      (c.placing.invariant.1.page, c.in-Some.ensures.refers),
    ),
  ),
)
