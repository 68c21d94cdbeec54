-- The goals of `place_one` that are proved by hand.
use Rattle.std.proofs.Common.{inl}
use Rattle.std.proofs.Common.{rules, ◌≡◌, ◌⊎◌, ◌+◌, ◌^◌, ◌<◌, ◌≤◌, inr, [], refl, true, arith}
use Rattle.page_file.specs.declared.fault.Fault.TheVariants as fault
use Rattle.page_cache.specs.Cache.{IsPageMap, pages, touched_of}
use Rattle.page_cache.specs.Calls.{changes_in_turn, fault_in}
use Rattle.node_page.specs.Standing.{PageMap}
use Rattle.node_page.proofs.DamageLemmas.{damaged_read}
use Rattle.node_page.proofs.NodeLemmas.{at_error, if_error}
use Rattle.node_page.specs.Faults.{IsNoDamage, IsChangeFault}
use Rattle.reinsert.specs.Inserted.{IsRootFrom}
use Rattle.reinsert.proofs.FaultLemmas.{changes_refused, damaged_at_once, no_answer, no_success}
use Rattle.reinsert.proofs.FaultLemmas.{if_both, named_page, ok_first, ok_too}
use Rattle.reinsert.proofs.InsertLemmas.{first_alone, first_grown}
use Rattle.reinsert.proofs.StateLemmas.{first_can, low_root}
use Rattle.reinsert.proofs.insert.place_one.Goals as goal

pub place-requires : goal.place-requires
place-requires g c = (
  search rules,
  (
    search,
    (
      search rules,
      ((c.if-first-root.false, omega arith, c.requires.level), c.requires.refers),
    ),
  ),
)

pub returns-then-first-root : goal.returns-then-first-root
returns-then-first-root g c = record {
  changes = damaged_at_once c.args.cache.now c.args.root.page;
  grows = search rules;
  measure = search rules;
  root = search rules;
  placed = λ h s elsewhere at. tt;
  faults = λ h s elsewhere at shape.
      let f = first_can c.args.fanout.most elsewhere (pages c.args.cache.now) c.args.root
      c.args.waiting.now.waits.items c.args.first.now c.args.waiting.now.called s at shape in
      absurd (omega (arith, f.fits, c.if-first-root.true));
  sound = λ h. tt;
  stays = search rules;
  damage = λ h n damaged.
      ([], damaged_read (fault.Damaged c.args.root.page) c.args.root.page n (inr refl) damaged);
  other_faults = search rules;
}

pub returns-in_err-bounds : goal.returns-in_err-bounds
returns-in_err-bounds g c = record {
  changes = changes_refused c.args.cache.now c.place.new.cache c.in_err-bounds.field-0.0
      c.from_residual.result c.from_residual.ensures.1 c.in_err-bounds.ensures.changes;
  grows = search rules;
  measure = search rules;
  root = no_answer c.from_residual.result c.in_err-bounds.field-0.0 _ c.from_residual.ensures.1;
  placed = λ h s elsewhere at. no_answer c.from_residual.result c.in_err-bounds.field-0.0 _
      c.from_residual.ensures.1;
  faults = λ h s elsewhere at shape.
      let f = first_can c.args.fanout.most elsewhere (pages c.args.cache.now) c.args.root
      c.args.waiting.now.waits.items c.args.first.now c.args.waiting.now.called s at shape in
      at_error c.from_residual.result c.in_err-bounds.field-0.0 (IsNoDamage c.place.new.cache)
      c.from_residual.ensures.1
      (c.in_err-bounds.ensures.faults h f.row f.branch f.item f.can f.few);
  sound = λ h. no_success c.from_residual.result c.in_err-bounds.field-0.0 _ c.from_residual.ensures.1;
  stays = no_answer c.from_residual.result c.in_err-bounds.field-0.0 _ c.from_residual.ensures.1;
  damage = λ h.
      at_error c.from_residual.result c.in_err-bounds.field-0.0 _
      c.from_residual.ensures.1 (c.in_err-bounds.ensures.damage h);
  other_faults = at_error c.from_residual.result c.in_err-bounds.field-0.0 (IsChangeFault c.place.new.cache)
      c.from_residual.ensures.1 c.in_err-bounds.ensures.other_faults;
}

pub returns-in_default : goal.returns-in_default
returns-in_default g c = record {
  changes = c.in_ok-bounds.ensures.changes;
  grows = search rules;
  measure = search rules;
  root = record { rises = omega arith; low = c.requires.level; page = c.requires.root };
  placed = λ h s elsewhere at.
      let m : PageMap = pages c.args.cache.now in
      let m1 : PageMap = pages c.place.new.cache in
      first_alone (IsPageMap c.place.new.cache) c.args.fanout.most elsewhere m m1 c.args.root
      c.args.waiting.now.waits.items c.place.new.waiting.waits.items c.args.first.now
      c.args.waiting.now.called c.place.new.waiting.called s c.in_ok-bounds.field-0 at
      c.if-first-root.false (λ row branch item can. c.in_ok-bounds.ensures.placed h row branch item can)
      c.in_default.is;
  faults = λ h s elsewhere at shape. tt;
  sound = λ h. c.in_ok-bounds.ensures.sound h;
  stays = inl refl;
  damage = λ h. tt;
  other_faults = search rules;
}

pub returns : goal.returns
returns g c = record {
  changes = changes_in_turn c.args.cache.now c.place.new.cache c.grow.new.cache (fault_in c.grow.result)
      c.in_ok-bounds.ensures.changes c.grow.ensures.changes;
  grows = search rules;
  measure = search rules;
  root = if_both c.grow.result
      (λ new. (new.level ≡ c.args.root.level + 1) × (new.level ≤ 40))
      (λ new. (3 ≤ new.page) × (new.page < 2 ^ 31))
      (IsRootFrom c.args.root) c.grow.ensures.level c.grow.ensures.page
      (λ new level page. record { rises = omega (arith, level.0); low = level.1; page = page });
  placed = λ h s elsewhere at.
      let m : PageMap = pages c.args.cache.now in
      let m1 : PageMap = pages c.place.new.cache in
      let m2 : PageMap = pages c.grow.new.cache in
      first_grown (IsPageMap c.place.new.cache) c.args.fanout.most elsewhere m m1 c.args.root
      c.args.waiting.now.waits.items c.place.new.waiting.waits.items c.args.first.now
      c.args.waiting.now.called c.place.new.waiting.called s c.in_ok-bounds.field-0 at
      c.if-first-root.false (λ row branch item can. c.in_ok-bounds.ensures.placed h row branch item can)
      (IsPageMap c.grow.new.cache) m2 c.grow.result c.in-Some.beside c.in-Some.is c.grow.ensures.level
      (λ sound. c.grow.ensures.grown sound);
  faults = λ h s elsewhere at shape.
      let m : PageMap = pages c.args.cache.now in
      let waits = c.args.waiting.now.waits.items in
      let called = c.args.waiting.now.called in
      let f = first_can c.args.fanout.most elsewhere m c.args.root waits c.args.first.now called s at shape in
      let sound = (c.in_ok-bounds.ensures.placed h f.row f.branch f.item f.can).0 in
      let low =
      low_root c.args.fanout.most elsewhere m c.args.root waits c.args.first.now called s at shape
      c.requires.root.1 in
      c.grow.ensures.faults sound low;
  sound = λ h.
      ok_first c.grow.result (IsPageMap c.grow.new.cache) _
      (c.grow.ensures.grown (c.in_ok-bounds.ensures.sound h));
  stays = ok_too c.grow.result (touched_of c.grow.new.cache ≡ true) _ c.grow.ensures.touched
      (λ after touched. inr touched);
  damage = λ h.
      if_error c.grow.result
      (λ f. IsNoDamage c.grow.new.cache f ⊎ (f ≡ fault.Damaged c.args.root.page)) _
      (λ f is n damaged. ([], named_page c.grow.new.cache f c.args.root.page n is damaged))
      (c.grow.ensures.damaged (c.in_ok-bounds.ensures.sound h));
  other_faults = c.grow.ensures.other_faults;
}

-- ---- in any pages of a sound map
