-- The goals of `put_before` that are proved by hand.
use Rattle.std.proofs.Common.{◌≡◌, ◌∙◌, ◌⊎◌, ℕ, List, Option, None, IsSome, inl, inr, ⊎_elim, sym, ap}
use Rattle.std.proofs.Common.{◌≤◌, subst, arith}
use Rattle.std.specs.Prelude.{IsSomeAnd}
use Rattle.page_file.specs.Fault.{IsDamage, IsOfDevice}
use Rattle.page_file.specs.declared.fault.Fault.TheVariants as fault
use Rattle.page_cache.specs.Cache.{pages}
use Rattle.page_cache.specs.Calls.{changes_and_refuses, changes_in_turn, fault_in}
use Rattle.node_page.specs.Faults.{IsNoDamage}
use Rattle.node_page.proofs.DamageLemmas.{damaged_read}
use Rattle.node_page.proofs.NodeLemmas.{at_error, on_ok}
use Rattle.id_chains.specs.Table.{bucket_in}
use Rattle.id_chains.specs.Tidy.{IsTidyPage}
use Rattle.id_words.specs.Damage.{MayBreakAt}
use Rattle.id_chains.proofs.BucketLemmas.{apart_pages, if_err, is_there}
use Rattle.id_words.proofs.BreakLemmas.{may_break, no_damage}
use Rattle.id_chains.proofs.adding.put_before.Goals as goal

pub returns-clause-sound : goal.returns-clause-sound
returns-clause-sound g c = λ map live.
    let m = pages c.args.cache.now in
    let n = c.in_ok-number.number in
    let d = c.args.directory in
    let fresh = c.in_ok-number.ensures.fresh map in
    let map1 = c.allocate.ensures.sound map in
    let live_n = is_there (pages c.allocate.new.self n) _ fresh.1 in
    let differ = apart_pages m d n live fresh.0 in
    let live_d1 = subst IsSome (sym (fresh.2 d differ)) live in
    let map2 = c.write_bucket.ensures.sound map1 live_n in
    let same_d = c.write_bucket.ensures.others map1.honest live_n d differ in
    let live_d2 = subst IsSome (sym same_d) live_d1 in
    c.write_link.ensures.sound map2 live_d2

pub returns-clause-put : goal.returns-clause-put
returns-clause-put g c = λ map page there.
    let live = is_there (pages c.args.cache.now c.args.directory) page there in
    let m = pages c.args.cache.now in
    let n = c.in_ok-number.number in
    let d = c.args.directory in
    let fresh = c.in_ok-number.ensures.fresh map in
    let map1 = c.allocate.ensures.sound map in
    let live_n = is_there (pages c.allocate.new.self n) _ fresh.1 in
    let differ = apart_pages m d n live fresh.0 in
    let live_d1 = subst IsSome (sym (fresh.2 d differ)) live in
    let map2 = c.write_bucket.ensures.sound map1 live_n in
    let same_d = c.write_bucket.ensures.others map1.honest live_n d differ in
    let live_d2 = subst IsSome (sym same_d) live_d1 in
    let stays_d = c.write_link.ensures.others map2.honest live_d2 in
    on_ok c.write_link.result
    (λ w. record {
      number = n;
      low = omega (arith, c.in_ok-number.ensures.number);
      fresh = fresh.0;
      bucket = ap (bucket_in g.row.D) (stays_d n (λ e. differ (sym e)))
          ∙ c.in_ok-write_bucket.ensures.written map1.honest live_n;
      tidy = subst (λ (o : Option (List ℕ)). IsSomeAnd o (IsTidyPage g.row.D))
          (sym (stays_d n (λ e. differ (sym e)))) (c.in_ok-write_bucket.ensures.tidy map1.honest live_n);
      after = w.0;
      there = w.1;
      link = w.2;
      others = λ k off_n off_d. stays_d k off_d ∙ c.write_bucket.ensures.others map1.honest live_n k off_n
          ∙ fresh.2 k off_n;
    })
    (c.write_link.ensures.written map2.honest page (same_d ∙ fresh.2 d differ ∙ there))

pub returns-clause-faults : goal.returns-clause-faults
returns-clause-faults g c = λ map live.
    let m = pages c.args.cache.now in
    let n = c.in_ok-number.number in
    let d = c.args.directory in
    let fresh = c.in_ok-number.ensures.fresh map in
    let map1 = c.allocate.ensures.sound map in
    let live_n = is_there (pages c.allocate.new.self n) _ fresh.1 in
    let differ = apart_pages m d n live fresh.0 in
    let live_d1 = subst IsSome (sym (fresh.2 d differ)) live in
    let map2 = c.write_bucket.ensures.sound map1 live_n in
    let same_d = c.write_bucket.ensures.others map1.honest live_n d differ in
    let live_d2 = subst IsSome (sym same_d) live_d1 in
    if_err c.write_link.result IsOfDevice (IsNoDamage c.write_link.new.cache) (λ f is. inl is)
    (c.write_link.ensures.faults map2.honest live_d2)

pub returns-in_err-number-clause-faults : goal.returns-in_err-number-clause-faults
returns-in_err-number-clause-faults g c = λ map live.
    at_error c.from_residual.result c.in_err-number.field-0.0 (IsNoDamage c.allocate.new.self)
    c.from_residual.ensures.1
    (⊎_elim (λ device. inl device) (λ none. inr (none, c.in_err-number.ensures.full (cc none)))
    (c.in_err-number.ensures.faults map))

pub returns-in_err-write_bucket-clause-faults : goal.returns-in_err-write_bucket-clause-faults
returns-in_err-write_bucket-clause-faults g c = λ map live.
    let fresh = c.in_ok-number.ensures.fresh map in
    let live_n = is_there (pages c.allocate.new.self c.in_ok-number.number) _ fresh.1 in
    at_error c.from_residual-in_err-write_bucket.result c.in_err-write_bucket.field-0.0
    (IsNoDamage c.write_bucket.new.cache) c.from_residual-in_err-write_bucket.ensures.1
    (inl (c.in_err-write_bucket.ensures.faults (c.allocate.ensures.sound map).honest live_n))

pub returns-clause-other_faults : goal.returns-clause-other_faults
returns-clause-other_faults g c =
    if_err c.write_link.result (λ f. IsOfDevice f ⊎ IsDamage f)
    (λ f. IsNoDamage c.write_link.new.cache f ⊎ IsDamage f)
    (λ f is. ⊎_elim (λ (device : IsOfDevice f). inl (inl device)) (λ (damage : IsDamage f). inr damage) is)
    c.write_link.ensures.other_faults

pub returns-in_err-write_bucket-clause-changes : goal.returns-in_err-write_bucket-clause-changes
returns-in_err-write_bucket-clause-changes g c =
    changes_and_refuses c.args.cache.now c.allocate.new.self c.write_bucket.new.cache
    c.in_err-write_bucket.field-0.0 c.from_residual-in_err-write_bucket.result
    c.from_residual-in_err-write_bucket.ensures.1 c.in_ok-number.ensures.changes
    c.in_err-write_bucket.ensures.changes

pub returns-clause-changes : goal.returns-clause-changes
returns-clause-changes g c =
    changes_in_turn c.args.cache.now c.write_bucket.new.cache c.write_link.new.cache
    (fault_in c.write_link.result)
    (changes_in_turn c.args.cache.now c.allocate.new.self c.write_bucket.new.cache None
    c.in_ok-number.ensures.changes c.in_ok-write_bucket.ensures.changes) c.write_link.ensures.changes

pub returns-in_err-number-clause-damage : goal.returns-in_err-number-clause-damage
returns-in_err-number-clause-damage g c = λ h.
    let old = c.args.cache.now in
    let f = c.in_err-number.field-0.0 in
    at_error c.from_residual.result f
    (λ e. (n : ℕ) → e ≡ fault.Damaged n → (n ≡ c.args.directory) ⊎ MayBreakAt old n)
    c.from_residual.ensures.1
    (λ n damaged. inr (may_break old c.allocate.new.self f n c.in_err-number.ensures.faults
    (c.in_err-number.ensures.damaged h) damaged))

pub returns-in_err-write_bucket-clause-damage : goal.returns-in_err-write_bucket-clause-damage
returns-in_err-write_bucket-clause-damage g c = λ h.
    let f = c.in_err-write_bucket.field-0.0 in
    let number = c.in_ok-number.ensures.number in
    let low : 2 ≤ c.in_ok-number.number = omega (arith, number.0) in
    at_error c.from_residual-in_err-write_bucket.result f
    (λ e. (n : ℕ) → e ≡ fault.Damaged n → (n ≡ c.args.directory) ⊎ MayBreakAt c.args.cache.now n)
    c.from_residual-in_err-write_bucket.ensures.1
    (λ n damaged. absurd (no_damage f n
    (c.in_err-write_bucket.ensures.given_faults (c.in_ok-number.ensures.changes.honest.0 h) low number.1)
    damaged))

pub returns-clause-damage : goal.returns-clause-damage
returns-clause-damage g c = λ h.
    let d = c.args.directory in
    if_err c.write_link.result (λ f. IsOfDevice f ⊎ (f ≡ fault.Damaged d))
    (λ f. (n : ℕ) → f ≡ fault.Damaged n → (n ≡ d) ⊎ MayBreakAt c.args.cache.now n)
    (λ f either n damaged. inl (damaged_read f d n either damaged))
    (c.write_link.ensures.damage
    (c.in_ok-write_bucket.ensures.changes.honest.0 (c.in_ok-number.ensures.changes.honest.0 h)))
