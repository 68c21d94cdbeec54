-- The goals of `PageCache::write_held` that are proved by hand.
use Rattle.std.proofs.Common.{◌≡◌, ◌∙◌, Some, true, false, nat_eq, is_some, refl, sym, ap, arith, subst}
use Rattle.std.specs.Map.{set_value}
use Rattle.page_file.specs.File as below
use Rattle.page_file.specs.declared.header.Header.{Header}
use Rattle.page_cache.specs.Frames.{IsCleaned, changed_pages, frame_at, newer_bytes}
use Rattle.page_cache.specs.Laid.{laid_same}
use Rattle.page_cache.proofs.Kept.{kept_back, kept_put, kept_same, laid_cleaned, laid_refused}
use Rattle.page_cache.proofs.Lookups.{lookup-set}
use Rattle.page_cache.proofs.Turned.{held_set, set_same}
use Rattle.page_cache.proofs.cache.PageCache.write_held.Goals as goal

pub invariant_of-self-in-Break-1 : goal.invariant_of-self-in-Break-1
invariant_of-self-in-Break-1 g c =
    let cache = c.args.self.now in let n = c.args.n in let es = cache.frames.entries in
    let f = c.in-Some.frame.now in let is = sym c.in-Some.ensures.value in
    let kept =
    kept_same c.write_back.new.file (frame_at es) (frame_at (set_value (nat_eq n) es f))
    (λ k. set_same n k es f is)
    (kept_back cache.file c.write_back.new.file (frame_at es) n f is c.write_back.ensures.gate
    (ap (λ (x : Header). x.next) c.write_back.ensures.header) (λ same. (c.write_back.ensures.quiet same).0)
    c.write_back.ensures.others
    (record { within = cache.within; true_to = cache.true_to; behind_the_gate = cache.behind_the_gate })) in
    record {
      within = kept.within;
      true_to = kept.true_to;
      behind_the_gate = kept.behind_the_gate;
      counted = cache.counted;
    }

pub returns-in_err-write_back-clause-kept : goal.returns-in_err-write_back-clause-kept
returns-in_err-write_back-clause-kept g c =
    let cache = c.args.self.now in let n = c.args.n in let es = cache.frames.entries in
    let f = c.in-Some.frame.now in let is = sym c.in-Some.ensures.value in
    let within = (cache.within n (ap is_some is)).1 in record {
      gate = c.write_back.ensures.gate;
      header = c.write_back.ensures.header;
      blocks = λ h. laid_same (changed_pages es) (changed_pages (set_value (nat_eq n) es f)) _
          (λ k. ap newer_bytes (set_same n k es f is))
          ∙ laid_refused (frame_at es) n f _ _ (omega (arith, within, cache.file.room h)) is
          c.in_err-write_back.ensures.refused (c.write_back.ensures.torn h);
      looks = refl;
      capacity = refl;
      touched = refl;
    }

pub returns-in_err-write_back-clause-holds : goal.returns-in_err-write_back-clause-holds
returns-in_err-write_back-clause-holds g c = λ k held.
    ap is_some (set_same c.args.n k c.args.self.now.frames.entries c.in-Some.frame.now
    (sym c.in-Some.ensures.value)) ∙ held

pub invariant_of-self-2 : goal.invariant_of-self-2
invariant_of-self-2 g c =
    let cache = c.args.self.now in let n = c.args.n in let es = cache.frames.entries in
    let f = c.in-Some.frame.now in let is = sym c.in-Some.ensures.value in
    let g = c.clean.new.self in
    let file = c.write_back.new.file in let within = cache.within n (ap is_some is) in
    let next : below.next_of file ≡ below.next_of cache.file =
    ap (λ (x : Header). x.next) c.write_back.ensures.header in
    let kept =
    kept_put file (frame_at es) (frame_at (set_value (nat_eq n) es g)) n g
    (λ k. lookup-set n k es g (ap is_some is)) (within.0, omega (arith, within.1, next))
    (λ h _. c.in_ok-write_back.ensures.there (c.write_back.ensures.gate.honest.1 h)
    (cache.true_to (c.write_back.ensures.gate.honest.1 h) n f is)
    ∙ ap (λ b. Some b.value) (sym c.clean.ensures.bytes))
    (λ e. let bad : false ≡ true = sym c.clean.ensures.changed ∙ e in absurd (cc))
    (kept_back cache.file file (frame_at es) n f is c.write_back.ensures.gate next
    (λ same. (c.write_back.ensures.quiet same).0) c.write_back.ensures.others
    (record { within = cache.within; true_to = cache.true_to; behind_the_gate = cache.behind_the_gate })) in
    record {
      within = kept.within;
      true_to = kept.true_to;
      behind_the_gate = kept.behind_the_gate;
      counted = cache.counted;
    }

pub returns-clause-kept : goal.returns-clause-kept
returns-clause-kept g c =
    let cache = c.args.self.now in let n = c.args.n in let es = cache.frames.entries in
    let f = c.in-Some.frame.now in let is = sym c.in-Some.ensures.value in let g = c.clean.new.self in
    let within = (cache.within n (ap is_some is)).1 in record {
      gate = c.write_back.ensures.gate;
      header = c.write_back.ensures.header;
      blocks = λ h. laid_cleaned (frame_at es) (frame_at (set_value (nat_eq n) es g)) n f g _ _
          (omega (arith, within, cache.file.room h)) is c.clean.ensures.changed
          (λ k. lookup-set n k es g (ap is_some is))
          (c.in_ok-write_back.ensures.block h);
      looks = refl;
      capacity = refl;
      touched = refl;
    }

pub returns-clause-holds : goal.returns-clause-holds
returns-clause-holds g c = λ k held.
    held_set c.args.n k c.args.self.now.frames.entries c.clean.new.self
    (ap is_some (sym c.in-Some.ensures.value)) held

pub returns-clause-entries : goal.returns-clause-entries
returns-clause-entries g c = λ f is.
    let same : Some c.in-Some.frame.now ≡ Some f = c.in-Some.ensures.value ∙ is in
    let found : c.in-Some.frame.now ≡ f = cc in (
      c.clean.new.self,
      subst (λ x. IsCleaned x c.clean.new.self) found
          (record { bytes = c.clean.ensures.bytes; changed = c.clean.ensures.changed }),
      refl,
    )
