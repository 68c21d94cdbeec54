-- The goals of `PageCache::release` that are proved by hand.
use Rattle.std.proofs.Common.{◌⊎◌, ◌∙◌, None, cond, is_some, sym, ap, refl, arith, rules, subst}
use Rattle.page_file.specs.Fault.{IsDamage, IsOfDevice}
use Rattle.page_cache.proofs.Results.{at_error, no_success, on_err_all, refused_cause}
use Rattle.std.proofs.lemmas.Bool.{ne_eqb}
use Rattle.page_file.specs.File as below
use Rattle.page_file.specs.declared.file.PageFile.{PageFile}
use Rattle.page_file.specs.declared.header.Header.{Header}
use Rattle.page_cache.specs.Frames.{frame_at}
use Rattle.page_cache.proofs.Kept.{kept_back, laid_refused, laid_without}
use Rattle.page_cache.proofs.cache.PageCache.release.Goals as goal

pub returns-in_err-write_back : goal.returns-in_err-write_back
returns-in_err-write_back g c =
    let cache = c.args.self.now in let is = sym c.in-Some.ensures in
    let within = (cache.within c.args.n (ap is_some is)).1 in
    let r = c.from_residual.result in let f = c.in_err-write_back.field-0.0 in
    let refused = c.from_residual.ensures.1 in let back = c.write_back.ensures in
    let failed = c.in_err-write_back.ensures in
    record {
      kept = record {
        gate = back.gate;
        header = back.header;
        blocks = λ h. laid_refused (frame_at cache.frames.entries) c.args.n c.in-Some.frame.now _ _
            (omega (arith, within, cache.file.room h)) is failed.refused (back.torn h);
        looks = refl;
        capacity = refl;
        touched = refl;
      };
      absent = λ k none. none;
      gone = no_success r f _ refused;
      refused = on_err_all r refl;
      others = λ k ne held. held;
      entries = λ some. no_success r f _ refused;
      quiet = search rules;
      faults = λ h. at_error r f IsOfDevice refused (failed.faults h);
      other_faults = at_error r f (λ e. IsOfDevice e ⊎ IsDamage e) refused failed.other_faults;
      cause = refused_cause _ _ r f refused failed.cause.refused;
    }

pub returns : goal.returns
returns g c =
    let cache = c.args.self.now in let n = c.args.n in let f = c.in-Some.frame.now in
    let is = sym c.in-Some.ensures in let back = c.write_back.ensures in let gone = c.forget.ensures in
    let within = (cache.within n (ap is_some is)).1 in
    record {
      kept = record {
        gate = subst (λ (x : PageFile _ _). below.KeepsGate cache.file x) (sym gone.file) back.gate;
        header = ap (λ (x : PageFile _ _). below.header_of x) gone.file ∙ back.header;
        blocks = λ h. laid_without (frame_at cache.frames.entries)
            (frame_at c.forget.new.self.frames.entries) n f _ _ (omega (arith, within, cache.file.room h)) is
            gone.frames
            (ap (λ (x : PageFile _ _). below.blocks_of x) gone.file ∙ c.in_ok-write_back.ensures.block h);
        looks = gone.looks;
        capacity = gone.capacity;
        touched = gone.touched;
      };
      absent = search rules;
      gone = search rules;
      refused = tt;
      others = λ k ne held.
          ap is_some (gone.frames k
          ∙ ap (λ y. cond y None (frame_at cache.frames.entries k)) (ne_eqb k n ne)) ∙ held;
      entries = λ some. gone.entries;
      quiet = search rules;
      faults = λ h. tt;
      other_faults = tt;
      cause = search rules;
    }

pub invariant_of-self-2 : goal.invariant_of-self-2
invariant_of-self-2 g c =
    let cache = c.args.self.now in let n = c.args.n in
    let kept =
    kept_back cache.file c.write_back.new.file (frame_at cache.frames.entries) n c.in-Some.frame.now
    (sym c.in-Some.ensures) c.write_back.ensures.gate
    (ap (λ (x : Header). x.next) c.write_back.ensures.header) (λ same. (c.write_back.ensures.quiet same).0)
    c.write_back.ensures.others
    (record { within = cache.within; true_to = cache.true_to; behind_the_gate = cache.behind_the_gate }) in
    record {
      within = kept.within;
      true_to = kept.true_to;
      behind_the_gate = kept.behind_the_gate;
      counted = cache.counted;
    }
