-- The goals of `PageCache::edit_known` that are proved by hand.
use Rattle.std.proofs.Common.{◌≡◌, ◌∙◌, Some, arith, is_some, ap, refl, rules, subst, sym}
use Rattle.std.specs.Fn.{FnOnceReturnsAtMut}
use Rattle.page_file.specs.File as below
use Rattle.page_file.specs.declared.file.PageFile.{PageFile}
use Rattle.page_cache.specs.Calls.{counted_by_end}
use Rattle.page_cache.proofs.Lookups.{first-found}
use Rattle.page_cache.proofs.Opened.{opened_edits, refused_edits}
use Rattle.page_cache.proofs.Putting.{given_others_there, given_there, held_after, held_bytes, held_within}
use Rattle.page_cache.proofs.Putting.{held_written, live_there, others_there, sound_there, there}
use Rattle.page_cache.proofs.cache.PageCache.edit_known.Goals as goal

pub change_held-requires-clause-held : goal.change_held-requires-clause-held
change_held-requires-clause-held g c =
    ap is_some (first-found c.args.n c.load.new.self.frames.entries c.in_ok-load.ensures.first).2

-- its number is of no page given out
pub returns-then-n-lt2 : goal.returns-then-n-lt2
returns-then-n-lt2 g c = search (rules, counted_by_end)

-- the gate is refused
pub returns-in_err-open_gate : goal.returns-in_err-open_gate
returns-in_err-open_gate g c =
    refused_edits c.args.self.now c.open_gate.new.self c.in_err-open_gate.field-0.0 c.from_residual.result
    c.from_residual.ensures.1 _ refl c.in_err-open_gate.ensures c.args.n (omega (arith, c.if-n-lt2.false))
    (omega (arith, c.if-n-next_number.false, c.next_number.ensures))

-- the page is not brought in
pub returns-in_err-load : goal.returns-in_err-load
returns-in_err-load g c =
    opened_edits c.args.self.now c.open_gate.new.self c.load.new.self _ c.in_ok-open_gate.ensures
    c.from_residual-in_err-load.result c.args.n (omega (arith, c.if-n-lt2.false))
    (omega (arith, c.if-n-next_number.false, c.next_number.ensures)) (search (rules, counted_by_end))

pub returns : goal.returns
returns g c =
    opened_edits c.args.self.now c.open_gate.new.self c.change_held.new.self _ c.in_ok-open_gate.ensures _
    c.args.n (omega (arith, c.if-n-lt2.false))
    (omega (arith, c.if-n-next_number.false, c.next_number.ensures)) (
    let old = c.open_gate.new.self in let mid = c.load.new.self in let new = c.change_held.new.self in
    let n = c.args.n in let kept = c.load.ensures.kept in let file = c.change_held.ensures.file in
    let was = first-found n mid.frames.entries c.in_ok-load.ensures.first in
    let did = c.change_held.ensures.frames was.0 was.2 in let after = did.0.bytes.value in
    let behind = held_written old mid new n was.0 did.0 kept file was.2 did.1 did.4 in
    let within = held_within old mid new n was.0 did.0 kept file was.2 in
    record {
      changes = search (rules, counted_by_end);
      answered = (was.0.bytes.value, after, did.3);
      edited = λ h page given_is.
          let same : Some was.0.bytes.value ≡ Some page =
          sym (held_bytes old mid new n was.0 did.0 kept file was.2 h) ∙ given_is in
          let page_is : was.0.bytes.value ≡ page = cc in (
            after,
            given_there old mid new n after kept file within h (behind h),
            λ live. there old mid new n after did.2 kept file h live (behind h),
            subst (λ x. FnOnceReturnsAtMut g.F.FnOnce c.args.change x c.change_held.result after) page_is
                did.3,
          );
      live = λ h live. live_there old mid new n after did.2 kept file h live (behind h);
      others = λ h live. others_there old mid new n after did.2 kept file h live (behind h);
      sound = λ map live.
          sound_there old mid new n after did.2 kept file map live
          (λ h. subst (λ (f : PageFile _ _). below.IsHonest f) (sym file) (kept.gate.honest.0 h))
          (behind map.honest);
      next = search rules;
      in_memory = record {
        given_others = λ h. given_others_there old mid new n after kept file within h (behind h);
        refused = tt;
        grows = search rules;
        looks = search rules;
        holds = held_after old mid new n was.0 did.0 kept file was.2 did.4;
        uses = search rules;
        touched = search rules;
      };
      opens = search rules;
      held = λ was is. refl;
      outside = search rules;
      faults = λ h low within. tt;
      other_faults = tt;
    })
