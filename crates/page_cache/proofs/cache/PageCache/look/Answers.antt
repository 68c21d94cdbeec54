-- The goals of `PageCache::look` that are proved by hand.
use Rattle.std.proofs.Common.{arith, ◌∙◌, is_some, ap, refl, sym, rules}
use Rattle.block_device.specs.Device.{one_more}
use Rattle.page_file.specs.File as below
use Rattle.page_cache.proofs.Behind.{given_held, looked_at, map_kept}
use Rattle.page_cache.proofs.Lookups.{first-found}
use Rattle.page_cache.proofs.Uses.{uses_refused}
use Rattle.page_cache.proofs.cache.PageCache.look.Goals as goal

pub returns-clause-looked_at : goal.returns-clause-looked_at
returns-clause-looked_at g c =
    let found = first-found c.args.n c.load.new.self.frames.entries c.in_ok-load.ensures.first in record {
      asks = record {
        gate = c.load.ensures.kept.gate;
        map = looked_at c.args.self.now c.load.new.self _ c.args.n c.load.ensures.kept refl refl;
        capacity = c.load.ensures.kept.capacity;
        looks = omega
            (arith, c.saturating_add-self.ensures, c.load.ensures.kept.looks, c.load.new.self.counted);
        touched = c.load.ensures.kept.touched;
        faults = c.in_ok-load.ensures.cause.ok;
      };
      looks = c.saturating_add-self.ensures ∙ ap one_more c.load.ensures.kept.looks;
      holds = ap is_some found.2;
      uses = record { used = c.in_ok-load.ensures.uses.used; refused = tt };
      held = λ h. ap (λ f. below.device_of f) (c.load.ensures.held h).0;
      outside = λ o. ap (λ f. below.device_of f) (c.load.ensures.outside o).1;
    }

pub returns-in_err-load-clause-looked_at : goal.returns-in_err-load-clause-looked_at
returns-in_err-load-clause-looked_at g c = record {
  asks = record {
    gate = c.load.ensures.kept.gate;
    map = map_kept c.args.self.now c.load.new.self c.load.ensures.kept;
    capacity = c.load.ensures.kept.capacity;
    looks = omega (arith, c.load.ensures.kept.looks);
    touched = c.load.ensures.kept.touched;
    faults = search rules;
  };
  looks = search rules;
  holds = search rules;
  uses = uses_refused c.args.self.now c.load.new.self c.args.n c.in_err-load.field-0.0 c.from_residual.result
      c.from_residual.ensures.1 c.in_err-load.ensures.uses.refused;
  held = λ h. ap (λ f. below.device_of f) (c.load.ensures.held h).0;
  outside = λ o. ap (λ f. below.device_of f) (c.load.ensures.outside o).1;
}

pub returns-clause-first : goal.returns-clause-first
returns-clause-first g c =
    let found = first-found c.args.n c.load.new.self.frames.entries c.in_ok-load.ensures.first in (
      found.0,
      found.1,
      λ h. sym ((map_kept c.args.self.now c.load.new.self c.load.ensures.kept).given_stay h c.args.n)
          ∙ given_held c.load.new.self c.args.n found.0 (c.load.ensures.kept.gate.honest.0 h) found.2,
    )
