-- The goals of `PageCache::fetch` that are proved by hand.
use Rattle.std.proofs.Common.{inl, inr, ◌∙◌, ◌∷◌, arith, ap, refl}
use Rattle.page_cache.proofs.Results.{on_err_map, on_ok_map}
use Rattle.page_cache.specs.Frames.{frame_at}
use Rattle.page_cache.proofs.Behind.{keeps_blocks_below, keeps_in_turn, keeps_same}
use Rattle.page_cache.proofs.Kept.{kept_below}
use Rattle.std.specs.Map.{keys_of}
use Rattle.page_cache.proofs.Uses.{uses_refused, used_absent}
use Rattle.page_cache.proofs.cache.PageCache.fetch.Goals as goal

pub invariant_of-self : goal.invariant_of-self
invariant_of-self g c =
    let cache = c.blank.new.self in
    let kept =
    kept_below cache.file c.read.new.self (frame_at cache.frames.entries)
    (omega (arith, c.read.ensures.map.next)) c.read.ensures.gate.gate c.read.ensures.gate.honest.1
    (λ h n f e clean. c.read.ensures.map.given_stay h n)
    (record { within = cache.within; true_to = cache.true_to; behind_the_gate = cache.behind_the_gate }) in
    record {
      within = kept.within;
      true_to = kept.true_to;
      behind_the_gate = kept.behind_the_gate;
      counted = cache.counted;
    }

pub returns-clause-kept : goal.returns-clause-kept
returns-clause-kept g c =
    let absent = ap (λ f. frame_at f.entries c.args.n) c.blank.ensures.frames
    ∙ c.make_room.ensures.absent c.args.n c.requires.absent in
    keeps_in_turn c.args.self.now c.make_room.new.self c.hold.new.self c.make_room.ensures.kept
    (keeps_in_turn c.make_room.new.self c.blank.new.self c.hold.new.self
    (keeps_same c.make_room.new.self c.blank.new.self c.blank.ensures.same)
    (keeps_in_turn c.blank.new.self _ c.hold.new.self
    (keeps_blocks_below c.blank.new.self _ refl refl refl c.read.ensures.gate c.read.ensures.header
    c.read.ensures.blocks) (c.hold.ensures.kept refl absent)))

pub returns-in_err-read-clause-kept : goal.returns-in_err-read-clause-kept
returns-in_err-read-clause-kept g c =
    keeps_in_turn c.args.self.now c.make_room.new.self _ c.make_room.ensures.kept
    (keeps_in_turn c.make_room.new.self c.blank.new.self _
    (keeps_same c.make_room.new.self c.blank.new.self c.blank.ensures.same)
    (keeps_blocks_below c.blank.new.self _ refl refl refl c.read.ensures.gate c.read.ensures.header
    c.read.ensures.blocks))

pub returns-in_err-make_room-clause-uses : goal.returns-in_err-make_room-clause-uses
returns-in_err-make_room-clause-uses g c =
    uses_refused c.args.self.now c.make_room.new.self c.args.n c.in_err-make_room.field-0.0
    c.from_residual.result c.from_residual.ensures.1 (inl c.in_err-make_room.ensures.refused)

pub returns-in_err-bytes-clause-uses : goal.returns-in_err-bytes-clause-uses
returns-in_err-bytes-clause-uses g c =
    uses_refused c.args.self.now c.blank.new.self c.args.n c.in_err-bytes.field-0.0
    c.from_residual-in_err-bytes.result c.from_residual-in_err-bytes.ensures.1
    (inr (ap (λ d. keys_of d.entries) c.blank.ensures.frames ∙ c.in_ok-make_room.ensures.held))

pub returns-in_err-read-clause-uses : goal.returns-in_err-read-clause-uses
returns-in_err-read-clause-uses g c =
    uses_refused c.args.self.now _ c.args.n c.in_err-read.field-0.0
    c.from_residual-in_err-read.result c.from_residual-in_err-read.ensures.1
    (inr (ap (λ d. keys_of d.entries) c.blank.ensures.frames ∙ c.in_ok-make_room.ensures.held))

pub returns-clause-uses : goal.returns-clause-uses
returns-clause-uses g c =
    let held = ap (λ d. keys_of d.entries) c.blank.ensures.frames ∙ c.in_ok-make_room.ensures.held in
    let absent = ap (λ f. frame_at f.entries c.args.n) c.blank.ensures.frames
    ∙ c.make_room.ensures.absent c.args.n c.requires.absent in record {
      used = on_ok_map c.hold.result (c.hold.ensures.held absent)
          (λ is. is ∙ ap (λ l. c.args.n ∷ l) held
          ∙ used_absent c.args.self.now.frames.cap c.args.n c.args.self.now.frames.entries
          (omega (arith, c.in_ok-make_room.ensures.room, c.make_room.ensures.kept.capacity)) c.requires.absent);
      refused = on_err_map c.hold.result c.hold.ensures.refused_held (λ same. inr (same ∙ held));
    }
