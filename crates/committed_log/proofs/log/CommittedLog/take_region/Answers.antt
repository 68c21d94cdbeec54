-- The region behind the others is taken in, with a flag behind it.
use Rattle.std.proofs.Common.{◌≡◌, ◌∙◌, ℕ, ap, arith, false, inl, inr, length}
use Rattle.std.proofs.Common.{⊎_elim, refl, subst, sym, take}
use Rattle.std.proofs.lemmas.List.{length-append}
use Rattle.block_device.specs.Device.{Blocks, block_at}
use Rattle.device_pair.specs.Pairs.{PairLeaves}
use Rattle.device_pair.specs.Runs.{pair_started}
use Rattle.committed_log.specs.Committed.{base_of, behind_of, homes_of, journal_of, seen_of, slots_of}
use Rattle.committed_log.specs.Committed.{IsHonest}
use Rattle.committed_log.specs.Log.{overlaid, recovered, region_of, says, size_of}
use Rattle.committed_log.specs.Region.{HasSlots, IsRegion}
use Rattle.committed_log.specs.Regions.{length_region}
use Rattle.committed_log.specs.Room.{HasRoomFor}
use Rattle.committed_log.proofs.Adding.{flag_behind, kept_size, region_kept, slots_as, slots_room, slots_size}
use Rattle.committed_log.proofs.Adding.{taken_recovers}
use Rattle.committed_log.proofs.Keeping.{SameRead, behind_same, same_pair, seen_same}
use Rattle.committed_log.proofs.Reading.{durable_on}
use Rattle.committed_log.specs.Appending.{AppendsOnly}
use Rattle.committed_log.proofs.Appending.{appends_pair, appends_then}
use Rattle.committed_log.proofs.log.CommittedLog.take_region.Given as given
use Rattle.committed_log.proofs.log.CommittedLog.take_region.Goals as goal
use Rattle.committed_log.proofs.log.CommittedLog.take_region.Goals.{After-add_flag, After-reserve, In_ok-add_flag}

same_so : (g : given.Over) (c : After-reserve g) → SameRead c.args.self.now c.reserve.new.self
same_so g c = same_pair c.args.self.now c.reserve.new.self c.reserve.ensures.pair c.reserve.ensures.homes

honest_so : (g : given.Over) (c : After-reserve g) → IsHonest c.args.self.now → IsHonest c.reserve.new.self
honest_so g c h = subst g.P.DevicePair.honest (sym c.reserve.ensures.pair) h

was_honest : (g : given.Over) (c : After-reserve g) → IsHonest c.reserve.new.self → IsHonest c.args.self.now
was_honest g c h = subst g.P.DevicePair.honest c.reserve.ensures.pair h

back_so : (g : given.Over) (c : After-reserve g)
    → recovered (seen_of c.reserve.new.self) (behind_of c.reserve.new.self)
    ≡ recovered (seen_of c.args.self.now) (behind_of c.args.self.now)
back_so g c =
    let d = c.args.self.now in let r = c.reserve.new.self in
    ap (λ (x : Blocks). recovered x (behind_of r)) (seen_same d r (same_so g c))
    ∙ ap (recovered (seen_of d)) (behind_same d r (same_so g c))

has_so : (g : given.Over) (c : After-reserve g) → IsHonest c.args.self.now
    → HasSlots c.args.homes.now (length (seen_of c.reserve.new.self)) (behind_of c.reserve.new.self)
has_so g c h =
    let d = c.args.self.now in let r = c.reserve.new.self in
    slots_as c.args.homes.now (length (seen_of d)) (length (seen_of r)) (behind_of d) (behind_of r)
    (ap length (seen_same d r (same_so g c))) (behind_same d r (same_so g c)) (c.requires.slots h)

-- ---- the flag

pub add_flag-requires-clause-durable : goal.add_flag-requires-clause-durable
add_flag-requires-clause-durable g c = λ h.
    let at = (goal.at.add_flag-requires-clause-durable g c).After-reserve in
    durable_on c.args.self.now c.reserve.new.self (same_so g at) (c.requires.durable (was_honest g at h))

pub add_flag-requires-clause-size : goal.add_flag-requires-clause-size
add_flag-requires-clause-size g c = λ h.
    let at = (goal.at.add_flag-requires-clause-size g c).After-reserve in
    let r = c.reserve.new.self in
    c.region_blocks.ensures
    ∙ slots_size c.args.homes.now (length (seen_of r)) (behind_of r) (has_so g at (was_honest g at h))

pub add_flag-requires-clause-there : goal.add_flag-requires-clause-there
add_flag-requires-clause-there g c = λ h.
    let at = (goal.at.add_flag-requires-clause-there g c).After-reserve in
    let r = c.reserve.new.self in
    let has = has_so g at (was_honest g at h) in
    omega (
      arith,
      c.region_blocks.ensures,
      slots_size c.args.homes.now (length (seen_of r)) (behind_of r) has,
      slots_room c.args.homes.now (length (seen_of r)) (behind_of r) has,
    )

-- ---- the region

-- what stands behind the regions then
region_so : (g : given.Over) (c : In_ok-add_flag g)
    → HasSlots c.args.homes.now (length (seen_of c.reserve.new.self)) (behind_of c.reserve.new.self)
    → IsHonest c.reserve.new.self
    → IsRegion c.args.homes.now (length (seen_of c.add_flag.new.self)) (behind_of c.add_flag.new.self)
region_so g c has h =
    let slots = c.args.homes.now in let r = c.reserve.new.self in let f = c.add_flag.new.self in
    let size : c.region_blocks.result ≡ size_of (behind_of r) =
    c.region_blocks.ensures ∙ slots_size slots (length (seen_of r)) (behind_of r) has in
    region_kept slots (length (seen_of f)) (behind_of r) (behind_of f)
    (slots_as slots (length (seen_of r)) (length (seen_of f)) (behind_of r) (behind_of r)
    (ap length (c.add_flag.ensures.seen h)) refl has)
    (subst (λ (n : ℕ). take n (behind_of f) ≡ take n (behind_of r)) size (c.add_flag.ensures.region h))
    (omega (arith, size, c.in_ok-add_flag.ensures.there h))

pub take_in-requires-clause-room : goal.take_in-requires-clause-room
take_in-requires-clause-room g c =
    let slots = c.args.homes.now in let r = c.reserve.new.self in
    subst (HasRoomFor (length (region_of slots))) (sym c.add_flag.ensures.log.slots)
    (subst (λ (k : ℕ). HasRoomFor k (slots_of r)) (sym (length_region slots)) c.in_ok-reserve.ensures.room)

pub take_in-requires-clause-region : goal.take_in-requires-clause-region
take_in-requires-clause-region g c = λ h2.
    let at = goal.at.take_in-requires-clause-region g c in
    let h1 = c.add_flag.ensures.honest.1 h2 in
    region_so g at.In_ok-add_flag (has_so g at.After-reserve (was_honest g at.After-reserve h1)) h1

pub take_in-requires-clause-durable : goal.take_in-requires-clause-durable
take_in-requires-clause-durable g c = λ h2.
    c.in_ok-add_flag.ensures.durable (c.add_flag.ensures.honest.1 h2)

-- ---- what is returned

pub returns-in_err-reserve-clause-seen : goal.returns-in_err-reserve-clause-seen
returns-in_err-reserve-clause-seen g c = λ h.
    back_so g (goal.at.returns-in_err-reserve-clause-seen g c).After-reserve

pub returns-in_err-reserve-clause-base : goal.returns-in_err-reserve-clause-base
returns-in_err-reserve-clause-base g c = λ h. ap g.P.DevicePair.base c.reserve.ensures.pair

pub returns-in_err-reserve-clause-stops : goal.returns-in_err-reserve-clause-stops
returns-in_err-reserve-clause-stops g c = λ h.
    let d = c.args.self.now in let p = g.P.DevicePair in
    subst (λ (x : _). PairLeaves p.moment p.left_since d.pair x
    (λ a b. recovered a b ≡ recovered (base_of d) (journal_of d))) (sym c.reserve.ensures.pair)
    (pair_started p.moment p.left_since d.pair _)

pub returns-in_err-reserve-clause-honest : goal.returns-in_err-reserve-clause-honest
returns-in_err-reserve-clause-honest g c =
    let at = (goal.at.returns-in_err-reserve-clause-honest g c).After-reserve in
    (honest_so g at, was_honest g at)

pub returns-in_err-add_flag-clause-seen : goal.returns-in_err-add_flag-clause-seen
returns-in_err-add_flag-clause-seen g c = λ h.
    let at = (goal.at.returns-in_err-add_flag-clause-seen g c).After-reserve in
    c.add_flag.ensures.same (honest_so g at h) ∙ back_so g at

pub returns-in_err-add_flag-clause-base : goal.returns-in_err-add_flag-clause-base
returns-in_err-add_flag-clause-base g c = λ h.
    let at = (goal.at.returns-in_err-add_flag-clause-base g c).After-reserve in
    c.add_flag.ensures.base (honest_so g at h) ∙ ap g.P.DevicePair.base c.reserve.ensures.pair

-- a stop leaves what is recovered to the same
stops_so : (g : given.Over) (c : After-add_flag g) → (IsHonest c.args.self.now → IsHonest c.reserve.new.self)
    → IsHonest c.args.self.now
    → PairLeaves g.P.DevicePair.moment g.P.DevicePair.left_since c.args.self.now.pair
    c.add_flag.new.self.pair
    (λ a b. recovered a b ≡ recovered (base_of c.args.self.now) (journal_of c.args.self.now))
stops_so g c honest h =
    let d = c.args.self.now in let r = c.reserve.new.self in let f = c.add_flag.new.self in
    let p = g.P.DevicePair in
    subst (λ (x : _). PairLeaves p.moment p.left_since x f.pair
    (λ a b. recovered a b ≡ recovered (p.base x) (p.journal x))) c.reserve.ensures.pair
    (c.add_flag.ensures.stops (honest h))

pub returns-in_err-add_flag-clause-stops : goal.returns-in_err-add_flag-clause-stops
returns-in_err-add_flag-clause-stops g c = λ h.
    let at = goal.at.returns-in_err-add_flag-clause-stops g c in
    stops_so g at.After-add_flag (honest_so g at.After-reserve) h

pub returns-in_err-add_flag-clause-honest : goal.returns-in_err-add_flag-clause-honest
returns-in_err-add_flag-clause-honest g c =
    let at = (goal.at.returns-in_err-add_flag-clause-honest g c).After-reserve in (
      λ h. c.add_flag.ensures.honest.0 (honest_so g at h),
      λ h2. was_honest g at (c.add_flag.ensures.honest.1 h2),
    )

pub returns-clause-seen : goal.returns-clause-seen
returns-clause-seen g c = λ h.
    let at = goal.at.returns-clause-seen g c in
    let slots = c.args.homes.now in let f = c.add_flag.new.self in let t = c.take_in.new.self in
    let h1 = honest_so g at.After-reserve h in let h2 = c.add_flag.ensures.honest.0 h1 in
    ap (λ (x : Blocks). recovered x (behind_of t)) (c.take_in.ensures.seen h2)
    ∙ ap (recovered (overlaid (region_of slots) (behind_of f) (seen_of f))) (c.take_in.ensures.behind h2)
    ∙ taken_recovers slots (length (seen_of f)) (seen_of f) (behind_of f)
    (region_so g at.In_ok-add_flag (has_so g at.After-reserve h) h1)
    ∙ c.add_flag.ensures.same h1 ∙ back_so g at.After-reserve

pub returns-clause-more : goal.returns-clause-more
returns-clause-more g c =
    let slots = c.args.homes.now in let f = c.add_flag.new.self in
    omega (
      arith,
      ap length c.take_in.ensures.homes,
      length-append (homes_of f) (region_of slots),
      length_region slots,
      ap length c.add_flag.ensures.log.homes,
      ap length c.reserve.ensures.homes,
    )

pub returns-clause-durable : goal.returns-clause-durable
returns-clause-durable g c = λ h.
    let at = goal.at.returns-clause-durable g c in
    c.take_in.ensures.durable (c.add_flag.ensures.honest.0 (honest_so g at.After-reserve h))

pub returns-clause-base : goal.returns-clause-base
returns-clause-base g c = λ h.
    let at = goal.at.returns-clause-base g c in
    ap g.P.DevicePair.base c.take_in.ensures.pair
    ∙ c.add_flag.ensures.base (honest_so g at.After-reserve h)
    ∙ ap g.P.DevicePair.base c.reserve.ensures.pair

pub returns-clause-journal : goal.returns-clause-journal
returns-clause-journal g c = λ h.
    let at = goal.at.returns-clause-journal g c in
    let slots = c.args.homes.now in
    let r = c.reserve.new.self in let f = c.add_flag.new.self in let t = c.take_in.new.self in
    let h1 = honest_so g at.After-reserve h in let h2 = c.add_flag.ensures.honest.0 h1 in
    let has = has_so g at.After-reserve h in
    let size : c.region_blocks.result ≡ size_of (behind_of f) =
    c.region_blocks.ensures ∙ slots_size slots (length (seen_of r)) (behind_of r) has
    ∙ sym (kept_size slots (length (seen_of r)) (length (seen_of f)) (behind_of r) (behind_of f) has
    (region_so g at.In_ok-add_flag has h1)) in
    ⊎_elim
    (λ (same : journal_of f ≡ journal_of r). inl
    (ap g.P.DevicePair.journal c.take_in.ensures.pair ∙ same
    ∙ ap g.P.DevicePair.journal c.reserve.ensures.pair))
    (λ (unsaid : says (block_at c.region_blocks.result (behind_of f)) ≡ false). inr
    (ap (λ (b : Blocks). says (block_at 0 b)) (c.take_in.ensures.behind h2)
    ∙ flag_behind c.region_blocks.result (behind_of f) size unsaid))
    (c.in_ok-add_flag.ensures.flag h1)

pub returns-clause-stops : goal.returns-clause-stops
returns-clause-stops g c = λ h.
    let at = goal.at.returns-clause-stops g c in
    let d = c.args.self.now in let p = g.P.DevicePair in
    subst (λ (x : _). PairLeaves p.moment p.left_since d.pair x
    (λ a b. recovered a b ≡ recovered (base_of d) (journal_of d))) (sym c.take_in.ensures.pair)
    (stops_so g at.After-add_flag (honest_so g at.After-reserve) h)

pub returns-clause-honest : goal.returns-clause-honest
returns-clause-honest g c =
    let at = goal.at.returns-clause-honest g c in (
      λ h. subst g.P.DevicePair.honest (sym c.take_in.ensures.pair)
          (c.add_flag.ensures.honest.0 (honest_so g at.After-reserve h)),
      λ h3. was_honest g at.After-reserve
          (c.add_flag.ensures.honest.1 (subst g.P.DevicePair.honest c.take_in.ensures.pair h3)),
    )

added_so : (g : given.Over) (c : After-add_flag g) → IsHonest c.reserve.new.self
    → AppendsOnly c.args.self.now c.add_flag.new.self
added_so g c h1 =
    appends_then c.args.self.now c.reserve.new.self c.add_flag.new.self
    (appends_pair c.args.self.now c.reserve.new.self c.reserve.ensures.pair) (c.add_flag.ensures.appends h1)

pub returns-in_err-reserve-clause-appends : goal.returns-in_err-reserve-clause-appends
returns-in_err-reserve-clause-appends g c = λ h.
    appends_pair c.args.self.now c.reserve.new.self c.reserve.ensures.pair

pub returns-in_err-add_flag-clause-appends : goal.returns-in_err-add_flag-clause-appends
returns-in_err-add_flag-clause-appends g c = λ h.
    added_so g (goal.at.returns-in_err-add_flag-clause-appends g c).After-add_flag
    (honest_so g (goal.at.returns-in_err-add_flag-clause-appends g c).After-reserve h)

pub returns-clause-appends : goal.returns-clause-appends
returns-clause-appends g c = λ h.
    appends_then c.args.self.now c.add_flag.new.self c.take_in.new.self
    (added_so g (goal.at.returns-clause-appends g c).After-add_flag
    (honest_so g (goal.at.returns-clause-appends g c).After-reserve h))
    (appends_pair c.add_flag.new.self c.take_in.new.self c.take_in.ensures.pair)
