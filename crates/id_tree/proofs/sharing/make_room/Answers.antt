-- The pair shares, or the child is split.
use Rattle.id_tree.proofs.WorksLemmas.{works_from, works_refused}
use Rattle.id_tree.proofs.JoinLemmas.{join_same}
use Rattle.std.proofs.Common.{◌≡◌, ◌+◌, ◌<◌, ◌≤◌, ◌⊎◌, ⊎_elim, IsSome, inl, inr, refl, subst, arith}
use Rattle.block_bytes.specs.Numbers.{number_at}
use Rattle.page_cache.specs.Cache.{pages, given}
use Rattle.node_page.proofs.NodeLemmas.{at_error}
use Rattle.id_words.specs.Damage.{MayBreakAt}
use Rattle.id_tree.specs.Checked.{ComesInTree, Names}
use Rattle.id_tree.specs.Joining.{MayShare}
use Rattle.id_tree.specs.declared.pairs.Pair.{Pair}
use Rattle.id_tree.proofs.DamageLemmas.{breaks_kept, comes_down, comes_to_one}
use Rattle.id_tree.proofs.GivenLemmas.{comes_here}
use Rattle.id_tree.proofs.ResultLemmas.{if_err, some_is}
use Rattle.id_tree.proofs.SplitLemmas.{makes_from, split_again}
use Rattle.id_tree.proofs.sharing.make_room.Goals as goal

pub share-requires : goal.share-requires
share-requires g c = record {
  high = c.requires.high;
  within = some_is c.in_ok-roomy.roomy c.in-Some.pair (λ (p : Pair). p.left + 1 < number_at 2 2 p.fork)
      c.in-Some.is c.in_ok-roomy.ensures.within;
  few = some_is c.in_ok-roomy.roomy c.in-Some.pair (λ (p : Pair). number_at 2 2 p.fork ≤ 340)
      c.in-Some.is c.in_ok-roomy.ensures.few;
}

pub returns-in_err-roomy-clause-damage : goal.returns-in_err-roomy-clause-damage
returns-in_err-roomy-clause-damage g c = λ h none names.
    at_error c.from_residual.result c.in_err-roomy.field-0.0 _
    c.from_residual.ensures.1
    (λ n damaged. inl (c.in_err-roomy.ensures.damage h names.0 names.1 n damaged))

-- ---- it is split

pub returns-in_default-clause-touched : goal.returns-in_default-clause-touched
returns-in_default-clause-touched g c = c.split.ensures.touched

pub returns-in_default-clause-damage : goal.returns-in_default-clause-damage
returns-in_default-clause-damage g c = λ h none names.
    let D = g.row.D in
    let old = c.args.cache.now in
    let mid = c.look_roomy.new.cache in
    let page = c.args.page in
    let p = c.args.below.now.child in
    let asks = c.in_ok-roomy.ensures.asks in
    if_err c.split.result _ _
    (λ f either n damaged. ⊎_elim
    (λ (at : (n ≡ page) ⊎ (n ≡ p)). inl (comes_to_one D (given old) page page p n
    (comes_here D (given old) page page refl)
    (comes_down D (given old) page p p names (comes_here D (given old) p p refl)) at))
    (λ (breaks : MayBreakAt mid n). inr (breaks_kept old mid n asks.map h breaks))
    (either n damaged))
    (c.split.ensures.damage (asks.gate.honest.0 h) none)

pub returns-in_default-clause-shares : goal.returns-in_default-clause-shares
returns-in_default-clause-shares g c = λ map row may is wide each.
    let some = c.in_ok-roomy.ensures.shares map.honest c.args.id c.args.below.now.child c.args.below.now.last
    row may is wide each in
    absurd (let never = subst IsSome c.in_default.is some in cc)

-- ---- it shares

pub returns-clause-shares : goal.returns-clause-shares
returns-clause-shares g c = λ map row may is wide each.
    let asks = c.in_ok-roomy.ensures.asks in
    omega (arith, c.share.ensures.grows, asks.map.next, asks.map.free_count)

pub returns-clause-touched : goal.returns-clause-touched
returns-clause-touched g c = c.share.ensures.touched

pub returns-clause-damage : goal.returns-clause-damage
returns-clause-damage g c = λ h none names.
    let D = g.row.D in
    let old = c.args.cache.now in
    let m = given old in
    let page = c.args.page in
    let p = c.in-Some.pair in
    let both = some_is c.in_ok-roomy.roomy p (λ (q : Pair). Names names.0 q.first × Names names.0 q.second)
    c.in-Some.is (c.in_ok-roomy.ensures.names h names.0 names.1) in
    let first : ComesInTree D m page p.first = comes_down D m page p.first p.first
    (names.0, names.1, both.0) (comes_here D m p.first p.first refl) in
    let second : ComesInTree D m page p.second = comes_down D m page p.second p.second
    (names.0, names.1, both.1) (comes_here D m p.second p.second refl) in
    if_err c.share.result _ _
    (λ f either n damaged. inl (comes_to_one D m page p.first p.second n first second (either n damaged)))
    (c.share.ensures.damage (c.in_ok-roomy.ensures.asks.gate.honest.0 h) none)

-- ---- what is made

pub returns-in_err-roomy-clause-makes : goal.returns-in_err-roomy-clause-makes
returns-in_err-roomy-clause-makes g c = λ map row may.
    works_refused c.in_err-roomy.field-0.0 c.from_residual.ensures.1
    (c.in_err-roomy.ensures.asks.map.sound.0 map)
    (inl (c.in_err-roomy.ensures.there map.honest c.args.id c.args.below.now.child c.args.below.now.last row
    may))

pub returns-in_default-clause-makes : goal.returns-in_default-clause-makes
returns-in_default-clause-makes g c = λ map row may.
    let D = g.row.D in
    let page = c.args.page in
    let level = c.args.level in
    let edge = c.args.edge in
    let id = c.args.id in
    let b = c.args.below.now in
    let old = pages c.args.cache.now in
    let mid = pages c.look_roomy.new.cache in
    let asks = c.in_ok-roomy.ensures.asks in
    let same = asks.map.pages_stay map.honest in
    works_from (c.split.ensures.splits (asks.map.sound.0 map) edge row
    (split_again D old mid page level edge row id b.child b.place b.last same may)) same
    (λ r m. makes_from D old mid (pages c.split.new.cache) page level edge row id r.0 r.1 same m.room)
    (λ f why. why)

pub returns-clause-makes : goal.returns-clause-makes
returns-clause-makes g c = λ map row may.
    let D = g.row.D in
    let page = c.args.page in
    let level = c.args.level in
    let edge = c.args.edge in
    let id = c.args.id in
    let b = c.args.below.now in
    let old = pages c.args.cache.now in
    let mid = pages c.look_roomy.new.cache in
    let asks = c.in_ok-roomy.ensures.asks in
    let same = asks.map.pages_stay map.honest in
    let p = c.in-Some.pair in
    let share = some_is c.in_ok-roomy.roomy p (λ (q : Pair).
    MayShare D old page level edge row id q.fork q.left q.first q.second q.key q.last) c.in-Some.is
    (c.in_ok-roomy.ensures.pair map.honest id b.child b.last row may) in
    works_from (c.share.ensures.shares (asks.map.sound.0 map) edge row (join_same share.join same) share.many)
    same (λ r out. makes_from D old mid (pages c.share.new.cache) page level edge row id r.0 r.1 same
    (out.room share.room)) (λ f why. inl why)
