-- A layer of two axes or of three.
use Rattle.std.proofs.Common.{◌≡◌, ℕ, subst, arith}
use Rattle.layer_pages.specs.Layers.{IsLayerAt}
use Rattle.page_cache.specs.Cache.{pages}
use Rattle.live_layers.proofs.layers.dropping.take_layer.free_pages.Goals as goal

pub returns-then-located-eq2-clause-sound : goal.returns-then-located-eq2-clause-sound
returns-then-located-eq2-clause-sound g c = λ map l most objects at.
    let there = c.args.located.now in
    c.free.ensures.sound map l most objects
    (subst (λ (k : ℕ). IsLayerAt k most (pages c.args.cache.now) there.root there.ids_root l objects)
    c.if-located-eq2.true at)

pub returns-then-located-eq2-clause-freed : goal.returns-then-located-eq2-clause-freed
returns-then-located-eq2-clause-freed g c = λ map l most objects at.
    let there = c.args.located.now in
    c.free.ensures.freed map l most objects
    (subst (λ (k : ℕ). IsLayerAt k most (pages c.args.cache.now) there.root there.ids_root l objects)
    c.if-located-eq2.true at)

pub returns-then-located-eq2-clause-faults : goal.returns-then-located-eq2-clause-faults
returns-then-located-eq2-clause-faults g c = λ map l most objects at.
    let there = c.args.located.now in
    c.free.ensures.faults map l most objects
    (subst (λ (k : ℕ). IsLayerAt k most (pages c.args.cache.now) there.root there.ids_root l objects)
    c.if-located-eq2.true at)

pub returns-else-located-eq2-clause-sound : goal.returns-else-located-eq2-clause-sound
returns-else-located-eq2-clause-sound g c = λ map l most objects at.
    let there = c.args.located.now in
    let three : there.dims ≡ 3 = omega (arith, c.requires.dims, c.if-located-eq2.false) in
    c.free-else-located-eq2.ensures.sound map l most objects
    (subst (λ (k : ℕ). IsLayerAt k most (pages c.args.cache.now) there.root there.ids_root l objects)
    three at)

pub returns-else-located-eq2-clause-freed : goal.returns-else-located-eq2-clause-freed
returns-else-located-eq2-clause-freed g c = λ map l most objects at.
    let there = c.args.located.now in
    let three : there.dims ≡ 3 = omega (arith, c.requires.dims, c.if-located-eq2.false) in
    c.free-else-located-eq2.ensures.freed map l most objects
    (subst (λ (k : ℕ). IsLayerAt k most (pages c.args.cache.now) there.root there.ids_root l objects)
    three at)

pub returns-else-located-eq2-clause-faults : goal.returns-else-located-eq2-clause-faults
returns-else-located-eq2-clause-faults g c = λ map l most objects at.
    let there = c.args.located.now in
    let three : there.dims ≡ 3 = omega (arith, c.requires.dims, c.if-located-eq2.false) in
    c.free-else-located-eq2.ensures.faults map l most objects
    (subst (λ (k : ℕ). IsLayerAt k most (pages c.args.cache.now) there.root there.ids_root l objects)
    three at)
