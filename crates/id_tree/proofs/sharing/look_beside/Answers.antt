-- The places and the pages are those of children of the fork.
use Rattle.std.proofs.Common.{◌≡◌, ◌∙◌, ◌+◌, ◌-◌, ◌<◌, ℕ, IsSome, Some, length, refl, sym, ap, subst, arith}
use Rattle.page_file.specs.Fault.{IsOfDevice}
use Rattle.page_file.specs.declared.fault.Fault.TheVariants as fault
use Rattle.page_cache.specs.Cache.{pages, given}
use Rattle.node_page.proofs.NodeLemmas.{at_error}
use Rattle.id_page.specs.Fork.{Link}
use Rattle.id_page.proofs.ForkReading.{fork_spells, some_link}
use Rattle.id_tree.specs.Checked.{ComesInTree}
use Rattle.id_tree.proofs.DamageLemmas.{comes_at, comes_down, comes_to_one, damaged_is}
use Rattle.id_tree.proofs.GivenLemmas.{comes_here}
use Rattle.id_tree.proofs.NodeLemmas.{fork_bytes, there_of_fork}
use Rattle.id_tree.proofs.SharingLemmas.{emptier_before, emptier_behind}
use Rattle.id_tree.proofs.SplitLemmas.{live_same}
use Rattle.id_tree.proofs.sharing.look_beside.Goals as goal

pub returns-in_err-fork-clause-there : goal.returns-in_err-fork-clause-there
returns-in_err-fork-clause-there g c = λ h content there live.
    at_error c.from_residual.result c.in_err-fork.field-0.0 IsOfDevice c.from_residual.ensures.1
    (c.in_err-fork.ensures.there h
    (there_of_fork g.row.D (pages c.args.cache.now c.args.page) content there))

pub returns-then-count-gt-MOST_CHILDREN-clause-there : goal.returns-then-count-gt-MOST_CHILDREN-clause-there
returns-then-count-gt-MOST_CHILDREN-clause-there g c = λ h content there live.
    let D = g.row.D in
    let old = pages c.args.cache.now c.args.page in
    let is = fork_bytes D old c.in_ok-fork.fork content
    (c.in_ok-fork.ensures.bytes h (there_of_fork D old content there)) there in
    absurd (omega (
      arith,
      (fork_spells D c.in_ok-fork.fork content is).head.few,
      c.count_at-count.ensures.value,
      c.if-count-gt-MOST_CHILDREN.true,
    ))

pub returns-then-place-eq0-clause-within : goal.returns-then-place-eq0-clause-within
returns-then-place-eq0-clause-within g c = λ h content there.
    let D = g.row.D in
    let old = pages c.args.cache.now c.args.page in
    let is = fork_bytes D old c.in_ok-fork.fork content
    (c.in_ok-fork.ensures.bytes h (there_of_fork D old content there)) there in
    omega (arith, c.count_at-count.ensures.of_fork D content is, c.if-count-lt2.false)

pub returns-in_err-more-clause-there : goal.returns-in_err-more-clause-there
returns-in_err-more-clause-there g c = λ h content there live.
    let D = g.row.D in
    let map = pages c.args.cache.now in
    let old = map c.args.page in
    let is = fork_bytes D old c.in_ok-fork.fork content
    (c.in_ok-fork.ensures.bytes h (there_of_fork D old content there)) there in
    let count = c.count_at-count.ensures.of_fork D content is in
    let asks = c.in_ok-fork.ensures.asks in
    let one : c.args.place - 1 < length content.links = omega (arith, count, c.if-place-count.false) in
    let two : c.args.place + 1 < length content.links =
    omega (arith, count, c.if-place-count.false, c.if-place-count-2.false) in
    at_error c.from_residual-in_err-more.result c.in_err-more.field-0.0 IsOfDevice
    c.from_residual-in_err-more.ensures.1
    (c.in_err-more.ensures.there (asks.gate.honest.0 h)
    (live_same map (pages c.copy_page.new.cache) c.page_at-before.result (asks.map.pages_stay h)
    (subst (λ n. IsSome (map n)) (sym (c.page_at-before.ensures.of_fork D content some_link is one))
    (live (c.args.place - 1) some_link one)))
    (live_same map (pages c.copy_page.new.cache) c.page_at-behind.result (asks.map.pages_stay h)
    (subst (λ n. IsSome (map n)) (sym (c.page_at-behind.ensures.of_fork D content some_link is two))
    (live (c.args.place + 1) some_link two))))

pub returns-then-count-lt2-clause-some : goal.returns-then-count-lt2-clause-some
returns-then-count-lt2-clause-some g c = λ h content there two within.
    let D = g.row.D in
    let map = pages c.args.cache.now in
    let old = map c.args.page in
    let is = fork_bytes D old c.in_ok-fork.fork content
    (c.in_ok-fork.ensures.bytes h (there_of_fork D old content there)) there in
    let count = c.count_at-count.ensures.of_fork D content is in
    absurd (omega (arith, count, two, within, c.if-count-lt2.true))

pub returns-then-count-lt2-clause-emptier : goal.returns-then-count-lt2-clause-emptier
returns-then-count-lt2-clause-emptier g c = λ h content other before behind there some within first second.
    let D = g.row.D in
    let map = pages c.args.cache.now in
    let old = map c.args.page in
    let is = fork_bytes D old c.in_ok-fork.fork content
    (c.in_ok-fork.ensures.bytes h (there_of_fork D old content there)) there in
    let count = c.count_at-count.ensures.of_fork D content is in
    absurd (omega (arith, count, some, within, c.if-count-lt2.true))

pub returns-then-place-count-clause-some : goal.returns-then-place-count-clause-some
returns-then-place-count-clause-some g c = λ h content there two within.
    let D = g.row.D in
    let map = pages c.args.cache.now in
    let old = map c.args.page in
    let is = fork_bytes D old c.in_ok-fork.fork content
    (c.in_ok-fork.ensures.bytes h (there_of_fork D old content there)) there in
    let count = c.count_at-count.ensures.of_fork D content is in
    absurd (omega (arith, count, two, within, c.if-place-count.true))

pub returns-then-place-count-clause-emptier : goal.returns-then-place-count-clause-emptier
returns-then-place-count-clause-emptier g c = λ h content other before behind there some within first second.
    let D = g.row.D in
    let map = pages c.args.cache.now in
    let old = map c.args.page in
    let is = fork_bytes D old c.in_ok-fork.fork content
    (c.in_ok-fork.ensures.bytes h (there_of_fork D old content there)) there in
    let count = c.count_at-count.ensures.of_fork D content is in
    absurd (omega (arith, count, some, within, c.if-place-count.true))

pub returns-then-place-count-2-clause-emptier : goal.returns-then-place-count-2-clause-emptier
returns-then-place-count-2-clause-emptier g c = λ h content other before behind there some within first second.
    let D = g.row.D in
    let map = pages c.args.cache.now in
    let old = map c.args.page in
    let is = fork_bytes D old c.in_ok-fork.fork content
    (c.in_ok-fork.ensures.bytes h (there_of_fork D old content there)) there in
    let count = c.count_at-count.ensures.of_fork D content is in
    absurd (omega (arith, count, some, within, c.if-place-count-2.true))

pub returns-then-more-clause-emptier : goal.returns-then-more-clause-emptier
returns-then-more-clause-emptier g c = λ h content other before behind there some within first second.
    let D = g.row.D in
    let map = pages c.args.cache.now in
    let old = map c.args.page in
    let is = fork_bytes D old c.in_ok-fork.fork content
    (c.in_ok-fork.ensures.bytes h (there_of_fork D old content there)) there in
    let count = c.count_at-count.ensures.of_fork D content is in
    let asks = c.in_ok-fork.ensures.asks in
    let one : c.args.place - 1 < length content.links = omega (arith, within) in
    let is_first = asks.map.pages_stay h c.page_at-before.result
    ∙ ap map (c.page_at-before.ensures.of_fork D content other is one) ∙ first in
    let is_second = asks.map.pages_stay h c.page_at-behind.result
    ∙ ap map (c.page_at-behind.ensures.of_fork D content other is within) ∙ second in
    ap (λ (k : ℕ). Some k) (emptier_behind c.args.place before behind
    (c.in_ok-more.ensures.more (asks.gate.honest.0 h) before behind is_first is_second c.if-more.true))

pub returns-clause-emptier : goal.returns-clause-emptier
returns-clause-emptier g c = λ h content other before behind there some within first second.
    let D = g.row.D in
    let map = pages c.args.cache.now in
    let old = map c.args.page in
    let is = fork_bytes D old c.in_ok-fork.fork content
    (c.in_ok-fork.ensures.bytes h (there_of_fork D old content there)) there in
    let count = c.count_at-count.ensures.of_fork D content is in
    let asks = c.in_ok-fork.ensures.asks in
    let one : c.args.place - 1 < length content.links = omega (arith, within) in
    let is_first = asks.map.pages_stay h c.page_at-before.result
    ∙ ap map (c.page_at-before.ensures.of_fork D content other is one) ∙ first in
    let is_second = asks.map.pages_stay h c.page_at-behind.result
    ∙ ap map (c.page_at-behind.ensures.of_fork D content other is within) ∙ second in
    ap (λ (k : ℕ). Some k) (emptier_before c.args.place before behind
    (c.in_ok-more.ensures.less (asks.gate.honest.0 h) before behind is_first is_second c.if-more.false))

pub returns-in_err-fork-clause-damage : goal.returns-in_err-fork-clause-damage
returns-in_err-fork-clause-damage g c = λ h content there.
    at_error c.from_residual.result c.in_err-fork.field-0.0 _
    c.from_residual.ensures.1 (λ n damaged.
    comes_at g.row.D (given c.args.cache.now) c.args.page n c.in_err-fork.field-0.0
    (c.in_err-fork.ensures.damage h) damaged)

pub returns-then-count-gt-MOST_CHILDREN-clause-damage : goal.returns-then-count-gt-MOST_CHILDREN-clause-damage
returns-then-count-gt-MOST_CHILDREN-clause-damage g c =
    λ h content there n (damaged : fault.Damaged c.args.page ≡ fault.Damaged n).
    comes_here g.row.D (given c.args.cache.now) c.args.page n (damaged_is c.args.page n damaged)

pub returns-in_err-more-clause-damage : goal.returns-in_err-more-clause-damage
returns-in_err-more-clause-damage g c = λ h content there.
    let D = g.row.D in
    let m = given c.args.cache.now in
    let page = c.args.page in
    let before = c.page_at-before.result in
    let behind = c.page_at-behind.result in
    let is = fork_bytes D (m page) c.in_ok-fork.fork content (c.in_ok-fork.ensures.given_bytes h) there in
    let count = c.count_at-count.ensures.of_fork D content is in
    let one : c.args.place - 1 < length content.links = omega (arith, count, c.if-place-count.false) in
    let two : c.args.place + 1 < length content.links =
    omega (arith, count, c.if-place-count.false, c.if-place-count-2.false) in
    let first : ComesInTree D m page before = comes_down D m page before before (
      content,
      there,
      (
        c.args.place - 1,
        one,
        λ (other : Link). sym (c.page_at-before.ensures.of_fork D content other is one),
      ),
    )
    (comes_here D m before before refl) in
    let second : ComesInTree D m page behind = comes_down D m page behind behind (
      content,
      there,
      (
        c.args.place + 1,
        two,
        λ (other : Link). sym (c.page_at-behind.ensures.of_fork D content other is two),
      ),
    )
    (comes_here D m behind behind refl) in
    at_error c.from_residual-in_err-more.result c.in_err-more.field-0.0 _
    c.from_residual-in_err-more.ensures.1 (λ n damaged.
    comes_to_one D m page before behind n first second
    (c.in_err-more.ensures.damage (c.in_ok-fork.ensures.asks.gate.honest.0 h) n damaged))
