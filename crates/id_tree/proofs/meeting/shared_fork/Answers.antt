-- The cut is before a child of the first fork, or of the second one.
use Rattle.std.proofs.Common.{◌∙◌, ◌+◌, ◌-◌, ◌/◌, ◌++◌, Some, drop, take, ap, arith}
use Rattle.std.proofs.Common.{length-append, length-drop}
use Rattle.std.proofs.lemmas.List.{length-take-le}
use Rattle.id_page.specs.Fork.{with_links}
use Rattle.id_page.proofs.ForkReading.{count_of_fork}
use Rattle.id_tree.specs.Joining.{with_key}
use Rattle.id_tree.proofs.MeetLemmas.{length-with_key}
use Rattle.id_tree.proofs.ShareLemmas.{fork_balanced, fork_first, fork_second}
use Rattle.id_tree.proofs.meeting.shared_fork.Goals as goal

pub returns-then-many-count-clause-cuts : goal.returns-then-many-count-clause-cuts
returns-then-many-count-clause-cuts c = λ D edge content d one level_is two d_level.
    let level = c.args.level in
    let behind = c.with_first_key-behind.ensures.keyed D d two in
    let ys = with_key c.args.key d.links in
    let same = length-with_key c.args.key d.links in
    let a = count_of_fork D c.args.one.now content one in
    let b = count_of_fork D c.args.two.now d two in
    let count = c.count_at-count.ensures.value in
    let other_count = c.count_at.ensures.value in
    let m = (c.count_at-count.result + c.count_at.result) / 2 in
    fork_first D level edge content.links ys c.cut_first.result.key m c.cut_first.result.first
    c.cut_first.result.second
    (omega (arith, a, b, same, c.requires.many))
    (omega (arith, count, other_count, c.requires.few_one, c.requires.few_two))
    (omega (arith, count, other_count, c.requires.many))
    (omega (arith, a, b, same, count, other_count, c.requires.many))
    (omega (arith, a, count, c.if-many-count.true))
    (λ other. c.cut_first.ensures.key D content other one)
    (c.cut_first.ensures.first D content one
    ∙ ap (λ l. Some (record { level = l; links = take m content.links })) level_is)
    (c.cut_first.ensures.second D content (with_links d ys) one behind)

pub returns-then-many-count-clause-balanced : goal.returns-then-many-count-clause-balanced
returns-then-many-count-clause-balanced c = λ D content d one two.
    let level = c.args.level in
    let behind = c.with_first_key-behind.ensures.keyed D d two in
    let ys = with_key c.args.key d.links in
    let same = length-with_key c.args.key d.links in
    let a = count_of_fork D c.args.one.now content one in
    let b = count_of_fork D c.args.two.now d two in
    let count = c.count_at-count.ensures.value in
    let other_count = c.count_at.ensures.value in
    let m = (c.count_at-count.result + c.count_at.result) / 2 in
    let front = length-take-le m content.links (omega (arith, a, count, c.if-many-count.true)) in
    let back = length-drop m content.links in
    let sum = length-append (drop m content.links) ys in
    fork_balanced D level c.cut_first.result.first c.cut_first.result.second
    (with_links content (take m content.links))
    (record { level = level; links = drop m content.links ++ ys }) c.requires.high
    (c.cut_first.ensures.first D content one) (c.cut_first.ensures.second D content (with_links d ys) one behind)
    (omega (arith, front, count, other_count, c.requires.many))
    (omega (arith, sum, back, same, a, b, count, other_count, c.requires.many, c.if-many-count.true))

pub returns-clause-cuts : goal.returns-clause-cuts
returns-clause-cuts c = λ D edge content d one level_is two d_level.
    let level = c.args.level in
    let behind = c.with_first_key-behind.ensures.keyed D d two in
    let ys = with_key c.args.key d.links in
    let same = length-with_key c.args.key d.links in
    let a = count_of_fork D c.args.one.now content one in
    let b = count_of_fork D c.args.two.now d two in
    let count = c.count_at-count.ensures.value in
    let other_count = c.count_at.ensures.value in
    let m = (c.count_at-count.result + c.count_at.result) / 2 in
    let n = m - c.count_at-count.result in
    fork_second D level edge content.links ys c.cut_second.result.key m c.cut_second.result.first
    c.cut_second.result.second
    (omega (arith, a, b, same, c.requires.many))
    (omega (arith, count, other_count, c.requires.few_one, c.requires.few_two))
    (omega (arith, count, other_count, c.requires.many))
    (omega (arith, a, b, same, count, other_count, c.requires.many)) n
    (omega (arith, a, count, c.if-many-count.false))
    (λ other. c.cut_second.ensures.key D (with_links d ys) other behind)
    (c.cut_second.ensures.first D content (with_links d ys) one behind
    ∙ ap (λ l. Some (record { level = l; links = content.links ++ take n ys })) level_is)
    (c.cut_second.ensures.second D (with_links d ys) behind)

pub returns-clause-balanced : goal.returns-clause-balanced
returns-clause-balanced c = λ D content d one two.
    let level = c.args.level in
    let behind = c.with_first_key-behind.ensures.keyed D d two in
    let ys = with_key c.args.key d.links in
    let same = length-with_key c.args.key d.links in
    let a = count_of_fork D c.args.one.now content one in
    let b = count_of_fork D c.args.two.now d two in
    let count = c.count_at-count.ensures.value in
    let other_count = c.count_at.ensures.value in
    let m = (c.count_at-count.result + c.count_at.result) / 2 in
    let n = m - c.count_at-count.result in
    let front =
    length-take-le n ys
    (omega (arith, a, b, same, count, other_count, c.requires.many, c.if-many-count.false)) in
    let back = length-drop n ys in
    let sum = length-append content.links (take n ys) in
    fork_balanced D level c.cut_second.result.first c.cut_second.result.second
    (with_links content (content.links ++ take n ys)) (record { level = level; links = drop n ys })
    c.requires.high
    (c.cut_second.ensures.first D content (with_links d ys) one behind)
    (c.cut_second.ensures.second D (with_links d ys) behind)
    (omega (arith, sum, front, a, count, other_count, c.requires.many, c.if-many-count.false))
    (omega (arith, back, same, a, b, count, other_count, c.requires.many, c.if-many-count.false))
