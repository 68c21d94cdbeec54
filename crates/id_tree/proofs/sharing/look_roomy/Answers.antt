-- The pair that was found is one of leaves that may share.
use Rattle.id_tree.proofs.TidyLemmas.{as_tidy_back, fork_as_tidy}
use Rattle.id_tree.proofs.NodeLemmas.{node_there, node_stays}
use Rattle.std.proofs.Common.{◌≡◌, ◌∙◌, ◌-◌, ℕ, None, IsSome, refl, sym, ap, subst, arith}
use Rattle.page_file.specs.Fault.{IsOfDevice}
use Rattle.page_cache.specs.Cache.{pages, given}
use Rattle.page_cache.specs.Calls.{asks_and_refuses, asks_in_turn}
use Rattle.node_page.proofs.NodeLemmas.{at_error}
use Rattle.id_page.specs.Fork.{ForkContent}
use Rattle.id_tree.specs.Checked.{ComesInTree}
use Rattle.id_tree.specs.Tree.{fork_in, links_of}
use Rattle.id_tree.proofs.DamageLemmas.{comes_at, comes_down, comes_to_one}
use Rattle.id_tree.proofs.GivenLemmas.{comes_here}
use Rattle.id_tree.proofs.JoinLemmas.{join_apart, one_node, two_node}
use Rattle.id_tree.proofs.SharingLemmas.{is_beside, links_live, split_joins, split_meets}
use Rattle.id_tree.proofs.SplitLemmas.{live_same, place_within}
use Rattle.id_tree.proofs.sharing.look_roomy.Goals as goal

pub returns-in_err-share-clause-asks : goal.returns-in_err-share-clause-asks
returns-in_err-share-clause-asks g c =
    asks_and_refuses c.args.cache.now c.look_pair.new.cache c.may_share.new.cache c.in_err-share.field-0.0
    c.from_residual-in_err-share.result c.from_residual-in_err-share.ensures.1
    (asks_in_turn c.args.cache.now c.look_beside.new.cache c.look_pair.new.cache None
    c.in_ok-beside.ensures.asks c.in_ok-pair.ensures.asks) c.in_err-share.ensures.asks

pub returns-then-share-clause-asks : goal.returns-then-share-clause-asks
returns-then-share-clause-asks g c =
    asks_in_turn c.args.cache.now c.look_pair.new.cache c.may_share.new.cache None
    (asks_in_turn c.args.cache.now c.look_beside.new.cache c.look_pair.new.cache None
    c.in_ok-beside.ensures.asks c.in_ok-pair.ensures.asks) c.in_ok-share.ensures.asks

pub returns-clause-asks : goal.returns-clause-asks
returns-clause-asks g c =
    asks_in_turn c.args.cache.now c.look_pair.new.cache c.may_share.new.cache None
    (asks_in_turn c.args.cache.now c.look_beside.new.cache c.look_pair.new.cache None
    c.in_ok-beside.ensures.asks c.in_ok-pair.ensures.asks) c.in_ok-share.ensures.asks

pub returns-in_err-beside-clause-there : goal.returns-in_err-beside-clause-there
returns-in_err-beside-clause-there g c = λ h id child last row may.
    at_error c.from_residual.result c.in_err-beside.field-0.0 IsOfDevice c.from_residual.ensures.1
    (c.in_err-beside.ensures.there h (record { level = c.args.level; links = links_of row })
    (may.stands.node.fork may.high)
    (links_live g.row.D (pages c.args.cache.now) c.args.level row may.stands.below))

pub returns-in_err-pair-clause-there : goal.returns-in_err-pair-clause-there
returns-in_err-pair-clause-there g c = λ h id child last row may.
    let D = g.row.D in
    let old = pages c.args.cache.now in
    let mid = pages c.look_beside.new.cache in
    let page = c.args.page in
    let level = c.args.level in
    let edge = c.args.edge in
    let place = c.args.place in
    let left = c.in-Some.left in
    let asks = c.in_ok-beside.ensures.asks in
    let same = asks.map.pages_stay h in
    let content : ForkContent = record { level = level; links = links_of row } in
    let beside = is_beside c.in_ok-beside.beside left place row c.in-Some.is c.in_ok-beside.ensures.beside
    (c.in_ok-beside.ensures.within h content (may.stands.node.fork may.high)) in
    at_error c.from_residual-in_err-pair.result c.in_err-pair.field-0.0 IsOfDevice
    c.from_residual-in_err-pair.ensures.1
    (c.in_err-pair.ensures.there (asks.gate.honest.0 h) level id child place row
    (split_meets D old mid page level edge row id child place last left same may beside) beside)

pub returns-in_err-share-clause-there : goal.returns-in_err-share-clause-there
returns-in_err-share-clause-there g c = λ h id child last row may.
    let D = g.row.D in
    let old = pages c.args.cache.now in
    let mid = pages c.look_beside.new.cache in
    let then = pages c.look_pair.new.cache in
    let page = c.args.page in
    let level = c.args.level in
    let edge = c.args.edge in
    let place = c.args.place in
    let left = c.in-Some.left in
    let asks = c.in_ok-beside.ensures.asks in
    let same = asks.map.pages_stay h in
    let h1 = asks.gate.honest.0 h in
    let asks2 = c.in_ok-pair.ensures.asks in
    let content : ForkContent = record { level = level; links = links_of row } in
    let beside = is_beside c.in_ok-beside.beside left place row c.in-Some.is c.in_ok-beside.ensures.beside
    (c.in_ok-beside.ensures.within h content (may.stands.node.fork may.high)) in
    let p = c.in_ok-pair.pair in
    let pair = c.in_ok-pair.ensures.pair h1 level id child place row
    (split_meets D old mid page level edge row id child place last left same may beside) beside in
    let tidy = fork_as_tidy D mid page p.fork content (c.in_ok-pair.ensures.bytes h1
    (live_same old mid page same (node_there D old page level row may.stands.node))) pair.fork_is in
    let joins = split_joins D old mid page level edge row id child place last p.fork p.left p.first p.second
    p.key p.last same may pair tidy in
    let apart = join_apart joins in
    at_error c.from_residual-in_err-share.result c.in_err-share.field-0.0 IsOfDevice
    c.from_residual-in_err-share.ensures.1
    (c.in_err-share.ensures.there (asks2.gate.honest.0 h1)
    (live_same mid then p.first (asks2.map.pages_stay h1) apart.both.first_live)
    (live_same mid then p.second (asks2.map.pages_stay h1) apart.both.second_live))

pub returns-then-share-clause-pair : goal.returns-then-share-clause-pair
returns-then-share-clause-pair g c = λ h id child last row may.
    let D = g.row.D in
    let old = pages c.args.cache.now in
    let mid = pages c.look_beside.new.cache in
    let then = pages c.look_pair.new.cache in
    let page = c.args.page in
    let level = c.args.level in
    let edge = c.args.edge in
    let place = c.args.place in
    let left = c.in-Some.left in
    let asks = c.in_ok-beside.ensures.asks in
    let same = asks.map.pages_stay h in
    let h1 = asks.gate.honest.0 h in
    let asks2 = c.in_ok-pair.ensures.asks in
    let h2 = asks2.gate.honest.0 h1 in
    let content : ForkContent = record { level = level; links = links_of row } in
    let beside = is_beside c.in_ok-beside.beside left place row c.in-Some.is c.in_ok-beside.ensures.beside
    (c.in_ok-beside.ensures.within h content (may.stands.node.fork may.high)) in
    let p = c.in_ok-pair.pair in
    let pair = c.in_ok-pair.ensures.pair h1 level id child place row
    (split_meets D old mid page level edge row id child place last left same may beside) beside in
    let tidy = fork_as_tidy D mid page p.fork content (c.in_ok-pair.ensures.bytes h1
    (live_same old mid page same (node_there D old page level row may.stands.node))) pair.fork_is in
    let joins = split_joins D old old page level edge row id child place last p.fork p.left p.first p.second
    p.key p.last (λ n. refl) may pair (as_tidy_back D old mid p.fork same tidy) in
    let now : (n : ℕ) → then n ≡ old n = λ n. asks2.map.pages_stay h1 n ∙ same n in
    let one = node_stays D old then p.first (level - 1) pair.at.one (now p.first)
    (one_node joins) in
    let two = node_stays D old then p.second (level - 1) pair.at.two (now p.second)
    (two_node joins) in
    let low : level - 1 ≡ 0 = omega (arith, c.if-level-ne1.false) in
    record {
      join = joins;
      many = c.in_ok-share.ensures.many h2 (level - 1) pair.at.one pair.at.two low one two c.if-share.true;
      room = c.in_ok-share.ensures.room h2 (level - 1) pair.at.one pair.at.two low one two c.if-share.true;
    }

pub returns-then-level-ne1-clause-shares : goal.returns-then-level-ne1-clause-shares
returns-then-level-ne1-clause-shares g c = λ h id child last row may is wide each.
    absurd (c.if-level-ne1.true is)

pub returns-in_default-clause-shares : goal.returns-in_default-clause-shares
returns-in_default-clause-shares g c = λ h id child last row may is wide each.
    let some = c.in_ok-beside.ensures.some h (record { level = c.args.level; links = links_of row })
    (may.stands.node.fork may.high) wide
    (place_within g.row.D (pages c.args.cache.now) c.args.page c.args.level c.args.edge row id child
    c.args.place last may) in
    absurd (let never = subst IsSome c.in_default.is some in cc)

pub returns-clause-shares : goal.returns-clause-shares
returns-clause-shares g c = λ h id child last row may is wide each.
    let D = g.row.D in
    let old = pages c.args.cache.now in
    let mid = pages c.look_beside.new.cache in
    let then = pages c.look_pair.new.cache in
    let page = c.args.page in
    let level = c.args.level in
    let edge = c.args.edge in
    let place = c.args.place in
    let left = c.in-Some.left in
    let asks = c.in_ok-beside.ensures.asks in
    let same = asks.map.pages_stay h in
    let h1 = asks.gate.honest.0 h in
    let asks2 = c.in_ok-pair.ensures.asks in
    let h2 = asks2.gate.honest.0 h1 in
    let content : ForkContent = record { level = level; links = links_of row } in
    let beside = is_beside c.in_ok-beside.beside left place row c.in-Some.is c.in_ok-beside.ensures.beside
    (c.in_ok-beside.ensures.within h content (may.stands.node.fork may.high)) in
    let p = c.in_ok-pair.pair in
    let pair = c.in_ok-pair.ensures.pair h1 level id child place row
    (split_meets D old mid page level edge row id child place last left same may beside) beside in
    let tidy = fork_as_tidy D mid page p.fork content (c.in_ok-pair.ensures.bytes h1
    (live_same old mid page same (node_there D old page level row may.stands.node))) pair.fork_is in
    let joins = split_joins D old old page level edge row id child place last p.fork p.left p.first p.second
    p.key p.last (λ n. refl) may pair (as_tidy_back D old mid p.fork same tidy) in
    let now : (n : ℕ) → then n ≡ old n = λ n. asks2.map.pages_stay h1 n ∙ same n in
    let one = node_stays D old then p.first (level - 1) pair.at.one (now p.first)
    (one_node joins) in
    let two = node_stays D old then p.second (level - 1) pair.at.two (now p.second)
    (two_node joins) in
    let low : level - 1 ≡ 0 = omega (arith, c.if-level-ne1.false) in
    let few = each p.first p.second pair.at in
    let yes = c.in_ok-share.ensures.accepts h2 (level - 1) pair.at.one pair.at.two low one two few.0 few.1 in
    absurd (let never = sym yes ∙ c.if-share.false in cc)

pub returns-then-share-clause-names : goal.returns-then-share-clause-names
returns-then-share-clause-names g c = λ h content there.
    let asks = c.in_ok-beside.ensures.asks in
    c.in_ok-pair.ensures.names (asks.gate.honest.0 h) content
    (ap (fork_in g.row.D) (asks.map.given_stay h c.args.page) ∙ there)

pub returns-in_err-beside-clause-damage : goal.returns-in_err-beside-clause-damage
returns-in_err-beside-clause-damage g c = λ h content there.
    at_error c.from_residual.result c.in_err-beside.field-0.0 _
    c.from_residual.ensures.1 (c.in_err-beside.ensures.damage h content there)

pub returns-in_err-pair-clause-damage : goal.returns-in_err-pair-clause-damage
returns-in_err-pair-clause-damage g c = λ h content there.
    let asks = c.in_ok-beside.ensures.asks in
    at_error c.from_residual-in_err-pair.result c.in_err-pair.field-0.0 _
    c.from_residual-in_err-pair.ensures.1 (λ n damaged.
    comes_at g.row.D (given c.args.cache.now) c.args.page n c.in_err-pair.field-0.0
    (c.in_err-pair.ensures.damage (asks.gate.honest.0 h)) damaged)

pub returns-in_err-share-clause-damage : goal.returns-in_err-share-clause-damage
returns-in_err-share-clause-damage g c = λ h content there.
    let D = g.row.D in
    let m = given c.args.cache.now in
    let page = c.args.page in
    let p = c.in_ok-pair.pair in
    let asks = c.in_ok-beside.ensures.asks in
    let h1 = asks.gate.honest.0 h in
    let names = c.in_ok-pair.ensures.names h1 content
    (ap (fork_in D) (asks.map.given_stay h page) ∙ there) in
    let first : ComesInTree D m page p.first = comes_down D m page p.first p.first (content, there, names.0)
    (comes_here D m p.first p.first refl) in
    let second : ComesInTree D m page p.second = comes_down D m page p.second p.second
    (content, there, names.1) (comes_here D m p.second p.second refl) in
    at_error c.from_residual-in_err-share.result c.in_err-share.field-0.0 _
    c.from_residual-in_err-share.ensures.1 (λ n damaged.
    comes_to_one D m page p.first p.second n first second
    (c.in_err-share.ensures.damage (c.in_ok-pair.ensures.asks.gate.honest.0 h1) n damaged))
