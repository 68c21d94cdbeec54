-- Child after child is freed, and then the page of the node.
use Rattle.id_tree.proofs.FreeLemmas.{frees_none, all_freed, leaf_freed, next, next_link, next_stands}
use Rattle.id_tree.proofs.FreeLemmas.{none_freed, one_freed, page_still}
use Rattle.std.proofs.Common.{◌≡◌, ◌∙◌, ◌-◌, ◌<◌, ◌≤◌, ℕ, None, length, ap, subst, sym, arith}
use Rattle.page_cache.specs.Cache.{pages, given, next_of, touched_of}
use Rattle.page_cache.specs.Calls.{asks_changes, changes_and_refuses, changes_in_turn, fault_in}
use Rattle.node_page.specs.Parts.{Moves, no_page}
use Rattle.node_page.proofs.NodeLemmas.{at_error, on_ok}
use Rattle.id_page.specs.Fork.{ForkContent, Link}
use Rattle.id_page.proofs.ForkReading.{count_of_fork, no_fork, some_link}
use Rattle.id_tree.specs.Rows.{NodeStands, part_at}
use Rattle.id_tree.specs.Tree.{at_edge, links_of, fork_in}
use Rattle.id_tree.proofs.NodeLemmas.{fork_bytes, node_there}
use Rattle.page_file.specs.declared.fault.Fault.TheVariants as fault
use Rattle.id_tree.specs.Checked.{NamesChild}
use Rattle.id_tree.proofs.ResultLemmas.{if_err}
use Rattle.id_tree.proofs.DamageLemmas.{comes_at, comes_down, damaged_is, fork_of_head, free_untouched}
use Rattle.id_tree.proofs.DamageLemmas.{not_before}
use Rattle.id_tree.proofs.GivenLemmas.{comes_here, comes_so}
use Rattle.id_tree.proofs.freeing.+free_node.Goals as goal

differs : (n : ℕ) → 2 < n → ¬ (n ≡ 2)
differs n low is = omega (arith, low, is)

pub loop-place-init : goal.loop-place-init
loop-place-init g t c =
    let asks = c.in_ok-bytes.ensures.asks in
    record {
      changes = asks_changes c.args.cache.now c.copy_page.new.cache None asks;
      next = asks.map.next;
      grows = omega (arith, asks.map.next, asks.map.free_count);
      left = λ map edge row s. (
        asks.map.sound.0 map,
        none_freed (pages c.args.cache.now) (pages c.copy_page.new.cache) row
            (asks.map.pages_stay map.honest),
      );
    }

pub loop-place-preserved : goal.loop-place-preserved
loop-place-preserved g t c =
    let inv = c.loop-place.invariant in
    let ok = c.in_ok-free_node.ensures in
    let high : 0 < c.args.level = omega (arith, c.if-level-eq0.false) in
    record {
      changes = changes_in_turn c.args.cache.now c.loop-place.cache c.free_node.new.cache None inv.changes
          ok.changes;
      next = ok.next ∙ inv.next;
      grows = omega (arith, inv.grows, ok.grows);
      left = λ map edge row s.
          let D = g.row.D in
          let level = c.args.level in
          let place = c.loop-place.place in
          let old = pages c.args.cache.now in
          let now = pages c.loop-place.cache in
          let so = inv.left map edge row s in
          let content : ForkContent = record { level = level; links = links_of row } in
          let is = fork_bytes D (old c.args.page) c.in_ok-bytes.bytes content
          (c.in_ok-bytes.ensures.bytes map.honest (node_there D old c.args.page level row s.node))
          (s.node.fork high) in
          let within : place < length (links_of row) = omega (
            arith,
            c.loop-place-test.true,
            c.count_at-place-end.ensures.value,
            count_of_fork D
                c.in_ok-bytes.bytes content is,
          ) in
          let child = next D old now c.args.page level edge row place high s so.1 within in
          let link =
          ap (λ (l : Link). l.1)
          (next_link D old now c.args.page level edge row place high s so.1 within some_link) in
          let page : c.page_at.result ≡ child.page = c.page_at.ensures.of_fork D content some_link is within
          ∙ link in
          let stands = subst (λ (p : ℕ). NodeStands D now p (level - 1) (at_edge edge child.rest) child.below)
          (sym page) (next_stands D old now c.args.page level edge row place high s so.1 within) in
          let frees = ok.frees so.0 (at_edge edge child.rest) child.below stands in
          let freed =
          subst (λ (p : ℕ). Moves now (pages c.free_node.new.cache) (part_at p child.below) no_page) page
          frees.freed in (
            frees.sound,
            one_freed D old now c.args.page level
                edge row place high s so.1 within (pages c.free_node.new.cache) freed,
          );
    }

pub returns-in_err-free_node-clause-changes : goal.returns-in_err-free_node-clause-changes
returns-in_err-free_node-clause-changes g t c =
    changes_and_refuses c.args.cache.now c.loop-place.cache c.free_node.new.cache c.in_err-free_node.field-0.0
    c.from_residual-in_err-free_node.result c.from_residual-in_err-free_node.ensures.1
    c.loop-place.invariant.changes c.in_err-free_node.ensures.changes

pub returns-in_err-free_node-clause-next : goal.returns-in_err-free_node-clause-next
returns-in_err-free_node-clause-next g t c = c.in_err-free_node.ensures.next ∙ c.loop-place.invariant.next

pub returns-in_err-free_node-clause-grows : goal.returns-in_err-free_node-clause-grows
returns-in_err-free_node-clause-grows g t c =
    omega (arith, c.loop-place.invariant.grows, c.in_err-free_node.ensures.grows)

pub returns-clause-changes : goal.returns-clause-changes
returns-clause-changes g t c = changes_in_turn c.args.cache.now c.loop-place.cache c.free-2.new.self
    (fault_in c.free-2.result) c.loop-place.invariant.changes c.free-2.ensures.changes

pub returns-clause-next : goal.returns-clause-next
returns-clause-next g t c = c.free-2.ensures.next ∙ c.loop-place.invariant.next

pub returns-clause-grows : goal.returns-clause-grows
returns-clause-grows g t c = omega (arith, c.loop-place.invariant.grows, c.free-2.ensures.grows)

pub returns-then-level-eq0-clause-damage : goal.returns-then-level-eq0-clause-damage
returns-then-level-eq0-clause-damage g t c = λ h none.
    if_err c.free.result _ _ (λ f either n damaged. comes_at g.row.D (given c.args.cache.now) c.args.page n f either damaged)
    (free_untouched c.free.result c.args.page (next_of c.args.cache.now)
    (λ low below. c.free.ensures.untouched low below none) (λ out. (c.free.ensures.outside out).0))

pub returns-in_err-bytes-clause-damage : goal.returns-in_err-bytes-clause-damage
returns-in_err-bytes-clause-damage g t c = λ h none.
    at_error c.from_residual.result c.in_err-bytes.field-0.0 _ c.from_residual.ensures.1 (λ n damaged.
    comes_at g.row.D (given c.args.cache.now) c.args.page n c.in_err-bytes.field-0.0
    (c.in_err-bytes.ensures.damage h) damaged)

pub returns-then-not-has_fork_head-clause-damage : goal.returns-then-not-has_fork_head-clause-damage
returns-then-not-has_fork_head-clause-damage g t c =
    λ h none n (damaged : fault.Damaged c.args.page ≡ fault.Damaged n). comes_here g.row.D
    (given c.args.cache.now) c.args.page n (damaged_is c.args.page n damaged)

pub returns-in_err-free_node-clause-damage : goal.returns-in_err-free_node-clause-damage
returns-in_err-free_node-clause-damage g t c = λ h none.
    let D = g.row.D in
    let old = c.args.cache.now in
    let now = c.loop-place.cache in
    let page = c.args.page in
    let p = c.page_at.result in
    let changes = c.loop-place.invariant.changes in
    let before = not_before (touched_of now) (touched_of c.free_node.new.cache)
    c.in_err-free_node.ensures.changes.touched none in
    let keeps = changes.untouched before in
    let fork = fork_of_head D c.in_ok-bytes.bytes (c.has_fork_head.ensures.0 c.if-not-has_fork_head.false) in
    let count = c.count_at-place-end.ensures.of_fork D fork.0 fork.1 in
    let within : c.loop-place.place < length fork.0.links = omega (arith, c.loop-place-test.true, count) in
    let named = λ (other : Link). sym (c.page_at.ensures.of_fork D fork.0 other fork.1 within) in
    let names : NamesChild D (given old) page p = (
      fork.0,
      ap (fork_in D) (c.in_ok-bytes.ensures.given_bytes h)
          ∙ fork.1,
      (c.loop-place.place, within, named),
    ) in
    at_error c.from_residual-in_err-free_node.result c.in_err-free_node.field-0.0 _ c.from_residual-in_err-free_node.ensures.1 (λ n damaged. comes_down D (given old) page p n names
    (comes_so D (given old) (given now) p n (keeps.given_stay h)
    (c.in_err-free_node.ensures.damage (changes.honest.0 h) none n damaged)))

pub returns-clause-damage : goal.returns-clause-damage
returns-clause-damage g t c = λ h none.
    if_err c.free-2.result _ _ (λ f either n damaged. comes_at g.row.D (given c.args.cache.now) c.args.page n f either damaged)
    (free_untouched c.free-2.result c.args.page (next_of c.loop-place.cache)
    (λ low below. c.free-2.ensures.untouched low below none) (λ out. (c.free-2.ensures.outside out).0))

pub returns-then-level-eq0-clause-frees : goal.returns-then-level-eq0-clause-frees
returns-then-level-eq0-clause-frees g t c = λ map edge row s.
    let D = g.row.D in
    let old = pages c.args.cache.now in
    let live = node_there D old c.args.page c.args.level row s.node in
    record {
      sound = c.free.ensures.sound map live;
      freed = on_ok c.free.result
          (leaf_freed D old (pages c.free.new.self) c.args.page c.args.level edge row c.if-level-eq0.true s
          (c.free.ensures.others map.honest live)) (c.free.ensures.freed map.honest live);
      faults = c.free.ensures.faults map live (differs c.args.page s.low);
    }

pub returns-in_err-bytes-clause-frees : goal.returns-in_err-bytes-clause-frees
returns-in_err-bytes-clause-frees g t c = λ map edge row s.
    frees_none c.in_err-bytes.field-0.0 c.from_residual.ensures.1 (c.in_err-bytes.ensures.asks.map.sound.0 map)
    (c.in_err-bytes.ensures.there map.honest
    (node_there g.row.D (pages c.args.cache.now) c.args.page c.args.level row s.node))

pub returns-then-not-has_fork_head-clause-frees : goal.returns-then-not-has_fork_head-clause-frees
returns-then-not-has_fork_head-clause-frees g t c = λ map edge row s.
    let D = g.row.D in
    let high : 0 < c.args.level = omega (arith, c.if-level-eq0.false) in
    let old = pages c.args.cache.now in
    let is = fork_bytes D (old c.args.page) c.in_ok-bytes.bytes
    (record { level = c.args.level; links = links_of row })
    (c.in_ok-bytes.ensures.bytes map.honest (node_there D old c.args.page c.args.level row s.node))
    (s.node.fork high) in
    let none = no_fork D c.in_ok-bytes.bytes (λ head. let yes = c.has_fork_head.ensures.1 head in absurd (cc))
    in
    absurd (cc)

pub returns-in_err-free_node-clause-frees : goal.returns-in_err-free_node-clause-frees
returns-in_err-free_node-clause-frees g t c = λ map edge row s.
    let D = g.row.D in
    let page = c.args.page in
    let level = c.args.level in
    let place = c.loop-place.place in
    let high : 0 < level = omega (arith, c.if-level-eq0.false) in
    let old = pages c.args.cache.now in
    let now = pages c.loop-place.cache in
    let so = c.loop-place.invariant.left map edge row s in
    let content : ForkContent = record { level = level; links = links_of row } in
    let is = fork_bytes D (old page) c.in_ok-bytes.bytes content
    (c.in_ok-bytes.ensures.bytes map.honest (node_there D old page level row s.node)) (s.node.fork high) in
    let count = count_of_fork D c.in_ok-bytes.bytes content is in
    let within : place < length (links_of row) =
    omega (arith, c.loop-place-test.true, c.count_at-place-end.ensures.value, count) in
    let child = next D old now page level edge row place high s so.1 within in
    let link =
    ap (λ (l : Link). l.1) (next_link D old now page level edge row place high s so.1 within some_link) in
    let here : c.page_at.result ≡ child.page = c.page_at.ensures.of_fork D content some_link is within
    ∙ link in
    let frees = c.in_err-free_node.ensures.frees so.0 (at_edge edge child.rest) child.below
    (subst (λ (p : ℕ). NodeStands D now p (level - 1) (at_edge edge child.rest) child.below) (sym here)
    (next_stands D old now page level edge row place high s so.1 within)) in
    frees_none c.in_err-free_node.field-0.0 c.from_residual-in_err-free_node.ensures.1 frees.sound frees.faults

pub returns-clause-frees : goal.returns-clause-frees
returns-clause-frees g t c = λ map edge row s.
    let D = g.row.D in
    let page = c.args.page in
    let level = c.args.level in
    let place = c.loop-place.place in
    let high : 0 < level = omega (arith, c.if-level-eq0.false) in
    let old = pages c.args.cache.now in
    let now = pages c.loop-place.cache in
    let so = c.loop-place.invariant.left map edge row s in
    let content : ForkContent = record { level = level; links = links_of row } in
    let is = fork_bytes D (old page) c.in_ok-bytes.bytes content
    (c.in_ok-bytes.ensures.bytes map.honest (node_there D old page level row s.node)) (s.node.fork high) in
    let count = count_of_fork D c.in_ok-bytes.bytes content is in
    let all : length (links_of row) ≤ place =
    omega (arith, c.loop-place-test.false, c.count_at-place-end.ensures.value, count) in
    let live = page_still D old now page level edge row place high s so.1 all in
    record {
      sound = c.free-2.ensures.sound so.0 live;
      freed = on_ok c.free-2.result
          (all_freed D old now page level edge row place high s so.1 all (pages c.free-2.new.self)
          (c.free-2.ensures.others so.0.honest live)) (c.free-2.ensures.freed so.0.honest live);
      faults = c.free-2.ensures.faults so.0 live (differs page s.low);
    }
