-- The fork that the page spells is the one that is looked at.
use Rattle.page_cache.specs.Cache.{pages, next_of, given}
use Rattle.id_page.proofs.ForkReading.{no_fork}
use Rattle.id_tree.proofs.NodeLemmas.{fork_bytes, there_of_fork}
use Rattle.std.proofs.Common.{◌∙◌, ap, sym}
use Rattle.node_page.proofs.NodeLemmas.{at_error, page_refused}
use Rattle.id_tree.proofs.DamageLemmas.{fork_of_head, names_in}
use Rattle.id_tree.specs.Tree.{fork_in}
use Rattle.id_tree.proofs.looks.step.Goals as goal

pub returns-then-not-has_fork_head-clause-there : goal.returns-then-not-has_fork_head-clause-there
returns-then-not-has_fork_head-clause-there g c = λ h content there.
    let page = pages c.args.cache.now c.args.number in
    let is = fork_bytes g.row.D page _ content
    (c.in_ok-page.ensures.bytes h (there_of_fork g.row.D page content there)) there in
    let none = no_fork g.row.D c.in_ok-page.page.now
    (λ head. let yes = c.has_fork_head.ensures.1 head in absurd (cc)) in
    absurd (cc)

pub returns-clause-level : goal.returns-clause-level
returns-clause-level g c = λ h content there.
    let page = pages c.args.cache.now c.args.number in
    c.way_on.ensures.level g.row.D content
    (fork_bytes g.row.D page _ content
    (c.in_ok-page.ensures.bytes h (there_of_fork g.row.D page content there)) there)

pub returns-clause-count : goal.returns-clause-count
returns-clause-count g c = λ h content there.
    let page = pages c.args.cache.now c.args.number in
    c.way_on.ensures.count g.row.D content
    (fork_bytes g.row.D page _ content
    (c.in_ok-page.ensures.bytes h (there_of_fork g.row.D page content there)) there)

pub returns-clause-child : goal.returns-clause-child
returns-clause-child g c = λ h content there ascend.
    let page = pages c.args.cache.now c.args.number in
    c.way_on.ensures.child g.row.D content
    (fork_bytes g.row.D page _ content
    (c.in_ok-page.ensures.bytes h (there_of_fork g.row.D page content there)) there) ascend

pub returns-clause-place : goal.returns-clause-place
returns-clause-place g c = λ h content there ascend.
    let page = pages c.args.cache.now c.args.number in
    c.way_on.ensures.place g.row.D content
    (fork_bytes g.row.D page _ content
    (c.in_ok-page.ensures.bytes h (there_of_fork g.row.D page content there)) there) ascend

pub returns-in_err-page-clause-damage : goal.returns-in_err-page-clause-damage
returns-in_err-page-clause-damage g c = λ h.
    let n = c.args.number in
    at_error c.from_residual.result c.in_err-page.field-0.0 _
    c.from_residual.ensures.1
    (page_refused n (next_of c.args.cache.now) c.in_err-page.field-0.0 (c.in_err-page.ensures.faults h)
    (λ outside. let is = c.in_err-page.ensures.outside outside in cc))

pub returns-clause-names : goal.returns-clause-names
returns-clause-names g c = λ h.
    let is = fork_of_head g.row.D c.in_ok-page.page.now
    (c.has_fork_head.ensures.0 c.if-not-has_fork_head.false) in
    names_in g.row.D (given c.args.cache.now) c.args.number c.in_ok-page.page.now is.0
    (c.in_ok-page.ensures.given_bytes h) is.1
    c.way_on.result.child (c.way_on.ensures.named g.row.D is.0 is.1)

pub returns-clause-upto : goal.returns-clause-upto
returns-clause-upto g c = λ h content there.
    let page = pages c.args.cache.now c.args.number in
    c.way_on.ensures.upto g.row.D content
    (fork_bytes g.row.D page _ content
    (c.in_ok-page.ensures.bytes h (there_of_fork g.row.D page content there)) there)

pub returns-clause-fork : goal.returns-clause-fork
returns-clause-fork g c = λ h.
    let is = fork_of_head g.row.D c.in_ok-page.page.now
    (c.has_fork_head.ensures.0 c.if-not-has_fork_head.false) in (
      is.0,
      ap (fork_in g.row.D) (c.in_ok-page.ensures.given_bytes h) ∙ is.1,
      sym (c.way_on.ensures.level g.row.D is.0 is.1),
      sym (c.way_on.ensures.count g.row.D is.0 is.1),
    )
