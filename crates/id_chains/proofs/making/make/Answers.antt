-- The goals of `make` that are proved by hand: a page given out and written is a table of no objects.
use Rattle.std.proofs.Common.{◌∙◌, ◌≤◌, None, arith}
use Rattle.page_cache.specs.Calls.{changes_and_refuses, changes_in_turn}
use Rattle.page_cache.specs.Cache.{pages}
use Rattle.node_page.proofs.NodeLemmas.{at_error}
use Rattle.id_chains.proofs.BucketLemmas.{is_there}
use Rattle.id_chains.proofs.MakingLemmas.{made}
use Rattle.id_words.proofs.BreakLemmas.{no_damage, refused_breaks}
use Rattle.id_chains.proofs.TidyLemmas.{directory_written, made_keeps}
use Rattle.id_chains.proofs.making.make.Goals as goal

pub returns-clause-made : goal.returns-clause-made
returns-clause-made g c = λ sound.
    let given = c.in_ok-directory.ensures.fresh sound in
    let now = c.allocate.ensures.sound sound in
    let live = is_there (pages c.allocate.new.self c.in_ok-directory.directory) _ given.1 in
    made g.row.D (pages c.args.cache.now) (pages c.allocate.new.self) (pages c.put.new.self)
    c.in_ok-directory.directory _ (omega (arith, c.in_ok-directory.ensures.number)) given.0 given.2
    (c.put.ensures.others now.honest live) (c.in_ok-put.ensures.written now.honest live)
    c.write_directory.ensures

pub returns-in_err-put-clause-changes : goal.returns-in_err-put-clause-changes
returns-in_err-put-clause-changes g c =
    changes_and_refuses c.args.cache.now c.allocate.new.self c.put.new.self c.in_err-put.field-0.0
    c.from_residual-in_err-put.result c.from_residual-in_err-put.ensures.1
    c.in_ok-directory.ensures.changes c.in_err-put.ensures.changes

pub returns-clause-changes : goal.returns-clause-changes
returns-clause-changes g c =
    changes_in_turn c.args.cache.now c.allocate.new.self c.put.new.self None
    c.in_ok-directory.ensures.changes c.in_ok-put.ensures.changes

pub returns-clause-tidy : goal.returns-clause-tidy
returns-clause-tidy g c = λ sound.
    let n = c.in_ok-directory.directory in
    let given = c.in_ok-directory.ensures.fresh sound in
    let now = c.allocate.ensures.sound sound in
    let live = is_there (pages c.allocate.new.self n) _ given.1 in
    made_keeps g.row.D (pages c.args.cache.now) (pages c.put.new.self) n c.write_directory.new.page
    (c.in_ok-put.ensures.written now.honest live)
    (λ k off. c.put.ensures.others now.honest live k off ∙ given.2 k off)
    (directory_written g.row.D c.write_directory.new.page c.write_directory.ensures)

pub returns-in_err-directory-clause-damage : goal.returns-in_err-directory-clause-damage
returns-in_err-directory-clause-damage g c = λ h.
    let old = c.args.cache.now in
    let f = c.in_err-directory.field-0.0 in
    at_error c.from_residual.result f _
    c.from_residual.ensures.1
    (λ n damaged. refused_breaks old c.allocate.new.self f n (c.in_err-directory.ensures.damaged h) damaged)

pub returns-in_err-put-clause-damage : goal.returns-in_err-put-clause-damage
returns-in_err-put-clause-damage g c = λ h.
    let f = c.in_err-put.field-0.0 in
    let number = c.in_ok-directory.ensures.number in
    let low : 2 ≤ c.in_ok-directory.directory = omega (arith, number.0) in
    at_error c.from_residual-in_err-put.result f _
    c.from_residual-in_err-put.ensures.1
    (λ n damaged. absurd (no_damage f n
    (c.in_err-put.ensures.faults (c.in_ok-directory.ensures.changes.honest.0 h) low number.1) damaged))
