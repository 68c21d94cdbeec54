-- A new file holds the empty table, and its store is read from it.
use Rattle.std.proofs.Common.{◌∙◌, ◌⊎◌, arith, inr, sym, subst}
use Rattle.std.specs.FinMap.{empty}
use Rattle.block_device.specs.Device.{Blocks}
use Rattle.live_layers.specs.Image.{IsImage}
use Rattle.page_file.specs.File.{blocks_of, device_of}
use Rattle.page_file.specs.Opening.{IsRefused}
use Rattle.layer_store.specs.Representation.{device_in}
use Rattle.layer_store.proofs.Results.{at_err, at_ok, err_case, ok_case}
use Rattle.layer_store.proofs.StartLemmas.{begins_so, made_image, new_left, opened_found, settled_found}
use Rattle.layer_store.proofs.StartLemmas.{shut_store, then_read}
use Rattle.layer_store.proofs.store.start.create_store.Goals as goal

pub returns-in-Ok-clause-made : goal.returns-in-Ok-clause-made
returns-in-Ok-clause-made g c = ok_case c.begin.result (λ store is honest.
    let d = g.D.BlockDevice in
    let made = c.in-Ok.ensures in
    let file = c.in-Ok.file in
    let inside = made.honest.0 honest in
    let image =
    made_image file (made.lies honest) made.version made.next (made.catalog honest) (made.others honest)
    (made.sound honest) in
    let settled = at_ok _ c.begin.result store is c.begin.ensures.settled in
    let there =
    subst (λ (b : Blocks). IsImage b empty)
    (sym (at_ok _ c.begin.result store is c.begin.ensures.blocks inside)) image in
    let kept = at_ok _ c.begin.result store is c.begin.ensures.honest inside in
    begins_so store (d.moment (device_in store)) empty
    (at_ok _ c.begin.result store is
    (c.begin.ensures.image empty (blocks_of file) inside (made.lies honest) image)) settled there
    (omega arith)
    (λ b left. inr
    (subst (λ (x : Blocks). IsImage x empty)
    (sym (shut_store store settled kept b (g.met.D.BlockDevice.only_now (device_in store) b kept left)))
    there))
    (settled_found store empty kept
    (λ k only takes. g.met.D.BlockDevice.committed (device_in store) k kept only takes)
    (λ b found. g.met.D.BlockDevice.brought_now (device_in store) b kept found) settled there))

pub returns-in-Ok-clause-begins : goal.returns-in-Ok-clause-begins
returns-in-Ok-clause-begins g c = ok_case c.begin.result (λ store is honest none.
    let d = g.D.BlockDevice in
    let device = c.args.device in
    let made = c.in-Ok.ensures in
    let file = c.in-Ok.file in
    let inside = made.honest.0 honest in
    let image =
    made_image file (made.lies honest) made.version made.next (made.catalog honest) (made.others honest)
    (made.sound honest) in
    let settled = at_ok _ c.begin.result store is c.begin.ensures.settled in
    let there =
    subst (λ (b : Blocks). IsImage b empty)
    (sym (at_ok _ c.begin.result store is c.begin.ensures.blocks inside)) image in
    let kept = at_ok _ c.begin.result store is c.begin.ensures.honest inside in
    let run =
    then_read d.moment d.left_since d.recovery device (device_of file) (device_in store) (blocks_of file)
    (λ b. IsRefused b ⊎ IsImage b empty) (inr image)
    (new_left d.moment d.left_since d.recovery device (device_of file) _ (made.stops honest))
    (at_ok _ c.begin.result store is c.begin.ensures.stops inside) in
    begins_so store (d.moment device) empty
    (at_ok _ c.begin.result store is
    (c.begin.ensures.image empty (blocks_of file) inside (made.lies honest) image)) settled there
    run.later
    run.each
    (opened_found store device empty (λ b. IsRefused b ⊎ IsImage b empty) kept
    (λ k only takes. g.met.D.BlockDevice.committed (device_in store) k kept only takes) settled there
    (λ k is. absurd (none k is)) (λ b found. g.met.D.BlockDevice.brought_now device b honest found)
    (λ b p. p) run))

pub returns-in-Ok-clause-closed : goal.returns-in-Ok-clause-closed
returns-in-Ok-clause-closed g c = ok_case c.begin.result (λ store is honest.
    let made = c.in-Ok.ensures in
    let file = c.in-Ok.file in
    let image =
    made_image file (made.lies honest) made.version made.next (made.catalog honest) (made.others honest)
    (made.sound honest) in
    subst (λ (b : Blocks). IsImage b empty)
    (sym (at_ok _ c.begin.result store is c.begin.ensures.blocks (made.honest.0 honest))) image)

pub returns-in-Ok-clause-stops : goal.returns-in-Ok-clause-stops
returns-in-Ok-clause-stops g c = ok_case c.begin.result (λ store is honest.
    let d = g.D.BlockDevice in
    let made = c.in-Ok.ensures in
    let file = c.in-Ok.file in
    let image =
    made_image file (made.lies honest) made.version made.next (made.catalog honest) (made.others honest)
    (made.sound honest) in
    then_read d.moment d.left_since d.recovery c.args.device (device_of file) (device_in store)
    (blocks_of file) (λ b. IsRefused b ⊎ IsImage b empty) (inr image)
    (new_left d.moment d.left_since d.recovery c.args.device (device_of file) _ (made.stops honest))
    (at_ok _ c.begin.result store is c.begin.ensures.stops (made.honest.0 honest)))

pub returns-in-Ok-clause-refused_stops : goal.returns-in-Ok-clause-refused_stops
returns-in-Ok-clause-refused_stops g c = λ cache. err_case c.begin.result (λ e is honest.
    let d = g.D.BlockDevice in
    let made = c.in-Ok.ensures in
    let file = c.in-Ok.file in
    let image =
    made_image file (made.lies honest) made.version made.next (made.catalog honest) (made.others honest)
    (made.sound honest) in
    then_read d.moment d.left_since d.recovery c.args.device (device_of file) e.1 (blocks_of file)
    (λ b. IsRefused b ⊎ IsImage b empty) (inr image)
    (new_left d.moment d.left_since d.recovery c.args.device (device_of file) _ (made.stops honest))
    (at_err _ c.begin.result e is c.begin.ensures.refused_stops (made.honest.0 honest)))

pub returns-in-Ok-clause-refused : goal.returns-in-Ok-clause-refused
returns-in-Ok-clause-refused g c = λ cache. err_case c.begin.result (λ e is honest.
    let made = c.in-Ok.ensures in
    let file = c.in-Ok.file in
    let image =
    made_image file (made.lies honest) made.version made.next (made.catalog honest) (made.others honest)
    (made.sound honest) in
    at_err _ c.begin.result e is
    (c.begin.ensures.not_refused empty (blocks_of file) (made.honest.0 honest) (made.lies honest) image))

pub returns-in-Ok-clause-durable : goal.returns-in-Ok-clause-durable
returns-in-Ok-clause-durable g c = ok_case c.begin.result (λ store is honest.
    shut_store store (at_ok _ c.begin.result store is c.begin.ensures.settled)
    (at_ok _ c.begin.result store is c.begin.ensures.honest (c.in-Ok.ensures.honest.0 honest)))

pub returns-in-Err-clause-refused_stops : goal.returns-in-Err-clause-refused_stops
returns-in-Err-clause-refused_stops g c =
    λ cache honest. new_left _ _ _ _ _ _ (c.in-Err.ensures.refused_stops honest)

pub returns-in-Ok-clause-spelled : goal.returns-in-Ok-clause-spelled
returns-in-Ok-clause-spelled g c =
    ok_case c.begin.result
    (λ store is honest. at_ok _ c.begin.result store is c.begin.ensures.spelled
    (c.in-Ok.ensures.honest.0 honest))

pub returns-in-Ok-clause-version : goal.returns-in-Ok-clause-version
returns-in-Ok-clause-version g c = ok_case c.begin.result (λ store is honest.
    let made = c.in-Ok.ensures in
    at_ok _ c.begin.result store is c.begin.ensures.version (made.honest.0 honest) ∙ made.version)
