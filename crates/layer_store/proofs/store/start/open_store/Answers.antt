-- The map of the file is that of the blocks that were opened.
use Rattle.std.proofs.Common.{◌∙◌, arith, refl, sym, subst, inl, inr, ⊎_elim}
use Rattle.block_device.specs.Device.{Blocks}
use Rattle.live_layers.specs.Image.{IsImage}
use Rattle.page_file.specs.File.{blocks_of, device_of, next_of, pages}
use Rattle.page_file.specs.Layout.{IsWithin}
use Rattle.page_file.specs.Pages.{next_in, pages_in}
use Rattle.page_file.specs.declared.fault.Fault.TheVariants as fault
use Rattle.layer_store.specs.Representation.{device_in}
use Rattle.layer_store.proofs.Results.{at_err, at_ok, err_case, ok_case}
use Rattle.layer_store.proofs.StartLemmas.{begins_so, opened_found, same_catalog, settled_found, shut_store}
use Rattle.layer_store.proofs.StartLemmas.{some_is_not_none, then_read}
use Rattle.layer_store.proofs.store.start.open_store.Goals as goal

pub returns-in-Ok-clause-image : goal.returns-in-Ok-clause-image
returns-in-Ok-clause-image g c = λ t honest image. ok_case c.begin.result (λ store is.
    let d = g.D.BlockDevice in
    let opened = c.in-Ok.ensures in
    let inside = opened.honest.0 honest in
    let settled = at_ok _ c.begin.result store is c.begin.ensures.settled in
    let there =
    subst (λ (b : Blocks). IsImage b t)
    (sym (at_ok _ c.begin.result store is c.begin.ensures.blocks inside ∙ opened.blocks honest)) image in
    let kept = at_ok _ c.begin.result store is c.begin.ensures.honest inside in
    begins_so store (d.moment (device_in store)) t
    (at_ok _ c.begin.result store is
    (c.begin.ensures.image t (d.shown c.args.device) inside (opened.lies honest) image)) settled there
    (omega arith)
    (λ b left. inr
    (subst (λ (x : Blocks). IsImage x t)
    (sym (shut_store store settled kept b (g.met.D.BlockDevice.only_now (device_in store) b kept left)))
    there))
    (settled_found store t kept
    (λ k only takes. g.met.D.BlockDevice.committed (device_in store) k kept only takes)
    (λ b found. g.met.D.BlockDevice.brought_now (device_in store) b kept found) settled there))

pub returns-in-Ok-clause-durable_image : goal.returns-in-Ok-clause-durable_image
returns-in-Ok-clause-durable_image g c = λ t honest image only commits. ok_case c.begin.result (λ store is.
    let d = g.D.BlockDevice in
    let device = c.args.device in
    let opened = c.in-Ok.ensures in
    let inside = opened.honest.0 honest in
    let settled = at_ok _ c.begin.result store is c.begin.ensures.settled in
    let there =
    subst (λ (b : Blocks). IsImage b t)
    (sym (at_ok _ c.begin.result store is c.begin.ensures.blocks inside ∙ opened.blocks honest)) image in
    let kept = at_ok _ c.begin.result store is c.begin.ensures.honest inside in
    let run =
    then_read d.moment d.left_since d.recovery device (device_of c.in-Ok.file) (device_in store)
    (blocks_of c.in-Ok.file) (d.may_leave device)
    (subst (d.may_leave device) (sym (opened.blocks honest))
    (g.met.D.BlockDevice.shown_counts device honest)) (opened.stops honest)
    (at_ok _ c.begin.result store is c.begin.ensures.stops inside) in
    let left : (b : Blocks) → d.may_leave device b
    → IsImage b t = λ b may. subst (λ (x : Blocks). IsImage x t) (sym (only b may)) image in
    begins_so store (d.moment device) t
    (at_ok _ c.begin.result store is
    (c.begin.ensures.image t (d.shown device) inside (opened.lies honest) image)) settled there run.later
    (λ b since. inr (left b (run.each b since)))
    (opened_found store device t (d.may_leave device) kept
    (λ k durable takes. g.met.D.BlockDevice.committed (device_in store) k kept durable takes) settled
    there
    (λ k is. subst (λ (x : Blocks). IsImage x t) (sym (commits k is)) image)
    (λ b found. g.met.D.BlockDevice.brought_now device b honest found) (λ b may. inr (left b may)) run))

pub returns-in-Ok-clause-opened : goal.returns-in-Ok-clause-opened
returns-in-Ok-clause-opened g c = ok_case c.begin.result (λ store is honest f refuses.
    let opened = c.in-Ok.ensures in
    let lies = opened.lies honest in
    let blocks = g.D.BlockDevice.shown c.args.device in
    ⊎_elim (λ failed. some_is_not_none (sym lies.passes ∙ failed))
    (λ none. at_ok _ c.begin.result store is c.begin.ensures.opened (opened.honest.0 honest)
    (same_catalog (pages_in blocks) (pages c.in-Ok.file) (next_in blocks) (next_of c.in-Ok.file)
    (λ k. sym (lies.pages_there k)) (sym lies.next) none.2)) refuses)

pub returns-in-Ok-clause-refused : goal.returns-in-Ok-clause-refused
returns-in-Ok-clause-refused g c = λ cache. err_case c.begin.result (λ e is honest.
    let opened = c.in-Ok.ensures in
    let lies = opened.lies honest in
    let blocks = g.D.BlockDevice.shown c.args.device in
    ⊎_elim (λ gave_up. inl gave_up)
    (λ damaged. inr (
      fault.Damaged 2,
      damaged.0,
      inr (
        opened.passes honest,
        refl,
        same_catalog (pages c.in-Ok.file) (pages_in blocks) (next_of c.in-Ok.file) (next_in blocks)
            lies.pages_there lies.next damaged.1,
      ),
    ))
    (at_err _ c.begin.result e is c.begin.ensures.refused (opened.honest.0 honest)))

pub returns-in-Ok-clause-stops : goal.returns-in-Ok-clause-stops
returns-in-Ok-clause-stops g c = ok_case c.begin.result (λ store is honest.
    let d = g.D.BlockDevice in
    let opened = c.in-Ok.ensures in
    then_read d.moment d.left_since d.recovery c.args.device (device_of c.in-Ok.file) (device_in store)
    (blocks_of c.in-Ok.file) (d.may_leave c.args.device)
    (subst (d.may_leave c.args.device) (sym (opened.blocks honest))
    (g.met.D.BlockDevice.shown_counts c.args.device honest)) (opened.stops honest)
    (at_ok _ c.begin.result store is c.begin.ensures.stops (opened.honest.0 honest)))

pub returns-in-Ok-clause-refused_stops : goal.returns-in-Ok-clause-refused_stops
returns-in-Ok-clause-refused_stops g c = λ cache. err_case c.begin.result (λ e is honest.
    let d = g.D.BlockDevice in
    let opened = c.in-Ok.ensures in
    then_read d.moment d.left_since d.recovery c.args.device (device_of c.in-Ok.file) e.1
    (blocks_of c.in-Ok.file) (d.may_leave c.args.device)
    (subst (d.may_leave c.args.device) (sym (opened.blocks honest))
    (g.met.D.BlockDevice.shown_counts c.args.device honest)) (opened.stops honest)
    (at_err _ c.begin.result e is c.begin.ensures.refused_stops (opened.honest.0 honest)))

pub returns-in-Ok-clause-durable : goal.returns-in-Ok-clause-durable
returns-in-Ok-clause-durable g c = ok_case c.begin.result (λ store is honest.
    shut_store store (at_ok _ c.begin.result store is c.begin.ensures.settled)
    (at_ok _ c.begin.result store is c.begin.ensures.honest (c.in-Ok.ensures.honest.0 honest)))

pub returns-in-Ok-clause-trees : goal.returns-in-Ok-clause-trees
returns-in-Ok-clause-trees g c = ok_case c.begin.result (λ store is honest.
    let opened = c.in-Ok.ensures in
    at_ok _ c.begin.result store is
    (c.begin.ensures.trees (g.D.BlockDevice.shown c.args.device) (opened.honest.0 honest)
    (opened.lies honest)))

pub returns-in-Ok-clause-spelled : goal.returns-in-Ok-clause-spelled
returns-in-Ok-clause-spelled g c =
    ok_case c.begin.result
    (λ store is honest. at_ok _ c.begin.result store is c.begin.ensures.spelled
    (c.in-Ok.ensures.honest.0 honest))

pub returns-in-Ok-clause-within : goal.returns-in-Ok-clause-within
returns-in-Ok-clause-within g c = ok_case c.begin.result (λ store is honest.
    let opened = c.in-Ok.ensures in
    subst (IsWithin c.args.newest)
    (sym (at_ok _ c.begin.result store is c.begin.ensures.version (opened.honest.0 honest))) opened.within)

pub returns-in-Ok-clause-version : goal.returns-in-Ok-clause-version
returns-in-Ok-clause-version g c = ok_case c.begin.result (λ store is honest.
    let opened = c.in-Ok.ensures in
    at_ok _ c.begin.result store is c.begin.ensures.version (opened.honest.0 honest) ∙ opened.version honest)
