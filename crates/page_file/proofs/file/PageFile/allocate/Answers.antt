-- The goals of `PageFile::allocate` that are proved by hand.
use Rattle.std.proofs.Common.{inl, inr, ◌≡◌, ℕ, Some, None, sym, subst, ⊎_elim}
use Rattle.block_bytes.specs.Numbers.{zeros}
use Rattle.page_file.specs.Fault.{IsOfDevice}
use Rattle.page_file.specs.File.{IsBroken}
use Rattle.page_file.specs.Pages.{SameBut, TakesFirst, free_pages_of, given_pages, next_given, page_of}
use Rattle.page_file.specs.Reused.{chain_refused, chain_stays, given_is_zeros, given_refused, given_stays}
use Rattle.page_file.specs.Reused.{none_before, others_refused, others_stay, sound_link, takes_first}
use Rattle.page_file.specs.declared.fault.Fault.TheVariants as fault
use Rattle.page_file.proofs.Results.{either, if_err_map, if_ok_both, on_err_map}
use Rattle.page_file.proofs.file.PageFile.allocate.Goals as goal

pub returns-clause-fresh : goal.returns-clause-fresh
returns-clause-fresh g c = λ map.
    let file = c.args.self.now in let new = c.give_out.new.self in let d = g.D.BlockDevice in
    let X = d.shown file.device in let Y = d.shown new.device in
    let room = file.room map.honest in
    if_ok_both c.give_out.result c.give_out.ensures.which (c.give_out.ensures.gives map.honest)
    (λ n is gives. subst
    (λ (k : ℕ). (page_of X file.header k ≡ None) × (page_of Y new.header k ≡ Some zeros)
    × SameBut k (page_of X file.header) (page_of Y new.header)) (sym is) (
      none_before X Y file.header new.header file.sound room map.free,
      given_is_zeros X Y file.header new.header file.sound room map.free gives,
      others_stay X Y file.header new.header file.sound room map.free gives,
    ))

pub returns-clause-taken : goal.returns-clause-taken
returns-clause-taken g c = λ map.
    let file = c.args.self.now in let new = c.give_out.new.self in let d = g.D.BlockDevice in
    let X = d.shown file.device in let Y = d.shown new.device in
    if_ok_both c.give_out.result c.give_out.ensures.which (c.give_out.ensures.gives map.honest)
    (λ n is gives. subst
    (λ (k : ℕ). TakesFirst k (free_pages_of X file.header) file.header.next (free_pages_of Y new.header)
    new.header.next) (sym is)
    (takes_first X Y file.header new.header file.sound (file.room map.honest) map.free gives))

pub returns-clause-refused : goal.returns-clause-refused
returns-clause-refused g c = λ map.
    let file = c.args.self.now in let new = c.give_out.new.self in let d = g.D.BlockDevice in
    let X = d.shown file.device in let Y = d.shown new.device in
    on_err_map c.give_out.result (c.give_out.ensures.may_give map.honest)
    (λ may. (
      next_given file.header,
      none_before X Y file.header new.header file.sound (file.room map.honest) map.free,
      others_refused X Y file.header new.header file.sound (file.room map.honest) map.free may,
    ))

pub returns-clause-sound : goal.returns-clause-sound
returns-clause-sound g c = λ map.
    let file = c.args.self.now in let new = c.give_out.new.self in let d = g.D.BlockDevice in
    let X = d.shown file.device in let Y = d.shown new.device in record {
      honest = c.give_out.ensures.gate.honest.0 map.honest;
      free = either c.give_out.result (c.give_out.ensures.gives map.honest)
          (c.give_out.ensures.may_give map.honest)
          (λ gives. chain_stays X Y file.header new.header file.sound (file.room map.honest) map.free gives)
          (λ may. chain_refused X Y file.header new.header file.sound (file.room map.honest) map.free may);
    }

pub returns-clause-given_others : goal.returns-clause-given_others
returns-clause-given_others g c = λ h.
    let file = c.args.self.now in let new = c.give_out.new.self in let d = g.D.BlockDevice in
    let X = d.shown file.device in let Y = d.shown new.device in
    if_ok_both c.give_out.result c.give_out.ensures.which (c.give_out.ensures.gives h)
    (λ n is gives. subst
    (λ (k : ℕ). SameBut k (given_pages X file.header.next) (given_pages Y new.header.next)) (sym is)
    (given_stays X Y file.header new.header file.sound (file.room h) gives))

pub returns-clause-given_refused : goal.returns-clause-given_refused
returns-clause-given_refused g c = λ h.
    let file = c.args.self.now in let new = c.give_out.new.self in let d = g.D.BlockDevice in
    let X = d.shown file.device in let Y = d.shown new.device in
    on_err_map c.give_out.result (c.give_out.ensures.may_give h)
    (λ may. (next_given file.header, given_refused X Y file.header new.header file.sound (file.room h) may))

pub returns-clause-faults : goal.returns-clause-faults
returns-clause-faults g c = λ map.
    let file = c.args.self.now in let d = g.D.BlockDevice in
    if_err_map c.give_out.result (c.give_out.ensures.damaged map.honest)
    (λ f is. ⊎_elim
    (λ (device : IsOfDevice f). inl device)
    (λ rest. ⊎_elim
    (λ (none : f ≡ fault.NoPages). inr none)
    (λ (broken : IsBroken file c.give_out.new.self f). let link =
    sound_link (d.shown file.device) file.header map.free broken.some in let none = broken.no_link in
    absurd (cc))
    rest)
    is)
