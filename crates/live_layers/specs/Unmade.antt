-- What a change that was not made is answered.
use Rattle.std.specs.Prelude.{Bool, true, false, Result, Ok, Err}
use Rattle.page_file.specs.Fault.{number_of}
use Rattle.plain_table.specs.declared.refusal.Refusal.{Refusal}
use Rattle.plain_table.specs.declared.refusal.Refusal.TheVariants.{StoreFailed}
use Rattle.live_layers.specs.declared.unmade.Unmade.{Unmade}
use Rattle.live_layers.specs.declared.unmade.Unmade.TheVariants as unmade

-- its refusal; or, where it broke off half way, the end of the store, with the number of the fault
abbrev pub told_refusal : Unmade → Refusal
told_refusal (unmade.Refused r) = r
told_refusal (unmade.Broken f) = StoreFailed (number_of f)

-- what a change is answered
abbrev pub told : Result (Unit {0}) Unmade → Result (Unit {0}) Refusal
told (Ok u) = Ok u
told (Err why) = Err (told_refusal why)

-- it broke off half way
abbrev pub is_broken : Result (Unit {0}) Unmade → Bool
is_broken (Err (unmade.Broken f)) = true
is_broken result = false
