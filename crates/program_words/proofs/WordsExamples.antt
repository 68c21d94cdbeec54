-- What words ask for, on worked examples.
use Rattle.std.proofs.Common.{◌≡◌, List, [], ◌∷◌, Option, Some, None, codes, refl}
use Rattle.clap.specs.Words.{Text, fault_of, first_of, matches_of, one_of}
use Rattle.clap.specs.declared.error.kind.ErrorKind.TheVariants as kind
use Rattle.clap.proofs.OnLiterals.{clap_on_literals}
use Rattle.program_words.specs.Words.{program}

-- the values of FILE and of `--import`
abbrev file_in : List Text → Option Text
file_in words = first_of (codes "file") (matches_of program words)

abbrev target_in : List Text → Option Text
target_in words = first_of (codes "import") (matches_of program words)

-- the texts that stand for the cached pages, for the newest version, and for whether a file is to be made
abbrev pages_in : List Text → Option Text
pages_in words = one_of (codes "cache") (matches_of program words)

abbrev newest_in : List Text → Option Text
newest_in words = one_of (codes "format") (matches_of program words)

abbrev made_in : List Text → Option Text
made_in words = one_of (codes "create") (matches_of program words)

abbrev read_in : List Text → Option Text
read_in words = one_of (codes "read-only") (matches_of program words)

abbrev said : List Text → List Text
said words = codes "rstore" ∷ words

-- no word: a store in memory, with 64 cached pages
nothing_said : (fault_of program (said []) ≡ []) × (file_in (said []) ≡ None) × (pages_in (said []) ≡ Some (codes "64")) × (made_in (said []) ≡ Some (codes "false"))
unfolding clap_on_literals
nothing_said = (refl, refl, refl, refl)

abbrev all_said : List Text
all_said = said (codes "--cache" ∷ codes "8" ∷ codes "--create" ∷ codes "map.rst" ∷ [])

-- all that can be said
each_is_read : (fault_of program all_said ≡ []) × (file_in all_said ≡ Some (codes "map.rst")) × (pages_in all_said ≡ Some (codes "8")) × (made_in all_said ≡ Some (codes "true"))
unfolding clap_on_literals
each_is_read = (refl, refl, refl, refl)

abbrev in_another_order : List Text
in_another_order = said (codes "map.rst" ∷ codes "--cache=4096" ∷ [])

order_is_free : (fault_of program in_another_order ≡ []) × (file_in in_another_order ≡ Some (codes "map.rst")) × (pages_in in_another_order ≡ Some (codes "4096")) × (made_in in_another_order ≡ Some (codes "false"))
unfolding clap_on_literals
order_is_free = (refl, refl, refl, refl)

-- the newest version that the file may have, and 3 where none is said
abbrev held_to_two : List Text
held_to_two = said (codes "--format" ∷ codes "2" ∷ codes "--create" ∷ codes "map.rst" ∷ [])

newest_is_read : (fault_of program held_to_two ≡ []) × (newest_in held_to_two ≡ Some (codes "2"))
    × (file_in held_to_two ≡ Some (codes "map.rst")) × (made_in held_to_two ≡ Some (codes "true"))
    × (newest_in all_said ≡ Some (codes "3"))
unfolding clap_on_literals
newest_is_read = (refl, refl, refl, refl, refl)

-- a file that is only read
only_read : (fault_of program (said (codes "--read-only" ∷ codes "map.rst" ∷ [])) ≡ []) × (file_in (said (codes "--read-only" ∷ codes "map.rst" ∷ [])) ≡ Some (codes "map.rst")) × (read_in (said (codes "--read-only" ∷ codes "map.rst" ∷ [])) ≡ Some (codes "true")) × (made_in (said (codes "--read-only" ∷ codes "map.rst" ∷ [])) ≡ Some (codes "false")) × (read_in (said []) ≡ Some (codes "false"))
unfolding clap_on_literals
only_read = (refl, refl, refl, refl, refl)

-- after `--` each word is a file
file_after_dashes : file_in (said (codes "--" ∷ codes "--create" ∷ [])) ≡ Some (codes "--create")
unfolding clap_on_literals
file_after_dashes = refl

-- what is refused, and what is told
refusals : (fault_of program (said (codes "--cache" ∷ codes "7" ∷ [])) ≡ kind.ValueValidation ∷ [])
    × (fault_of program (said (codes "--cache" ∷ codes "4097" ∷ [])) ≡ kind.ValueValidation ∷ [])
    × (fault_of program (said (codes "--format" ∷ codes "1" ∷ [])) ≡ kind.ValueValidation ∷ [])
    × (fault_of program (said (codes "--format" ∷ codes "4" ∷ [])) ≡ kind.ValueValidation ∷ [])
    × (fault_of program (said (codes "a" ∷ codes "b" ∷ [])) ≡ kind.UnknownArgument ∷ [])
    × (fault_of program (said (codes "--create" ∷ codes "--create" ∷ [])) ≡ kind.ArgumentConflict ∷ [])
    × (fault_of program (said (codes "--help" ∷ [])) ≡ kind.DisplayHelp ∷ [])
    × (fault_of program (said (codes "--version" ∷ [])) ≡ kind.DisplayVersion ∷ [])
unfolding clap_on_literals
refusals = (refl, refl, refl, refl, refl, refl, refl, refl)

-- an import, with a fanout and a scale
abbrev imported : List Text
imported = said (codes "--import" ∷ codes "roads:50" ∷ codes "--scale=10" ∷ codes "map.rst" ∷ [])

import_is_read : (fault_of program imported ≡ []) × (file_in imported ≡ Some (codes "map.rst"))
    × (target_in imported ≡ Some (codes "roads:50"))
    × (first_of (codes "scale") (matches_of program imported) ≡ Some (codes "10"))
    × (first_of (codes "columns") (matches_of program imported) ≡ None)
unfolding clap_on_literals
import_is_read = (refl, refl, refl, refl, refl)
