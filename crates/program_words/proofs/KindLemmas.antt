-- Of which kind a run is, by what is known of its words.
use Rattle.std.proofs.Common.{◌≡◌, Bool, true, false, Option, Some, None, refl}
use Rattle.clap.specs.Words.{Text}
use Rattle.program_words.specs.Kinds.{kind_of, kind_of_run}
use Rattle.program_words.specs.Kinds.Kind.{Imported}
use Rattle.program_words.specs.Words.{Asked, imports, shows}

pub kind_so : (asked : Asked) (shown imported read_only create : Bool) (file : Option Text)
    → shows asked ≡ shown → imports asked ≡ imported → asked.file ≡ file → asked.read_only ≡ read_only
    → asked.create ≡ create → kind_of_run asked ≡ kind_of shown imported file read_only create
unfolding kind_of_run
kind_so asked shown imported read_only create file a b c d e = rw (a, b, c, d, e) refl

-- a run that imports is asked to
imported_of : (shown imported read_only create : Bool) (file : Option Text) (path : Text)
    → kind_of shown imported file read_only create ≡ Imported path → imported ≡ true
imported_of shown true read_only create file path is = refl
imported_of true false read_only create (Some p) path is = absurd cc
imported_of true false read_only create None path is = absurd cc
imported_of false false false create None path is = absurd cc
imported_of false false true create None path is = absurd cc
imported_of false false false create (Some p) path is = absurd cc
imported_of false false true false (Some p) path is = absurd cc
imported_of false false true true (Some p) path is = absurd cc

pub imports_so : (asked : Asked) (path : Text) → kind_of_run asked ≡ Imported path → imports asked ≡ true
unfolding kind_of_run
imports_so asked path is = imported_of (shows asked) (imports asked) asked.read_only asked.create asked.file path is
