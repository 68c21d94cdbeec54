-- What `Options` say that the words ask for, and what kind of run.
use Rattle.std.specs.Prelude.{option_map}
use Rattle.program_words.specs.Kinds.{Kind, Kind as kind}
use Rattle.program_words.specs.Words.{Asked}
use Rattle.program_words.specs.declared.kinds.RunKind.{RunKind}
use Rattle.program_words.specs.declared.kinds.RunKind.TheVariants as run
use Rattle.program_words.specs.declared.options.Options.{Options}

-- what is asked, its texts being read where they stand
abbrev pub asked_of : Options → Asked
asked_of o = record {
  cache = o.limits.cache;
  newest = o.limits.newest;
  create = o.create;
  read_only = o.read_only;
  strict = o.strict;
  draw = option_map (λ text. text.now) o.draw;
  stats = o.stats;
  json = o.json;
  layer = option_map (λ text. text.now) o.import.layer;
  columns = option_map (λ text. text.now) o.import.columns;
  scale = option_map (λ text. text.now) o.import.scale;
  axes = option_map (λ text. text.now) o.import.axes;
  geojson = o.import.geojson;
  file = option_map (λ text. text.now) o.file;
}

-- the kind of run
abbrev pub kind_in : RunKind → Kind
kind_in run.InMemory = kind.InMemory
kind_in (run.OfFile path) = kind.OfFile path.now
kind_in (run.OnlyRead path) = kind.OnlyRead path.now
kind_in (run.Shown path) = kind.Shown path.now
kind_in (run.Imported path) = kind.Imported path.now
kind_in run.Misused = kind.Misused
