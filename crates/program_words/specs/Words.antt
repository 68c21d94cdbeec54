-- What the words of the command line ask for (our rule, docs/COMMANDS.md, "The program"). How words are read
-- as options and values is told by `clap`: `fault_of` is why it refuses them, and empty where it takes them;
-- `matches_of` is what it finds in those.
use Rattle.std.specs.Prelude.{◌≡◌, ◌≤◌, ◌&&◌, ◌||◌, ℕ, Bool, List, [], ◌∷◌, Option, Some, codes, is_some}
use Rattle.std.specs.Prelude.{nat_le, pos, true}
use Rattle.std.specs.Str.Parse.{IsNumeral, digits_value, without_leading_plus}
use Rattle.clap.specs.Simple.{on_top}
use Rattle.clap.specs.Values.{bool_text}
use Rattle.clap.specs.Words.{App, Rule, Text, fault_of, first_of, matches_of, new_app, new_rule, one_of}
use Rattle.clap.specs.Words.{with_rule}
use Rattle.clap.specs.declared.builder.action.ArgAction.TheVariants.{SetTrue}
use Rattle.clap.specs.declared.builder.value_parser.ValueParser.{ValueParser}
use Rattle.clap.specs.declared.builder.value_parser.ValueParser.TheVariants.{Signed}
use Rattle.page_file.specs.Layout.{version_number}
use Rattle.page_file.specs.declared.header.Version.{Version}

-- a word of this name with a number that the parser reads, and this one where it is not said
abbrev pub number_rule : Text → ValueParser → Text → Rule
number_rule name parser default = record (new_rule name) {
  long = Some name;
  value_names = 1;
  parser = Some parser;
  defaults = default ∷ [];
}

-- a cache holds 8 to 4096 pages
abbrev pub is_cache : ℕ → Bool
is_cache pages = nat_le 8 pages && nat_le pages 4096

-- `--cache N`, a number from 8 to 4096, and 64 where it is not said
abbrev pub cache_rule : Rule
cache_rule = number_rule (codes "cache") (Signed (pos 8) (pos 4096)) (codes "64")

-- `--format N`, 2 or 3, and 3 where it is not said
abbrev pub format_rule : Rule
format_rule = number_rule (codes "format") (Signed (pos 2) (pos 3)) (codes "3")

-- a flag of this name
abbrev pub flag_rule : Text → Rule
flag_rule name = record (new_rule name) { long = Some name; action = Some SetTrue }

-- `--create`
abbrev pub create_rule : Rule
create_rule = flag_rule (codes "create")

-- `--read-only`
abbrev pub read_only_rule : Rule
read_only_rule = flag_rule (codes "read-only")

-- `--strict`
abbrev pub strict_rule : Rule
strict_rule = flag_rule (codes "strict")

-- a word of this name with a value
abbrev pub valued_rule : Text → Rule
valued_rule name = record (new_rule name) { long = Some name; value_names = 1 }

-- `--draw LAYER`
abbrev pub draw_rule : Rule
draw_rule = valued_rule (codes "draw")

-- `--stats`, and `--json`
abbrev pub stats_rule : Rule
stats_rule = flag_rule (codes "stats")

abbrev pub json_rule : Rule
json_rule = flag_rule (codes "json")

-- the words by which something is shown
abbrev pub show_rules : App → App
show_rules words = with_rule (with_rule (with_rule words draw_rule) stats_rule) json_rule

-- the words of an import: `--import LAYER`, `--columns LIST`, `--scale N`, `--axes N` and `--geojson`
abbrev pub import_rules : App → App
import_rules words =
    with_rule (with_rule (with_rule (with_rule (with_rule words
    (valued_rule (codes "import"))) (valued_rule (codes "columns"))) (valued_rule (codes "scale")))
    (valued_rule (codes "axes"))) (flag_rule (codes "geojson"))

-- `FILE`
abbrev pub file_rule : Rule
file_rule = record (new_rule (codes "file")) { value_names = 1 }

-- the program, which tells its version too
abbrev pub program : App
program =
    with_rule (import_rules (show_rules (with_rule (with_rule (with_rule (with_rule (with_rule
    (on_top (λ s. record s { has_version = true }) (new_app (codes "rstore")))
    cache_rule) format_rule) create_rule) read_only_rule) strict_rule))) file_rule

-- ---- what words ask for

-- What words ask for. The layer is the word of `--import`, with its fanout or not.
pub record Asked : Type 0 where
  pub cache : ℕ
  pub newest : Version
  pub create : Bool
  pub read_only : Bool
  pub strict : Bool
  pub draw : Option Text
  pub stats : Bool
  pub json : Bool
  pub layer : Option Text
  pub columns : Option Text
  pub scale : Option Text
  pub axes : Option Text
  pub geojson : Bool
  pub file : Option Text

-- whether something of the file is to be shown: a layer is to be drawn, or statistics are to be told
abbrev pub shows : Asked → Bool
shows asked = is_some asked.draw || (asked.stats || asked.json)

-- whether one of the words of an import is said
abbrev pub imports : Asked → Bool
imports asked = is_some asked.layer || (is_some asked.columns || (is_some asked.scale || (is_some asked.axes
    || asked.geojson)))

-- a text is this decimal number
pub record IsNumber (text : Text) (n : ℕ) : Type 0 where
  pub numeral : IsNumeral 10 (without_leading_plus text)
  pub value : digits_value 10 (without_leading_plus text) ≡ n

-- it is the number that is said, if that is in this range
abbrev pub IsNumberSaid : ℕ → ℕ → Option Text → ℕ → Type 0
IsNumberSaid low high said n =
    (text : Text) (k : ℕ) → said ≡ Some text → IsNumber text k → low ≤ k → k ≤ high → n ≡ k

-- the flag is as it is said
abbrev pub IsFlagSaid : Option Text → Bool → Type 0
IsFlagSaid said flag = (b : Bool) → said ≡ Some (bool_text b) → flag ≡ b

-- This is asked where `told` is the text of each argument that has one in any case, as a flag has, and `given`
-- the value of each that is given.
pub record IsSaid (told given : Text → Option Text) (asked : Asked) : Type 0 where
  pub cache : IsNumberSaid 8 4096 (told (codes "cache")) asked.cache
  pub newest : IsNumberSaid 2 3 (told (codes "format")) (version_number asked.newest)
  pub create : IsFlagSaid (told (codes "create")) asked.create
  pub read_only : IsFlagSaid (told (codes "read-only")) asked.read_only
  pub strict : IsFlagSaid (told (codes "strict")) asked.strict
  pub draw : asked.draw ≡ given (codes "draw")
  pub stats : IsFlagSaid (told (codes "stats")) asked.stats
  pub json : IsFlagSaid (told (codes "json")) asked.json
  pub layer : asked.layer ≡ given (codes "import")
  pub columns : asked.columns ≡ given (codes "columns")
  pub scale : asked.scale ≡ given (codes "scale")
  pub axes : asked.axes ≡ given (codes "axes")
  pub geojson : IsFlagSaid (told (codes "geojson")) asked.geojson
  pub file : asked.file ≡ given (codes "file")

-- The words, the first of which is the program's name, are taken, and ask for this: `clap` finds it in them.
pub record Asks (words : List Text) (asked : Asked) : Type 0 where
  pub taken : fault_of program words ≡ []
  pub said : IsSaid (λ name. one_of name (matches_of program words))
      (λ name. first_of name (matches_of program words)) asked
