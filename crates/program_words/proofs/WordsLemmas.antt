-- What a text is read as.
use Rattle.std.proofs.Common.{◌≡◌, ◌∙◌, ◌<◌, ◌≤◌, ◌^◌, ap, ℕ, Bool, true, false, List, Option, Some}
use Rattle.std.proofs.Common.{None, Result, Ok, Err, refl, sym, subst, arith, codes}
use Rattle.std.proofs.lemmas.Bool.Decides.{nat_tests}
use Rattle.std.specs.Prelude.{◌||◌, is_some, option_map}
use Rattle.std.specs.Str.Parse.{ParsesUnsigned}
use Rattle.clap.specs.Values.{bool_text}
use Rattle.clap.specs.Words.{ReadsOne, Text}
use Rattle.program_words.specs.Words.{Asked, IsNumber, IsSaid, is_cache}

-- a text that is a number is read as that number
pub number_read : (E : Type 0) (G : List ℕ → Result ℕ E → Type 0) (text : Text) (n : ℕ) (r : Option ℕ)
    → ReadsOne G text r
    → ((bs : List ℕ) (x : Result ℕ E) → G bs x → ParsesUnsigned 32 10 bs x) → IsNumber text n → n < 2 ^ 32
    → r ≡ Some n
number_read E G text n (Some v) read only is fits =
    ap (λ (k : ℕ). Some k) ((only text (Ok v) read).1 ∙ is.value)
number_read E G text n None read only is fits =
    absurd (only text (Err read.0) read.1 (is.numeral, subst (λ (k : ℕ). k < 2 ^ 32) (sym is.value) fits))

-- a number of pages that can be cached
pub in_range : (n : ℕ) → 8 ≤ n → n ≤ 4096 → is_cache n ≡ true
in_range n low high = grind (arith, nat_tests)

-- a flag is read as its text says
pub flag_read : (r : Bool) (o : Option Text) → (o ≡ Some (codes "true") → r ≡ true) → (o ≡ Some (codes "false") → r ≡ false) → (flag : Bool) → o ≡ Some (bool_text flag) → r ≡ flag
flag_read r o set unset true is = set is
flag_read r o set unset false is = unset is

-- a text that is there, seen in another way, is there
pub is_some-mapped : {X Y : Type 0} (f : X → Y) (o : Option X) → is_some (option_map f o) ≡ is_some o
is_some-mapped f None = refl
is_some-mapped f (Some x) = refl

-- one of several words is said
pub any_so : {X Y : Type 0} (f : X → Y) (a b c d : Option X) (flag : Bool)
    → (is_some a || (is_some b || (is_some c || (is_some d || flag))))
    ≡ (is_some (option_map f a) || (is_some (option_map f b) || (is_some (option_map f c)
    || (is_some (option_map f d) || flag))))
any_so f a b c d flag =
    rw (is_some-mapped f a, is_some-mapped f b, is_some-mapped f c, is_some-mapped f d) refl

-- what is asked, where the texts are found in another way
pub said_so : (told told' given given' : Text → Option Text) (asked : Asked)
    → ((name : Text) → told name ≡ told' name) → ((name : Text) → given name ≡ given' name)
    → IsSaid told given asked → IsSaid told' given' asked
said_so told told' given given' asked tells gives h = record {
  cache = λ text k is. h.cache text k (tells (codes "cache") ∙ is);
  newest = λ text k is. h.newest text k (tells (codes "format") ∙ is);
  create = λ b is. h.create b (tells (codes "create") ∙ is);
  read_only = λ b is. h.read_only b (tells (codes "read-only") ∙ is);
  strict = λ b is. h.strict b (tells (codes "strict") ∙ is);
  draw = h.draw ∙ gives (codes "draw");
  stats = λ b is. h.stats b (tells (codes "stats") ∙ is);
  json = λ b is. h.json b (tells (codes "json") ∙ is);
  layer = h.layer ∙ gives (codes "import");
  columns = h.columns ∙ gives (codes "columns");
  scale = h.scale ∙ gives (codes "scale");
  axes = h.axes ∙ gives (codes "axes");
  geojson = λ b is. h.geojson b (tells (codes "geojson") ∙ is);
  file = h.file ∙ gives (codes "file");
}
