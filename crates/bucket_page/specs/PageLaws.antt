-- The laws of what pages spell.
use Rattle.std.specs.Prelude.{◌≡◌, ℕ, ◌↔◌, List, Some}
use Rattle.block_bytes.specs.Forms.{IsPageOf, ReadsNamed}
use Rattle.block_bytes.specs.Numbers.{number_at, AreBytes}
use Rattle.bucket_page.specs.Layout.{BucketContent, IsBucket, Spells, bucket_at, names}

-- reading gives exactly what is spelled
abbrev pub ReadsWhatIsSpelled : Type 0
ReadsWhatIsSpelled = (dims : ℕ) (page : List ℕ) (c : BucketContent)
    → (bucket_at dims page ≡ Some c) ↔ Spells dims page c

-- only named bytes are read
abbrev pub ReadsNamedBytes : Type 0
ReadsNamedBytes = (dims : ℕ) → ReadsNamed (bucket_at dims) (names dims)

-- what a page of bytes spells is a bucket
abbrev pub SpellsBuckets : Type 0
SpellsBuckets = (dims : ℕ) (page : List ℕ) (c : BucketContent) → AreBytes page → Spells dims page c
    → IsBucket dims c

-- a bucket has one page of a kind
abbrev pub BucketsHaveOnePage : Type 0
BucketsHaveOnePage = (dims : ℕ) (a b : List ℕ) (c : BucketContent) → AreBytes a → AreBytes b
    → number_at 1 0 a ≡ number_at 1 0 b
    → IsPageOf (bucket_at dims) (names dims) a c → IsPageOf (bucket_at dims) (names dims) b c → (k : ℕ)
    → number_at 1 k a ≡ number_at 1 k b
