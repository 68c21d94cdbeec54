-- The laws of what fork pages spell.
use Rattle.std.specs.Prelude.{◌≡◌, ℕ, ◌↔◌, List, Some}
use Rattle.block_bytes.specs.Forms.{HasOnePage, ReadsNamed}
use Rattle.id_page.specs.Fork.{ForkContent, SpellsFork, fork_at, fork_names}

-- reading gives exactly what is spelled
abbrev pub ReadsSpelledForks : Type 0
ReadsSpelledForks = (dims : ℕ) (page : List ℕ) (c : ForkContent)
    → (fork_at dims page ≡ Some c) ↔ SpellsFork dims page c

-- only named bytes are read
abbrev pub ReadsNamedOfForks : Type 0
ReadsNamedOfForks = (dims : ℕ) → ReadsNamed (fork_at dims) fork_names

-- a fork has one page
abbrev pub ForksHaveOnePage : Type 0
ForksHaveOnePage = (dims : ℕ) → HasOnePage (fork_at dims) fork_names
