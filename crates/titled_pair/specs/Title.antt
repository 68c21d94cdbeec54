-- The first two blocks of a journal: its title, and whether its session has ended (our format,
-- docs/FORMAT.md, "The journal").
use Rattle.std.specs.Prelude.{◌≡◌, ◌≤◌, ℕ, Bool, ◌||◌, ◌==◌, List, [], ◌∷◌, length, slice_index_or}
use Rattle.block_device.specs.Device.{Blocks, block_at}
use Rattle.block_bytes.specs.Numbers.{zeros, number_at, put_number}

-- the ASCII text RSTARLOG
abbrev pub title_text : ℕ
title_text = 0x52535441524c4f47

-- the ASCII text RSTARTTL, with which the journals of older programs begin, which have one region
abbrev pub older_text : ℕ
older_text = 0x525354415254544c

-- the ASCII text RSTAREND
abbrev pub end_text : ℕ
end_text = 0x5253544152454e44

-- block 1 of a base, and zeros where there is none
abbrev pub header_in : Blocks → List ℕ
header_in a = slice_index_or a 1 zeros

-- a text, and behind it the bytes of block 1 of a base
unfoldable pub with_text : ℕ → List ℕ → List ℕ
with_text text header = put_number 8 0 text header

-- block 0 of a base's journal, and block 1 once its session has ended
abbrev pub title_of : Blocks → List ℕ
title_of a = with_text title_text (header_in a)

abbrev pub end_of : Blocks → List ℕ
end_of a = with_text end_text (header_in a)

-- a block that begins with the text of a title, or with that of an older one
abbrev pub reads_title : List ℕ → Bool
reads_title block = (number_at 8 0 block == title_text) || (number_at 8 0 block == older_text)

-- a journal behind its title
abbrev pub untitled : Blocks → Blocks
untitled [] = []
untitled (t ∷ []) = []
untitled (t ∷ u ∷ blocks) = blocks

-- a journal that has the title and the end of another
pub record HasTitle (journal e : Blocks) : Type 0 where
  pub room : 2 ≤ length e
  pub title : block_at 0 e ≡ block_at 0 journal
  pub end : block_at 1 e ≡ block_at 1 journal
