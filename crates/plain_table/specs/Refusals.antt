-- The numbers and names of refusals. Our rule, docs/COMMANDS.md.
use Rattle.std.specs.Prelude.{ℕ, List, codes}
use Rattle.plain_table.specs.declared.refusal.Refusal.{Refusal}
use Rattle.plain_table.specs.declared.refusal.Refusal.TheVariants as refusal

-- from 1 to 25
abbrev pub refusal_number : Refusal → ℕ
refusal_number refusal.BadName = 1
refusal_number refusal.LayerExists = 2
refusal_number refusal.NoLayer = 3
refusal_number refusal.BadDims = 4
refusal_number refusal.BadFanout = 5
refusal_number refusal.TooManyLayers = 6
refusal_number refusal.BadBox = 7
refusal_number refusal.WrongDims = 8
refusal_number refusal.Duplicate = 9
refusal_number refusal.NoObject = 10
refusal_number refusal.TooManyObjects = 11
refusal_number refusal.NotEmpty = 12
refusal_number (refusal.DuplicateInLoad id) = 13
refusal_number refusal.BadCount = 14
refusal_number refusal.DimsDiffer = 15
refusal_number refusal.Memory = 16
refusal_number refusal.Device = 17
refusal_number (refusal.Damaged page) = 18
refusal_number (refusal.StoreFailed cause) = 19
refusal_number refusal.NotClosed = 20
refusal_number refusal.NotAStore = 21
refusal_number refusal.WrongVersion = 22
refusal_number refusal.BadCache = 23
refusal_number refusal.BadLine = 24
refusal_number refusal.NoPages = 25

-- in ASCII
abbrev pub refusal_name : Refusal → List ℕ
refusal_name refusal.BadName = codes "BadName"
refusal_name refusal.LayerExists = codes "LayerExists"
refusal_name refusal.NoLayer = codes "NoLayer"
refusal_name refusal.BadDims = codes "BadDims"
refusal_name refusal.BadFanout = codes "BadFanout"
refusal_name refusal.TooManyLayers = codes "TooManyLayers"
refusal_name refusal.BadBox = codes "BadBox"
refusal_name refusal.WrongDims = codes "WrongDims"
refusal_name refusal.Duplicate = codes "Duplicate"
refusal_name refusal.NoObject = codes "NoObject"
refusal_name refusal.TooManyObjects = codes "TooManyObjects"
refusal_name refusal.NotEmpty = codes "NotEmpty"
refusal_name (refusal.DuplicateInLoad id) = codes "DuplicateInLoad"
refusal_name refusal.BadCount = codes "BadCount"
refusal_name refusal.DimsDiffer = codes "DimsDiffer"
refusal_name refusal.Memory = codes "Memory"
refusal_name refusal.Device = codes "Device"
refusal_name (refusal.Damaged page) = codes "Damaged"
refusal_name (refusal.StoreFailed cause) = codes "StoreFailed"
refusal_name refusal.NotClosed = codes "NotClosed"
refusal_name refusal.NotAStore = codes "NotAStore"
refusal_name refusal.WrongVersion = codes "WrongVersion"
refusal_name refusal.BadCache = codes "BadCache"
refusal_name refusal.BadLine = codes "BadLine"
refusal_name refusal.NoPages = codes "NoPages"
