-- How a proof stores tables as data: a record as the tuple of its fields.
use Rattle.std.specs.Prelude.{ℕ, List, ℤ, refl}
use Rattle.std.specs.Coded.{Coded, code_by, coded×, coded_ℕ, coded_ℤ, coded_list}
use Rattle.std.specs.FinMap as map
use Rattle.box_math.specs.Bounds.{Bounds}
use Rattle.box_math.specs.Objects.{Object}
use Rattle.plain_table.specs.Table.{Table, Layer, Objects}

abbrev pub bounds_code : Coded Bounds
bounds_code =
    code_by (List ℤ × List ℤ) (coded× (coded_list coded_ℤ) (coded_list coded_ℤ)) (λ b. (b.low, b.high))
    (λ p. record { low = p.0; high = p.1 }) (λ _. refl)

abbrev pub object_code : Coded Object
object_code = coded× bounds_code coded_ℕ

abbrev pub objects_code : Coded Objects
objects_code = map.code coded_ℕ object_code

abbrev pub layer_code : Coded Layer
layer_code =
    code_by (ℕ × (ℕ × Objects)) (coded× coded_ℕ (coded× coded_ℕ objects_code))
    (λ l. (l.dims, (l.fanout, l.objects))) (λ p. record { dims = p.0; fanout = p.1.0; objects = p.1.1 })
    (λ _. refl)

abbrev pub table_code : Coded Table
table_code = map.code (coded_list coded_ℕ) layer_code
