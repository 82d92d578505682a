-- The flag of a column, as a test.
use Rattle.std.specs.Prelude.{Bool, true, false, ◌&&◌, List}
use Rattle.std.specs.List.{list_all}
use Rattle.tb_value.specs.Promise.Datum.{Datum}
use Rattle.tb_value.specs.Promise.Kind.{Kind}
use Rattle.tb_value.specs.Promise.SameKind.{is_key}
use Rattle.tb_value.specs.declared.sorted.IsSorted.{IsSorted}
use Rattle.tb_value.specs.declared.sorted.IsSorted.TheVariants.{Ascending, Descending, Not}
use Rattle.tb_chunk.specs.Promise.Col.{Col, values}
use Rattle.tb_cell.specs.Promise.Order.{keeps_order}

-- the type has keys, and the values keep the order in which they ascend, or the one in which they descend
abbrev pub flag_holds : IsSorted → Kind → List Datum → Bool
flag_holds Ascending t vs = is_key t && keeps_order false vs
flag_holds Descending t vs = is_key t && keeps_order true vs
flag_holds Not t vs = true

-- the flag of each column is true of its values
abbrev pub flags_hold : List Col → Bool
flags_hold cs = list_all (λ (c : Col). flag_holds c.flag c.kind (values c)) cs
