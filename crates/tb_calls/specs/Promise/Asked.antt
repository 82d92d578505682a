-- What is asked of tables by what is given beside them.
use Rattle.std.specs.Prelude.{Bool, List, Option, option_map}
use Rattle.std.specs.declared.alloc.Global.{Global}
use Rattle.std.specs.declared.vec.Vec.{Vec}
use Rattle.tb_value.specs.Promise.Names.{Name}
use Rattle.tb_agg.specs.declared.table.Aggregate.{Aggregate}
use Rattle.tb_frame.specs.Promise.Join.{by_names}
use Rattle.tb_frame.specs.Promise.Join as joined
use Rattle.tb_frame.specs.Promise.Table.{Table}
use Rattle.tb_unpivot.specs.Promise.Unpivot.{variable_or, value_or}
use Rattle.tb_unpivot.specs.Promise.Unpivot as long
use Rattle.tb_unpivot.specs.declared.frame_unpivot.UnpivotArgsIR.{UnpivotArgsIR}
use Rattle.tb_dummies.specs.Promise.Dummies as marked
use Rattle.tb_pivot.specs.Promise.Request.{way_of}
use Rattle.tb_label.specs.Promise.Label.{separator_or}
use Rattle.tb_pivot.specs.Promise.Request as wide
use Rattle.tb_calls.specs.declared.arguments.DummiesCall.{DummiesCall}
use Rattle.tb_calls.specs.declared.arguments.JoinCall.{JoinCall}
use Rattle.tb_calls.specs.declared.arguments.PivotCall.{PivotCall}

-- BY WHAT IS GIVEN

-- of a table that is made long: the names of the columns that are put one below the other, of those beside them, and names for two columns
abbrev pub long_request : Table → List Name → List Name → Option Name → Option Name → long.Request
long_request t on index variable value = record
    { table = t; on = on; index = index; variable = variable_or variable; value = value_or value }

-- of a table whose columns are replaced: which, what stands between a name and a text, and whether a value is left out
abbrev pub dummies_request : Table → Option (List Name) → Option Name → Bool → marked.Request
dummies_request t columns separator drop_first = record
    { table = t; columns = columns; separator = separator_or separator; drop_first = drop_first }

-- of a table that is made wide: the names of the columns of headers, of rows and of cells, whether columns are sorted, the aggregate,
-- and what stands between a name and a header
abbrev pub wide_request : Table → List Name → Option (List Name) → Option (List Name) → Bool
    → Option Aggregate → Option Name → wide.Request
wide_request t on index values sorts agg separator = record {
  table = t;
  on = on;
  index = index;
  values = values;
  sorts = sorts;
  way = way_of agg;
  separator = separator_or separator;
}

-- BY A CALL

-- names that may be given
abbrev pub names_in : Option (Vec Name Global) → Option (List Name)
names_in names = option_map (λ (v : Vec Name Global). v.items) names

abbrev pub joined_of : JoinCall → Table → Table → joined.Request
joined_of c left right = by_names left right c.left_on.items c.right_on.items c.args

abbrev pub long_of : UnpivotArgsIR → Table → long.Request
long_of c t = long_request t c.on.items c.index.items c.variable_name c.value_name

abbrev pub marked_of : DummiesCall → Table → marked.Request
marked_of c t = dummies_request t (names_in c.columns) c.separator c.drop_first

abbrev pub wide_of : PivotCall → Table → wide.Request
wide_of c t = wide_request t c.on.items (names_in c.index) (names_in c.values) c.sort_columns c.agg
    c.separator
