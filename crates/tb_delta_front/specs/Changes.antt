-- The columns of the table of changes.
use Rattle.std.specs.Prelude.{ℕ, List, map, codes, Option, Some}
use Rattle.tb_value.specs.Promise.Datum.{Datum, string}
use Rattle.tb_value.specs.Promise.Kind.{Kind}
use Rattle.tb_value.specs.Promise.Kind as kind
use Rattle.tb_value.specs.Promise.Names.{Name}
use Rattle.tb_value.specs.declared.error.Side.{Side}
use Rattle.tb_value.specs.declared.error.Side.TheVariants as side
use Rattle.tb_frame.specs.Promise.Table.{TableColumn}
use Rattle.tb_delta_front.specs.declared.change.Change as rust
use Rattle.tb_delta_front.specs.declared.changes.ChangeColumn.{ChangeColumn}
use Rattle.tb_delta_front.specs.declared.changes.ChangeColumn.TheVariants.{Step, Sign, Left, Right}
use Rattle.tb_delta_front.specs.Promise.Deltas.{Change, number, sign_of}

abbrev pub name_at : ChangeColumn → Name
name_at Step = codes "step"
name_at Sign = codes "change"
name_at Left = codes "left"
name_at Right = codes "right"

abbrev pub kind_at : ChangeColumn → Kind
kind_at Step = kind.uint64
kind_at Sign = kind.string
kind_at Left = kind.uint32
kind_at Right = kind.uint32

abbrev pub value_at : ChangeColumn → Change → Datum
value_at Step c = number c.step
value_at Sign c = string (sign_of c.comes)
value_at Left c = number c.left
value_at Right c = number c.right

abbrev pub column_at : ChangeColumn → List Change → TableColumn
column_at k cs = record { name = name_at k; kind = kind_at k; values = map (value_at k) cs }

-- ---- what the program has of each change in a chunk

abbrev pub id_on : Side → rust.Change → ℕ
id_on side.Left c = c.left
id_on side.Right c = c.right

abbrev pub sign_cell : rust.Change → Option (List ℕ)
sign_cell c = Some (sign_of c.comes)
