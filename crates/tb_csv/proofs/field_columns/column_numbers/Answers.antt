use Rattle.std.proofs.Common.{◌≡◌, ◌+◌, ◌*◌, ◌∙◌, None, ap, arith, get_or, map}
use Rattle.tb_value.specs.Promise.Datum.{int}
use Rattle.tb_chunk.specs.Chunk.{or_null}
use Rattle.tb_csv.specs.Numbers.{number_field, numbers_in}
use Rattle.tb_csv.specs.Read.{fields_down}
use Rattle.tb_csv.proofs.NumberWalks.{filled_more}
use Rattle.tb_csv.proofs.field_columns.column_numbers.Goals as goal

pub loop-row-init : goal.loop-row-init
loop-row-init g c = ap (map number_field) c.in_ok-numbers.ensures

pub loop-row-preserved : goal.loop-row-preserved
loop-row-preserved g c =
    filled_more number_field (λ row. get_or (g.R.Rows.shown c.args.rows.now) (row * c.args.width + c.args.column) None) c.loop-row.row (numbers_in c.loop-row.numbers) (numbers_in c.push.new.self) (or_null int c.in-Some.number)
    c.in_ok-push.ensures (rw c.in-Some.is at c.number_in.ensures ∙ c.field.ensures) c.loop-row.invariant

pub returns : goal.returns
returns g c =
    let end : c.loop-row.row ≡ c.args.height = omega arith in
    c.loop-row.invariant ∙ ap (λ n. fields_down c.args.width n c.args.column (g.R.Rows.shown c.args.rows.now)) end
