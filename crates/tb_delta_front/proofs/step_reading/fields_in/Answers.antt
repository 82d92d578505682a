use Rattle.std.proofs.Common.{arith}
use Rattle.std.proofs.lemmas.List.{map_push}
use Rattle.tb_tree.specs.View.{view}
use Rattle.tb_value.specs.See.{datum}
use Rattle.tb_json.proofs.ValueWalks.{TypedSoFar-start}
use Rattle.tb_front.proofs.Each.{begins}
use Rattle.tb_delta_front.proofs.StepRows.{all_fields, all_typed, field_of, no_more, one_field, one_typed, schema}
use Rattle.tb_delta_front.proofs.step_reading.fields_in.Goals as goal

pub loop-column-init : goal.loop-column-init
loop-column-init c =
    let cs = c.args.columns.now in
    rw c.in_ok-fields.ensures.items (record { read = begins (field_of c.args.line (view c.args.row.now)) 0 (schema cs); typed = TypedSoFar-start (schema cs) })

pub loop-column-preserved : goal.loop-column-preserved
loop-column-preserved c =
    let cs = c.args.columns.now in
    let i = c.loop-column.column-index in
    let col = c.column-item.result in
    let v = datum c.in-Ok.field in
    rw (c.in_ok-push-in-Ok.ensures.items, map_push) (record {
      read = one_field c.args.line (view c.args.row.now) cs _ i col v c.loop-column-test.true c.column-item.is c.loop-column.invariant.read c.in-Ok.ensures.value;
      typed = one_typed cs _ i col v c.loop-column-test.true c.column-item.is c.in-Ok.ensures.typed c.loop-column.invariant.typed;
    })

pub returns-in-Err-clause-value : goal.returns-in-Err-clause-value
returns-in-Err-clause-value c =
    no_more c.args.line (view c.args.row.now) c.args.columns.now _ c.loop-column.column-index c.column-item.result c.in-Err.fault c.loop-column-test.true c.column-item.is c.loop-column.invariant.read c.in-Err.ensures.value

pub returns-clause-value : goal.returns-clause-value
returns-clause-value c =
    all_fields c.args.line (view c.args.row.now) c.args.columns.now _ c.loop-column.column-index (omega (arith, c.loop-column-test.false)) c.loop-column.invariant.read

pub returns-clause-typed : goal.returns-clause-typed
returns-clause-typed c = all_typed c.args.columns.now _ c.loop-column.column-index (omega (arith, c.loop-column-test.false)) c.loop-column.invariant.typed
