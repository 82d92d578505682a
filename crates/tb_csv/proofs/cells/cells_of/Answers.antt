use Rattle.std.proofs.Common.{◌≡◌, ◌≤◌, ◌+◌, ◌∙◌, List, ap, arith, length, map, sym, take, ℕ}
use Rattle.std.specs.List.{flat_map}
use Rattle.std.proofs.lemmas.List.{drop_all, take_all}
use Rattle.std.proofs.lemmas.Result.{err_from_is_err_and}
use Rattle.tb_value.specs.declared.limits.TheConstants.{MAX_ROWS}
use Rattle.tb_chunk.specs.Chunk.{or_null}
use Rattle.tb_csv.specs.Fields.{part_fields}
use Rattle.tb_csv.specs.Promise.Faults.{column_fault}
use Rattle.tb_csv.specs.Promise.Types.{cell_of}
use Rattle.tb_csv.specs.Read.{rows_in, run_column}
use Rattle.tb_csv.specs.declared.run.Run.{Run}
use Rattle.tb_csv.proofs.ColumnWalks.{cells_over, fault_next, fault_stops, part_height, rows_fit, rows_more}
use Rattle.tb_csv.proofs.cells.cells_of.Goals as goal

pub push_cells-requires-clause-few : goal.push_cells-requires-clause-few
push_cells-requires-clause-few g c =
    let fields = c.args.fields in
    let fit : rows_in (take c.loop-run.run-index c.deref-run-items.result.now) + c.run-item.result.height ≤ MAX_ROWS =
    rows_fit (length fields.records.now.names.items) fields.column c.deref-run-items.result.now c.loop-run.run-index c.run-item.result c.loop-run-test.true c.run-item.is fields c.deref-run-items.ensures.value in
    let high : c.of_run-part.result.run.now.height ≡ c.run-item.result.height = ap (λ (r : Run). r.height) c.of_run-part.ensures.run in
    omega (arith, fit, high, c.loop-run.invariant.before)

pub overflow_add-before : goal.overflow_add-before
overflow_add-before g c =
    let fields = c.args.fields in
    let fit : rows_in (take c.loop-run.run-index c.deref-run-items.result.now) + c.run-item.result.height ≤ MAX_ROWS =
    rows_fit (length fields.records.now.names.items) fields.column c.deref-run-items.result.now c.loop-run.run-index c.run-item.result c.loop-run-test.true c.run-item.is fields c.deref-run-items.ensures.value in
    omega (arith, fit, c.loop-run.invariant.before)

pub returns-in_err-push_cells-clause-settles : goal.returns-in_err-push_cells-clause-settles
returns-in_err-push_cells-clause-settles g c =
    let fields = c.args.fields in
    let w = length fields.records.now.names.items in
    let runs = c.deref-run-items.result.now in
    let whole = ap (λ (rs : List Run). column_fault c.args.name.now c.args.field_type 1 (flat_map (run_column w fields.column) rs)) (sym c.deref-run-items.ensures.value) in
    let p = err_from_is_err_and c.from_residual-in_err-push_cells.result c.from_residual-in_err-push_cells.ensures.1 in
    rw (p.1, p.2) (fault_stops w fields.column runs c.loop-run.run-index c.run-item.result c.loop-run-test.true c.run-item.is c.args.name.now c.args.field_type c.loop-run.before
    (part_fields c.of_run-part.result) (flat_map (run_column w fields.column) fields.records.now.runs.items) c.in_err-push_cells.field-0.0 c.of_run-part.ensures.fields c.in_err-push_cells.ensures.settles (whole ∙ c.loop-run.invariant.fault))

pub loop-run-preserved : goal.loop-run-preserved
loop-run-preserved g c =
    let fields = c.args.fields in
    let w = length fields.records.now.names.items in
    let runs = c.deref-run-items.result.now in
    let high = part_height c.of_run-part.result ∙ ap (λ (r : Run). r.height) c.of_run-part.ensures.run in
    record {
      fault = fault_next w fields.column runs c.loop-run.run-index c.run-item.result c.loop-run-test.true c.run-item.is c.args.name.now c.args.field_type c.loop-run.before
          (part_fields c.of_run-part.result) (flat_map (run_column w fields.column) runs) c.of_run-part.ensures.fields high c.in_ok-push_cells.ensures.settles c.loop-run.invariant.fault;
      before = ap (λ (n : ℕ). n + c.run-item.result.height) c.loop-run.invariant.before
          ∙ sym (rows_more w fields.column runs c.loop-run.run-index c.run-item.result c.loop-run-test.true c.run-item.is);
      cells = cells_over w fields.column runs c.loop-run.run-index c.run-item.result c.loop-run-test.true c.run-item.is c.args.field_type
          (part_fields c.of_run-part.result) (map (or_null g.N.Cell.shows) c.loop-run.cells) (map (or_null g.N.Cell.shows) c.push_cells.new.cells) c.of_run-part.ensures.fields c.in_ok-push_cells.ensures.cells c.loop-run.invariant.cells;
      typed = c.in_ok-push_cells.ensures.typed;
    }

pub returns-clause-settles : goal.returns-clause-settles
returns-clause-settles g c =
    let fields = c.args.fields in
    let w = length fields.records.now.names.items in
    let runs = c.deref-run-items.result.now in
    let past : length runs ≤ c.loop-run.run-index = omega arith in
    ap (λ (rs : List Run). column_fault c.args.name.now c.args.field_type 1 (flat_map (run_column w fields.column) rs)) (sym c.deref-run-items.ensures.value) ∙ c.loop-run.invariant.fault
    ∙ ap (λ (rs : List Run). column_fault c.args.name.now c.args.field_type (c.loop-run.before + 1) (flat_map (run_column w fields.column) rs)) (drop_all c.loop-run.run-index runs past)

pub returns-clause-cells : goal.returns-clause-cells
returns-clause-cells g c =
    let fields = c.args.fields in
    let w = length fields.records.now.names.items in
    let runs = c.deref-run-items.result.now in
    let past : length runs ≤ c.loop-run.run-index = omega arith in
    c.loop-run.invariant.cells
    ∙ ap (λ (rs : List Run). map (cell_of c.args.field_type) (flat_map (run_column w fields.column) rs)) (take_all c.loop-run.run-index runs past ∙ c.deref-run-items.ensures.value)
