use Rattle.std.proofs.Common.{◌≤◌, ◌∙◌, List, ap, arith, length, sym}
use Rattle.std.specs.List.{flat_map, list_all}
use Rattle.std.proofs.lemmas.List.{take_all}
use Rattle.tb_csv.specs.Fields.{part_fields}
use Rattle.tb_csv.specs.Promise.Types.{is_of}
use Rattle.tb_csv.specs.Read.{run_column}
use Rattle.tb_csv.specs.declared.run.Run.{Run}
use Rattle.tb_csv.proofs.ColumnWalks.{run_fails, run_passes}
use Rattle.tb_csv.proofs.cells.are_of.Goals as goal

pub returns-then-not-are_of_run : goal.returns-then-not-are_of_run
returns-then-not-are_of_run c =
    let fields = c.args.fields in
    let w = length fields.records.now.names.items in
    let runs = c.deref-run-items.result.now in
    sym (ap (λ (rs : List Run). list_all (is_of c.args.field_type) (flat_map (run_column w fields.column) rs)) (sym c.deref-run-items.ensures.value)
    ∙ run_fails w fields.column runs c.loop-run.run-index c.run-item.result c.loop-run-test.true c.run-item.is c.args.field_type
    (part_fields c.of_run.result) c.of_run.ensures.fields (sym c.if-not-are_of_run.ensures))

pub loop-run-preserved : goal.loop-run-preserved
loop-run-preserved c =
    let fields = c.args.fields in
    run_passes (length fields.records.now.names.items) fields.column c.deref-run-items.result.now c.loop-run.run-index c.run-item.result c.loop-run-test.true c.run-item.is c.args.field_type
    (part_fields c.of_run.result) c.of_run.ensures.fields (sym c.if-not-are_of_run.ensures) c.loop-run.invariant

pub returns : goal.returns
returns c =
    let fields = c.args.fields in
    let w = length fields.records.now.names.items in
    let runs = c.deref-run-items.result.now in
    let past : length runs ≤ c.loop-run.run-index = omega arith in
    sym (ap (λ (rs : List Run). list_all (is_of c.args.field_type) (flat_map (run_column w fields.column) rs)) (sym c.deref-run-items.ensures.value ∙ sym (take_all c.loop-run.run-index runs past))
    ∙ c.loop-run.invariant)
