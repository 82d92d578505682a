use Rattle.std.proofs.Common.{◌≡◌, ◌<◌, ◌≤◌, ◌+◌, ◌++◌, ◌∙◌, ap, append-nil, arith, drop, get_or, length, map, refl, sym, inr, List, None, Some, ℕ}
use Rattle.std.proofs.lemmas.List.{drop_all, map_push, take_all}
use Rattle.std.proofs.lemmas.List.Elements.{All-push}
use Rattle.tb_value.specs.Promise.Names.{Name}
use Rattle.tb_value.specs.Promise.Typed.{HasType}
use Rattle.tb_chunk.specs.Chunk.{or_null}
use Rattle.tb_csv.specs.Fields.{part_fields}
use Rattle.tb_csv.specs.Promise.Faults.{column_fault}
use Rattle.tb_csv.specs.Promise.Records.{Field}
use Rattle.tb_csv.specs.Promise.Types.{cell_of, kind_at}
use Rattle.tb_csv.specs.declared.fault.CsvFault.TheVariants.{NotOfType}
use Rattle.tb_csv.proofs.ColumnWalks.{part_height}
use Rattle.tb_csv.proofs.FieldWalks.{cells_more, fault_here, fault_more, read_none, read_some}
use Rattle.tb_csv.proofs.cells.push_cells.Goals as goal

pub loop-row-init : goal.loop-row-init
loop-row-init g c =
    let at : c.args.before + 1 ≡ (c.args.before + 0) + 1 = omega arith in
    record {
      fault = ap (λ (k : ℕ). column_fault c.args.name.now c.args.field_type k (part_fields c.args.part)) at;
      cells = sym (append-nil (map (or_null g.N.Cell.shows) c.args.cells.now));
      typed = c.requires.typed;
    }

pub returns-in_default-clause-settles : goal.returns-in_default-clause-settles
returns-in_default-clause-settles g c =
    let fs = part_fields c.args.part in
    let low : c.loop-row.row < length fs = omega (arith, part_height c.args.part, c.loop-row-test.true) in
    let none = read_none (or_null g.N.Cell.shows) c.args.field_type _ c.cell_at.result c.cell_at.ensures.value c.in_default.is in
    inr (
    c.loop-row.invariant.fault
    ∙ fault_here c.args.name.now c.args.field_type ((c.args.before + c.loop-row.row) + 1) fs c.loop-row.row (get_or fs c.loop-row.row None) low refl none
    ∙ ap (λ (n : Name). Some (NotOfType ((c.args.before + c.loop-row.row) + 1) n c.args.field_type)) (sym c.in_ok-copy.ensures)
    )

pub loop-row-preserved : goal.loop-row-preserved
loop-row-preserved g c =
    let fs = part_fields c.args.part in
    let low : c.loop-row.row < length fs = omega (arith, part_height c.args.part, c.loop-row-test.true) in
    let some = read_some (or_null g.N.Cell.shows) c.args.field_type _ c.cell_at.result c.in-Some.cell c.cell_at.ensures.value c.in-Some.is in
    let at : ((c.args.before + c.loop-row.row) + 1) + 1 ≡ (c.args.before + (c.loop-row.row + 1)) + 1 = omega arith in
    record {
      fault = c.loop-row.invariant.fault
          ∙ fault_more c.args.name.now c.args.field_type ((c.args.before + c.loop-row.row) + 1) fs c.loop-row.row (get_or fs c.loop-row.row None) low refl some.0
          ∙ ap (λ (k : ℕ). column_fault c.args.name.now c.args.field_type k (drop (c.loop-row.row + 1) fs)) at;
      cells = rw c.in_ok-push.ensures.ok (cells_more g.N.Cell.shows c.args.field_type fs c.loop-row.row (get_or fs c.loop-row.row None) (map (or_null g.N.Cell.shows) c.args.cells.now)
          c.loop-row.cells c.in-Some.cell low refl some.1 c.loop-row.invariant.cells);
      typed = rw (c.in_ok-push.ensures.ok, map_push) (All-push (HasType (kind_at c.args.field_type)) _ _ c.loop-row.invariant.typed (rw c.in-Some.is at c.cell_at.ensures.typed));
    }

pub returns-clause-settles : goal.returns-clause-settles
returns-clause-settles g c =
    let fs = part_fields c.args.part in
    let past : length fs ≤ c.loop-row.row = omega (arith, part_height c.args.part) in
    c.loop-row.invariant.fault ∙ ap (column_fault c.args.name.now c.args.field_type ((c.args.before + c.loop-row.row) + 1)) (drop_all c.loop-row.row fs past)

pub returns-clause-cells : goal.returns-clause-cells
returns-clause-cells g c =
    let fs = part_fields c.args.part in
    let past : length fs ≤ c.loop-row.row = omega (arith, part_height c.args.part) in
    c.loop-row.invariant.cells
    ∙ ap (λ (l : List Field). map (or_null g.N.Cell.shows) c.args.cells.now ++ map (cell_of c.args.field_type) l) (take_all c.loop-row.row fs past)
