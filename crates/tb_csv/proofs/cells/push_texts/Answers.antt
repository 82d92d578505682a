use Rattle.std.proofs.Common.{◌≡◌, ◌<◌, ◌≤◌, ◌+◌, ◌++◌, ◌∙◌, ap, append-nil, arith, drop, length, map, sym, inr, List, Some, ℕ}
use Rattle.std.proofs.lemmas.List.{drop_all, take_all}
use Rattle.tb_value.specs.Promise.Datum.{string}
use Rattle.tb_value.specs.Promise.Names.{Name}
use Rattle.tb_chunk.specs.Chunk.{or_null}
use Rattle.tb_csv.specs.Fields.{part_fields}
use Rattle.tb_csv.specs.Promise.Faults.{column_fault}
use Rattle.tb_csv.specs.Promise.Records.{Field}
use Rattle.tb_csv.specs.Promise.Types.{cell_of}
use Rattle.tb_csv.specs.Read.{lent_field}
use Rattle.tb_csv.specs.declared.fault.CsvFault.TheVariants.{NotOfType}
use Rattle.tb_csv.specs.declared.field_type.FieldType.TheVariants as field
use Rattle.tb_csv.proofs.ColumnWalks.{part_height}
use Rattle.tb_csv.proofs.FieldWalks.{cells_more, fault_here, fault_more, text_held}
use Rattle.tb_csv.proofs.cells.push_texts.Goals as goal

pub loop-row-init : goal.loop-row-init
loop-row-init c =
    let at : c.args.before + 1 ≡ (c.args.before + 0) + 1 = omega arith in
    record {
      fault = ap (λ (k : ℕ). column_fault c.args.name.now field.String k (part_fields c.args.part)) at;
      texts = sym (append-nil (map (or_null string) c.args.builder.now.rows));
    }

pub returns-then-not-is_short-clause-settles : goal.returns-then-not-is_short-clause-settles
returns-then-not-is_short-clause-settles c =
    let fs = part_fields c.args.part in
    let low : c.loop-row.row < length fs = omega (arith, part_height c.args.part, c.loop-row-test.true) in
    inr (
    c.loop-row.invariant.fault
    ∙ fault_here c.args.name.now field.String ((c.args.before + c.loop-row.row) + 1) fs c.loop-row.row (lent_field c.text_at-field.result) low c.text_at-field.ensures (sym c.if-not-is_short.ensures)
    ∙ ap (λ (n : Name). Some (NotOfType ((c.args.before + c.loop-row.row) + 1) n field.String)) (sym c.in_ok-copy.ensures)
    )

pub loop-row-preserved : goal.loop-row-preserved
loop-row-preserved c =
    let fs = part_fields c.args.part in
    let low : c.loop-row.row < length fs = omega (arith, part_height c.args.part, c.loop-row-test.true) in
    let held = sym c.if-not-is_short.ensures in
    let at : ((c.args.before + c.loop-row.row) + 1) + 1 ≡ (c.args.before + (c.loop-row.row + 1)) + 1 = omega arith in
    record {
      fault = c.loop-row.invariant.fault
          ∙ fault_more c.args.name.now field.String ((c.args.before + c.loop-row.row) + 1) fs c.loop-row.row (lent_field c.text_at-field.result) low c.text_at-field.ensures held
          ∙ ap (λ (k : ℕ). column_fault c.args.name.now field.String k (drop (c.loop-row.row + 1) fs)) at;
      texts =
          rw (ap (λ b. b.rows) c.in_ok-push_option.ensures.ok)
          (cells_more string field.String fs c.loop-row.row (lent_field c.text_at-field.result) (map (or_null string) c.args.builder.now.rows) c.loop-row.builder.rows _ low c.text_at-field.ensures (text_held _ held) c.loop-row.invariant.texts);
    }

pub returns-clause-settles : goal.returns-clause-settles
returns-clause-settles c =
    let fs = part_fields c.args.part in
    let past : length fs ≤ c.loop-row.row = omega (arith, part_height c.args.part) in
    c.loop-row.invariant.fault ∙ ap (column_fault c.args.name.now field.String ((c.args.before + c.loop-row.row) + 1)) (drop_all c.loop-row.row fs past)

pub returns-clause-texts : goal.returns-clause-texts
returns-clause-texts c =
    let fs = part_fields c.args.part in
    let past : length fs ≤ c.loop-row.row = omega (arith, part_height c.args.part) in
    c.loop-row.invariant.texts
    ∙ ap (λ (l : List Field). map (or_null string) c.args.builder.now.rows ++ map (cell_of field.String) l) (take_all c.loop-row.row fs past)
