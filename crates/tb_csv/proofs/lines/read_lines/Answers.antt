use Rattle.std.proofs.Common.{◌≡◌, ◌∙◌, ℕ, List, arith, length, sym, ap, inr, refl}
use Rattle.std.specs.Prelude.{nat_lt}
use Rattle.std.proofs.lemmas.Result.{err_from_is_err_and}
use Rattle.csv.specs.Records.{fields_of}
use Rattle.tb_value.specs.Promise.Names.{Name}
use Rattle.tb_value.specs.declared.limits.TheConstants.{MAX_ROWS}
use Rattle.tb_value.specs.Promise.Refusals.{when}
use Rattle.tb_csv.specs.Promise.Faults.{repeated_name, rows_fault}
use Rattle.tb_csv.specs.Promise.Records.{lines_of}
use Rattle.tb_csv.specs.declared.fault.CsvFault.TheVariants.{TooManyRows}
use Rattle.tb_csv.proofs.Causes.{by_first, by_later, none_later, same_fault}
use Rattle.tb_csv.proofs.RecordWalks.{full_rows, level_rows}
use Rattle.tb_csv.proofs.lines.read_lines.Goals as goal

pub returns-then-not-branch-clause-settles : goal.returns-then-not-branch-clause-settles
returns-then-not-branch-clause-settles c =
    let records = lines_of c.args.separator c.args.text.now in
    let n = rw c.if-not-branch.true at (c.in_ok-next_record.ensures c.args.separator (length c.args.text.now) records c.open_reader-reader.ensures) in
    inr (rw n refl)

pub returns-in_err-names-clause-settles : goal.returns-in_err-names-clause-settles
returns-in_err-names-clause-settles c =
    let records = lines_of c.args.separator c.args.text.now in
    let n = rw c.if-not-branch.false at (c.in_ok-next_record.ensures c.args.separator (length c.args.text.now) records c.open_reader-reader.ensures) in
    let p = err_from_is_err_and c.from_residual-in_err-names.result c.from_residual-in_err-names.ensures.1 in
    rw (p.1, p.2) (rw n.1 (by_first _ _ _ c.in_err-names.ensures.settles))

pub returns-in_err-check_names-clause-settles : goal.returns-in_err-check_names-clause-settles
returns-in_err-check_names-clause-settles c =
    let records = lines_of c.args.separator c.args.text.now in
    let n = rw c.if-not-branch.false at (c.in_ok-next_record.ensures c.args.separator (length c.args.text.now) records c.open_reader-reader.ensures) in
    let p = err_from_is_err_and c.from_residual-in_err-check_names.result c.from_residual-in_err-check_names.ensures.1 in
    let names = c.deref.ensures.value ∙ c.in_ok-names.ensures.names in
    rw (p.1, p.2) (rw n.1 (by_later _ _ _ c.in_ok-names.ensures.settles (by_first _ _ _ (same_fault _ _ _ (ap repeated_name names) c.in_err-check_names.ensures))))

pub returns-in_err-height-clause-settles : goal.returns-in_err-height-clause-settles
returns-in_err-height-clause-settles c =
    let records = lines_of c.args.separator c.args.text.now in
    let n = rw c.if-not-branch.false at (c.in_ok-next_record.ensures c.args.separator (length c.args.text.now) records c.open_reader-reader.ensures) in
    let p = err_from_is_err_and c.from_residual-in_err-height.result c.from_residual-in_err-height.ensures.1 in
    let names = c.deref.ensures.value ∙ c.in_ok-names.ensures.names in
    let width : c.len.result ≡ length (fields_of c.next_record.new.row) = omega (arith, c.len.ensures, c.in_ok-names.names.ok.0, ap (λ (l : List Name). length l) c.in_ok-names.ensures.names) in
    rw (p.1, p.2) (rw n.1 (by_later _ _ _ c.in_ok-names.ensures.settles (by_later _ _ _ (sym (ap repeated_name names) ∙ c.in_ok-check_names.ensures)
    (by_first _ _ _ (same_fault _ _ _ (ap (λ (w : ℕ). rows_fault w 1 n.0) width) (c.in_err-height.ensures.settles c.args.separator n.0 n.2))))))

pub returns-in_err-check_height-clause-settles : goal.returns-in_err-check_height-clause-settles
returns-in_err-check_height-clause-settles c =
    let records = lines_of c.args.separator c.args.text.now in
    let n = rw c.if-not-branch.false at (c.in_ok-next_record.ensures c.args.separator (length c.args.text.now) records c.open_reader-reader.ensures) in
    let names = c.deref.ensures.value ∙ c.in_ok-names.ensures.names in
    let width : c.len.result ≡ length (fields_of c.next_record.new.row) = omega (arith, c.len.ensures, c.in_ok-names.names.ok.0, ap (λ (l : List Name). length l) c.in_ok-names.ensures.names) in
    let rows = c.in_ok-height.ensures.rows c.args.separator n.0 n.2 in
    let sound = sym (ap (λ (w : ℕ). rows_fault w 1 n.0) width) ∙ c.in_ok-height.ensures.settles c.args.separator n.0 n.2 in
    let p = err_from_is_err_and c.from_residual-in_err-check_height.result c.from_residual-in_err-check_height.ensures.1 in
    rw (p.1, p.2) (rw n.1 (by_later _ _ _ c.in_ok-names.ensures.settles (by_later _ _ _ (sym (ap repeated_name names) ∙ c.in_ok-check_names.ensures)
    (by_later _ _ _ sound (by_first _ _ _ (same_fault _ _ _ (ap (λ (h : ℕ). when (nat_lt MAX_ROWS h) TooManyRows) rows.0) c.in_err-check_height.ensures.settles))))))

pub returns-clause-settles : goal.returns-clause-settles
returns-clause-settles c =
    let records = lines_of c.args.separator c.args.text.now in
    let n = rw c.if-not-branch.false at (c.in_ok-next_record.ensures c.args.separator (length c.args.text.now) records c.open_reader-reader.ensures) in
    let names = c.deref.ensures.value ∙ c.in_ok-names.ensures.names in
    let width : c.len.result ≡ length (fields_of c.next_record.new.row) = omega (arith, c.len.ensures, c.in_ok-names.names.ok.0, ap (λ (l : List Name). length l) c.in_ok-names.ensures.names) in
    let rows = c.in_ok-height.ensures.rows c.args.separator n.0 n.2 in
    let sound = sym (ap (λ (w : ℕ). rows_fault w 1 n.0) width) ∙ c.in_ok-height.ensures.settles c.args.separator n.0 n.2 in
    rw n.1 (none_later _ _ c.in_ok-names.ensures.settles (none_later _ _ (sym (ap repeated_name names) ∙ c.in_ok-check_names.ensures)
    (none_later _ _ sound (none_later _ _ (sym (ap (λ (h : ℕ). when (nat_lt MAX_ROWS h) TooManyRows) rows.0) ∙ c.in_ok-check_height.ensures.settles) refl))))

pub returns-clause-read : goal.returns-clause-read
returns-clause-read c =
    let records = lines_of c.args.separator c.args.text.now in
    let n = rw c.if-not-branch.false at (c.in_ok-next_record.ensures c.args.separator (length c.args.text.now) records c.open_reader-reader.ensures) in
    let names = c.deref.ensures.value ∙ c.in_ok-names.ensures.names in
    let width : c.len.result ≡ length (fields_of c.next_record.new.row) = omega (arith, c.len.ensures, c.in_ok-names.names.ok.0, ap (λ (l : List Name). length l) c.in_ok-names.ensures.names) in
    let rows = c.in_ok-height.ensures.rows c.args.separator n.0 n.2 in
    let sound = sym (ap (λ (w : ℕ). rows_fault w 1 n.0) width) ∙ c.in_ok-height.ensures.settles c.args.separator n.0 n.2 in
    let level = level_rows (length (fields_of c.next_record.new.row)) 1 n.0 sound in
    rw n.1 (c.in_ok-names.ensures.names, rows.1 ∙ rw c.in_ok-fields.ensures refl, rows.0, rw (sym rows.0) c.in_ok-check_height.ensures.few, level)

pub returns-clause-full : goal.returns-clause-full
returns-clause-full c =
    let records = lines_of c.args.separator c.args.text.now in
    let n = rw c.if-not-branch.false at (c.in_ok-next_record.ensures c.args.separator (length c.args.text.now) records c.open_reader-reader.ensures) in
    let names = c.deref.ensures.value ∙ c.in_ok-names.ensures.names in
    let width : c.len.result ≡ length (fields_of c.next_record.new.row) = omega (arith, c.len.ensures, c.in_ok-names.names.ok.0, ap (λ (l : List Name). length l) c.in_ok-names.ensures.names) in
    let rows = c.in_ok-height.ensures.rows c.args.separator n.0 n.2 in
    let sound = sym (ap (λ (w : ℕ). rows_fault w 1 n.0) width) ∙ c.in_ok-height.ensures.settles c.args.separator n.0 n.2 in
    let level = level_rows (length (fields_of c.next_record.new.row)) 1 n.0 sound in
    rw (rows.1, c.in_ok-fields.ensures, rows.0, c.in_ok-names.ensures.names) (full_rows n.0 (length (fields_of c.next_record.new.row)) level)

pub returns-clause-few : goal.returns-clause-few
returns-clause-few c = c.in_ok-check_height.ensures.few
