use Rattle.std.proofs.Common.{◌∙◌, List, ap, sym, length}
use Rattle.tb_csv.specs.Promise.Records.{Record, column_fields}
use Rattle.tb_csv.proofs.RunWalks.{column_rows}
use Rattle.tb_csv.proofs.records.Records.column.Goals as goal

pub returns : goal.returns
returns c rows are =
    let records = c.args.self.now in
    column_rows (length records.names.items) c.args.column c.requires.column records.runs.items are.runs.0 are.runs.2
    ∙ ap (λ (rs : List Record). column_fields rs c.args.column) (sym are.runs.1)
