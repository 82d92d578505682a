use Rattle.std.proofs.Common.{◌++◌, ◌∙◌, ℕ, List, ap}
use Rattle.tb_chunk.specs.Promise.Col.{Col}
use Rattle.tb_frame.specs.Promise.Table.{table_of}
use Rattle.tb_csv.specs.Promise.Texts.{body_text, record_text}
use Rattle.tb_csv.proofs.TextWalks.{names_and_rows, names_fields}
use Rattle.tb_csv.proofs.text.csv_of_table.Goals as goal

pub returns-clause-text : goal.returns-clause-text
returns-clause-text g c =
    let t = table_of c.args.table.now in
    let names = c.in_ok-push.ensures.grown
    ∙ ap (λ (s : List ℕ). s ++ c.in_ok-names.names.items) c.new-text.ensures
    ∙ c.in_ok-names.ensures
    ∙ ap (λ (cs : List Col). record_text c.args.separator (names_fields (table_of cs))) c.get_columns-columns.ensures.columns in
    c.in_ok-push_rows.ensures ∙ ap (λ (s : List ℕ). s ++ body_text c.args.separator t) names ∙ names_and_rows c.args.separator t
