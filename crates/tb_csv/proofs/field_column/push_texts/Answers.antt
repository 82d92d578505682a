use Rattle.std.proofs.Common.{◌∙◌, ◌++◌, ap, append-nil, arith, false, sym}
use Rattle.std.proofs.lemmas.List.{take_all}
use Rattle.csv.specs.Records.{fields_of}
use Rattle.tb_csv.specs.Promise.Records.{bytes_of, field}
use Rattle.tb_csv.specs.Read.{bare_fields, held_fields}
use Rattle.tb_csv.proofs.JoinedColumns.{again_at, text_more}
use Rattle.tb_csv.proofs.field_column.push_texts.Goals as goal

pub loop-row-init : goal.loop-row-init
loop-row-init c = sym (append-nil (bare_fields (fields_of c.args.texts.now)))

pub loop-row-preserved : goal.loop-row-preserved
loop-row-preserved c =
    text_more (bare_fields (fields_of c.args.texts.now)) (held_fields c.args.column.now) (fields_of c.loop-row.texts) (fields_of c.push_field.new.self) c.bare_bytes.result.now c.loop-row.row c.in_ok-push_field.ensures.fields
    (ap (field false) (c.bare_bytes.ensures ∙ ap bytes_of c.column_text.ensures) ∙ again_at c.args.column.now c.loop-row.row (omega arith)) (omega arith) c.loop-row.invariant

pub returns : goal.returns
returns c = c.loop-row.invariant ∙ ap (λ l. bare_fields (fields_of c.args.texts.now) ++ l) (take_all c.loop-row.row (held_fields c.args.column.now) (omega arith))
