use Rattle.std.proofs.Common.{◌≡◌, ◌+◌, ◌*◌, ◌∙◌, None, ap, arith, false, get_or, refl}
use Rattle.csv.specs.Records.{fields_of}
use Rattle.tb_csv.specs.Promise.Records.{field}
use Rattle.tb_csv.specs.Read.{fields_down, is_text_field}
use Rattle.tb_csv.proofs.NumberWalks.{all_filled, filled_more}
use Rattle.tb_csv.proofs.field_columns.column_texts.Goals as goal

pub loop-row-init : goal.loop-row-init
loop-row-init g c = rw c.in_ok-texts.ensures.fields record { fields = refl; texts = refl }

pub loop-row-preserved : goal.loop-row-preserved
loop-row-preserved g c =
    let is = rw c.in-Some.is at c.bare_text.ensures.field in
    record {
      fields = filled_more (field false) (λ row. get_or (g.R.Rows.shown c.args.rows.now) (row * c.args.width + c.args.column) None) c.loop-row.row (fields_of c.loop-row.texts) (fields_of c.push_field.new.self) c.in-Some.text.now
          c.in_ok-push_field.ensures.fields (is ∙ c.field.ensures) c.loop-row.invariant.fields;
      texts = all_filled is_text_field (field false) (fields_of c.loop-row.texts) (fields_of c.push_field.new.self) c.in-Some.text.now c.in_ok-push_field.ensures.fields
          (ap is_text_field is ∙ rw c.in-Some.is at c.bare_text.ensures.text) c.loop-row.invariant.texts;
    }

pub returns-clause-fields : goal.returns-clause-fields
returns-clause-fields g c =
    let end : c.loop-row.row ≡ c.args.height = omega arith in
    c.loop-row.invariant.fields ∙ ap (λ n. fields_down c.args.width n c.args.column (g.R.Rows.shown c.args.rows.now)) end
