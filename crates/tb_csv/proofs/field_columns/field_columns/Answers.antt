use Rattle.std.specs.List.{list_all}
use Rattle.tb_csv.specs.Read.{fields_down, held_fields, is_text_field}
use Rattle.tb_csv.proofs.NumberWalks.{all_filled, filled_more}
use Rattle.tb_csv.proofs.field_columns.field_columns.Goals as goal

pub loop-column-preserved : goal.loop-column-preserved
loop-column-preserved g c =
    let old = c.loop-column.columns.items in
    let new = c.push.new.self.items in
    let push = c.in_ok-push-in-Some.ensures.items in
    record {
      fields = filled_more held_fields (λ j. fields_down c.args.width c.args.height j (g.R.Rows.shown c.args.rows.now)) c.loop-column.column old new c.in-Some.fields push
          (rw c.in-Some.is at c.in_ok-fields.ensures.fields) c.loop-column.invariant.fields;
      texts = all_filled (list_all is_text_field) held_fields old new c.in-Some.fields push (rw c.in-Some.is at c.in_ok-fields.ensures.texts) c.loop-column.invariant.texts;
    }
