use Rattle.std.proofs.Common.{◌∙◌, ◌++◌, List, ℕ, ap, sym}
use Rattle.std.specs.List.{list_all}
use Rattle.std.specs.Str.{is_utf8}
use Rattle.csv.specs.Records.{fields_of}
use Rattle.tb_csv.proofs.RecordWalks.{take_end, text_fails, texts_more}
use Rattle.tb_csv.proofs.lines.push_texts.Goals as goal

pub returns-in_default-clause-text : goal.returns-in_default-clause-text
returns-in_default-clause-text c =
    let inv = c.loop-field.invariant in
    sym (text_fails is_utf8 (fields_of c.args.row.now) c.loop-field.field-iterator.at c.in-Some.field.now (rw inv.2 at c.in-Some.ensures.steps.1) c.in_default.ensures.none)

pub loop-field-preserved : goal.loop-field-preserved
loop-field-preserved c =
    let inv = c.loop-field.invariant in
    let s = c.in-Some.ensures.steps in
    let t = c.in-Some-utf8_text.ensures.text in
    let more = texts_more (fields_of c.args.row.now) (fields_of c.args.fields.now) _ _ _ _ c.in-Some.field.now c.in-Some-utf8_text.text.now (rw inv.2 at s.1) s.2 t.0 t.1 c.in_ok-push_field.ensures.fields inv.3 inv.4 in
    (tt, tt, ap (λ r. r.now) s.0 ∙ inv.2, more.0, more.1)

pub returns-clause-text : goal.returns-clause-text
returns-clause-text c =
    let inv = c.loop-field.invariant in
    sym inv.4 ∙ ap (list_all is_utf8) (take_end (fields_of c.args.row.now) c.loop-field.field-iterator.at (rw inv.2 at c.in-None.ensures.steps.1))

pub returns-clause-fields : goal.returns-clause-fields
returns-clause-fields c t =
    let inv = c.loop-field.invariant in
    inv.3 ∙ ap (λ (l : List (List ℕ)). fields_of c.args.fields.now ++ l) (take_end (fields_of c.args.row.now) c.loop-field.field-iterator.at (rw inv.2 at c.in-None.ensures.steps.1))
