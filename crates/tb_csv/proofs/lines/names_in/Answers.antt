use Rattle.std.proofs.Common.{◌∙◌, [], ap, sym, refl, inr}
use Rattle.std.specs.List.{list_all}
use Rattle.std.specs.Str.{is_utf8}
use Rattle.csv.specs.Records.{fields_of}
use Rattle.tb_csv.proofs.RecordWalks.{take_end, text_fails, texts_more}
use Rattle.tb_csv.proofs.lines.names_in.Goals as goal

pub returns-in_default-clause-settles : goal.returns-in_default-clause-settles
returns-in_default-clause-settles c =
    let inv = c.loop-field.invariant in
    let fails = text_fails is_utf8 (fields_of c.args.row.now) c.loop-field.field-iterator.at c.in-Some.field.now (rw inv.2 at c.in-Some.ensures.steps.1) c.in_default.ensures.none in
    inr (rw fails refl)

pub loop-field-preserved : goal.loop-field-preserved
loop-field-preserved c =
    let inv = c.loop-field.invariant in
    let s = c.in-Some.ensures.steps in
    let t = c.in-Some-utf8_text.ensures.text in
    let more = texts_more (fields_of c.args.row.now) [] _ _ _ _ c.in-Some.field.now _ (rw inv.2 at s.1) s.2 (c.in_ok-from_str.ensures ∙ t.0) t.1 c.in_ok-push.ensures.items inv.3 inv.4 in
    (tt, tt, ap (λ r. r.now) s.0 ∙ inv.2, more.0, more.1)

pub returns-clause-settles : goal.returns-clause-settles
returns-clause-settles c =
    let inv = c.loop-field.invariant in
    let all = sym (ap (list_all is_utf8) (take_end (fields_of c.args.row.now) c.loop-field.field-iterator.at (rw inv.2 at c.in-None.ensures.steps.1))) ∙ inv.4 in
    rw all refl

pub returns-clause-names : goal.returns-clause-names
returns-clause-names c =
    let inv = c.loop-field.invariant in
    inv.3 ∙ take_end (fields_of c.args.row.now) c.loop-field.field-iterator.at (rw inv.2 at c.in-None.ensures.steps.1)
