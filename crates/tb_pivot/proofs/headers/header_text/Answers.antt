use Rattle.std.proofs.Common.{◌≡◌, ◌∙◌, IfOk, List, ℕ, length, map, sym, ap, subst, arith}
use Rattle.std.proofs.lemmas.List.{length-map}
use Rattle.tb_chunk.specs.Promise.Col.{values}
use Rattle.tb_rows.specs.Promise.Rows.{row_value}
use Rattle.tb_pivot.specs.Promise.Headers.{field_text, in_braces}
use Rattle.tb_pivot.proofs.Texts.{header_of_many, map_twice}
use Rattle.tb_pivot.proofs.headers.header_text.Goals as goal

pub returns : goal.returns
returns c =
    let vs = map (λ k. row_value (values k.now) c.args.row) c.args.columns.now in
    let long : length vs ≡ length c.args.columns.now = length-map c.args.columns.now (λ k. row_value (values k.now) c.args.row) in
    subst (λ (t : List ℕ). IfOk c.in_braces.result (λ s. s ≡ t))
    (ap in_braces (c.deref.ensures.value ∙ c.in_ok-field_texts.ensures ∙ sym (map_twice field_text (λ k. row_value (values k.now) c.args.row) c.args.columns.now))
    ∙ sym (header_of_many vs (λ one. c.if-columns-eq1.false (omega (arith, one, long)))))
    c.in_braces.ensures
