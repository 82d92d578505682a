use Rattle.std.proofs.Common.{rules, ◌≡◌, ◌∙◌, ◌++◌, ◌∷◌, ◌<◌, [], List, length, get_or, map, ap, arith, sym, subst}
use Rattle.std.specs.Prelude.{All}
use Rattle.std.specs.Vec.{vec_len}
use Rattle.std.proofs.lemmas.List.{append_assoc, map-append}
use Rattle.std.proofs.lemmas.List.Elements.{All-tail}
use Rattle.tb_value.specs.Promise.Datum.{Datum, null}
use Rattle.tb_value.specs.See.{data_of, datum}
use Rattle.tb_delta.specs.declared.side_rows.StoredRow.{StoredRow}
use Rattle.tb_delta.proofs.Grouped.{keyed}
use Rattle.tb_delta.proofs.tables.fields_at.Goals as goal

pub loop-row-preserved : goal.loop-row-preserved
loop-row-preserved c =
    let place = c.args.place in
    let field : StoredRow → Datum = λ s. get_or (data_of s.values.items) place null in
    let P : StoredRow → Type 0 = λ s. place < vec_len s.values in
    let row : StoredRow = c.in-Some.row.now in
    let rest : List StoredRow = c.next.new.self in
    let took : c.loop-row.row-iterator ≡ row ∷ rest = search rules in
    let all : All P (row ∷ rest) = subst (λ (l : List StoredRow). All P l) took c.loop-row.invariant.1 in
    let low : place < length row.values.items = omega (arith, all 0 row (omega arith), row.values.ok.0) in
    let so_far : List Datum = data_of c.loop-row.fields.items in
    let value : datum c.in_ok-to_value.field-0 ≡ field row = c.in_ok-to_value.ensures ∙ c.as_ref.ensures.value ∙ keyed row.values.items place c.index.result.now low c.index.ensures in (
      (λ t. data_of (c.in_ok-push.ensures.items t) ++ map field rest)
          ∙ ap (λ (l : List Datum). l ++ map field rest) (map-append datum c.loop-row.fields.items (c.in_ok-to_value.field-0 ∷ []))
          ∙ append_assoc so_far (datum c.in_ok-to_value.field-0 ∷ []) (map field rest)
          ∙ ap (λ (v : Datum). so_far ++ v ∷ map field rest) value
          ∙ ap (λ (l : List StoredRow). so_far ++ map field l) (sym took)
          ∙ c.loop-row.invariant.0,
      All-tail P row rest all,
    )
