use Rattle.std.proofs.Common.{◌≡◌, ◌∙◌, ◌⊎◌, inl, inr, List, length, map, sym, ap}
use Rattle.std.proofs.lemmas.List.{length-map}
use Rattle.std.specs.List.{zip}
use Rattle.tb_request.specs.Columns.{relaid_column}
use Rattle.tb_plan_request.specs.Lent.{table_view}
use Rattle.tb_plan_request.proofs.Zipped.{zip_ended}
use Rattle.tb_plan_request.proofs.tables.named_tables.Goals as goal

pub returns : goal.returns
returns c =
    let at = c.loop-name.name-iterator in
    let left : (length at.a.rest.items ≡ 0) ⊎ (length (map (map relaid_column) at.b.rest.items) ≡ 0) = elim c.in-None.ensures.steps [
      | inl p ↦ inl (sym at.a.rest.ok.0 ∙ p.1.0)
      | inr p ↦ inr (length-map at.b.rest.items (map relaid_column) ∙ sym at.b.rest.ok.0 ∙ p.1.0)
    ] in
    let names : c.into_iter-name-iterator.result.a.rest.items ≡ c.args.names.items =
    ap (λ z. z.a.rest.items) c.into_iter-name-iterator.ensures.into_iter_gives ∙ ap (λ i. i.rest.items) c.zip-name-items.ensures.first ∙ c.into_iter.ensures.rest in
    let tables : c.into_iter-name-iterator.result.b.rest.items ≡ c.args.tables.items =
    ap (λ z. z.b.rest.items) c.into_iter-name-iterator.ensures.into_iter_gives ∙ c.zip-name-items.ensures.second.0 in
    zip_ended (map table_view c.loop-name.named.items) _ at.a.rest.items (map (map relaid_column) at.b.rest.items) left c.loop-name.invariant
    ∙ (λ i. zip (names i) (map (map relaid_column) (tables i)))
