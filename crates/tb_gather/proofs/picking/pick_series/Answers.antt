use Rattle.std.proofs.Common.{◌∙◌, List, ap, sym, refl, length, map, subst, ◌∷◌, [], arith}
use Rattle.std.specs.List.{All}
use Rattle.std.proofs.lemmas.List.{length-map}
use Rattle.tb_value.specs.Promise.Datum.{Datum}
use Rattle.tb_value.proofs.Loops.{map-map}
use Rattle.tb_chunk.specs.Promise.Col.{Col, concatenation, values}
use Rattle.tb_chunk.specs.Rows.{IsRowOf, value_or_null}
use Rattle.tb_view.specs.Promise.ViewArrays.{ViewArray}
use Rattle.tb_chunk.specs.ViewArrays.{picked_of, view_or_none, joined_view_array}
use Rattle.tb_gather.proofs.Picked.{All-unmap, IsColumn-rows}
use Rattle.tb_gather.proofs.picking.pick_series.Goals as goal

pub pick_chunk-requires-clause-one : goal.pick_chunk-requires-clause-one
pick_chunk-requires-clause-one g c κs bound = ap (λ (lists : List (List Datum)). length lists) c.chunks.ensures.lists ∙ c.requires.one

pub pick_chunk-requires-clause-rows : goal.pick_chunk-requires-clause-rows
pick_chunk-requires-clause-rows g c κs bound =
    let number = g.S.RowOf.number in
    let pairs = c.args.pairs.now in
    let within = All-unmap (IsRowOf (length (values c.args.series.now))) number pairs c.requires.rows in
    subst (λ (lists : List (List Datum)). All (λ p. IsRowOf (length (concatenation lists)) (number p)) pairs) (sym c.chunks.ensures.lists) within

pub from_parts-requires-clause-column : goal.from_parts-requires-clause-column
from_parts-requires-clause-column g c =
    let number = g.S.RowOf.number in
    let pairs = c.args.pairs.now in
    let vs = values c.args.series.now in
    let lists = c.in_ok-chunks.ensures.lists ∙ ap (λ cs. map (λ p. value_or_null (concatenation cs) (number p)) pairs ∷ []) c.chunks.ensures.lists ∙ ap (λ (ds : List Datum). ds ∷ []) (sym (map-map (value_or_null vs) number pairs)) in
    IsColumn-rows c.args.series.now _ (map number pairs) c.args.flag c.len-len.ensures.column c.requires.rows (omega (arith, length-map pairs number, c.requires.few)) c.requires.flag (c.in_ok-dtype.ensures ∙ c.dtype.ensures) lists refl

pub returns : goal.returns
returns g c =
    let number = g.S.RowOf.number in
    let pairs = c.args.pairs.now in
    let col = c.args.series.now in
    let vs = values col in
    let lists = c.in_ok-chunks.ensures.lists ∙ ap (λ cs. map (λ p. value_or_null (concatenation cs) (number p)) pairs ∷ []) c.chunks.ensures.lists ∙ ap (λ (ds : List Datum). ds ∷ []) (sym (map-map (value_or_null vs) number pairs)) in
    let views = sym (map-map (view_or_none (joined_view_array col.view_arrays).views) number pairs) in
    let runs = c.in_ok-chunks.ensures.view_arrays ∙ ap (λ (rs : List ViewArray). picked_of number pairs (joined_view_array rs) ∷ []) c.chunks.ensures.view_arrays ∙ (λ i. record (joined_view_array col.view_arrays) { views = views i } ∷ []) in
    let name = c.in_ok-name.ensures ∙ c.name.ensures in
    let kind = c.in_ok-dtype.ensures ∙ c.dtype.ensures in
    c.from_parts.ensures ∙ (λ i. let k : Col = record { name = name i; kind = kind i; chunks = lists i; flag = c.args.flag; view_arrays = runs i } in k)
