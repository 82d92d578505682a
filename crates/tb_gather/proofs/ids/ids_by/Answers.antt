use Rattle.std.proofs.Common.{◌∙◌, ◌++◌, ◌∷◌, [], List, Option, ℕ, length, take, sym, subst, map, ap, arith}
use Rattle.std.proofs.lemmas.List.{map_more, map_push, take_all}
use Rattle.std.proofs.lemmas.List.Elements.{All-push}
use Rattle.tb_chunk.specs.Promise.Col.{values}
use Rattle.tb_chunk.specs.Rows.{IsRowOf}
use Rattle.tb_frame.specs.Frame.{lens}
use Rattle.tb_gather.specs.Ids.{NamesRow, RowsStandInOrder, row_or_none}
use Rattle.tb_gather.proofs.Picked.{All-unmap}
use Rattle.tb_gather.proofs.Running.{ids-run}
use Rattle.tb_gather.proofs.ids.ids_by.Goals as goal

pub id_or_null-requires : goal.id_or_null-requires
id_or_null-requires g c =
    let P : Option ℕ → Type 0 = IsRowOf (length (values c.args.column.now)) in
    let number = g.R.RowOf.number in
    let within : P c.number.result = subst P (sym (c.number.ensures ∙ ap number c.item-item.is)) (All-unmap P number c.args.items.now c.requires.rows c.loop-item.item-index c.item-item.result c.loop-item-test.true) in
    (search, (c.requires.bits, (c.len-len.ensures.column, (c.requires.few, (rw c.deref.ensures.value c.in_ok-starts.ensures, within)))))

pub loop-item-preserved : goal.loop-item-preserved
loop-item-preserved g c =
    let l = c.loop-item in
    let number = g.R.RowOf.number in
    let row = row_or_none (lens c.args.column.now) in
    let first = map number (take l.item-index c.args.items.now) in
    let more =
    ap (λ (rows : List (Option ℕ)). rows ++ row c.id_or_null.result ∷ []) l.invariant.rows
    ∙ ap (λ (r : Option ℕ). first ++ r ∷ []) (c.id_or_null.ensures.row ∙ c.number.ensures ∙ ap number c.item-item.is)
    in
    record {
      named = rw c.in_ok-push.ensures.items (All-push (NamesRow (lens c.args.column.now)) l.ids.items c.id_or_null.result l.invariant.named c.id_or_null.ensures.named);
      rows = ap (map row) c.in_ok-push.ensures.items ∙ map_push row l.ids.items c.id_or_null.result ∙ more ∙ sym (map_more number c.args.items.now l.item-index c.item-item.result c.loop-item-test.true);
    }

pub returns-clause-in_order : goal.returns-clause-in_order
returns-clause-in_order g c = λ sorted runs.
    let l = c.loop-item in
    let rows = l.invariant.rows ∙ ap (map g.R.RowOf.number) (take_all l.item-index c.args.items.now (omega arith)) in
    ids-run (lens c.args.column.now) l.ids.items l.invariant.named sorted (subst (λ (ns : List (Option ℕ)). RowsStandInOrder sorted ns) (sym rows) runs)
