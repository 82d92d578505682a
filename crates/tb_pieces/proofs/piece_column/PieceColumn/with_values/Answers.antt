use Rattle.std.proofs.Common.{◌≡◌, ◌+◌, ◌-◌, ◌∙◌, List, ap, arith, drop, subst, sym, take}
use Rattle.std.specs.List.{FoldsTo}
use Rattle.std.proofs.lemmas.List.{drop-drop}
use Rattle.tb_value.specs.Promise.Datum.{Datum}
use Rattle.tb_chunk.specs.Promise.Col.{Col, concatenation, values}
use Rattle.tb_chunk.specs.Seen.{chunk_lists}
use Rattle.tb_pieces.proofs.piece_column.PieceColumn.with_values.Goals as goal

pub returns : goal.returns
returns g c =
    let seen = c.self.inside in
    let column = seen.column.now in
    let view : column ≡ c.args.self.now = cc c.self.view_is in
    let from = c.args.start - seen.before in
    let count = (c.args.end - seen.before) - from in
    let place : seen.before + from ≡ c.args.start = omega (arith, c.if-start-self.false) in
    let rows : count ≡ c.args.end - c.args.start = omega (arith, c.if-start-self.false) in
    let are : take count (drop from (concatenation (drop seen.first (chunk_lists seen.chunks.now)))) ≡ take (c.args.end - c.args.start) (drop c.args.start (values c.args.self.now)) =
    ap (λ (ls : List (List Datum)). take count (drop from (concatenation (drop seen.first ls)))) c.self.invariant.lists
    ∙ ap (λ (vs : List Datum). take count (drop from vs)) (sym c.self.invariant.rows)
    ∙ ap (take count) (drop-drop from seen.before (values column))
    ∙ ap (λ n. take count (drop n (values column))) place
    ∙ ap (λ n. take n (drop c.args.start (values column))) rows
    ∙ ap (λ (k : Col). take (c.args.end - c.args.start) (drop c.args.start (values k))) view in
    subst (λ (vs : List Datum). FoldsTo (λ before v after. g.R.ReadValue.gives c.args.reader.now v before tt after) c.args.state.now vs c.read_each_of-2.new.state) are c.read_each_of-2.ensures
