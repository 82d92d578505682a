use Rattle.std.proofs.Common.{◌≤◌, ◌-◌, List, drop, length, subst, sym, take}
use Rattle.std.specs.List.{FoldsTo}
use Rattle.tb_value.specs.Promise.Datum.{Datum}
use Rattle.tb_chunk.specs.Promise.Col.{concatenation}
use Rattle.tb_pieces.proofs.PieceWalks.{rest_shown}
use Rattle.tb_pieces.proofs.piece_column.read_each_from.Goals as goal

pub read_each-requires : goal.read_each-requires
read_each-requires g c = record {
  order = c.requires.order;
  within = subst (λ (ls : List (List Datum)). c.args.end ≤ length (concatenation ls)) (sym (rest_shown g.C.Chunk.shown c.args.chunks.now c.args.first)) c.requires.within;
}

pub returns : goal.returns
returns g c =
    subst (λ (ls : List (List Datum)). FoldsTo (λ before v after. g.R.ReadValue.gives c.args.reader.now v before tt after) c.args.state.now (take (c.args.end - c.args.start) (drop c.args.start (concatenation ls))) c.read_each.new.state)
    (rest_shown g.C.Chunk.shown c.args.chunks.now c.args.first) c.read_each.ensures
