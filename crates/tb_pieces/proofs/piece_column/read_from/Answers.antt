use Rattle.std.proofs.Common.{◌<◌, ◌∙◌, List, length, get_or, sym, ap, subst}
use Rattle.tb_value.specs.Promise.Datum.{Datum, null}
use Rattle.tb_chunk.specs.Promise.Col.{concatenation}
use Rattle.tb_pieces.proofs.PieceWalks.{rest_shown}
use Rattle.tb_pieces.proofs.piece_column.read_from.Goals as goal

pub value_in-requires : goal.value_in-requires
value_in-requires g c = subst (λ (ls : List (List Datum)). c.args.row < length (concatenation ls)) (sym (rest_shown g.C.Chunk.shown c.args.chunks.now c.args.first)) c.requires.row

pub returns : goal.returns
returns g c =
    let is = c.value_in.ensures.value ∙ ap (λ (ls : List (List Datum)). get_or (concatenation ls) c.args.row null) (rest_shown g.C.Chunk.shown c.args.chunks.now c.args.first) in
    subst (λ (v : Datum). g.R.ReadValue.gives c.args.reader.now v c.args.state.now c.read.result c.read.new.state) is c.read.ensures
