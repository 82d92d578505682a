use Rattle.std.proofs.Common.{◌≡◌, ◌+◌, ◌/◌, ◌++◌, ◌∙◌, ℕ, Vec, Global, List, subst}
use Rattle.std.specs.Prelude.{OnOk}
use Rattle.tb_value.specs.Promise.Pairs.{row_numbers}
use Rattle.tb_pieces.specs.Rows.{piece_bytes}
use Rattle.tb_pieces.specs.declared.pieces.TheConstants.{ROWS_OF_A_PIECE}
use Rattle.tb_pieces.proofs.RowPieces.{all_pieces, in_pieces}
use Rattle.tb_pieces.proofs.pieces.push_row_pieces.Goals as goal

pub returns : goal.returns
returns g c row given =
    let high = c.args.height in
    let rows = in_pieces (λ (p : Vec ℕ Global). p.items) (piece_bytes row high) (row_numbers (high / ROWS_OF_A_PIECE + 1)) c.in_ok-pieces.pieces.items (c.in_ok-pieces.ensures row given)
    ∙ all_pieces row high in
    subst (λ (s : List ℕ). OnOk c.push_pieces.result (c.push_pieces.new.text ≡ c.args.text.now ++ s)) rows c.push_pieces.ensures
