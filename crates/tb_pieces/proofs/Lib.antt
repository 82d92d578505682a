pub mod PieceWalks
pub mod RowPieces
