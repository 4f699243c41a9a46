pub mod CommaLaws
pub mod PieceLoop
