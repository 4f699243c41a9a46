-- The bytes that a character stands for, as they are handed on: at most four, and how many.
use Rattle.std.specs.Prelude.{◌≡◌, List, ℕ, length, take}
use Rattle.spec_json.specs.declared.json.Piece.{Piece}

pub record PieceOf (v : List ℕ) (r : Piece) : Type 0 where
  pub bytes : take r.len r.bytes ≡ v
  pub size : r.len ≡ length v
