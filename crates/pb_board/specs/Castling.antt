-- The four castlings: who castles by which right, and between which squares king and rook go.
use Rattle.std.specs.Prelude.{ℕ, Bool, ◌&&◌, ◌==◌, Option, List, [], ◌∷◌}
use Rattle.std.specs.List.{find}
use Rattle.pb_board.specs.declared.piece.Colour.{Colour}
use Rattle.pb_board.specs.declared.piece.Colour.TheVariants.{White, Black}
use Rattle.pb_board.specs.declared.setup.Rights.{Rights}
use Rattle.pb_board.specs.declared.castling.Castling.{Castling}
use Rattle.pb_board.specs.declared.castling.Castling.TheVariants.{WhiteShort, WhiteLong}
use Rattle.pb_board.specs.declared.castling.Castling.TheVariants.{BlackShort, BlackLong}

-- a row of the table
pub record CastlingRow : Type 0 where
  pub colour : Colour
  pub right : Rights → Bool
  pub king_from : ℕ
  pub king_to : ℕ
  pub rook_from : ℕ
  pub rook_to : ℕ

-- a row of these values, in the order of the fields
abbrev pub row : Colour → (Rights → Bool) → ℕ → ℕ → ℕ → ℕ → CastlingRow
row colour right king_from king_to rook_from rook_to = record {
  colour = colour;
  right = right;
  king_from = king_from;
  king_to = king_to;
  rook_from = rook_from;
  rook_to = rook_to;
}

-- the table, by the squares' indices: a1 is 0, e1 is 4, h1 is 7, a8 is 56, e8 is 60, h8 is 63
abbrev pub castling_row : Castling → CastlingRow
castling_row WhiteShort = row White (λ r. r.white_short) 4 6 7 5
castling_row WhiteLong = row White (λ r. r.white_long) 4 2 0 3
castling_row BlackShort = row Black (λ r. r.black_short) 60 62 63 61
castling_row BlackLong = row Black (λ r. r.black_long) 60 58 56 59

-- the four in their order
abbrev pub castlings : List Castling
castlings = WhiteShort ∷ WhiteLong ∷ BlackShort ∷ BlackLong ∷ []

-- the castling whose king goes between these squares
abbrev pub castling_of : ℕ → ℕ → Option Castling
castling_of from to =
    find (λ c. (castling_row c).king_from == from && (castling_row c).king_to == to) castlings

-- the castling whose king and rook begin on these squares
abbrev pub castling_from_home : ℕ → ℕ → Option Castling
castling_from_home king rook =
    find (λ c. (castling_row c).king_from == king && (castling_row c).rook_from == rook) castlings
