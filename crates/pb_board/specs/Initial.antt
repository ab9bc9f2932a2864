-- The initial array.
use Rattle.std.specs.Prelude.{List, [], ◌∷◌, ◌++◌, replicate, Some, None, true}
use Rattle.pb_board.specs.declared.piece.Colour.{Colour}
use Rattle.pb_board.specs.declared.piece.Colour.TheVariants.{White, Black}
use Rattle.pb_board.specs.declared.piece.Kind.{Kind}
use Rattle.pb_board.specs.declared.piece.Kind.TheVariants.{Pawn, Knight, Bishop, Rook, Queen, King}
use Rattle.pb_board.specs.Board.{Place, Board}
use Rattle.pb_board.specs.Position.{Position}

abbrev pub place_of : Colour → Kind → Place
place_of c k = Some (record { colour = c; kind = k })

-- the pieces behind the pawns, from file a to file h
abbrev pub back_rank : Colour → List Place
back_rank c = place_of c Rook ∷ place_of c Knight ∷ place_of c Bishop ∷ place_of c Queen
    ∷ place_of c King ∷ place_of c Bishop ∷ place_of c Knight ∷ place_of c Rook ∷ []

unfoldable pub initial_board : Board
initial_board = back_rank White ++ (replicate 8 (place_of White Pawn)
    ++ (replicate 32 None ++ (replicate 8 (place_of Black Pawn) ++ back_rank Black)))

-- White is to move, and every castling is open
abbrev pub initial : Position
initial = record {
  board = initial_board;
  turn = White;
  rights = record { white_short = true; white_long = true; black_short = true; black_long = true };
  ep = None;
}
