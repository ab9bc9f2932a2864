-- The text of a move: two squares, and the small letter of a promotion (the long algebraic form
-- without a sign between the squares, as e2e4, e1g1 and e7e8q).
use Rattle.std.specs.Prelude.{ℕ, List, ◌++◌, map, option_to_list}
use Rattle.pb_board.specs.declared.piece.Colour.TheVariants.{Black}
use Rattle.pb_board.specs.Piece.{piece_of}
use Rattle.pb_board.specs.Text.{piece_letter, square_text}
use Rattle.pb_moves.specs.Moved.{Moved}

-- the square that the move leaves, the square that it reaches, and the promotion's letter
abbrev pub spelling : Moved → List ℕ
spelling m = square_text m.from ++ (square_text m.to
    ++ map (λ kind. piece_letter (piece_of Black kind)) (option_to_list m.promo))
