-- The texts of FEN records and of their fields (PGN Standard 1994, section 16.1).
use Rattle.std.specs.Prelude.{ℕ, ◌+◌, ◌*◌, ◌==◌, not, List, [], ◌∷◌, ◌++◌, length, map, take, drop}
use Rattle.std.specs.Prelude.{codes, decimal, slice_index, Option, Some, None, if◌then◌else◌}
use Rattle.std.specs.List.{join_with_byte}
use Rattle.std.specs.Option.{option_map_or}
use Rattle.pb_board.specs.declared.piece.Colour.{Colour}
use Rattle.pb_board.specs.declared.piece.Colour.TheVariants.{White, Black}
use Rattle.pb_board.specs.declared.piece.Piece.{Piece}
use Rattle.pb_board.specs.declared.setup.Rights.{Rights}
use Rattle.pb_board.specs.Piece.{piece_number}
use Rattle.pb_board.specs.Board.{Place, file, rank}
use Rattle.pb_board.specs.Position.{Position, Record}
use Rattle.pb_board.specs.Rights.{of_rights, only_if}

-- White's pieces have capital letters
abbrev pub piece_letter : Piece → ℕ
piece_letter p = slice_index (codes "pPnNbBrRqQkK") (piece_number p)

-- the digit of so many empty squares, and nothing where there is none
abbrev pub empty_squares : ℕ → List ℕ
empty_squares n = only_if (not (n == 0)) (48 + n)

-- the text of the squares that are left of a rank, where n empty ones stand right before them
abbrev pub rank_text : ℕ → List Place → List ℕ
rank_text n [] = empty_squares n
rank_text n (None ∷ squares) = rank_text (n + 1) squares
rank_text n (Some p ∷ squares) = empty_squares n ++ piece_letter p ∷ rank_text 0 squares

-- eight ranks, from rank 8 to rank 1, joined by a slash
abbrev pub placement_text : List Place → List ℕ
placement_text board = join_with_byte 47
    (map (λ r. rank_text 0 (take 8 (drop (8 * r) board))) (7 ∷ 6 ∷ 5 ∷ 4 ∷ 3 ∷ 2 ∷ 1 ∷ 0 ∷ []))

abbrev pub turn_text : Colour → List ℕ
turn_text White = codes "w"
turn_text Black = codes "b"

-- the letters KQkq of the castling rights, or a -
abbrev pub castling_text : Rights → List ℕ
castling_text r = let letters = of_rights r 75 81 107 113 in
    if length letters == 0 then codes "-" else letters

-- the letter of the file and the digit of the rank
abbrev pub square_text : ℕ → List ℕ
square_text q = (97 + file q) ∷ (49 + rank q) ∷ []

-- a square, or a - for none
abbrev pub en_passant_text : Option ℕ → List ℕ
en_passant_text ep = option_map_or square_text ep (codes "-")

-- the first four fields
abbrev pub setup_fields : Position → List (List ℕ)
setup_fields p =
    placement_text p.board ∷ turn_text p.turn ∷ castling_text p.rights ∷ en_passant_text p.ep ∷ []

-- the text of a setup: the first four fields
abbrev pub setup_text : Position → List ℕ
setup_text p = join_with_byte 32 (setup_fields p)

-- the text of a record: six fields
abbrev pub fen_text : Record → List ℕ
fen_text f = join_with_byte 32 (setup_fields f.setup ++ decimal f.half ∷ decimal f.full ∷ [])
