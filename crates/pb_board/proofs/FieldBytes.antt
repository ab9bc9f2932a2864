-- The bytes of a record's fields are letters, digits, - and /. So no field has a space, and each of
-- the first four is a word of a record that has them among other words.
use Rattle.std.proofs.Common.{◌≢◌, ℕ, zero, suc, ◌+◌, ◌*◌, ◌<◌, ◌≤◌, ◌^◌, Bool, true, false, List, [], ◌∷◌, length, drop, get_or, replicate, Option, Some, None, sym, ap, subst, inl, inr, arith}
use Rattle.std.specs.Prelude.{IfSome}
use Rattle.std.specs.List.{AllZip, All, join_with_byte}
use Rattle.std.specs.Fmt.{decimal}
use Rattle.std.proofs.lemmas.List.{length-append, length-replicate, length-take}
use Rattle.std.proofs.lemmas.List.Elements.{All-nil, All-cons, All-head, All-tail, All-append, All-from_get_or, All-same}
use Rattle.pb_board.specs.declared.piece.Colour.{Colour}
use Rattle.pb_board.specs.declared.piece.Colour.TheVariants.{White, Black}
use Rattle.pb_board.specs.declared.piece.Kind.{Kind}
use Rattle.pb_board.specs.declared.piece.Kind.TheVariants.{Pawn, Knight, Bishop, Rook, Queen, King}
use Rattle.pb_board.specs.declared.setup.Rights.{Rights}
use Rattle.pb_board.specs.Board.{Place, Board, file, rank}
use Rattle.pb_board.specs.Position.{OnEnPassantRank}
use Rattle.pb_board.specs.Piece.{piece_of}
use Rattle.pb_board.specs.Ranks.{RankText}
use Rattle.pb_board.specs.Rights.{only_if}
use Rattle.pb_board.specs.Text.{castling_text, en_passant_text, piece_letter, placement_text, turn_text}
use Rattle.pb_board.proofs.Placements.{PlacementText, rank_of, ranks_down}
use Rattle.pb_board.proofs.Spelled.{castling_is, flag_letters, or_dash, placement_is}
use Rattle.pb_board.proofs.Numbers.{clock_numeral}
use Rattle.pb_board.proofs.Joins.{Above}

-- from - to w, without ;
pub record IsFieldByte (b : ℕ) : Type 0 where
  pub low : 45 ≤ b
  pub high : b ≤ 119
  pub no_end : b ≢ 59

abbrev pub AreFieldBytes : List ℕ → Type 0
AreFieldBytes text = All IsFieldByte text

-- a byte that is at hand as a number
byte : (b : ℕ) → 45 ≤ b → b < 59 → IsFieldByte b
byte b low high = record { low = low; high = omega arith; no_end = λ e. omega arith }

high_byte : (b : ℕ) → 60 ≤ b → b ≤ 119 → IsFieldByte b
high_byte b low high = record { low = omega arith; high = high; no_end = λ e. omega arith }

one : (b : ℕ) → IsFieldByte b → AreFieldBytes (b ∷ [])
one b h = All-cons IsFieldByte b [] h (All-nil IsFieldByte)

pub above_space : (text : List ℕ) → AreFieldBytes text → Above 32 text
above_space [] h = tt
above_space (b ∷ text) h = (omega (arith, (All-head IsFieldByte b text h).low), above_space text (All-tail IsFieldByte b text h))

-- ---- the placement

letter_byte : (c : Colour) (k : Kind) → IsFieldByte (piece_letter (piece_of c k))
letter_byte White Pawn = high_byte 80 (omega arith) (omega arith)
letter_byte White Knight = high_byte 78 (omega arith) (omega arith)
letter_byte White Bishop = high_byte 66 (omega arith) (omega arith)
letter_byte White Rook = high_byte 82 (omega arith) (omega arith)
letter_byte White Queen = high_byte 81 (omega arith) (omega arith)
letter_byte White King = high_byte 75 (omega arith) (omega arith)
letter_byte Black Pawn = high_byte 112 (omega arith) (omega arith)
letter_byte Black Knight = high_byte 110 (omega arith) (omega arith)
letter_byte Black Bishop = high_byte 98 (omega arith) (omega arith)
letter_byte Black Rook = high_byte 114 (omega arith) (omega arith)
letter_byte Black Queen = high_byte 113 (omega arith) (omega arith)
letter_byte Black King = high_byte 107 (omega arith) (omega arith)

rank_bytes : (squares : List Place) (text : List ℕ) → RankText squares text → AreFieldBytes text
rank_bytes squares [] h = All-nil IsFieldByte
rank_bytes squares (c ∷ text) h =
    All-cons IsFieldByte c text
    (elim h.1 [
      | inl q ↦ subst IsFieldByte (sym q.1) (letter_byte q.0.colour q.0.kind)
      | inr q ↦ byte c (omega (arith, q.1, q.3)) (omega (arith, q.2, q.3))
    ])
    (rank_bytes h.0 text h.2)

-- a rank's text has no more bytes than the rank has squares
rank_short : (squares : List Place) (text : List ℕ) → RankText squares text → length text ≤ length squares
rank_short squares [] h = omega arith
rank_short squares (c ∷ text) h =
    let rest = rank_short h.0 text h.2 in
    elim h.1 [
      | inl q ↦ omega (arith, rest, ap length q.2)
      | inr q ↦ omega (arith, rest, q.1, ap length q.4, length-append (replicate {A = Place} q.0 None) h.0, length-replicate {A = Place} q.0 None)
    ]

ranks_bytes : (n : ℕ) (board : Board) (texts : List (List ℕ)) → AllZip RankText (ranks_down board n) texts → AreFieldBytes (join_with_byte 47 texts)
ranks_bytes zero board [] h = All-nil IsFieldByte
ranks_bytes zero board (t ∷ ts) h = absurd h
ranks_bytes (suc n) board [] h = absurd h
ranks_bytes (suc n) board (t ∷ []) h = rank_bytes (rank_of board n) t h.0
ranks_bytes (suc n) board (t ∷ u ∷ ts) h =
    All-append IsFieldByte t (47 ∷ join_with_byte 47 (u ∷ ts)) (rank_bytes (rank_of board n) t h.0)
    (All-cons IsFieldByte 47 (join_with_byte 47 (u ∷ ts)) (byte 47 (omega arith) (omega arith)) (ranks_bytes n board (u ∷ ts) h.1))

-- n ranks have at most eight bytes each, and a slash between two
ranks_length : (n : ℕ) (board : Board) (texts : List (List ℕ)) → AllZip RankText (ranks_down board n) texts → (n ≤ length (join_with_byte 47 texts) + 1) × (length (join_with_byte 47 texts) ≤ 9 * n)
ranks_length zero board [] h = (omega arith, omega arith)
ranks_length zero board (t ∷ ts) h = absurd h
ranks_length (suc n) board [] h = absurd h
ranks_length (suc zero) board (t ∷ []) h =
    let short = rank_short (rank_of board 0) t h.0 in
    (omega arith, omega (arith, short, length-take 8 (drop {A = Place} (8 * 0) board)))
ranks_length (suc (suc n)) board (t ∷ []) h = absurd h.1
ranks_length (suc n) board (t ∷ u ∷ ts) h =
    let rest = ranks_length n board (u ∷ ts) h.1 in
    let short = rank_short (rank_of board n) t h.0 in
    let whole = length-append t (47 ∷ join_with_byte 47 (u ∷ ts)) in
    (omega (arith, rest.0, whole), omega (arith, rest.1, short, whole, length-take 8 (drop (8 * n) board)))

-- ---- the other fields

placement_bytes_of : (board : Board) (text : List ℕ) → PlacementText board text → AreFieldBytes text
placement_bytes_of board text h = All-same IsFieldByte text (join_with_byte 47 h.0) h.2 (ranks_bytes 8 board h.0 h.1)

pub placement_bytes : (board : Board) → AreFieldBytes (placement_text board)
placement_bytes board = placement_bytes_of board (placement_text board) (placement_is board)

placement_length_of : (board : Board) (text : List ℕ) → PlacementText board text → (8 ≤ length text + 1) × (length text ≤ 72)
placement_length_of board text h =
    let lengths = ranks_length 8 board h.0 h.1 in
    (omega (arith, lengths.0, ap length h.2), omega (arith, lengths.1, ap length h.2))

pub placement_length : (board : Board) → (8 ≤ length (placement_text board) + 1) × (length (placement_text board) ≤ 72)
placement_length board = placement_length_of board (placement_text board) (placement_is board)

pub turn_bytes : (turn : Colour) → AreFieldBytes (turn_text turn)
turn_bytes White = one 119 (high_byte 119 (omega arith) (omega arith))
turn_bytes Black = one 98 (high_byte 98 (omega arith) (omega arith))

flag_bytes : (flag : Bool) (c : ℕ) → 60 ≤ c → c ≤ 119 → AreFieldBytes (only_if flag c)
flag_bytes true c low high = one c (high_byte c low high)
flag_bytes false c low high = All-nil IsFieldByte

dash_bytes : (text : List ℕ) → AreFieldBytes text → AreFieldBytes (or_dash text)
dash_bytes [] h = one 45 (byte 45 (omega arith) (omega arith))
dash_bytes (c ∷ text) h = h

pub castling_bytes : (r : Rights) → AreFieldBytes (castling_text r)
castling_bytes r =
    subst AreFieldBytes (castling_is r) (dash_bytes (flag_letters r) (All-append IsFieldByte (only_if r.white_short 75) _ (flag_bytes r.white_short 75 (omega arith) (omega arith))
    (All-append IsFieldByte (only_if r.white_long 81) _ (flag_bytes r.white_long 81 (omega arith) (omega arith))
    (All-append IsFieldByte (only_if r.black_short 107) _ (flag_bytes r.black_short 107 (omega arith) (omega arith))
    (flag_bytes r.black_long 113 (omega arith) (omega arith))))))

en_passant_bytes_at : (turn : Colour) (q : ℕ) → OnEnPassantRank turn q → IsFieldByte (49 + rank q)
en_passant_bytes_at White q h = byte (49 + rank q) (omega arith) (omega (arith, h))
en_passant_bytes_at Black q h = byte (49 + rank q) (omega arith) (omega (arith, h))

pub en_passant_bytes : (turn : Colour) (ep : Option ℕ) → IfSome ep (OnEnPassantRank turn) → AreFieldBytes (en_passant_text ep)
en_passant_bytes turn None h = one 45 (byte 45 (omega arith) (omega arith))
en_passant_bytes turn (Some q) h = All-cons IsFieldByte (97 + file q) ((49 + rank q) ∷ []) (high_byte (97 + file q) (omega arith) (omega arith)) (one (49 + rank q) (en_passant_bytes_at turn q h))

pub number_bytes : (n : ℕ) → n < 2 ^ 16 → AreFieldBytes (decimal n)
number_bytes n lt =
    All-from_get_or IsFieldByte (decimal n) 0 (λ i within.
    let digit = (clock_numeral n lt).digits i within in
    byte (get_or (decimal n) i 0) (omega (arith, digit.0)) (omega (arith, digit.1)))
