-- The bytes of the fields of a text, and how many they are.
use Rattle.std.proofs.Common.{ℕ, ◌-◌, ◌*◌, ◌<◌, ◌≤◌, List, [], ◌∷◌, ◌++◌, length, length-append, map, Option, Some, None, subst, arith, lit<}
use Rattle.std.specs.List.{All, join_with_byte}
use Rattle.std.specs.Prelude.{decimal, option_to_list}
use Rattle.std.proofs.lemmas.List.Elements.{All-head, All-tail}
use Rattle.pb_board.specs.declared.piece.Colour.{Colour}
use Rattle.pb_board.specs.declared.piece.Colour.TheVariants.{White, Black}
use Rattle.pb_board.specs.declared.piece.Kind.{Kind}
use Rattle.pb_board.specs.declared.piece.Kind.TheVariants.{Pawn, Knight, Bishop, Rook, Queen, King}
use Rattle.pb_board.specs.declared.setup.Rights.{Rights}
use Rattle.pb_board.specs.Position.{Record, IsRecord}
use Rattle.pb_board.specs.Text.{castling_text, en_passant_text, fen_text, placement_text, turn_text}
use Rattle.pb_board.proofs.FieldBytes.{AreFieldBytes, above_space, placement_length, placement_bytes, turn_bytes, castling_bytes, en_passant_bytes, number_bytes}
use Rattle.pb_board.proofs.FieldWords.{flags_short}
use Rattle.pb_board.proofs.Joins.{Above, AllAbove}
use Rattle.pb_board.proofs.Numbers.{clock_numeral}
use Rattle.pb_board.proofs.Spelled.{castling_is, flag_letters, or_dash}
use Rattle.pb_board.proofs.Unique.{on_rank}
use Rattle.pb_moves.specs.Moved.{Moved}
use Rattle.pb_board.specs.declared.piece.Colour.TheVariants as side
use Rattle.pb_board.specs.Piece.{piece_of}
use Rattle.pb_board.specs.Text.{piece_letter}
use Rattle.pb_moves.specs.Spelling.{spelling}
use Rattle.pb_games.specs.declared.game.Outcome.{Outcome}
use Rattle.pb_games.specs.declared.game.Outcome.TheVariants as outcome
use Rattle.pb_games.specs.Ids.{IsId, IsPrintable}
use Rattle.pb_games.specs.Results.{outcome_text}
use Rattle.pb_games.specs.Submissions.{moves_text}

pub Above-weaker : (m n : ℕ) (xs : List ℕ) → m ≤ n → Above n xs → Above m xs
Above-weaker m n [] le h = tt
Above-weaker m n (x ∷ xs) le h = (omega (arith, h.0), Above-weaker m n xs le h.1)

Above-append : (n : ℕ) (xs ys : List ℕ) → Above n xs → Above n ys → Above n (xs ++ ys)
Above-append n [] ys h k = k
Above-append n (x ∷ xs) ys h k = (h.0, Above-append n xs ys h.1 k)

-- where the separator is above n too, so is each byte of the whole
join_above : (n c : ℕ) (cells : List (List ℕ)) → n < c → AllAbove n cells → Above n (join_with_byte c cells)
join_above n c [] lt h = tt
join_above n c (t ∷ []) lt h = h.0
join_above n c (t ∷ u ∷ ts) lt h = Above-append n t (c ∷ join_with_byte c (u ∷ ts)) h.0 (lt, join_above n c (u ∷ ts) lt h.1)

-- ---- the id and the result

printable_above : (bytes : List ℕ) → All IsPrintable bytes → Above 31 bytes
printable_above [] k = tt
printable_above (x ∷ xs) k = (omega (arith, (All-head IsPrintable x xs k).0), printable_above xs (All-tail IsPrintable x xs k))

pub id_above : (id : List ℕ) → IsId id → Above 31 id
id_above id h = printable_above id h.printable

pub result_above : (o : Outcome) → Above 31 (outcome_text o)
result_above outcome.White = (lit< tt, (lit< tt, (lit< tt, tt)))
result_above outcome.Black = (lit< tt, (lit< tt, (lit< tt, tt)))
result_above outcome.Draw = (lit< tt, (lit< tt, (lit< tt, (lit< tt, (lit< tt, (lit< tt, (lit< tt, tt)))))))

pub result_short : (o : Outcome) → length (outcome_text o) ≤ 7
result_short outcome.White = omega arith
result_short outcome.Black = omega arith
result_short outcome.Draw = omega arith

-- ---- the record

field_above : (text : List ℕ) → AreFieldBytes text → Above 31 text
field_above text h = Above-weaker 31 32 text (omega arith) (above_space text h)

pub fen_above : (f : Record) → IsRecord f → Above 31 (fen_text f)
fen_above f lawful =
    let p = f.setup in
    let en_passant = en_passant_bytes p.turn p.ep (on_rank p.board p.turn p.ep lawful.setup.en_passant) in
    let half = field_above _ (number_bytes f.half lawful.half) in
    let full = field_above _ (number_bytes f.full lawful.full) in
    join_above 31 32 (placement_text p.board ∷ turn_text p.turn ∷ castling_text p.rights ∷ en_passant_text p.ep ∷ decimal f.half ∷ decimal f.full ∷ []) (lit< tt) (
      field_above _ (placement_bytes p.board),
      (field_above _ (turn_bytes p.turn), (field_above _ (castling_bytes p.rights), (field_above _ en_passant, (half, (full, tt))))),
    )

dash_short : (text : List ℕ) → length text ≤ 4 → length (or_dash text) ≤ 4
dash_short [] h = omega arith
dash_short (c ∷ text) h = h

castling_short : (r : Rights) → length (castling_text r) ≤ 4
castling_short r = let Short : List ℕ → Type 0 = λ t. length t ≤ 4 in subst Short (castling_is r) (dash_short (flag_letters r) (flags_short r))

turn_short : (turn : Colour) → length (turn_text turn) ≤ 1
turn_short White = omega arith
turn_short Black = omega arith

en_passant_short : (ep : Option ℕ) → length (en_passant_text ep) ≤ 2
en_passant_short None = omega arith
en_passant_short (Some q) = omega arith

six_short : (p t c e a b : List ℕ) → length p ≤ 72 → length t ≤ 1 → length c ≤ 4 → length e ≤ 2 → length a ≤ 5 → length b ≤ 5 → length (join_with_byte 32 (p ∷ t ∷ c ∷ e ∷ a ∷ b ∷ [])) ≤ 94
six_short p t c e a b hp ht hc he ha hb =
    omega (
      arith,
      length-append p (32 ∷ (t ++ 32 ∷ (c ++ 32 ∷ (e ++ 32 ∷ (a ++ 32 ∷ b))))),
      length-append t (32 ∷ (c ++ 32 ∷ (e ++ 32 ∷ (a ++ 32 ∷ b)))),
      length-append c (32 ∷ (e ++ 32 ∷ (a ++ 32 ∷ b))),
      length-append e (32 ∷ (a ++ 32 ∷ b)),
      length-append a (32 ∷ b),
    )

-- a rough bound: none has more than 93
pub fen_short : (f : Record) → IsRecord f → length (fen_text f) ≤ 94
fen_short f lawful =
    let p = f.setup in
    six_short (placement_text p.board) (turn_text p.turn) (castling_text p.rights) (en_passant_text p.ep) (decimal f.half) (decimal f.full) (placement_length p.board).1
    (turn_short p.turn) (castling_short p.rights) (en_passant_short p.ep) (clock_numeral f.half lawful.half).short (clock_numeral f.full lawful.full).short

-- ---- the moves

abbrev promotion_text : Option Kind → List ℕ
promotion_text promo = map (λ kind. piece_letter (piece_of side.Black kind)) (option_to_list promo)

promotion_above : (promo : Option Kind) → Above 32 (promotion_text promo)
promotion_above None = tt
promotion_above (Some Pawn) = (lit< tt, tt)
promotion_above (Some Knight) = (lit< tt, tt)
promotion_above (Some Bishop) = (lit< tt, tt)
promotion_above (Some Rook) = (lit< tt, tt)
promotion_above (Some Queen) = (lit< tt, tt)
promotion_above (Some King) = (lit< tt, tt)

spelling_above : (m : Moved) → Above 32 (spelling m)
spelling_above m = (omega arith, (omega arith, (omega arith, (omega arith, promotion_above m.promo))))

pub spellings_above : (ms : List Moved) → AllAbove 32 (map spelling ms)
spellings_above [] = tt
spellings_above (m ∷ ms) = (spelling_above m, spellings_above ms)

AllAbove-weaker : (m n : ℕ) (ts : List (List ℕ)) → m ≤ n → AllAbove n ts → AllAbove m ts
AllAbove-weaker m n [] le h = tt
AllAbove-weaker m n (t ∷ ts) le h = (Above-weaker m n t le h.0, AllAbove-weaker m n ts le h.1)

pub moves_above : (ms : List Moved) → Above 31 (moves_text ms)
moves_above ms = join_above 31 32 (map spelling ms) (lit< tt) (AllAbove-weaker 31 32 (map spelling ms) (omega arith) (spellings_above ms))

pub promotion_short : (promo : Option Kind) → length (promotion_text promo) ≤ 1
promotion_short None = omega arith
promotion_short (Some k) = omega arith

spelling_short : (m : Moved) → length (spelling m) ≤ 5
spelling_short m = omega (arith, promotion_short m.promo)

pub moves_short : (ms : List Moved) → length (moves_text ms) ≤ 6 * length ms - 1
moves_short [] = omega arith
moves_short (m ∷ []) = omega (arith, spelling_short m)
moves_short (m ∷ n ∷ ms) =
    omega (arith, spelling_short m, moves_short (n ∷ ms), length-append (spelling m) (32 ∷ moves_text (n ∷ ms)))
