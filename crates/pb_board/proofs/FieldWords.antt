-- Each of the first four fields of a record is a word: 1 to 255 bytes that are no space, no
-- quotation mark and no semicolon.
use Rattle.std.proofs.Common.{◌≢◌, ℕ, ◌≤◌, Bool, true, false, ◌≡◌, List, [], ◌∷◌, ◌++◌, length, Option, Some, None, subst, arith}
use Rattle.std.specs.List.{All}
use Rattle.std.proofs.lemmas.List.{length-append}
use Rattle.std.proofs.lemmas.List.Elements.{All-nil, All-cons, All-weaker, All-same}
use Rattle.pb_board.specs.declared.piece.Colour.{Colour}
use Rattle.pb_board.specs.declared.piece.Colour.TheVariants.{White, Black}
use Rattle.pb_board.specs.declared.setup.Rights.{Rights}
use Rattle.pb_board.specs.Board.{Board}
use Rattle.pb_board.specs.Position.{Position, IsSetup}
use Rattle.pb_board.specs.Rights.{only_if}
use Rattle.pb_board.specs.Text.{castling_text, en_passant_text, placement_text, setup_fields, turn_text}
use Rattle.pb_board.proofs.FieldBytes.{IsFieldByte, AreFieldBytes, placement_length, placement_bytes, turn_bytes, castling_bytes, en_passant_bytes}
use Rattle.pb_board.proofs.Spelled.{castling_is, flag_letters, or_dash}
use Rattle.pb_board.proofs.Unique.{on_rank}

abbrev pub IsPlainByte : ℕ → Type 0
IsPlainByte b = (33 ≤ b) × (b ≤ 126) × (b ≢ 59) × (b ≢ 34)

abbrev pub IsWord : List ℕ → Type 0
IsWord text = (1 ≤ length text) × (length text ≤ 255) × All IsPlainByte text

plain : (b : ℕ) → IsFieldByte b → IsPlainByte b
plain b h = (omega (arith, h.low), omega (arith, h.high), h.no_end, λ e. omega (arith, h.low, e))

word : (text : List ℕ) → 1 ≤ length text → length text ≤ 255 → AreFieldBytes text → IsWord text
word text some short bytes = (some, short, All-weaker IsFieldByte IsPlainByte plain text bytes)

turn_word : (turn : Colour) → IsWord (turn_text turn)
turn_word White = word (turn_text White) (omega arith) (omega arith) (turn_bytes White)
turn_word Black = word (turn_text Black) (omega arith) (omega arith) (turn_bytes Black)

letter_short : (flag : Bool) (c : ℕ) → length (only_if flag c) ≤ 1
letter_short true c = omega arith
letter_short false c = omega arith

pub flags_short : (r : Rights) → length (flag_letters r) ≤ 4
flags_short r =
    let short = letter_short r.black_long 113 in
    let two = only_if r.black_short 107 ++ only_if r.black_long 113 in
    let three = only_if r.white_long 81 ++ two in
    omega (
      arith,
      length-append (only_if r.white_short 75) three,
      length-append (only_if r.white_long 81) two,
      length-append (only_if r.black_short 107) (only_if r.black_long 113),
      short,
      letter_short r.white_short 75,
      letter_short r.white_long 81,
      letter_short r.black_short 107,
    )

dash_length : (text : List ℕ) → length text ≤ 4 → (1 ≤ length (or_dash text)) × (length (or_dash text) ≤ 255)
dash_length [] short = (omega arith, omega arith)
dash_length (c ∷ text) short = (omega arith, omega (arith, short))

castling_word : (r : Rights) → IsWord (castling_text r)
castling_word r =
    let Fits : List ℕ → Type 0 = λ t. (1 ≤ length t) × (length t ≤ 255) in
    let lengths = subst Fits (castling_is r) (dash_length (flag_letters r) (flags_short r)) in
    word (castling_text r) lengths.0 lengths.1 (castling_bytes r)

en_passant_length : (ep : Option ℕ) → (1 ≤ length (en_passant_text ep)) × (length (en_passant_text ep) ≤ 255)
en_passant_length None = (omega arith, omega arith)
en_passant_length (Some q) = (omega arith, omega arith)

placement_word : (board : Board) → IsWord (placement_text board)
placement_word board =
    let lengths = placement_length board in
    word (placement_text board) (omega (arith, lengths.0)) (omega (arith, lengths.1)) (placement_bytes board)

pub setup_words : (p : Position) (four : List (List ℕ)) → IsSetup p → four ≡ setup_fields p → All IsWord four
setup_words p four lawful h =
    let turn = turn_text p.turn in
    let castling = castling_text p.rights in
    let en_passant = en_passant_text p.ep in
    let lengths = en_passant_length p.ep in
    All-same IsWord four (setup_fields p) h
    (All-cons IsWord (placement_text p.board) (turn ∷ castling ∷ en_passant ∷ []) (placement_word p.board)
    (All-cons IsWord turn (castling ∷ en_passant ∷ []) (turn_word p.turn)
    (All-cons IsWord castling (en_passant ∷ []) (castling_word p.rights)
    (All-cons IsWord en_passant [] (word en_passant lengths.0 lengths.1 (en_passant_bytes p.turn p.ep (on_rank p.board p.turn p.ep lawful.en_passant)))
    (All-nil IsWord)))))
