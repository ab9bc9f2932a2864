-- The line of a setup's moves, as it is written from its parts.
use Rattle.std.proofs.Common.{◌≡◌, ℕ, ◌+◌, ◌<◌, List, [], ◌∷◌, ◌++◌, Err, Ok, Result, append_assoc, append-nil, decimal, get_or, length, take, sym, ap, ◌∙◌}
use Rattle.std.specs.Prelude.{OnOk, codes, flat_map, is_ok, if◌then◌else◌}
use Rattle.std.proofs.lemmas.List.{flat_map_more, take_more}
use Rattle.pb_board.specs.LineEnd.{with_end}
use Rattle.pb_board.specs.Text.{setup_text}
use Rattle.pb_board.specs.Position.{Position}
use Rattle.pb_epd.proofs.Writing.{operation_put, spaced}
use Rattle.pb_epd.specs.Epd.{epd_form}
use Rattle.pb_epd.specs.Operation.{operation_text}
use Rattle.pb_moves.specs.Moved.{Moved}
use Rattle.pb_moves.specs.Spelling.{spelling}
use Rattle.pb_export.specs.Exporting.{move_and_weight, with_book_moves}
use Rattle.pb_export.specs.Setups.{book_line, spaced_move}

-- what is written of one move more
pub moves_more : (moves : List (Moved × ℕ)) (i : ℕ) (p : Moved × ℕ) (out half new : List ℕ) → i < length moves → p ≡ get_or moves i p
    → half ≡ (out ++ flat_map spaced_move (take i moves)) ++ 32 ∷ spelling p.0 → new ≡ half ++ 32 ∷ decimal p.1 → new ≡ out ++ flat_map spaced_move (take (i + 1) moves)
moves_more moves i p out half new lt at first second =
    let before = flat_map spaced_move (take i moves) in
    second ∙ ap (λ xs. xs ++ 32 ∷ decimal p.1) first
    ∙ append_assoc (out ++ before) (32 ∷ spelling p.0) (32 ∷ decimal p.1)
    ∙ append_assoc out before (spaced_move p)
    ∙ ap (λ xs. out ++ xs) (flat_map_more spaced_move [] (take i moves) p ∙ ap (flat_map spaced_move) (sym (take_more moves i p lt ∙ ap (λ x. take i moves ++ x ∷ []) (sym at))))

-- the words of the moves are the operands of an operation
are_operands : (moves : List (Moved × ℕ)) → flat_map spaced_move moves ≡ flat_map spaced (flat_map move_and_weight moves)
are_operands [] = λ i. []
are_operands (p ∷ moves) = ap (λ xs. 32 ∷ xs) (append_assoc (spelling p.0) (32 ∷ decimal p.1) (flat_map spaced_move moves) ∙ ap (λ xs. spelling p.0 ++ 32 ∷ (decimal p.1 ++ xs)) (are_operands moves))

-- the fields, the opcode, the moves and the end are the form of the record
pub line_form : (s : Position) (moves : List (Moved × ℕ)) → book_line (setup_text s) moves ≡ with_end (epd_form (with_book_moves s moves))
line_form s moves =
    let fields = setup_text s in
    let operands = flat_map move_and_weight moves in
    sym (append_assoc ((fields ++ codes " bkm") ++ flat_map spaced_move moves) (59 ∷ []) (10 ∷ []))
    ∙ ap (λ w. w ++ 10 ∷ []) (
    (λ i. (sym (append_assoc fields (32 ∷ []) (codes "bkm")) i ++ are_operands moves i) ++ 59 ∷ [])
    ∙ operation_put fields (codes "bkm") operands
    ∙ ap (λ w. fields ++ w) (sym (append-nil (32 ∷ operation_text (codes "bkm", operands))))
    )

-- ---- parts that are written at once

pub extended : {T E : Type 0} (r : Result T E) (old more new : List ℕ) → new ≡ (if is_ok r then old ++ more else old) → OnOk r (new ≡ old ++ more)
extended (Ok v) old more new h = h
extended (Err e) old more new h = tt
