use Rattle.std.proofs.Common.{◌≡◌, ℕ, ◌+◌, ◌-◌, List, ◌∷◌, ◌++◌, append_assoc, length, take, refl, ap, ◌∙◌, arith}
use Rattle.std.specs.Prelude.{codes}
use Rattle.std.proofs.Math.Seq.{take-append_seam}
use Rattle.std.proofs.lemmas.Fmt.{decimal_digit}
use Rattle.std.proofs.lemmas.List.{length-append}
use Rattle.pb_board.specs.Position.{Position, record_of}
use Rattle.pb_board.specs.Text.{castling_text, en_passant_text, fen_text, placement_text, setup_text, turn_text}
use Rattle.pb_export.proofs.setups.fields_of.Goals as goal

before : (placement turn castling square clocks : List ℕ) → placement ++ 32 ∷ (turn ++ 32 ∷ (castling ++ 32 ∷ (square ++ clocks))) ≡ (placement ++ 32 ∷ (turn ++ 32 ∷ (castling ++ 32 ∷ square))) ++ clocks
before placement turn castling square clocks = simp append_assoc

text_is : (s : Position) → fen_text (record_of s 0 1) ≡ setup_text s ++ codes " 0 1"
text_is s =
    (λ j. placement_text s.board ++ 32 ∷ (turn_text s.turn ++ 32 ∷ (castling_text s.rights ++ 32 ∷ (en_passant_text s.ep ++ 32 ∷ (decimal_digit 0 (omega arith) j ++ 32 ∷ decimal_digit 1 (omega arith) j)))))
    ∙ before (placement_text s.board) (turn_text s.turn) (castling_text s.rights) (en_passant_text s.ep) (codes " 0 1")

module _ (s : Position) (bytes : List ℕ) (is : bytes ≡ fen_text (record_of s 0 1)) where
  clocks : length bytes ≡ length (setup_text s) + 4
  clocks = ap length (is ∙ text_is s) ∙ length-append (setup_text s) (codes " 0 1")

  cut : (n : ℕ) → n ≡ length bytes - 4 → take n bytes ≡ setup_text s
  cut n at =
      let all : n ≡ length (setup_text s) = omega (arith, at, clocks) in
      ap (λ k. take k bytes) all ∙ ap (take (length (setup_text s))) (is ∙ text_is s) ∙ take-append_seam (setup_text s) (codes " 0 1")

pub returns : goal.returns
returns c =
    c.of.ensures ∙ cut c.args.setup.now c.as_bytes-bytes.result.now (c.as_bytes-bytes.ensures.value ∙ c.text-record.ensures ∙ ap fen_text c.with_clocks.ensures) _ refl
