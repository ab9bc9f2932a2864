-- Writing operations.
use Rattle.std.proofs.Common.{◌≡◌, ℕ, List, [], ◌∷◌, ◌++◌, sym, ap, ◌∙◌}
use Rattle.std.specs.Prelude.{map, flat_map}
use Rattle.std.specs.List.{join_with_byte}
use Rattle.std.proofs.lemmas.List.{append_assoc, append-nil}
use Rattle.pb_epd.specs.declared.operation.Operand.{Operand}
use Rattle.pb_epd.specs.Token.{token_text}
use Rattle.pb_epd.specs.Operation.{Operation, operand_token, operation_text}

-- a space and an operand
abbrev pub spaced : Operand → List ℕ
spaced o = 32 ∷ token_text (operand_token o)

abbrev operand_text : Operand → List ℕ
operand_text o = token_text (operand_token o)

join_spaced : (first : List ℕ) (operands : List Operand) → join_with_byte 32 (first ∷ map operand_text operands) ≡ first ++ flat_map spaced operands
join_spaced first [] = sym (append-nil first)
join_spaced first (o ∷ operands) = ap (λ w. first ++ 32 ∷ w) (join_spaced (operand_text o) operands)

-- what was put before, the opcode, the operands, and the end
pub operation_put : (out opcode : List ℕ) (operands : List Operand) → (((out ++ 32 ∷ []) ++ opcode) ++ flat_map spaced operands) ++ 59 ∷ [] ≡ out ++ 32 ∷ operation_text (opcode, operands)
operation_put out opcode operands =
    let joined : operation_text (opcode, operands) ≡ (opcode ++ flat_map spaced operands) ++ 59 ∷ [] = ap (λ w. w ++ 59 ∷ []) (join_spaced opcode operands) in
    simp append_assoc (ap (λ w. out ++ 32 ∷ w) (sym (joined ∙ append_assoc opcode (flat_map spaced operands) (59 ∷ []))))

-- the operations, each after a space
abbrev pub operations_text : List Operation → List ℕ
operations_text operations = flat_map (λ o. 32 ∷ operation_text o) operations

pub text_next : (out start after : List ℕ) (o : Operation) (others whole : List Operation) → out ++ operations_text (o ∷ others) ≡ start ++ operations_text whole → after ≡ out ++ 32 ∷ operation_text o → after ++ operations_text others ≡ start ++ operations_text whole
text_next out start after o others whole h put = ap (λ w. w ++ operations_text others) put ∙ append_assoc out (32 ∷ operation_text o) (operations_text others) ∙ h
