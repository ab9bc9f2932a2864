-- Forms of a record: each is a text of it, and no text has two records.
use Rattle.std.proofs.Common.{◌≡◌, ◌≢◌, ℕ, List, [], ◌∷◌, ◌++◌, Result, Ok, Err, refl, sym, ap, subst, ◌∙◌, inl, inr, arith}
use Rattle.std.specs.Prelude.{All, Contains, IfOk, IfErr, MatchResult, map, flat_map}
use Rattle.std.specs.List.{slice_split}
use Rattle.std.proofs.lemmas.List.{append_assoc, append-nil, same_from_push}
use Rattle.std.proofs.lemmas.List.Elements.{All-head, All-tail, All-cons, All-weaker}
use Rattle.pb_board.specs.Position.{Position}
use Rattle.pb_board.specs.Text.{castling_text, en_passant_text, placement_text, setup_fields, turn_text}
use Rattle.pb_board.proofs.Unique.{one_setup}
use Rattle.pb_board.proofs.FieldWords.{IsPlainByte, IsWord, setup_words}
use Rattle.pb_epd.specs.declared.operation.Operand.{Operand}
use Rattle.pb_epd.specs.declared.operation.Operand.TheVariants as operand
use Rattle.pb_epd.specs.declared.refusal.EpdError.{EpdError}
use Rattle.pb_epd.specs.declared.refusal.EpdError.TheVariants as epd
use Rattle.pb_epd.specs.Token.{Token, word, end_mark, IsToken, IsWordByte, TokensAfter, token_text}
use Rattle.pb_epd.specs.Operation.{Operation, IsLetter, IsNameByte, IsOpcode, IsOperand, IsOperation, operand_token, operation_tokens, operation_text}
use Rattle.pb_epd.specs.Epd.{EpdRecord, IsEpd, EpdText, epd_form}
use Rattle.pb_epd.specs.Refusal.{is_end, IsFirstDueEpd}
use Rattle.pb_epd.proofs.Lists.{map_injective}
use Rattle.pb_epd.proofs.TokenLists.{tokens_one}
use Rattle.pb_epd.proofs.Groups.{group_of, operations_cut}
use Rattle.pb_epd.proofs.Order.{distinct_in_order, same_in_order}
use Rattle.pb_epd.proofs.Texts.{same_words, text_not_due}
use Rattle.pb_epd.proofs.Writing.{spaced, operation_put}

-- ---- no text has two records

operand_one : (x y : Operand) → operand_token x ≡ operand_token y → x ≡ y
operand_one (operand.Word a) (operand.Word b) e = let same : a ≡ b = cc (e) in ap operand.Word same
operand_one (operand.Word a) (operand.Text b) e = absurd (cc (e))
operand_one (operand.Text a) (operand.Word b) e = absurd (cc (e))
operand_one (operand.Text a) (operand.Text b) e = let same : a ≡ b = cc (e) in ap operand.Text same

group_one : (o p : Operation) → group_of o ≡ group_of p → o ≡ p
group_one o p e =
    let opcode : o.0 ≡ p.0 = cc (e) in
    let tails : map operand_token o.1 ≡ map operand_token p.1 = cc (e) in
    let operands = map_injective operand_token operand_one o.1 p.1 tails in
    ap (λ (w : List ℕ). (w, o.1)) opcode ∙ ap (λ (w : List Operand). (p.0, w)) operands

operations_one : (os ps : List Operation) → flat_map operation_tokens os ≡ flat_map operation_tokens ps → os ≡ ps
operations_one os ps e =
    let cut = λ (ops : List Operation). ap (slice_split is_end) (sym (append-nil (flat_map operation_tokens ops))) ∙ operations_cut ops [] in
    let both : map group_of os ++ [] ∷ [] ≡ map group_of ps ++ [] ∷ [] = sym (cut os) ∙ ap (slice_split is_end) e ∙ cut ps in
    map_injective group_of group_one os ps (same_from_push (map group_of os) (map group_of ps) [] [] both).0

pub record_is_one : (e f : EpdRecord) (bytes : List ℕ) → IsEpd e → IsEpd f → EpdText e bytes → EpdText f bytes → e ≡ f
record_is_one e f bytes he hf h k =
    let ops = λ (os : List Operation). flat_map operation_tokens os in
    let tokens = tokens_one end_mark (map word (setup_fields f.setup) ++ ops k.operations) (map word (setup_fields e.setup) ++ ops h.operations) bytes k.tokens h.tokens in
    let four = same_words (setup_fields f.setup) (setup_fields e.setup) (ops k.operations) (ops h.operations) refl tokens in
    let setups = one_setup e.setup f.setup (setup_fields e.setup) he.setup hf.setup refl (sym four.0) in
    let same = operations_one k.operations h.operations four.1 in
    let operations = same_in_order e.operations f.operations he.ordered hf.ordered (λ o. (
      λ m. (k.held.same o).0 (subst (λ w. Contains w o) (sym same) ((h.held.same o).1 m)),
      λ m. (h.held.same o).0 (subst (λ w. Contains w o) same ((k.held.same o).1 m)),
    )) in
    let make = λ (p : Position) (ops : List Operation). let r : EpdRecord = record { setup = p; operations = ops } in r in
    ap (λ p. make p e.operations) setups ∙ ap (λ ops. make f.setup ops) operations

memory_alone : (x : EpdError) → (x ≢ epd.Memory → ⊥) → x ≡ epd.Memory
memory_alone (epd.Token at) h = absurd (h (λ e. cc (e)))
memory_alone epd.Fields h = absurd (h (λ e. cc (e)))
memory_alone (epd.Setup e) h = absurd (h (λ e. cc (e)))
memory_alone (epd.Opcode n) h = absurd (h (λ e. cc (e)))
memory_alone epd.Unended h = absurd (h (λ e. cc (e)))
memory_alone (epd.Repeated n) h = absurd (h (λ e. cc (e)))
memory_alone epd.Memory h = refl

pub only_record : (bytes : List ℕ) (r : Result EpdRecord EpdError) → IfOk r (λ e. IsEpd e × EpdText e bytes) → IfErr r (λ x. IsFirstDueEpd x bytes) → (e : EpdRecord) → IsEpd e → EpdText e bytes → MatchResult r (λ g. g ≡ e) (λ x. x ≡ epd.Memory)
only_record bytes (Ok g) found refused e lawful h = record_is_one g e bytes found.0 lawful found.1 h
only_record bytes (Err x) found refused e lawful h = memory_alone x (λ other. text_not_due e bytes lawful h x other refused.due)

-- ---- every form is a text

letter_word : (b : ℕ) → IsLetter b → IsWordByte b
letter_word b h =
    elim h [
      | inl k ↦ record { low = omega (arith, k.0); high = omega (arith, k.1); no_end = λ e. omega (arith, k.0, e); no_quote = λ e. omega (arith, k.0, e) }
      | inr k ↦ record { low = omega (arith, k.0); high = omega (arith, k.1); no_end = λ e. omega (arith, k.0, e); no_quote = λ e. omega (arith, k.0, e) }
    ]

name_word : (b : ℕ) → IsNameByte b → IsWordByte b
name_word b h =
    elim h [
      | inl k ↦ letter_word b k
      | inr k ↦ elim k [
        | inl d ↦ record { low = omega (arith, d.0); high = omega (arith, d.1); no_end = λ e. omega (arith, d.1, e); no_quote = λ e. omega (arith, d.0, e) }
        | inr is ↦ record { low = omega (arith, is); high = omega (arith, is); no_end = λ e. omega (arith, is, e); no_quote = λ e. omega (arith, is, e) }
      ]
    ]

opcode_word : (opcode : List ℕ) → IsOpcode opcode → IsToken (word opcode)
opcode_word [] h = absurd h
opcode_word (b ∷ bytes) h = (
  omega arith,
  omega (arith, h.2),
  All-cons IsWordByte b bytes (letter_word b h.0) (All-weaker IsNameByte IsWordByte name_word bytes h.1),
)

spaced_token : (before t : Token) (ts : List Token) (rest : List ℕ) → IsToken t → TokensAfter t ts rest → TokensAfter before (t ∷ ts) (32 ∷ (token_text t ++ rest))
spaced_token before t ts rest is h = (1, rest, is, λ _ _. omega arith, refl, h)

operands_stand : (before : Token) (operands : List Operand) (ts : List Token) (rest : List ℕ) → All IsOperand operands → TokensAfter end_mark ts rest → TokensAfter before (map operand_token operands ++ end_mark ∷ ts) (flat_map spaced operands ++ 59 ∷ rest)
operands_stand before [] ts rest lawful h = (0, rest, tt, λ _ no. absurd (no refl), refl, h)
operands_stand before (o ∷ operands) ts rest lawful h =
    let more = map operand_token operands ++ end_mark ∷ ts in
    let left = flat_map spaced operands ++ 59 ∷ rest in
    let inner = operands_stand (operand_token o) operands ts rest (All-tail IsOperand o operands lawful) h in
    subst (λ w. TokensAfter before (operand_token o ∷ more) w) (sym (append_assoc (spaced o) (flat_map spaced operands) (59 ∷ rest)))
    (spaced_token before (operand_token o) more left (All-head IsOperand o operands lawful) inner)

operation_stands : (before : Token) (o : Operation) (ts : List Token) (rest : List ℕ) → IsOperation o → TokensAfter end_mark ts rest → TokensAfter before (operation_tokens o ++ ts) ((32 ∷ operation_text o) ++ rest)
operation_stands before o ts rest lawful h =
    let inner = operands_stand (word o.0) o.1 ts rest lawful.operands h in
    let tokens : operation_tokens o ++ ts ≡ word o.0 ∷ (map operand_token o.1 ++ end_mark ∷ ts) = ap (λ w. word o.0 ∷ w) (append_assoc (map operand_token o.1) (end_mark ∷ []) ts) in
    let bytes : (32 ∷ operation_text o) ++ rest ≡ 32 ∷ (o.0 ++ (flat_map spaced o.1 ++ 59 ∷ rest)) =
    ap (λ w. w ++ rest) (sym (operation_put [] o.0 o.1)) ∙ simp append_assoc in
    subst (λ w. TokensAfter before w ((32 ∷ operation_text o) ++ rest)) (sym tokens)
    (subst (λ w. TokensAfter before (word o.0 ∷ (map operand_token o.1 ++ end_mark ∷ ts)) w) (sym bytes)
    (spaced_token before (word o.0) (map operand_token o.1 ++ end_mark ∷ ts) (flat_map spaced o.1 ++ 59 ∷ rest) (opcode_word o.0 lawful.opcode) inner))

operations_stand : (before : Token) (operations : List Operation) → All IsOperation operations → TokensAfter before (flat_map operation_tokens operations) (flat_map (λ o. 32 ∷ operation_text o) operations)
operations_stand before [] h = (0, refl)
operations_stand before (o ∷ operations) h =
    operation_stands before o (flat_map operation_tokens operations) (flat_map (λ p. 32 ∷ operation_text p) operations) (All-head IsOperation o operations h)
    (operations_stand end_mark operations (All-tail IsOperation o operations h))

plain_word : (b : ℕ) → IsPlainByte b → IsWordByte b
plain_word b h = record { low = h.0; high = h.1; no_end = h.2; no_quote = h.3 }

word_token : (bytes : List ℕ) → IsWord bytes → IsToken (word bytes)
word_token bytes h = (h.0, h.1, All-weaker IsPlainByte IsWordByte plain_word bytes h.2)

whole_form : (p t c e rest : List ℕ) → (p ++ 32 ∷ (t ++ 32 ∷ (c ++ 32 ∷ e))) ++ rest ≡ p ++ 32 ∷ (t ++ 32 ∷ (c ++ 32 ∷ (e ++ rest)))
whole_form p t c e rest = simp append_assoc

pub form_is_text : (e : EpdRecord) → IsEpd e → EpdText e (epd_form e)
form_is_text e lawful =
    let p = e.setup in
    let placement = placement_text p.board in
    let turn = turn_text p.turn in
    let castling = castling_text p.rights in
    let en_passant = en_passant_text p.ep in
    let words = setup_words p (setup_fields p) lawful.setup refl in
    let after1 = All-tail IsWord placement (turn ∷ castling ∷ en_passant ∷ []) words in
    let after2 = All-tail IsWord turn (castling ∷ en_passant ∷ []) after1 in
    let after3 = All-tail IsWord castling (en_passant ∷ []) after2 in
    let ops = flat_map operation_tokens e.operations in
    let rest = flat_map (λ o. 32 ∷ operation_text o) e.operations in
    let four = spaced_token (word castling) (word en_passant) ops rest (word_token en_passant (All-head IsWord en_passant [] after3)) (operations_stand (word en_passant) e.operations lawful.lawful) in
    let three = spaced_token (word turn) (word castling) (word en_passant ∷ ops) (32 ∷ (en_passant ++ rest)) (word_token castling (All-head IsWord castling (en_passant ∷ []) after2)) four in
    let two = spaced_token (word placement) (word turn) (word castling ∷ word en_passant ∷ ops) (32 ∷ (castling ++ 32 ∷ (en_passant ++ rest))) (word_token turn (All-head IsWord turn (castling ∷ en_passant ∷ []) after1)) three in
    record {
      operations = e.operations;
      lawful = lawful.lawful;
      held = record { distinct = distinct_in_order e.operations lawful.ordered; same = λ o. (λ k. k, λ k. k) };
      tokens = (
        0,
        32 ∷ (turn ++ 32 ∷ (castling ++ 32 ∷ (en_passant ++ rest))),
        word_token placement (All-head IsWord placement (turn ∷ castling ∷ en_passant ∷ []) words),
        λ no. absurd (no refl),
        whole_form placement turn castling en_passant rest,
        two,
      );
    }
