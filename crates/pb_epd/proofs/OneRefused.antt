-- No text is refused in two ways, want of memory aside, and no operation.
use Rattle.std.proofs.Common.{◌≡◌, ◌≢◌, ℕ, ◌<◌, ◌≤◌, List, [], ◌∷◌, ◌++◌, map, inl, inr, refl, ap, subst, sym, ◌∙◌, arith}
use Rattle.std.specs.Prelude.{All, AllPairs}
use Rattle.std.specs.List.{slice_split}
use Rattle.std.proofs.lemmas.Bool.{cases_lt}
use Rattle.std.proofs.lemmas.List.{same_from_push}
use Rattle.pb_board.specs.declared.refusal.FenError.{FenError}
use Rattle.pb_board.specs.declared.refusal.FenError.TheVariants as fen
use Rattle.pb_board.specs.Refusal.{BreaksAt, IsDueFen, IsFirstOf, of_setup}
use Rattle.pb_board.proofs.Breaks.{one_all_break}
use Rattle.pb_board.proofs.Dues.{one_first}
use Rattle.pb_epd.specs.declared.operation.Operand.{Operand}
use Rattle.pb_epd.specs.declared.refusal.EpdError.{EpdError}
use Rattle.pb_epd.specs.declared.refusal.EpdError.TheVariants as epd
use Rattle.pb_epd.specs.declared.refusal.PutError.{PutError}
use Rattle.pb_epd.specs.declared.refusal.PutError.TheVariants as put
use Rattle.pb_epd.specs.Epd.{EpdRecord}
use Rattle.pb_epd.specs.Operation.{IsOperand}
use Rattle.pb_epd.specs.Refusal.{BeginOtherwise, Cut, IsDueEpd, IsDuePut, IsFirstDueEpd, IsFirstDuePut, IsNamed, is_end}
use Rattle.pb_epd.specs.Token.{end_mark, word}
use Rattle.pb_epd.proofs.Bad.{bad_one}
use Rattle.pb_epd.proofs.Dues.{epd_place, put_place}
use Rattle.pb_epd.proofs.Lists.{one_pairs_break}
use Rattle.pb_epd.proofs.Texts.{same_words}
use Rattle.pb_epd.proofs.TokenLists.{tokens_one}

-- ---- a text: what comes before

abbrev NotDue : List ℕ → EpdError → Type 0
NotDue bytes x = ¬ IsDueEpd x bytes

before_setup : (bytes : List ℕ) (e : FenError) → IsFirstDueEpd (epd.Setup e) bytes → (at : ℕ) → All (NotDue bytes) (epd.Token at ∷ epd.Fields ∷ [])
before_setup bytes e h at = h.first at e 0 0 (epd.Token at ∷ epd.Fields ∷ []) (epd.Opcode 0 ∷ epd.Unended ∷ epd.Repeated 0 ∷ []) refl

before_opcode : (bytes : List ℕ) (n : ℕ) → IsFirstDueEpd (epd.Opcode n) bytes → (at : ℕ) (e : FenError) → All (NotDue bytes) (epd.Token at ∷ epd.Fields ∷ epd.Setup e ∷ [])
before_opcode bytes n h at e = h.first at e n 0 (epd.Token at ∷ epd.Fields ∷ epd.Setup e ∷ []) (epd.Unended ∷ epd.Repeated 0 ∷ []) refl

before_unended : (bytes : List ℕ) → IsFirstDueEpd epd.Unended bytes → (at : ℕ) (e : FenError) (n : ℕ) → All (NotDue bytes) (epd.Token at ∷ epd.Fields ∷ epd.Setup e ∷ epd.Opcode n ∷ [])
before_unended bytes h at e n = h.first at e n 0 (epd.Token at ∷ epd.Fields ∷ epd.Setup e ∷ epd.Opcode n ∷ []) (epd.Repeated 0 ∷ []) refl

before_repeated : (bytes : List ℕ) (m : ℕ) → IsFirstDueEpd (epd.Repeated m) bytes → (at : ℕ) (e : FenError) (n : ℕ)
    → All (NotDue bytes) (epd.Token at ∷ epd.Fields ∷ epd.Setup e ∷ epd.Opcode n ∷ epd.Unended ∷ [])
before_repeated bytes m h at e n = h.first at e n m (epd.Token at ∷ epd.Fields ∷ epd.Setup e ∷ epd.Opcode n ∷ epd.Unended ∷ []) [] refl

first_place : (x : EpdError) → 1 ≤ epd_place x
first_place (epd.Token at) = omega arith
first_place _ = omega arith

none_before : (bytes : List ℕ) (x y : EpdError) → IsFirstDueEpd x bytes → epd_place x < 7 → epd_place y < epd_place x → ¬ IsDueEpd y bytes
none_before bytes epd.Fields (epd.Token at) h some less = h.first at fen.Fields 0 0 (epd.Token at ∷ []) (epd.Setup fen.Fields ∷ epd.Opcode 0 ∷ epd.Unended ∷ epd.Repeated 0 ∷ []) refl 0 epd.Fields (omega arith)
none_before bytes (epd.Setup e) (epd.Token at) h some less = before_setup bytes e h at 0 epd.Fields (omega arith)
none_before bytes (epd.Setup e) epd.Fields h some less = before_setup bytes e h 0 1 epd.Fields (omega arith)
none_before bytes (epd.Opcode n) (epd.Token at) h some less = before_opcode bytes n h at fen.Fields 0 epd.Fields (omega arith)
none_before bytes (epd.Opcode n) epd.Fields h some less = before_opcode bytes n h 0 fen.Fields 1 epd.Fields (omega arith)
none_before bytes (epd.Opcode n) (epd.Setup e) h some less = before_opcode bytes n h 0 e 2 epd.Fields (omega arith)
none_before bytes epd.Unended (epd.Token at) h some less = before_unended bytes h at fen.Fields 0 0 epd.Fields (omega arith)
none_before bytes epd.Unended epd.Fields h some less = before_unended bytes h 0 fen.Fields 0 1 epd.Fields (omega arith)
none_before bytes epd.Unended (epd.Setup e) h some less = before_unended bytes h 0 e 0 2 epd.Fields (omega arith)
none_before bytes epd.Unended (epd.Opcode n) h some less = before_unended bytes h 0 fen.Fields n 3 epd.Fields (omega arith)
none_before bytes (epd.Repeated m) (epd.Token at) h some less = before_repeated bytes m h at fen.Fields 0 0 epd.Fields (omega arith)
none_before bytes (epd.Repeated m) epd.Fields h some less = before_repeated bytes m h 0 fen.Fields 0 1 epd.Fields (omega arith)
none_before bytes (epd.Repeated m) (epd.Setup e) h some less = before_repeated bytes m h 0 e 0 2 epd.Fields (omega arith)
none_before bytes (epd.Repeated m) (epd.Opcode n) h some less = before_repeated bytes m h 0 fen.Fields n 3 epd.Fields (omega arith)
none_before bytes (epd.Repeated m) epd.Unended h some less = before_repeated bytes m h 0 fen.Fields 0 4 epd.Fields (omega arith)
none_before bytes x y h some less = absurd (omega (arith, some, less, first_place y))

-- ---- a text: one cause

-- a line is cut in one way
one_cut : (bytes : List ℕ) (j k : Cut bytes) → (j.four ≡ k.four) × (j.ended ≡ k.ended)
one_cut bytes j k =
    let same = tokens_one end_mark (map word j.four ++ j.rest) (map word k.four ++ k.rest) bytes j.tokens k.tokens in
    let f = same_words j.four k.four j.rest k.rest (j.four_words ∙ sym k.four_words) same in
    (f.0, (same_from_push j.ended k.ended j.unended k.unended (sym j.cut ∙ ap (slice_split is_end) f.1 ∙ k.cut)).0)

one_cause : (bytes : List ℕ) (x y : EpdError) → epd_place x < 7 → epd_place x ≡ epd_place y → IsDueEpd x bytes → IsDueEpd y bytes → x ≡ y
one_cause bytes (epd.Token a) (epd.Token b) some same h k = ap (λ n. epd.Token n) (bad_one bytes a b h k)
one_cause bytes epd.Fields epd.Fields some same h k = refl
one_cause bytes (epd.Setup d) (epd.Setup e) some same h k =
    let due = subst (λ four. IsFirstOf of_setup (IsDueFen four) d) (one_cut bytes h.0 k.0).0 h.1 in
    ap (λ f. epd.Setup f) (one_first (IsDueFen k.0.four) of_setup d e due k.1)
one_cause bytes (epd.Opcode m) (epd.Opcode n) some same h k =
    let breaks = subst (λ ended. BreaksAt (All IsNamed) ended m) (one_cut bytes h.0 k.0).1 h.1 in
    ap (λ i. epd.Opcode i) (one_all_break IsNamed k.0.ended m n breaks k.1)
one_cause bytes epd.Unended epd.Unended some same h k = refl
one_cause bytes (epd.Repeated m) (epd.Repeated n) some same h k =
    let breaks = subst (λ ended. BreaksAt (AllPairs BeginOtherwise) ended m) (one_cut bytes h.0 k.0).1 h.1 in
    ap (λ i. epd.Repeated i) (one_pairs_break BeginOtherwise k.0.ended m n breaks k.1)
one_cause bytes x y some same h k = absurd (omega (arith, some, same))

not_memory : (x : EpdError) → x ≢ epd.Memory → epd_place x < 7
not_memory epd.Memory other = absurd (other refl)
not_memory _ other = omega arith

pub one_refusal : (bytes : List ℕ) (x y : EpdError) → x ≢ epd.Memory → y ≢ epd.Memory → IsFirstDueEpd x bytes → IsFirstDueEpd y bytes → x ≡ y
one_refusal bytes x y some other h k =
    elim (cases_lt (epd_place x) (epd_place y)) [
      | inl less ↦ absurd (none_before bytes y x k (not_memory y other) less h.due)
      | inr le ↦ elim (cases_lt (epd_place y) (epd_place x)) [
        | inl less ↦ absurd (none_before bytes x y h (not_memory x some) less k.due)
        | inr ge ↦ one_cause bytes x y (not_memory x some) (omega (arith, le, ge)) h.due k.due
      ]
    ]

-- ---- an operation

module _ (e : EpdRecord) (opcode : List ℕ) (operands : List Operand) where
  put_before : (x y : PutError) → IsFirstDuePut x e opcode operands → put_place y < put_place x → ¬ IsDuePut y e opcode operands
  put_before (put.Operand n) put.Opcode h less = h.first n (put.Opcode ∷ []) (put.Repeated ∷ put.Memory ∷ []) refl 0 put.Opcode (omega arith)
  put_before put.Repeated put.Opcode h less = h.first 0 (put.Opcode ∷ put.Operand 0 ∷ []) (put.Memory ∷ []) refl 0 put.Opcode (omega arith)
  put_before put.Repeated (put.Operand n) h less = h.first n (put.Opcode ∷ put.Operand n ∷ []) (put.Memory ∷ []) refl 1 put.Opcode (omega arith)
  put_before put.Memory put.Opcode h less = h.first 0 (put.Opcode ∷ put.Operand 0 ∷ put.Repeated ∷ []) [] refl 0 put.Opcode (omega arith)
  put_before put.Memory (put.Operand n) h less = h.first n (put.Opcode ∷ put.Operand n ∷ put.Repeated ∷ []) [] refl 1 put.Opcode (omega arith)
  put_before put.Memory put.Repeated h less = h.first 0 (put.Opcode ∷ put.Operand 0 ∷ put.Repeated ∷ []) [] refl 2 put.Opcode (omega arith)
  put_before put.Opcode put.Opcode h less = absurd (omega (arith, less))
  put_before _ _ h less = absurd (omega (arith, less))

  one_put_cause : (x y : PutError) → put_place x ≡ put_place y → IsDuePut x e opcode operands → IsDuePut y e opcode operands → x ≡ y
  one_put_cause put.Opcode put.Opcode same h k = refl
  one_put_cause (put.Operand m) (put.Operand n) same h k = ap (λ i. put.Operand i) (one_all_break IsOperand operands m n h k)
  one_put_cause put.Repeated put.Repeated same h k = refl
  one_put_cause put.Memory put.Memory same h k = refl
  one_put_cause _ _ same h k = absurd (omega (arith, same))

pub one_put_refusal : (e : EpdRecord) (opcode : List ℕ) (operands : List Operand) (x y : PutError) → IsFirstDuePut x e opcode operands → IsFirstDuePut y e opcode operands → x ≡ y
one_put_refusal e opcode operands x y h k =
    elim (cases_lt (put_place x) (put_place y)) [
      | inl less ↦ absurd (put_before e opcode operands y x k less h.due)
      | inr le ↦ elim (cases_lt (put_place y) (put_place x)) [
        | inl less ↦ absurd (put_before e opcode operands x y h less k.due)
        | inr ge ↦ one_put_cause e opcode operands x y (omega (arith, le, ge)) h.due k.due
      ]
    ]
