-- What was read of the tokens of a line: words, operands and operations.
use Rattle.std.proofs.Common.{◌≡◌, ◌≢◌, ℕ, ◌≤◌, ◌<◌, List, [], ◌∷◌, ◌++◌, length, refl, sym, ap, subst, ◌∙◌, arith}
use Rattle.std.specs.Prelude.{All, map}
use Rattle.std.specs.Borrow.{Bor}
use Rattle.std.proofs.lemmas.List.{append_assoc, append-nil, map_push}
use Rattle.std.proofs.lemmas.List.Elements.{All-nil, All-cons, All-push, All-same}
use Rattle.pb_epd.specs.declared.operation.Operand.{Operand}
use Rattle.pb_epd.specs.declared.operation.Operand.TheVariants as operand
use Rattle.pb_epd.specs.declared.token.Lexeme.{Lexeme}
use Rattle.pb_epd.specs.declared.token.Lexeme.TheVariants as lexeme
use Rattle.pb_epd.specs.declared.token.Next.{Next}
use Rattle.pb_epd.specs.declared.token.Next.TheVariants as next
use Rattle.pb_epd.specs.Token.{Token, word, quoted, end_mark, IsToken, Tokens, TokensAfter}
use Rattle.pb_epd.specs.Lexeme.{IsOperandToken, token_of, NextIs, IsNext}
use Rattle.pb_epd.specs.Operation.{IsOperand, operand_token, operation_tokens}
use Rattle.pb_epd.specs.Refusal.{IsNamed}
use Rattle.pb_epd.specs.Reading.{HasTokens, EndsSoundly, Follow, AreOperands, BeginsUnnamed}
use Rattle.pb_epd.proofs.TokenLists.{found_first, steps_tokens, stuck_none, done_only}
use Rattle.pb_epd.proofs.Bad.{steps_shorter}

-- where the tokenizer finds no token, there is none
pub no_step : (s : Next) (before : Token) (bytes : List ℕ) (ts : List Token) → IsNext before bytes s → ((t : Lexeme) (r : Bor (List ℕ)) → s ≡ next.Found t r → ⊥) → TokensAfter before ts bytes → ts ≡ []
no_step next.Done before bytes ts h none k = done_only before ts bytes h.0 h.1 k
no_step (next.Found t r) before bytes ts h none k = absurd (none t r refl)
no_step (next.Bad n) before bytes ts h none k = absurd (stuck_none before ts bytes n h k)

-- a token that is no word
pub no_word : (t : Lexeme) (bytes : List ℕ) → word bytes ≡ token_of t → ((b : Bor (List ℕ)) → t ≡ lexeme.Word b → ⊥) → ⊥
no_word (lexeme.Word b) bytes is other = other b refl
no_word (lexeme.Quoted b) bytes is other = cc (is)
no_word lexeme.End bytes is other = cc (is)

pub steps_back : (before : Token) (bytes : List ℕ) (t : Token) (rest : List ℕ) → NextIs before bytes t rest → HasTokens t rest → HasTokens before bytes
steps_back before bytes t rest h k = (t ∷ k.0, steps_tokens before t k.0 bytes rest h k.1)

pub first_is : (t u : Token) (ts : List Token) (rest : List ℕ) → Follow (t ∷ []) t (u ∷ ts) rest → u ≡ t
first_is t u ts rest h = cc (h.is)

-- what was read, from this token on: these tokens, of which that is the last
pub record HasRead (start : Token) (bytes : List ℕ) (first : List Token) (last : Token) (rest : List ℕ) : Type 0 where
  pub room : length rest ≤ length bytes
  pub back : HasTokens last rest → HasTokens start bytes
  pub tokens : (ts : List Token) → TokensAfter start ts bytes → Follow first last ts rest

pub read_none : (start : Token) (bytes : List ℕ) → HasRead start bytes [] start bytes
read_none start bytes = record { room = omega arith; back = λ h. h; tokens = λ ts h. record { others = ts; is = refl; after = h } }

pub read_more : (start : Token) (bytes : List ℕ) (first : List Token) (last : Token) (rest : List ℕ) (t : Token) (after : List ℕ) → HasRead start bytes first last rest → NextIs last rest t after → HasRead start bytes (first ++ t ∷ []) t after
read_more start bytes first last rest t after h k = record {
  room = omega (arith, h.room, steps_shorter last rest t after k);
  back = λ left. h.back (steps_back last rest t after k left);
  tokens = λ ts tokens.
      let p = h.tokens ts tokens in
      let f = found_first last t p.others rest after p.after k in
      record { others = f.others; is = p.is ∙ ap (λ w. first ++ w) f.is ∙ sym (append_assoc first (t ∷ []) f.others); after = f.after };
}

-- ---- four words

-- a word follows where fewer than these were read
pub word_left : (first : List Token) (words : List (List ℕ)) (ts others : List Token) → length first < length words → map word words ++ ts ≡ first ++ others → (w : List ℕ) × (us : List Token) × (others ≡ word w ∷ us)
word_left first [] ts others few is = absurd (omega (arith, few))
word_left [] (w ∷ words) ts others few is = (w, map word words ++ ts, sym is)
word_left (t ∷ first) (w ∷ words) ts others few is =
    let tails : map word words ++ ts ≡ first ++ others = cc (is) in
    word_left first words ts others (omega (arith, few)) tails

pub no_fourth : (bytes : List ℕ) (first : List Token) (last : Token) (rest : List ℕ) → HasRead end_mark bytes first last rest → length first < 4 → ((w : List ℕ) (us : List Token) → ¬ TokensAfter last (word w ∷ us) rest) → (four : List (List ℕ)) (ts : List Token) → length four ≡ 4 → ¬ Tokens (map word four ++ ts) bytes
no_fourth bytes first last rest h few none four ts e tokens =
    let f = h.tokens (map word four ++ ts) tokens in
    let w = word_left first four ts f.others (omega (arith, few, e)) f.is in
    none w.0 w.1 (subst (λ (us : List Token). TokensAfter last us rest) w.2 f.after)

-- ---- operands

pub operand_is : (o : Operand) → IsOperandToken (operand_token o)
operand_is (operand.Word bytes) = λ e. cc (e)
operand_is (operand.Text bytes) = λ e. cc (e)

pub operands_are : (operands : List Operand) → AreOperands (map operand_token operands)
operands_are [] = All-nil IsOperandToken
operands_are (o ∷ operands) = All-cons IsOperandToken (operand_token o) (map operand_token operands) (operand_is o) (operands_are operands)

pub record InOperands (start : Token) (bytes : List ℕ) (operands : List Operand) (before : Token) (rest : List ℕ) : Type 0 where
  pub lawful : All IsOperand operands
  pub read : HasRead start bytes (map operand_token operands) before rest

pub operands_more : (start : Token) (bytes : List ℕ) (operands : List Operand) (before : Token) (rest : List ℕ) (t : Token) (o : Operand) (after : List ℕ) (new : List Operand) → InOperands start bytes operands before rest → NextIs before rest t after → t ≡ operand_token o → new ≡ operands ++ o ∷ [] → InOperands start bytes new t after
operands_more start bytes operands before rest t o after new h k is made = record {
  lawful = subst (All IsOperand) (sym made) (All-push IsOperand operands o h.lawful (subst IsToken is k.begins.is_token));
  read = subst (λ w. HasRead start bytes w t after) (ap (λ x. map operand_token operands ++ x ∷ []) is ∙ sym (map_push operand_token operands o) ∙ ap (map operand_token) (sym made)) (read_more start bytes _ before rest t after h.read k);
}

pub operands_end : (start : Token) (bytes : List ℕ) (operands : List Operand) (before : Token) (rest after : List ℕ) → InOperands start bytes operands before rest → NextIs before rest end_mark after → EndsSoundly start bytes operands after
operands_end start bytes operands before rest after h k =
    let read = read_more start bytes _ before rest end_mark after h.read k in
    record { shorter = omega (arith, h.read.room, steps_shorter before rest end_mark after k); lawful = h.lawful; back = read.back; tokens = read.tokens }

pub operands_alone : (start : Token) (bytes : List ℕ) (operands : List Operand) (before : Token) (rest : List ℕ) → InOperands start bytes operands before rest → ((us : List Token) → TokensAfter before us rest → us ≡ []) → (ts : List Token) → TokensAfter start ts bytes → AreOperands ts
operands_alone start bytes operands before rest h none ts tokens =
    let p = h.read.tokens ts tokens in
    let is : ts ≡ map operand_token operands = p.is ∙ ap (λ w. map operand_token operands ++ w) (none p.others p.after) ∙ append-nil (map operand_token operands) in
    All-same IsOperandToken ts (map operand_token operands) is (operands_are operands)

-- ---- an operation

pub no_operand : (t : Token) → (IsOperandToken t → ⊥) → t ≡ end_mark
no_operand (word bytes) h = absurd (h (λ e. cc (e)))
no_operand (quoted bytes) h = absurd (h (λ e. cc (e)))
no_operand end_mark h = refl

module _ (before : Token) (bytes : List ℕ) (t : Token) (rest : List ℕ) (first : NextIs before bytes t rest) where
  pub taken_end : t ≡ end_mark → (ts : List Token) → TokensAfter before ts bytes → BeginsUnnamed ts
  taken_end is ts h =
      let f = found_first before t ts bytes rest h first in
      record { group = []; others = f.others; is = f.is ∙ ap (λ x. x ∷ f.others) is; operands = All-nil IsOperandToken; unnamed = λ n. cc (n.3) }

  pub taken_unended : IsOperandToken t → ((us : List Token) → TokensAfter t us rest → AreOperands us) → (ts : List Token) → TokensAfter before ts bytes → (ts ≢ []) × AreOperands ts
  taken_unended operand more ts h =
      let f = found_first before t ts bytes rest h first in
      (λ e. cc (f.is, e), All-same IsOperandToken ts (t ∷ f.others) f.is (All-cons IsOperandToken t f.others operand (more f.others f.after)))

  module _ (operands : List Operand) (after : List ℕ) (more : (us : List Token) → TokensAfter t us rest → Follow (map operand_token operands ++ end_mark ∷ []) end_mark us after) where
    pub taken_unnamed : IsOperandToken t → ((us : List Token) → ¬ IsNamed (t ∷ us)) → (ts : List Token) → TokensAfter before ts bytes → BeginsUnnamed ts
    taken_unnamed operand unnamed ts h =
        let f = found_first before t ts bytes rest h first in
        let e = more f.others f.after in
        record {
          group = t ∷ map operand_token operands;
          others = e.others;
          is = f.is ∙ ap (λ w. t ∷ w) (e.is ∙ append_assoc (map operand_token operands) (end_mark ∷ []) e.others);
          operands = All-cons IsOperandToken t (map operand_token operands) operand (operands_are operands);
          unnamed = unnamed (map operand_token operands);
        }

    pub taken_operation : (opcode : List ℕ) → t ≡ word opcode → (ts : List Token) → TokensAfter before ts bytes → Follow (operation_tokens (opcode, operands)) end_mark ts after
    taken_operation opcode is ts h =
        let f = found_first before t ts bytes rest h first in
        let e = more f.others f.after in
        record { others = e.others; is = f.is ∙ ap (λ w. t ∷ w) e.is ∙ ap (λ x. x ∷ ((map operand_token operands ++ end_mark ∷ []) ++ e.others)) is; after = e.after }
