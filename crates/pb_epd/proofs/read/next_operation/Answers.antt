use Rattle.std.proofs.Common.{◌≢◌, [], ℕ, List, Ok, Err, OnErr, Result, ◌∙◌, sym, refl, arith, rules}
use Rattle.pb_epd.specs.Lexeme.{NextIs, token_of}
use Rattle.pb_epd.specs.Token.{Token, TokensAfter}
use Rattle.pb_epd.proofs.Bad.{steps_shorter}
use Rattle.std.proofs.lemmas.Bool.{false≢true}
use Rattle.pb_epd.proofs.TokenLists.{done_only, found_first, stuck_none}
use Rattle.pb_epd.proofs.Reader.{steps_back, no_operand, taken_end, taken_unended, taken_unnamed, taken_operation}
use Rattle.pb_epd.proofs.read.next_operation.Goals as goal

pub returns-in-Done-clause-taken : goal.returns-in-Done-clause-taken
returns-in-Done-clause-taken c = λ ts h. done_only _ ts _ _ c.in-Done.ensures.1 h

pub returns-in-Bad-clause-taken : goal.returns-in-Bad-clause-taken
returns-in-Bad-clause-taken c = λ ts h. absurd (stuck_none _ ts _ _ c.in-Bad.ensures h)

pub returns-then-not-is_operand-clause-taken : goal.returns-then-not-is_operand-clause-taken
returns-then-not-is_operand-clause-taken c =
    taken_end _ _ _ _ c.in-Found.ensures (no_operand _ (λ h. false≢true (c.if-not-is_operand.ensures.1 h)))

pub returns-in_default-clause-taken : goal.returns-in_default-clause-taken
returns-in_default-clause-taken c =
    taken_unended _ _ _ _ c.in-Found.ensures (c.if-not-is_operand.ensures.0 refl) (rw c.in_default.is at c.in_ok-operands.ensures)

pub returns-in-Some-opcode_of-clause-taken : goal.returns-in-Some-opcode_of-clause-taken
returns-in-Some-opcode_of-clause-taken c =
    let cut = rw c.in-Some.is at c.in_ok-operands.ensures in
    taken_operation _ _ _ _ c.in-Found.ensures _ _ cut.tokens _ c.in-Some-opcode_of.ensures.0

pub returns-in-None-clause-taken : goal.returns-in-None-clause-taken
returns-in-None-clause-taken c =
    let cut = rw c.in-Some.is at c.in_ok-operands.ensures in
    taken_unnamed _ _ _ _ c.in-Found.ensures _ _ cut.tokens (c.if-not-is_operand.ensures.0 refl) c.in-None.ensures

pub returns-in-Some-opcode_of-clause-sound : goal.returns-in-Some-opcode_of-clause-sound
returns-in-Some-opcode_of-clause-sound c =
    let cut = rw c.in-Some.is at c.in_ok-operands.ensures in
    (omega (arith, cut.shorter, steps_shorter _ _ _ _ c.in-Found.ensures), record { opcode = c.in-Some-opcode_of.ensures.1; operands = cut.lawful }, λ left. steps_back _ _ _ _ c.in-Found.ensures (cut.back left))

pub returns-in-Bad-clause-sound : goal.returns-in-Bad-clause-sound
returns-in-Bad-clause-sound c = search rules

on_err : {A E : Type 0} (answer : Result A E) (P : Type 0) → P → OnErr answer P
on_err (Ok x) P h = tt
on_err (Err e) P h = h

found_some : (before t : Token) (ts : List Token) (bytes rest : List ℕ) → NextIs before bytes t rest → TokensAfter before ts bytes → ts ≢ []
found_some before t ts bytes rest found h none = let f = found_first before t ts bytes rest h found in let never = sym f.is ∙ none in cc

pub returns-in_err-operands-clause-memory : goal.returns-in_err-operands-clause-memory
returns-in_err-operands-clause-memory c =
    let some : (ts : List Token) → TokensAfter (token_of c.args.before) ts c.args.text.now → ts ≢ [] = λ ts h. found_some _ _ ts _ _ c.in-Found.ensures h in
    on_err c.from_residual.result _ some
