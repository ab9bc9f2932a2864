use Rattle.std.proofs.Common.{ℕ, List, ◌<◌, drop, length, sym, subst, refl, arith}
use Rattle.std.proofs.lemmas.Bool.{false≢true}
use Rattle.std.proofs.lemmas.List.{take_rest}
use Rattle.pb_epd.specs.Token.{Token}
use Rattle.pb_epd.specs.Lexeme.{MayFollow, token_of, Begins}
use Rattle.pb_epd.proofs.Lexing.{stuck_at, steps_at, joined_bad, done_at}
use Rattle.pb_epd.proofs.token.next_token.Goals.{else-spaces-eq0-via-then-spaces-eq0+then-is_operand+else-is_operand-2, else-spaces-eq0-via-then-spaces-eq0+else-is_operand, else-spaces-eq0-via-else-spaces-eq0}
use Rattle.pb_epd.proofs.token.next_token.Goals as goal

pub returns-then-spaces-text : goal.returns-then-spaces-text
returns-then-spaces-text c = (c.space_run-spaces.result, done_at _ _ c.space_run-spaces.ensures (omega (arith, c.if-spaces-text.true)))

pub returns-in_default : goal.returns-in_default
returns-in_default c =
    let h = c.space_run-spaces.ensures in
    let lt : c.space_run-spaces.result < length c.args.text.now = omega (arith, h.fits, c.if-spaces-text.false) in
    stuck_at _ _ _ h lt (λ t r k _. rw (take_rest c.args.text.now c.space_run-spaces.result) at c.in_default.ensures t r k)

pub returns-then-is_operand-2 : goal.returns-then-is_operand-2
returns-then-is_operand-2 c =
    let h = c.space_run-spaces.ensures in
    let n = c.space_run-spaces.result in
    let lt : n < length c.args.text.now = omega (arith, h.fits, c.if-spaces-text.false) in
    let begins : Begins (drop n c.args.text.now) (token_of c.in-Some.token) c.in-Some.rest.now = rw take_rest at c.in-Some.ensures in
    let bad = joined_bad (token_of c.args.before) (drop n c.args.text.now) (token_of c.in-Some.token) c.in-Some.rest.now (c.if-is_operand.ensures.0 refl) (c.if-is_operand-2.ensures.0 refl) begins in
    stuck_at _ _ _ h lt (subst (λ m. (u : Token) (rest : List ℕ) → Begins (drop n c.args.text.now) u rest → ¬ MayFollow (token_of c.args.before) m u) (sym c.if-spaces-eq0.true) bad)

pub returns : goal.returns
returns c =
    let h = c.space_run-spaces.ensures in
    let n = c.space_run-spaces.result in
    let begins : Begins (drop n c.args.text.now) (token_of c.in-Some.token) c.in-Some.rest.now = rw take_rest at c.in-Some.ensures in
    steps_at _ _ n _ _ h begins (λ one two.
    elim c.else-spaces-eq0.branch [
      | else-spaces-eq0-via-then-spaces-eq0+then-is_operand+else-is_operand-2 w ↦ absurd (false≢true (w.if-is_operand-2.ensures.1 two))
      | else-spaces-eq0-via-then-spaces-eq0+else-is_operand w ↦ absurd (false≢true (w.if-is_operand.ensures.1 one))
      | else-spaces-eq0-via-else-spaces-eq0 w ↦ omega (arith, w.if-spaces-eq0.false)
    ])
