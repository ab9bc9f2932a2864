use Rattle.std.proofs.Common.{◌≡◌, subst}
use Rattle.pb_epd.specs.Token.{end_mark}
use Rattle.pb_epd.specs.Operation.{operand_token}
use Rattle.pb_epd.specs.Lexeme.{token_of, NextIs}
use Rattle.pb_epd.proofs.Reader.{no_step, operands_more, operands_end, operands_alone}
use Rattle.pb_epd.proofs.read.read_operands.Goals as goal

pub returns-in_default : goal.returns-in_default
returns-in_default c = operands_alone _ _ _ _ _ c.loop-token.invariant (λ us h. no_step _ _ _ us c.next_token.ensures c.in_default.not-Found h)

pub returns-in_default-2 : goal.returns-in_default-2
returns-in_default-2 c =
    let end : token_of c.in-Found.token ≡ end_mark = rw c.in_default-2.is at c.in_ok-operand.ensures in
    operands_end _ _ _ _ _ _ c.loop-token.invariant (subst (λ t. NextIs (token_of c.loop-token.before) c.loop-token.rest.now t c.in-Found.after.now) end c.in-Found.ensures)

pub loop-token-preserved : goal.loop-token-preserved
loop-token-preserved c =
    let operand : token_of c.in-Found.token ≡ operand_token c.in-Some.operand = rw c.in-Some.is at c.in_ok-operand.ensures in
    operands_more _ _ _ _ _ _ _ _ _ c.loop-token.invariant c.in-Found.ensures operand c.in_ok-push.ensures.items
