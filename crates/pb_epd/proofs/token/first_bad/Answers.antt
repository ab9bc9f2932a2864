use Rattle.std.proofs.Common.{refl}
use Rattle.pb_epd.proofs.Bad.{lexed_start, lexed_more, lexed_done, lexed_bad}
use Rattle.pb_epd.proofs.token.first_bad.Goals as goal

pub loop-spaces-init : goal.loop-spaces-init
loop-spaces-init c = lexed_start _

pub returns-in-Done : goal.returns-in-Done
returns-in-Done c = (c.loop-spaces.invariant.tokens, lexed_done _ _ _ _ c.loop-spaces.invariant c.in-Done.ensures.1)

pub returns-in-Bad : goal.returns-in-Bad
returns-in-Bad c = lexed_bad _ _ _ _ _ c.loop-spaces.invariant c.in-Bad.ensures refl

pub loop-spaces-preserved : goal.loop-spaces-preserved
loop-spaces-preserved c = lexed_more _ _ _ _ _ c.loop-spaces.invariant c.in-Found.ensures
