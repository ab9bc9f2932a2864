use Rattle.std.proofs.lemmas.Result.{IfOk-weaker}
use Rattle.pb_cli.proofs.grammar.export.Goals as goal

pub returns : goal.returns
returns c = IfOk-weaker c.with_games.result _ _ (λ taking made. made _ c.bare_command.ensures) c.with_games.ensures
