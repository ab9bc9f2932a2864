use Rattle.pb_commands.specs.FenShown.{FenShown, texts}
use Rattle.pb_commands.proofs.Stopping.{run_taken}
use Rattle.pb_commands.proofs.fen.run_fen.Goals as goal

pub returns : goal.returns
returns g c =
    run_taken (FenShown c.args.fen.now (texts c.args.moves.now)) _ _ c.answer_fen.result c.in_ok-unless_refused.field-0 c.is_some.result c.answer_fen.ensures c.in_ok-unless_refused.ensures c.is_some.ensures
