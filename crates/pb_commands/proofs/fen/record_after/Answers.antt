use Rattle.std.proofs.Common.{Ok, rules}
use Rattle.pb_commands.proofs.Shown.{moves_played}
use Rattle.pb_commands.specs.FenShown.{texts}
use Rattle.pb_commands.specs.Judged.{AsRecord}
use Rattle.pb_commands.proofs.fen.record_after.Goals as goal

pub returns : goal.returns
returns c =
    let taken : AsRecord c.args.fen.now (Ok c.in_ok-start.start) = search rules in
    moves_played c.args.fen.now (texts c.args.moves.now) c.in_ok-start.start taken c.play_moves.result c.play_moves.ensures c.map_err-2.result c.map_err-2.ensures.cases
