use Rattle.pb_commands.proofs.Moves.{move_played}
use Rattle.pb_commands.proofs.fen.play_move.Goals as goal

pub returns : goal.returns
returns c = move_played _ _ c.args.before.now c.in_ok-m.m c.advance.result c.in_ok-m.ensures c.as_bytes.ensures.value c.advance.ensures.played
