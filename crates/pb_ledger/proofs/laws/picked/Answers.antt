use Rattle.pb_ledger.proofs.GamesHeld.{game_lines_are_picked, games_are_held, mending_adds_no_game, saved_games_are_picked, torn_adds_no_game}
use Rattle.pb_ledger.proofs.laws.picked.Goals as goal

pub returns : goal.returns
returns c = record { held = games_are_held; saved = saved_games_are_picked; lines = game_lines_are_picked; torn = torn_adds_no_game; mended = mending_adds_no_game }
