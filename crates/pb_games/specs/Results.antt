-- The texts of results (PGN Standard 1994, section 8.1.1.7): White won, Black won, nobody won.
use Rattle.std.specs.Prelude.{ℕ, List, codes}
use Rattle.pb_games.specs.declared.game.Outcome.{Outcome}
use Rattle.pb_games.specs.declared.game.Outcome.TheVariants.{White, Black, Draw}

abbrev pub outcome_text : Outcome → List ℕ
outcome_text White = codes "1-0"
outcome_text Black = codes "0-1"
outcome_text Draw = codes "1/2-1/2"
