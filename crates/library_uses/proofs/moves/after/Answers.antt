use Rattle.std.proofs.Common.{◌≡◌, ◌≢◌, ◌⊎◌, ℕ, List, Option, Some, None, inr}
use Rattle.std.specs.Option.{SomeIff}
use Rattle.std.specs.Prelude.{MatchOption}
use Rattle.pb_board.specs.Position.{Record}
use Rattle.pb_moves.specs.Clocks.{record_after}
use Rattle.pb_moves.specs.Legal.{Legal}
use Rattle.pb_moves.specs.Moved.{Moved, IsMove}
use Rattle.pb_moves.specs.Spelling.{spelling}
use Rattle.library_uses.proofs.moves.after.Goals as goal

-- what `advance` tells of the move that the text spells
told : (text : List ℕ) (f : Record) (m : Moved) (o : Option Record) → text ≡ spelling m → SomeIff o (Legal f.setup m) (record_after f m)
    → MatchOption o (((n : Moved) → IsMove n → text ≢ spelling n) ⊎ ((n : Moved) × (text ≡ spelling n) × ¬ Legal f.setup n))
    (λ next. (n : Moved) × (text ≡ spelling n) × Legal f.setup n × (next ≡ record_after f n))
told text f m None is h = inr (m, is, h)
told text f m (Some g) is h = (m, is, h.0, h.1)

pub returns : goal.returns
returns c = told c.args.text.now c.args.fen.now c.in_ok-read_move.field-0 c.advance.result c.in_ok-read_move.ensures.1 c.advance.ensures.played
