-- What private functions say of the first four fields of a record, before they are known to be a
-- setup.
use Rattle.std.specs.Prelude.{◌≡◌, ℕ, List, length, IfSome}
use Rattle.pb_board.specs.declared.refusal.SetupError.{SetupError}
use Rattle.pb_board.specs.declared.refusal.SetupError.TheVariants as fault
use Rattle.pb_board.specs.declared.refusal.FenError.{FenError}
use Rattle.pb_board.specs.declared.refusal.FenError.TheVariants as fen
use Rattle.pb_board.specs.Position.{Position, OnEnPassantRank}
use Rattle.pb_board.specs.Text.{setup_fields}

-- the refusal of a text whose fields spell no setup: the rank of the square was judged before
abbrev pub refusal_of : SetupError → FenError
refusal_of fault.Kings = fen.Kings
refusal_of fault.Pawns = fen.Pawns
refusal_of fault.EnPassant = fen.EnPassantPawn

-- the four texts spell this position, and the en passant square is on the rank of the side
pub record SpellFour (p : Position) (four : List (List ℕ)) : Type 0 where
  pub places : length p.board ≡ 64
  pub fields_are : four ≡ setup_fields p
  pub rank_is : IfSome p.ep (OnEnPassantRank p.turn)
