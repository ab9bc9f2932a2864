-- What a setup is made of: a position that meets the rules, and the bitboards of its board.
use Rattle.std.specs.Prelude.{◌≡◌}
use Rattle.std.proofs.Common.{ap, sym}
use Rattle.pb_board.specs.Position.{Position, IsSetup}
use Rattle.pb_board.specs.declared.bitboards.Bitboards.{Bitboards}
use Rattle.pb_board.specs.Bitboards.{bitboards_of}

pub record HasBitboards (p : Position) (bitboards : Bitboards) : Type 0 where
  pub rules : IsSetup p
  pub bitboards_are : bitboards ≡ bitboards_of p.board

-- the sets come back from the board
pub bitboards-back : {A : Type 0} (make : Bitboards → A) (p : Position) (bitboards : Bitboards)
    → HasBitboards p bitboards → make (bitboards_of p.board) ≡ make bitboards
bitboards-back make p bitboards h = ap (λ (m : Bitboards). make m) (sym h.bitboards_are)
