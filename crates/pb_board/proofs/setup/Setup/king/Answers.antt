use Rattle.std.proofs.Common.{subst, sym}
use Rattle.pb_board.specs.Position.{IsOnlyKing}
use Rattle.pb_board.proofs.Backs.{opened}
use Rattle.pb_board.proofs.setup.Setup.king.Goals as goal

pub returns : goal.returns
returns c =
    let own = opened _ _ _ _ _ c.self.invariant c.self.view_is in
    let king = own.rules.kings c.args.colour in
    subst (IsOnlyKing _ c.args.colour) (sym (c.only_king.ensures _ king.0 own.bitboards_are king.1)) king.1
