use Rattle.std.proofs.Common.{None, true}
use Rattle.pb_board.specs.declared.piece.Colour.TheVariants.{White}
use Rattle.pb_board.specs.declared.setup.Rights.{Rights}
use Rattle.pb_board.proofs.Backs.{keeps_setup, setup_is}
use Rattle.pb_board.proofs.Starts.{initial_rules}
use Rattle.pb_board.proofs.setup.Setup.start.Goals as goal

pub invariant_of-result : goal.invariant_of-result
invariant_of-result c = keeps_setup _ _ _ _ _ c.initial_bitboards.ensures (initial_rules _)

pub returns : goal.returns
returns c =
    let rights : Rights = record { white_short = true; white_long = true; black_short = true; black_long = true } in
    setup_is _ _ White rights None (initial_rules rights).places c.initial_bitboards.ensures
