use Rattle.std.proofs.Common.{◌≢◌, rules}
use Rattle.std.proofs.lemmas.Nat.Bits.{bit_at_ones}
use Rattle.pb_board.specs.declared.piece.Kind.TheVariants.{Pawn}
use Rattle.pb_moves.proofs.attack.ways.Goals as goal

pub returns-else-eq : goal.returns-else-eq
returns-else-eq c = λ to on.
    let other : c.args.kind ≢ Pawn = search rules in
    ((λ h pawn. absurd (other pawn)), λ h. bit_at_ones 64 to on)
