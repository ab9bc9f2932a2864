use Rattle.std.proofs.Common.{ℕ, refl, subst}
use Rattle.pb_board.specs.Piece.{opponent}
use Rattle.pb_moves.specs.Attacks.{IsAttacked}
use Rattle.pb_moves.proofs.Lines.{attacked_at}
use Rattle.pb_moves.proofs.check.in_check.Goals as goal

pub returns : goal.returns
returns c =
    let board = c.args.setup.now.board in
    let enemy = opponent c.args.side in
    let king = c.king.result in
    let A : ℕ → Type 0 = λ q. IsAttacked board enemy q in
    let hit = attacked_at c.attacked.result board c.opponent.result enemy king king c.attacked.ensures c.opponent.ensures refl in
    ((λ h. (king, (c.king.ensures king).1 refl, hit.0 h)), λ check. hit.1 (subst A ((c.king.ensures check.0).0 check.1) check.2))
