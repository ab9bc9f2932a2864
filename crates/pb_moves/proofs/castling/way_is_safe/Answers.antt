use Rattle.std.proofs.Common.{◌≡◌, ap, ◌∙◌}
use Rattle.pb_board.specs.Castling.{castling_row}
use Rattle.pb_board.specs.Piece.{opponent}
use Rattle.pb_moves.specs.Attacks.{IsAttacked}
use Rattle.pb_moves.proofs.Lines.{attacked_at, untold}
use Rattle.pb_moves.proofs.castling.way_is_safe.Goals as goal

pub returns-then-not-attacked : goal.returns-then-not-attacked
returns-then-not-attacked c =
    let row = castling_row c.args.castling in
    let board = c.args.setup.now.board in
    let squares = c.squares-squares in
    let enemy : c.opponent-enemy.result ≡ opponent row.colour = c.opponent-enemy.ensures ∙ ap opponent c.colour.ensures in
    let king = attacked_at c.attacked.result board c.opponent-enemy.result (opponent row.colour) squares.result.king_from row.king_from c.attacked.ensures enemy squares.ensures.king_from in
    let crossed = c.attacked-then-not-attacked in
    let rook = untold crossed.result (IsAttacked board (opponent row.colour) row.rook_to)
    (attacked_at crossed.result board c.opponent-enemy.result (opponent row.colour) squares.result.rook_to row.rook_to crossed.ensures enemy squares.ensures.rook_to) in
    ((λ h. ((λ x. let t = king.1 x in let f = c.if-not-attacked.true in cc), rook.0 h)), λ none. rook.1 none.1)

pub returns-else-not-attacked : goal.returns-else-not-attacked
returns-else-not-attacked c =
    let row = castling_row c.args.castling in
    let board = c.args.setup.now.board in
    let squares = c.squares-squares in
    let enemy : c.opponent-enemy.result ≡ opponent row.colour = c.opponent-enemy.ensures ∙ ap opponent c.colour.ensures in
    let king = attacked_at c.attacked.result board c.opponent-enemy.result (opponent row.colour) squares.result.king_from row.king_from c.attacked.ensures enemy squares.ensures.king_from in
    ((λ h. absurd (let f = c.if-not-attacked.false in cc)), λ none. absurd (none.0 (king.0 c.if-not-attacked.false)))
