use Rattle.pb_moves.proofs.Aiming.{Sets, some_from, some_to}
use Rattle.pb_moves.proofs.check.pieces_from.Goals as goal

pub returns : goal.returns
returns c = λ a on.
    let board = c.args.setup.now.board in
    let sets : Sets board c.args.by c.args.square a c.pawns_from.result c.by_kind.result c.pattern.result c.by_kind-2.result c.pattern-2.result c.by_kind-3.result
    c.pattern-3.result c.by_kind-4.result c.pattern-4.result c.by_kind-5.result c.by_kind-queens.result =
    record {
      at_pawns = c.pawns_from.ensures a on;
      pawns = c.by_kind.ensures a;
      at_knights = c.pattern.ensures.squares a on;
      knights = c.by_kind-2.ensures a;
      at_bishops = c.pattern-2.ensures.squares a on;
      bishops = c.by_kind-3.ensures a;
      at_rooks = c.pattern-3.ensures.squares a on;
      rooks = c.by_kind-4.ensures a;
      at_kings = c.pattern-4.ensures.squares a on;
      kings = c.by_kind-5.ensures a;
      queens = c.by_kind-queens.ensures a;
    } in
    (some_to board c.args.by c.args.square a _ _ _ _ _ _ _ _ _ _ _ sets, λ h. some_from board c.args.by c.args.square a _ _ _ _ _ _ _ _ _ _ _ sets h.0 h.1 h.2 h.3)
