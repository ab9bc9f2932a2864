use Rattle.std.proofs.Common.{◌≡◌, ℕ, rules, subst}
use Rattle.pb_board.specs.Board.{Holds}
use Rattle.pb_board.specs.declared.piece.Colour.{Colour}
use Rattle.pb_board.specs.declared.piece.Kind.TheVariants.{Rook}
use Rattle.pb_board.specs.Castling.{castling_row}
use Rattle.pb_moves.proofs.Castlings.{asked_by, castles_by, row_told}
use Rattle.pb_moves.proofs.castling.may_castle.Goals as goal

pub returns-then-way_is_clear-clause-allows : goal.returns-then-way_is_clear-clause-allows
returns-then-way_is_clear-clause-allows c = λ m from to.
    let castling = c.args.castling in
    let s = c.args.setup.now in
    let row = castling_row castling in
    let HasRook : Colour → ℕ → Type 0 = λ colour q. Holds s.board q (record { colour = colour; kind = Rook }) in
    let side : s.turn ≡ row.colour = search rules in
    let rook = subst (λ (x : ℕ). HasRook row.colour x) c.squares.ensures.rook_from
    (subst (λ (x : Colour). HasRook x c.squares.result.rook_from) c.colour-colour.ensures (c.holds.ensures.0 c.if-not-holds.false)) in (
      λ safe.
          let attacks = c.way_is_safe.ensures.0 safe in
          castles_by castling s m (record { side_is = side; from_is = from; to_is = to }) (cc, rook, c.way_is_clear.ensures.0 c.if-way_is_clear.true, attacks.0, attacks.1),
      λ castles.
          let asks = asked_by castling s m (row_told castling s m from to castles) castles in
          c.way_is_safe.ensures.1 (asks.3, asks.4),
    )

pub returns-else-way_is_clear-clause-allows : goal.returns-else-way_is_clear-clause-allows
returns-else-way_is_clear-clause-allows c = λ m from to. (
  λ h. absurd (let shut = c.if-way_is_clear.false in cc),
  λ castles.
      let s = c.args.setup.now in
      c.way_is_clear.ensures.1 (asked_by c.args.castling s m (row_told c.args.castling s m from to castles) castles).2,
)
