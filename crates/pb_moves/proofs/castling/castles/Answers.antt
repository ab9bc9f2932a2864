use Rattle.std.proofs.Common.{◌≡◌, Some, None, rules, sym, ap, ◌∙◌}
use Rattle.std.proofs.lemmas.Bool.{false≢true}
use Rattle.pb_board.specs.Piece.{rook_of}
use Rattle.pb_board.specs.Castling.{castling_of, castling_row}
use Rattle.pb_moves.proofs.Carrying.{castles_so}
use Rattle.pb_moves.proofs.Castlings.{by_row, castling_found, found_by}
use Rattle.pb_moves.proofs.Ways.{kind_is, king_unpromoted}
use Rattle.pb_moves.proofs.castling.castles.Goals.{in_default-via-in-Some+then-is_none+else-may_castle, in_default-via-in-Some+else-is_none, in_default-via-in_default}
use Rattle.pb_moves.proofs.castling.castles.Goals as goal

pub returns-in-Some : goal.returns-in-Some
returns-in-Some c =
    let s = c.args.setup.now in
    let m = c.args.m in
    let row = castling_row c.in-Some.castling in
    let found : castling_of m.from m.to ≡ Some c.in-Some.castling = search rules in
    let squares = castling_found m.from m.to c.in-Some.castling found in
    let none : m.promo ≡ None = search rules in
    castles_so c.in-Some.castling s m c.args.king _ c.from-from.result c.to-to.result c.squares-squares.result.rook_from c.squares-squares.result.rook_to
    c.may_castle.ensures.rules c.from-from.ensures.rules c.requires.own c.requires.king none squares.0 squares.1 ((c.may_castle.ensures.allows m squares.0 squares.1).0 c.if-may_castle.true)
    c.from-from.ensures.value c.to-to.ensures.value (ap rook_of c.colour.ensures) c.squares-squares.ensures.rook_from c.squares-squares.ensures.rook_to

pub returns-in_default : goal.returns-in_default
returns-in_default c = λ x.
    let s = c.args.setup.now in
    let m = c.args.m in
    elim c.in_default.branch [
      | in_default-via-in-Some+then-is_none+else-may_castle w ↦
          let castling = w.in-Some.castling in
          let found : castling_of m.from m.to ≡ Some castling = search rules in
          let squares = castling_found m.from m.to castling found in
          false≢true (sym w.if-may_castle.false ∙ (w.may_castle.ensures.allows m squares.0 squares.1).1 x.1)
      | in_default-via-in-Some+else-is_none w ↦
          let none = king_unpromoted s.turn m x.0.kind (sym (kind_is s m c.args.king x.0 c.requires.own.stands) ∙ c.requires.king) x.0.promotes in
          search rules
      | in_default-via-in_default w ↦
          let by = by_row s.turn m x.1.goes in
          let found = found_by by.0 m.from m.to by.1.from_is by.1.to_is in
          search rules
    ]
