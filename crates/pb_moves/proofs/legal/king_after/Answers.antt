use Rattle.std.proofs.Common.{◌≡◌, ◌≢◌, ℕ, rules, subst, sym, ◌∙◌}
use Rattle.pb_board.specs.declared.piece.Colour.{Colour}
use Rattle.pb_board.specs.declared.piece.Kind.TheVariants.{King}
use Rattle.pb_board.specs.Piece.{piece_of}
use Rattle.pb_board.specs.Position.{IsOnlyKing}
use Rattle.pb_moves.specs.Successor.{after}
use Rattle.pb_moves.proofs.Kept.{king_goes, king_stays}
use Rattle.pb_moves.proofs.Kings.{no_king}
use Rattle.pb_moves.proofs.Ways.{kind_is}
use Rattle.pb_moves.proofs.legal.king_after.Goals as goal

pub returns-then-eq : goal.returns-then-eq
returns-then-eq c = λ h.
    let s = c.args.setup.now in
    let m = c.args.m in
    let king : c.args.piece.kind ≡ King = search rules in
    let P : Colour → Type 0 = λ side. IsOnlyKing s.board side c.king-king.result in
    let only = subst P c.turn.ensures.value c.king-king.ensures in
    let Q : ℕ → Type 0 = λ q. IsOnlyKing (after s m).board s.turn q in
    subst Q (sym c.to.ensures.value) (king_goes s m c.king-king.result c.turn.ensures.rules h (sym (kind_is s m c.args.piece h c.requires.stands) ∙ king) only)

pub returns-else-eq : goal.returns-else-eq
returns-else-eq c = λ h.
    let s = c.args.setup.now in
    let m = c.args.m in
    let no_king_kind : c.args.piece.kind ≢ King = search rules in
    let P : Colour → Type 0 = λ side. IsOnlyKing s.board side c.king-king.result in
    let only = subst P c.turn.ensures.value c.king-king.ensures in
    let other = λ (e : h.kind ≡ King). no_king_kind (kind_is s m c.args.piece h c.requires.stands ∙ e) in
    king_stays s m s.turn c.king-king.result c.turn.ensures.rules h (no_king (piece_of s.turn h.kind) s.turn other) only
