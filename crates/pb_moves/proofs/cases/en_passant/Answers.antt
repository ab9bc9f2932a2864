use Rattle.std.proofs.Common.{◌≡◌, ◌+◌, ◌*◌, ◌∙◌, ap, sym, subst, ℕ, Option, Some, None, arith, rules}
use Rattle.std.specs.Option.{is_some}
use Rattle.std.proofs.lemmas.Bool.{false≢true}
use Rattle.pb_board.specs.declared.piece.Kind.{Kind}
use Rattle.pb_board.specs.declared.piece.Kind.TheVariants.{Pawn}
use Rattle.pb_board.specs.declared.piece.Piece.{Piece}
use Rattle.pb_board.specs.Board.{file, rank}
use Rattle.pb_moves.specs.Attacks.{Attacks}
use Rattle.pb_moves.proofs.Carrying.{passes_unpromoted, takes_past}
use Rattle.pb_moves.proofs.Unique.{piece_is}
use Rattle.pb_moves.proofs.cases.en_passant.Goals.{in_default-via-in-Some+then-index+else-pawn_takes, in_default-via-in-Some+else-index, in_default-via-in_default}
use Rattle.pb_moves.proofs.cases.en_passant.Goals as goal

pub returns-then-is_some : goal.returns-then-is_some
returns-then-is_some c = λ x.
    let none = passes_unpromoted c.args.setup.now c.args.m c.ep-square.ensures.rules x.0 x.1.0 in
    false≢true (sym (ap (λ (o : Option Kind). is_some o) none) ∙ (sym (ap (λ (o : Option Kind). is_some o) c.promo.ensures) ∙ (sym c.is_some.ensures ∙ c.if-is_some.true)))

pub returns-in-Some : goal.returns-in-Some
returns-in-Some c =
    let s = c.args.setup.now in
    let m = c.args.m in
    let square : s.ep ≡ Some m.to = search rules in
    let none : m.promo ≡ None = search rules in
    let A : ℕ → ℕ → Type 0 = λ a b. Attacks c.args.pawn.colour c.args.pawn.kind s.board a b in
    let found : A c.from-from.result c.to-to.result = (c.pawn_takes.ensures s.board).0 c.if-pawn_takes.true in
    let reaches = subst (A m.from) c.to-to.ensures.value (subst (λ (a : ℕ). A a c.to-to.result) c.from-from.ensures.value found) in
    let taken : c.square_at-taken.result ≡ 8 * rank m.from + file m.to = omega arith in
    takes_past s m c.args.pawn c.from-from.result c.to-to.result c.square_at-taken.result c.ep-square.ensures.rules c.from-from.ensures.rules c.requires.own c.requires.pawn
    none square reaches c.from-from.ensures.value c.to-to.ensures.value taken

pub returns-in_default : goal.returns-in_default
returns-in_default c = λ x.
    elim c.in_default.branch [
      | in_default-via-in-Some+then-index+else-pawn_takes w ↦
          let s = c.args.setup.now in
          let A : ℕ → ℕ → Type 0 = λ a b. Attacks c.args.pawn.colour c.args.pawn.kind s.board a b in
          let O : Piece → Type 0 = λ p. Attacks p.colour p.kind s.board c.args.m.from c.args.m.to in
          let reaches = subst O (sym (piece_is c.args.pawn s.turn Pawn c.requires.own.own c.requires.pawn)) x.1.1 in
          let here = subst (λ (a : ℕ). A a c.to-to.result) (sym c.from-from.ensures.value) (subst (A c.args.m.from) (sym c.to-to.ensures.value) reaches) in
          false≢true (sym w.if-pawn_takes.false ∙ (w.pawn_takes.ensures s.board).1 here)
      | in_default-via-in-Some+else-index w ↦ (let square = x.1.0 in search rules)
      | in_default-via-in_default w ↦ (let square = x.1.0 in search rules)
    ]
