use Rattle.std.proofs.Common.{◌≡◌, ◌≢◌, rules, refl, ap, subst, sym, ◌∙◌}
use Rattle.std.proofs.lemmas.Bool.{false≢true}
use Rattle.pb_board.specs.declared.piece.Colour.{Colour}
use Rattle.pb_board.specs.declared.piece.Kind.TheVariants.{King}
use Rattle.pb_board.specs.Piece.{opponent}
use Rattle.pb_board.specs.Position.{IsOnlyKing}
use Rattle.pb_moves.specs.Attacks.{IsAttacked}
use Rattle.pb_moves.specs.Attackers.{IsSight}
use Rattle.pb_moves.proofs.Changing.{own_differs}
use Rattle.pb_moves.proofs.legal.is_unpinned.Goals as goal

pub returns : goal.returns
returns c = λ unseen.
    let s = c.args.setup.now in
    let enemy = opponent s.turn in
    let no_king : c.args.piece.kind ≢ King = search rules in
    let K : Colour → Type 0 = λ side. IsOnlyKing s.board side c.king.result in
    let by : c.opponent.result ≡ enemy = c.opponent.ensures ∙ ap opponent c.turn-side.ensures.value in
    record {
      rules = c.turn-side.ensures.rules;
      no_king = no_king;
      king = c.king.result;
      only = subst K c.turn-side.ensures.value c.king.ensures;
      covered = λ b gone attack.
          (let other = own_differs s.turn enemy c.args.piece.colour refl c.requires.own.own in
          let sees = c.without.ensures s.board s.board b enemy c.args.piece c.requires.seen gone c.requires.own.stands other in
          let A : Colour → Type 0 = λ side. IsAttacked b side c.king.result in
          let S : Colour → Type 0 = λ side. IsSight s.board b side c.without.result in
          let found = (c.is_attacked.ensures b (subst S (sym by) sees)).1 (subst A (sym by) attack) in
          false≢true (cc (unseen, found)));
    }
