use Rattle.std.proofs.Common.{rules, ◌≡◌, ◌↔◌, IsTrue, sym, ap, subst, ◌∙◌}
use Rattle.std.specs.Prelude.{codes}
use Rattle.pb_board.specs.Initial.{initial}
use Rattle.pb_board.specs.Position.{IsRecord, record_of}
use Rattle.pb_board.specs.Text.{fen_text}
use Rattle.pb_board.proofs.InitialText.{initial_bounds, initial_text}
use Rattle.pb_games.proofs.fields.read_start.Goals as goal

pub returns-then-eq-clause-found : goal.returns-then-eq-clause-found
returns-then-eq-clause-found c =
    let same : IsTrue c.eq.result ↔ (c.args.text.now ≡ codes "rnbqkbnr/pppppppp/8/8/8/8/PPPPPPPP/RNBQKBNR w KQkq - 0 1") = search rules in
    let is : c.with_clocks.result ≡ record_of initial 0 1 = c.with_clocks.ensures ∙ ap (λ p. record_of p 0 1) c.start.ensures in
    subst (λ f. IsRecord f × (c.args.text.now ≡ fen_text f)) (sym is) (initial_bounds, same.0 c.if-eq.true ∙ sym initial_text)
