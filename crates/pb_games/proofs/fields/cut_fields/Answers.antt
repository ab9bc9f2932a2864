use Rattle.std.proofs.Common.{◌≡◌, ◌∷◌, [], ℕ, List, eqb, sym, ap, ◌∙◌, arith}
use Rattle.std.specs.List.{slice_split}
use Rattle.std.specs.Str.Lines.{strip_carriage_return}
use Rattle.pb_board.proofs.LineEnds.{length-strip}
use Rattle.pb_games.specs.Cuts.{fields_of}
use Rattle.pb_games.proofs.Pieces.{fifth, fourth_short}
use Rattle.pb_games.proofs.fields.cut_fields.Goals as goal

-- the pieces of a line whose end is dropped
cut_at_tabs : List ℕ → List (List ℕ)
cut_at_tabs front = slice_split (λ b. eqb b 9) front

pub returns-in_default-clause-cut : goal.returns-in_default-clause-cut
unfolding cut_at_tabs
returns-in_default-clause-cut c =
    fifth 9 _ _ _ _ _ _ _ _ c.in_default.field-0.1.now (ap cut_at_tabs (sym c.without_return.ensures) ∙ c.in_ok-id.ensures) c.in_ok-outcome.ensures c.in_ok-start.ensures c.in_default.ensures

pub returns-clause-short : goal.returns-clause-short
unfolding cut_at_tabs
returns-clause-short c =
    let line = c.args.line.now in
    let cut : fields_of line ≡ c.in_ok-id.id.now ∷ c.in_ok-outcome.outcome.now ∷ c.in_ok-start.start.now ∷ c.in_ok-start.moves.now ∷ [] =
    ap cut_at_tabs (sym c.without_return.ensures) ∙ c.in_ok-id.ensures ∙ ap (λ ws. c.in_ok-id.id.now ∷ ws) c.in_ok-outcome.ensures
    ∙ ap (λ ws. c.in_ok-id.id.now ∷ c.in_ok-outcome.outcome.now ∷ ws) c.in_ok-start.ensures
    ∙ ap (λ ws. c.in_ok-id.id.now ∷ c.in_ok-outcome.outcome.now ∷ c.in_ok-start.start.now ∷ ws) c.in-None.ensures in
    omega (arith, fourth_short 9 (strip_carriage_return line) _ _ _ _ cut, length-strip line)
