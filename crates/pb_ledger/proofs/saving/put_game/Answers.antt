use Rattle.std.proofs.Common.{ℕ, List, ◌∷◌, [], ◌++◌, refl, subst, ◌∙◌}
use Rattle.pb_board.specs.LineEnd.{with_end}
use Rattle.pb_board.specs.Text.{fen_text}
use Rattle.pb_games.specs.Results.{outcome_text}
use Rattle.pb_games.specs.Submissions.{moves_text}
use Rattle.pb_io.specs.Sink.{Put}
use Rattle.pb_io.proofs.PutLemmas.{put_cut, put_then}
use Rattle.pb_ledger.proofs.SavedLoading.{game_line}
use Rattle.pb_ledger.proofs.saving.put_game.Goals as goal

pub returns-in_err-put_field : goal.returns-in_err-put_field
returns-in_err-put_field g c =
    let fen : List ℕ = c.text-start.result in
    let outcome = outcome_text c.args.game.now.outcome in
    let moves = moves_text c.args.game.now.moves in
    let id = c.as_bytes.result.now in
    let answer = c.from_residual.result in
    subst (Put _ _ answer) (game_line id outcome fen moves _ _ (fen_text c.args.game.now.start) c.as_bytes.ensures.value refl c.text-start.ensures)
    (put_cut _ _ _ answer (id ++ 9 ∷ []) ((outcome ++ 9 ∷ []) ++ ((fen ++ 9 ∷ []) ++ with_end moves)) c.from_residual.ensures.0 c.in_err-put_field.ensures)

pub returns-in_err-put_field-2 : goal.returns-in_err-put_field-2
returns-in_err-put_field-2 g c =
    let fen : List ℕ = c.text-start.result in
    let moves = moves_text c.args.game.now.moves in
    let id = c.as_bytes.result.now in
    let outcome = c.text.result.now in
    let answer = c.from_residual-in_err-put_field-2.result in
    subst (Put _ _ answer) (game_line id outcome fen moves _ _ (fen_text c.args.game.now.start) c.as_bytes.ensures.value c.text.ensures c.text-start.ensures)
    (put_then _ _ _ _ answer (id ++ 9 ∷ []) _ c.in_ok-put_field.ensures
    (put_cut _ _ _ answer (outcome ++ 9 ∷ []) ((fen ++ 9 ∷ []) ++ with_end moves) c.from_residual-in_err-put_field-2.ensures.0 c.in_err-put_field-2.ensures))

pub returns-in_err-put_field-3 : goal.returns-in_err-put_field-3
returns-in_err-put_field-3 g c =
    let moves = moves_text c.args.game.now.moves in
    let id = c.as_bytes.result.now in
    let outcome = c.text.result.now in
    let fen = c.as_bytes-2.result.now in
    let answer = c.from_residual-in_err-put_field-3.result in
    subst (Put _ _ answer) (game_line id outcome fen moves _ _ (fen_text c.args.game.now.start) c.as_bytes.ensures.value c.text.ensures (c.as_bytes-2.ensures.value ∙ c.text-start.ensures))
    (put_then _ _ _ _ answer (id ++ 9 ∷ []) _ c.in_ok-put_field.ensures
    (put_then _ _ _ _ answer (outcome ++ 9 ∷ []) _ c.in_ok-put_field-2.ensures
    (put_cut _ _ _ answer (fen ++ 9 ∷ []) (with_end moves) c.from_residual-in_err-put_field-3.ensures.0 c.in_err-put_field-3.ensures)))

pub returns : goal.returns
returns g c =
    let moves = c.as_slice.result.now in
    let id = c.as_bytes.result.now in
    let outcome = c.text.result.now in
    let fen = c.as_bytes-2.result.now in
    let answer = c.put_moves.result in
    rw (← c.as_slice.ensures) (
    subst (Put _ _ answer) (game_line id outcome fen (moves_text moves) _ _ (fen_text c.args.game.now.start) c.as_bytes.ensures.value c.text.ensures (c.as_bytes-2.ensures.value ∙ c.text-start.ensures))
    (put_then _ _ _ _ answer (id ++ 9 ∷ []) _ c.in_ok-put_field.ensures
    (put_then _ _ _ _ answer (outcome ++ 9 ∷ []) _ c.in_ok-put_field-2.ensures
    (put_then _ _ _ _ answer (fen ++ 9 ∷ []) _ c.in_ok-put_field-3.ensures c.put_moves.ensures)))
    )
