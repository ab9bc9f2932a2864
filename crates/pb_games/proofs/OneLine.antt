-- No text has two submissions, and so no line.
use Rattle.std.proofs.Common.{◌≡◌, ℕ, List, [], ◌∷◌, length, map, get_or, ◌==◌, if◌then◌else◌, refl, sym, ap, ◌∙◌, arith, lit<}
use Rattle.std.specs.List.{All}
use Rattle.std.proofs.lemmas.List.Elements.{All-head, All-tail}
use Rattle.pb_board.specs.Text.{fen_text}
use Rattle.pb_board.specs.Fields.{fields}
use Rattle.pb_board.specs.Position.{Record}
use Rattle.pb_board.proofs.Joins.{split_join}
use Rattle.pb_board.proofs.Unique as unique
use Rattle.pb_moves.specs.Moved.{Moved, IsMove}
use Rattle.pb_moves.specs.Spelling.{spelling}
use Rattle.pb_games.specs.declared.game.Game.{Game}
use Rattle.pb_games.specs.declared.game.Outcome.{Outcome}
use Rattle.pb_games.specs.declared.game.Outcome.TheVariants as outcome
use Rattle.pb_games.specs.Results.{outcome_text}
use Rattle.pb_games.specs.Submissions.{Submits, Submission, moves_text, IsGame, submission_text}
use Rattle.pb_games.specs.Tokens.{tokens_of}
use Rattle.pb_games.proofs.Bytes.{spellings_above}
use Rattle.pb_games.proofs.Texts.{four_fields, lawful_game}
use Rattle.pb_games.proofs.TokenLemmas.{spelling_injective}
use Rattle.pb_games.specs.Ids.{IsId}

outcome_from : List ℕ → Outcome
outcome_from text = if length text == 7 then outcome.Draw else (if get_or text 0 0 == 49 then outcome.White else outcome.Black)

outcome_back : (o : Outcome) → outcome_from (outcome_text o) ≡ o
unfolding outcome_from
outcome_back outcome.White = refl
outcome_back outcome.Black = refl
outcome_back outcome.Draw = refl

pub outcome_injective : (o p : Outcome) → outcome_text o ≡ outcome_text p → o ≡ p
outcome_injective o p e = sym (outcome_back o) ∙ ap outcome_from e ∙ outcome_back p

-- the tokens of moves are their spellings
pub tokens_of_text : (ms : List Moved) → tokens_of (moves_text ms) ≡ map spelling ms
tokens_of_text [] = refl
tokens_of_text (m ∷ []) = split_join 32 (spelling m ∷ []) (spellings_above (m ∷ [])) (lit< tt)
tokens_of_text (m ∷ n ∷ ms) = split_join 32 (map spelling (m ∷ n ∷ ms)) (spellings_above (m ∷ n ∷ ms)) (omega arith)

pub spellings_injective : (ls ms : List Moved) → All IsMove ls → All IsMove ms → map spelling ls ≡ map spelling ms → ls ≡ ms
spellings_injective [] [] h k e = refl
spellings_injective [] (m ∷ ms) h k e = absurd (cc)
spellings_injective (l ∷ ls) [] h k e = absurd (cc)
spellings_injective (l ∷ ls) (m ∷ ms) h k e =
    let heads : spelling l ≡ spelling m = cc in
    let tails : map spelling ls ≡ map spelling ms = cc in
    ap (λ x. x ∷ ls) (spelling_injective l m (All-head IsMove l ls h) (All-head IsMove m ms k) heads)
    ∙ ap (λ (xs : List Moved). m ∷ xs) (spellings_injective ls ms (All-tail IsMove l ls h) (All-tail IsMove m ms k) tails)

game_of : Record → Outcome → List Moved → Game
game_of start o moves = record { start = start; outcome = o; moves = moves }

pub one_submission : (s t : Submission) → IsId s.0 → IsGame s.1 → IsId t.0 → IsGame t.1 → submission_text s ≡ submission_text t → s ≡ t
unfolding game_of
one_submission s t s-id s-game t-id t-game same =
    let cells = sym (four_fields s s-id s-game) ∙ ap (fields 9) same ∙ four_fields t t-id t-game in
    let cell = λ (i : ℕ). ap (λ (w : List (List ℕ)). get_or w i []) cells in
    let ids : s.0 ≡ t.0 = cell 0 in
    let outcomes : s.1.outcome ≡ t.1.outcome = outcome_injective s.1.outcome t.1.outcome (cell 1) in
    let starts : s.1.start ≡ t.1.start = unique.one_record s.1.start t.1.start (fen_text s.1.start) s-game.start t-game.start refl (cell 2) in
    let tokens : map spelling s.1.moves ≡ map spelling t.1.moves = sym (tokens_of_text s.1.moves) ∙ ap tokens_of (cell 3) ∙ tokens_of_text t.1.moves in
    let moves : s.1.moves ≡ t.1.moves = spellings_injective s.1.moves t.1.moves s-game.moves t-game.moves tokens in
    let P : List ℕ → Game → Submission = λ id g. (id, g) in
    ap (λ id. P id s.1) ids
    ∙ ap (λ f. P t.0 (game_of f s.1.outcome s.1.moves)) starts
    ∙ ap (λ o. P t.0 (game_of t.1.start o s.1.moves)) outcomes
    ∙ ap (λ ms. P t.0 (game_of t.1.start t.1.outcome ms)) moves

pub one_lawful : (line : List ℕ) (s t : Submission) → Submits line s → Submits line t → s ≡ t
one_lawful line s t h k = one_submission s t h.id (lawful_game line s h) k.id (lawful_game line t k) (sym h.text ∙ k.text)
