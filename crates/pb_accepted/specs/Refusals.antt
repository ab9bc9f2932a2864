-- Why a line is refused whatever games are held, as the reply says it.
use Rattle.std.specs.Prelude.{◌≡◌, ◌≢◌, ℕ, ◌<◌, ◌⊎◌, List, [], ◌∷◌, ◌++◌, length, All, codes}
use Rattle.std.specs.Prelude.{decimal}
use Rattle.std.specs.Str.Lines.{strip_carriage_return}
use Rattle.pb_board.specs.Fields.{field, fields}
use Rattle.pb_board.specs.Position.{Record}
use Rattle.pb_board.specs.Refusal.{BreaksAt}
use Rattle.pb_moves.specs.Attacks.{IsPlayable}
use Rattle.pb_moves.specs.Moved.{Moved}
use Rattle.pb_moves.specs.Played.{AreLegal, IsSpelled}
use Rattle.pb_games.specs.declared.game.Outcome.{Outcome}
use Rattle.pb_games.specs.Ids.{IsId}
use Rattle.pb_games.specs.Refusing.{SpellsMoves, SpellsStart}
use Rattle.pb_games.specs.Results.{outcome_text}
use Rattle.pb_games.specs.Tokens.{tokens_of}

-- when each reason is due, and what the reply then says, in the order in which they are looked for;
-- a final CR counts as a byte of the line, and a move is named by its number, from 1
abbrev pub reasons : List ℕ → List (List ℕ) → List (List ℕ → Type 0)
reasons line cells = let id = field cells 0 in let tokens = tokens_of (field cells 3) in
    (λ why. (why ≡ codes "- long") × (8192 < length line))
    ∷ (λ why. (why ≡ codes "- shape") × (length cells ≢ 4))
    ∷ (λ why. (why ≡ codes "- id") × ¬ IsId id)
    ∷ (λ why. (why ≡ id ++ codes " result") × ((o : Outcome) → field cells 1 ≢ outcome_text o))
    ∷ (λ why. (why ≡ id ++ codes " fen") × ((f : Record) → ¬ SpellsStart cells f))
    ∷ (λ why. (why ≡ id ++ codes " start")
    × (f : Record) × SpellsStart cells f × ¬ IsPlayable f.setup)
    ∷ (λ why. (n : ℕ) × (why ≡ id ++ codes " spelling " ++ decimal n)
    × BreaksAt (All IsSpelled) tokens n)
    ∷ (λ why. (why ≡ id ++ codes " plies") × (1024 < length tokens))
    ∷ (λ why. (n : ℕ) × (f : Record) × (moves : List Moved)
    × (why ≡ id ++ codes " illegal " ++ decimal n) × SpellsStart cells f × SpellsMoves tokens moves
    × BreaksAt (AreLegal f.setup) moves n)
    ∷ []

-- why is what the first of these reasons says that is due
abbrev pub IsFirst : List (List ℕ → Type 0) → List ℕ → Type 0
IsFirst [] why = ⊥
IsFirst (IsDue ∷ others) why = IsDue why ⊎ (((w : List ℕ) → ¬ IsDue w) × IsFirst others why)

-- the line is refused so; its cells are what stands between its TABs, without one final CR
abbrev pub IsRefused : List ℕ → List ℕ → Type 0
IsRefused line why = IsFirst (reasons line (fields 9 (strip_carriage_return line))) why
