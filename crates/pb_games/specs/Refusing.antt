-- Why a line is refused by itself, whatever games are held: the first reason that is due.
use Rattle.std.specs.Prelude.{◌≡◌, ◌≢◌, ℕ, ◌<◌, List, [], ◌∷◌, ◌++◌, length, map, All}
use Rattle.pb_board.specs.declared.refusal.FenError.{FenError}
use Rattle.pb_board.specs.Fields.{field, fields, space}
use Rattle.pb_board.specs.Position.{Record, IsRecord}
use Rattle.pb_board.specs.Refusal.{BreaksAt, IsDueFen, IsFirstOf, fen_errors}
use Rattle.pb_board.specs.Text.{fen_text}
use Rattle.pb_moves.specs.Attacks.{IsPlayable}
use Rattle.pb_moves.specs.Moved.{Moved, IsMove}
use Rattle.pb_moves.specs.Spelling.{spelling}
use Rattle.pb_moves.specs.Played.{AreLegal, IsSpelled}
use Rattle.pb_games.specs.declared.game.Outcome.{Outcome}
use Rattle.pb_games.specs.declared.refusal.Refusal.{Refusal}
use Rattle.pb_games.specs.declared.refusal.Refusal.TheVariants as refusal
use Rattle.pb_games.specs.Cuts.{fields_of}
use Rattle.pb_games.specs.Ids.{IsId}
use Rattle.pb_games.specs.Results.{outcome_text}
use Rattle.pb_games.specs.Tokens.{tokens_of}

-- the third of a line's cells spells the record
abbrev pub SpellsStart : List (List ℕ) → Record → Type 0
SpellsStart cells f = IsRecord f × (field cells 2 ≡ fen_text f)

-- these tokens spell the moves
abbrev pub SpellsMoves : List (List ℕ) → List Moved → Type 0
SpellsMoves tokens moves = All IsMove moves × (map spelling moves ≡ tokens)

-- when each refusal of a line with these cells is due; the last three, which look at the games that
-- are held or at memory, never are here
abbrev pub IsDue : List ℕ → List (List ℕ) → Refusal → Type 0
IsDue line cells refusal.Long = 8192 < length line
IsDue line cells refusal.Shape = length cells ≢ 4
IsDue line cells refusal.Id = ¬ IsId (field cells 0)
IsDue line cells refusal.Result = (outcome : Outcome) → field cells 1 ≢ outcome_text outcome
IsDue line cells (refusal.Fen e) = IsFirstOf fen_errors (IsDueFen (fields space (field cells 2))) e
IsDue line cells refusal.Start = (f : Record) × SpellsStart cells f × ¬ IsPlayable f.setup
IsDue line cells (refusal.Spelling n) = BreaksAt (All IsSpelled) (tokens_of (field cells 3)) n
IsDue line cells refusal.Plies = 1024 < length (tokens_of (field cells 3))
IsDue line cells (refusal.Illegal n) = (f : Record) × (moves : List Moved)
    × SpellsStart cells f × SpellsMoves (tokens_of (field cells 3)) moves
    × BreaksAt (AreLegal f.setup) moves n
IsDue line cells _ = ⊥

-- in the order in which they are looked for: `Fen` has a cause, `Spelling` and `Illegal` a number
abbrev pub in_order : FenError → ℕ → ℕ → List Refusal
in_order e m n =
    refusal.Long ∷ refusal.Shape ∷ refusal.Id ∷ refusal.Result ∷ refusal.Fen e ∷ refusal.Start
    ∷ refusal.Spelling m ∷ refusal.Plies ∷ refusal.Illegal n ∷ []

-- the line by itself is refused so: this refusal is due, and none before it, whatever their causes
-- and numbers
pub record Refuses (line : List ℕ) (r : Refusal) : Type 0 where
  pub due : IsDue line (fields_of line) r
  pub first : (e : FenError) (m n : ℕ) (before after : List Refusal)
      → in_order e m n ≡ before ++ r ∷ after
      → All (λ d. ¬ IsDue line (fields_of line) d) before
