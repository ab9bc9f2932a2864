-- Which refusal is answered: the first of a list whose condition holds; and where a list first
-- breaks a rule.
use Rattle.std.specs.Prelude.{◌≡◌, ◌≢◌, ℕ, ◌-◌, ◌<◌, ◌^◌, List, [], ◌∷◌, ◌++◌}
use Rattle.std.specs.Prelude.{length, take, Option, IfSome, All, decimal}
use Rattle.pb_board.specs.declared.piece.Colour.{Colour}
use Rattle.pb_board.specs.declared.setup.Rights.{Rights}
use Rattle.pb_board.specs.declared.refusal.SetupError.{SetupError}
use Rattle.pb_board.specs.declared.refusal.SetupError.TheVariants as fault
use Rattle.pb_board.specs.declared.refusal.FenError.{FenError}
use Rattle.pb_board.specs.declared.refusal.FenError.TheVariants as fen
use Rattle.pb_board.specs.Board.{Board}
use Rattle.pb_board.specs.Fields.{field}
use Rattle.pb_board.specs.Position.{Position, HasKings, HasNoEdgePawn}
use Rattle.pb_board.specs.Position.{EnPassantHolds, OnEnPassantRank}
use Rattle.pb_board.specs.Text.{castling_text, en_passant_text, placement_text, turn_text}

-- this one of the list is due, and none before it
abbrev pub IsFirstOf : {E : Type 0} → List E → (E → Type 0) → E → Type 0
IsFirstOf {E} errors due e = (before : List E) × (after : List E)
    × (errors ≡ before ++ e ∷ after) × due e × All (λ d. ¬ due d) before

-- the list keeps the rule up to its n-th, counted from 1, and not with it; there is at most one
-- such n, if each front of a list that keeps the rule keeps it too
abbrev pub BreaksAt : {A : Type 0} → (List A → Type 0) → List A → ℕ → Type 0
BreaksAt rule xs n = rule (take (n - 1) xs) × ¬ rule (take n xs)

-- ---- a setup

-- when there is no setup
abbrev pub IsFault : SetupError → Position → Type 0
IsFault fault.Kings p = ¬ HasKings p.board
IsFault fault.Pawns p = ¬ HasNoEdgePawn p.board
IsFault fault.EnPassant p = ¬ EnPassantHolds p.board p.turn p.ep

-- the first cause, in the order in which they are looked for
abbrev pub IsFirstFault : SetupError → Position → Type 0
IsFirstFault e p = IsFirstOf (fault.Kings ∷ fault.Pawns ∷ fault.EnPassant ∷ []) (λ d. IsFault d p) e

-- ---- a FEN record, of which these are the texts between spaces

-- the first text spells the board
abbrev pub SpellsBoard : List (List ℕ) → Board → Type 0
SpellsBoard texts board = (length board ≡ 64) × (field texts 0 ≡ placement_text board)

-- the second text tells the side, and the fourth no square or one of the rank that en passant
-- squares of this side are on
abbrev pub SpellsSquare : List (List ℕ) → Colour → Option ℕ → Type 0
SpellsSquare texts turn ep = (field texts 1 ≡ turn_text turn)
    × (field texts 3 ≡ en_passant_text ep) × IfSome ep (OnEnPassantRank turn)

-- when each error is due
abbrev pub IsDueFen : List (List ℕ) → FenError → Type 0
IsDueFen texts fen.Fields = length texts ≢ 6
IsDueFen texts fen.Placement = (board : Board) → ¬ SpellsBoard texts board
IsDueFen texts fen.Turn = (turn : Colour) → field texts 1 ≢ turn_text turn
IsDueFen texts fen.Castling = (rights : Rights) → field texts 2 ≢ castling_text rights
IsDueFen texts fen.EnPassantText = (turn : Colour) (ep : Option ℕ) → ¬ SpellsSquare texts turn ep
IsDueFen texts fen.Half = (n : ℕ) → n < 2 ^ 16 → field texts 4 ≢ decimal n
IsDueFen texts fen.Full = (n : ℕ) → 0 < n → n < 2 ^ 16 → field texts 5 ≢ decimal n
IsDueFen texts fen.Kings = (board : Board) → SpellsBoard texts board → ¬ HasKings board
IsDueFen texts fen.Pawns = (board : Board) → SpellsBoard texts board → ¬ HasNoEdgePawn board
IsDueFen texts fen.EnPassantPawn = (board : Board) (turn : Colour) (ep : Option ℕ)
    → SpellsBoard texts board → SpellsSquare texts turn ep → ¬ EnPassantHolds board turn ep

-- in the order in which they are looked for
abbrev pub fen_errors : List FenError
fen_errors =
    fen.Fields ∷ fen.Placement ∷ fen.Turn ∷ fen.Castling ∷ fen.EnPassantText ∷ fen.Half ∷ fen.Full
    ∷ fen.Kings ∷ fen.Pawns ∷ fen.EnPassantPawn ∷ []

-- those of the first four texts alone, in order
abbrev pub of_setup : List FenError
of_setup = fen.Placement ∷ fen.Turn ∷ fen.Castling ∷ fen.EnPassantText ∷ fen.Kings ∷ fen.Pawns
    ∷ fen.EnPassantPawn ∷ []
