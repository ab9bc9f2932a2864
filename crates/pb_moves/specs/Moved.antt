-- A move: the square it leaves, the square it reaches, and the piece that a pawn becomes.
use Rattle.std.specs.Prelude.{◌≡◌, ◌≢◌, ℕ, ◌<◌, ◌==◌, Option, Some, None, if◌then◌else◌}
use Rattle.pb_board.specs.declared.piece.Kind.{Kind}
use Rattle.pb_board.specs.declared.piece.Kind.TheVariants.{Pawn, Knight, Bishop, Rook, Queen, King}

pub record Moved : Type 0 where
  pub from : ℕ
  pub to : ℕ
  pub promo : Option Kind

abbrev pub moved_of : ℕ → ℕ → Option Kind → Moved
moved_of from to promo = record { from = from; to = to; promo = promo }

-- what a pawn may become
abbrev pub IsPromotion : Kind → Type 0
IsPromotion kind = (kind ≢ Pawn) × (kind ≢ King)

-- two squares of the board that differ, and no promotion to a pawn or a king
pub record IsMove (m : Moved) : Type 0 where
  pub from_on_board : m.from < 64
  pub to_on_board : m.to < 64
  pub moves : m.from ≢ m.to
  pub promotes : (kind : Kind) → m.promo ≡ Some kind → IsPromotion kind

-- promotions in their order: none is 0, and a pawn becomes nothing else than these four
abbrev pub promotion_number : Option Kind → ℕ
promotion_number (Some Knight) = 1
promotion_number (Some Bishop) = 2
promotion_number (Some Rook) = 3
promotion_number (Some Queen) = 4
promotion_number _ = 0

-- the promotion of a number
abbrev pub promotion_of : ℕ → Option Kind
promotion_of n = if n == 1 then Some Knight else (if n == 2 then Some Bishop
    else (if n == 3 then Some Rook else (if n == 4 then Some Queen else None)))
