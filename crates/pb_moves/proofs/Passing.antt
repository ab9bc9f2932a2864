-- The square that a double step crosses.
use Rattle.std.proofs.Common.{◌≡◌, ℕ, ◌+◌, ◌*◌, ◌/◌, ◌<◌, arith}
use Rattle.pb_board.specs.declared.piece.Colour.{Colour}
use Rattle.pb_board.specs.declared.piece.Colour.TheVariants.{White, Black}
use Rattle.pb_board.specs.Board.{file, IsEmpty, IsForward}
use Rattle.pb_board.specs.Position.{Position}
use Rattle.pb_moves.specs.Attacks.{Clear, IsBetween, files_apart, ranks_apart}

none_aside : (f m r n : ℕ) → f ≡ 0 → n ≡ 0 → f * m ≡ r * n
none_aside f m r n e k = rw (e, k) (omega arith)

-- half way of two ranks lies between, and nothing else does
pub halfway_between : (side : Colour) (from to : ℕ) → file to ≡ file from → IsForward side 2 from to
    → IsBetween from ((from + to) / 2) to × (file ((from + to) / 2) ≡ file from) × IsForward side 1 from ((from + to) / 2)
halfway_between White from to same forward = (
  ((λ e. omega arith), (λ e. omega arith), omega arith, omega arith, none_aside (files_apart from ((from + to) / 2)) (ranks_apart from to) (ranks_apart from ((from + to) / 2)) (files_apart from to) (omega arith) (omega arith)),
  omega arith,
  omega arith,
)
halfway_between Black from to same forward = (
  ((λ e. omega arith), (λ e. omega arith), omega arith, omega arith, none_aside (files_apart from ((from + to) / 2)) (ranks_apart from to) (ranks_apart from ((from + to) / 2)) (files_apart from to) (omega arith) (omega arith)),
  omega arith,
  omega arith,
)

-- the square that a pawn crosses is empty where the way is clear
pub halfway_empty : (s : Position) (from to : ℕ) → from < 64 → to < 64 → IsBetween from ((from + to) / 2) to → Clear s.board from to → IsEmpty s.board ((from + to) / 2)
halfway_empty s from to on_from on_to between way = way ((from + to) / 2) (omega arith) between
