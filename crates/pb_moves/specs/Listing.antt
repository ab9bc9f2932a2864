-- All legal moves of a setup, in order.
use Rattle.std.specs.Prelude.{ℕ, ◌+◌, ◌*◌, ◌<◌, List, All, AllPairs, Contains}
use Rattle.pb_board.specs.Position.{Position}
use Rattle.pb_moves.specs.Legal.{Legal}
use Rattle.pb_moves.specs.Moved.{Moved, promotion_number}

-- where a move comes in the order: by `from`, then by `to`, 64 squares each, then by promotion, five
-- kinds
abbrev pub order_of : Moved → ℕ
order_of m = 320 * m.from + 5 * m.to + promotion_number m.promo

-- all legal moves, each once, in order
pub record ListsLegal (s : Position) (ms : List Moved) : Type 0 where
  pub legal : All (Legal s) ms
  pub every : (m : Moved) → Legal s m → Contains ms m
  pub ordered : AllPairs (λ a b. order_of a < order_of b) ms
