-- The text of a board as a relation, rank by rank.
use Rattle.std.proofs.Common.{◌≡◌, ℕ, zero, suc, ◌*◌, List, [], ◌∷◌, take, drop}
use Rattle.std.specs.List.{AllZip, join_with_byte}
use Rattle.pb_board.specs.Board.{Place}
use Rattle.pb_board.specs.Ranks.{RankText}

-- a rank, from 0, from file a to file h
abbrev pub rank_of : List Place → ℕ → List Place
rank_of board r = take 8 (drop (8 * r) board)

-- the lowest n ranks, from the highest of them down
abbrev pub ranks_down : List Place → ℕ → List (List Place)
ranks_down board zero = []
ranks_down board (suc n) = rank_of board n ∷ ranks_down board n

-- eight ranks, from rank 8 to rank 1, joined by /
abbrev pub PlacementText : List Place → List ℕ → Type 0
PlacementText board text = (texts : List (List ℕ)) × AllZip RankText (ranks_down board 8) texts × (text ≡ join_with_byte 47 texts)
