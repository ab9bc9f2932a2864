use Rattle.std.proofs.Common.{◌<◌, Contains, List, arith}
use Rattle.std.proofs.lemmas.List.Elements.{All-contains}
use Rattle.pb_board.proofs.InOrder.{same_in_order}
use Rattle.pb_board.specs.Position.{Position}
use Rattle.pb_moves.specs.Legal.{Legal}
use Rattle.pb_moves.specs.Listing.{ListsLegal, order_of}
use Rattle.pb_moves.specs.Moved.{Moved}
use Rattle.pb_moves.proofs.laws.one_list.Goals as goal

listed : (s : Position) (a b : List Moved) → ListsLegal s a → ListsLegal s b → (m : Moved) → Contains a m → Contains b m
listed s a b h k m here = k.every m (All-contains (Legal s) a m h.legal here)

pub returns : goal.returns
returns c = λ s a b h k.
    same_in_order (λ (x y : Moved). order_of x < order_of y) (λ x below. omega (arith, below)) (λ x y below above. omega (arith, below, above)) a b h.ordered k.ordered (listed s a b h k) (listed s b a k h)
