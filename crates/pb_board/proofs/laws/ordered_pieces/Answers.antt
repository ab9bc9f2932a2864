use Rattle.std.proofs.Common.{refl}
use Rattle.pb_board.specs.declared.piece.Colour.TheVariants.{White, Black}
use Rattle.pb_board.specs.declared.piece.Kind.TheVariants.{Pawn, Knight, Bishop, Rook, Queen, King}
use Rattle.pb_board.proofs.laws.ordered_pieces.Goals as goal

pub returns-clause-squares : goal.returns-clause-squares
returns-clause-squares c a b = refl

pub returns-clause-colours : goal.returns-clause-colours
returns-clause-colours c White White = refl
returns-clause-colours c Black White = refl
returns-clause-colours c a b = refl

-- the lines with a pawn tell the two kinds apart, and the last one then stands for the thirty
-- others
pub returns-clause-kinds : goal.returns-clause-kinds
returns-clause-kinds c Pawn Pawn = refl
returns-clause-kinds c Knight Pawn = refl
returns-clause-kinds c Bishop Pawn = refl
returns-clause-kinds c Rook Pawn = refl
returns-clause-kinds c Queen Pawn = refl
returns-clause-kinds c King Pawn = refl
returns-clause-kinds c a b = refl

pub returns-clause-pieces : goal.returns-clause-pieces
returns-clause-pieces c a b = refl
