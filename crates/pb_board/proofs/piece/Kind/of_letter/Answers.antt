use Rattle.std.proofs.Common.{rules, ◌≢◌, ◌∙◌}
use Rattle.pb_board.specs.declared.piece.Kind.{Kind}
use Rattle.pb_board.specs.declared.piece.Colour.TheVariants.{Black}
use Rattle.pb_board.specs.Piece.{piece_of}
use Rattle.pb_board.proofs.Letters.{letter, letter_is}
use Rattle.pb_board.proofs.piece.Kind.of_letter.Goals as goal

pub returns-in_default : goal.returns-in_default
returns-in_default c = let none : (k : Kind) → letter (piece_of Black k) ≢ c.args.letter = search rules in λ k e. none k (letter_is (piece_of Black k) ∙ e)
