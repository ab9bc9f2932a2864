use Rattle.std.proofs.Common.{sym, ◌∙◌}
use Rattle.std.proofs.lemmas.Bool.{false≢true}
use Rattle.pb_board.specs.declared.piece.Colour.TheVariants.{Black}
use Rattle.pb_board.proofs.Backs.{black_told, side_bit_of, white_told}
use Rattle.pb_board.proofs.bitboards.colour_at.Goals as goal

pub returns-then-has : goal.returns-then-has
returns-then-has c = λ b p e here.
    black_told p (sym (side_bit_of c.args.bitboards.now b c.args.index p Black e here) ∙ c.has.ensures.0 c.if-has.true)

pub returns-else-has : goal.returns-else-has
returns-else-has c = λ b p e here.
    white_told p (λ one. false≢true (sym c.if-has.false ∙ c.has.ensures.1 (side_bit_of c.args.bitboards.now b c.args.index p Black e here ∙ one)))
