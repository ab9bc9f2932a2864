use Rattle.std.proofs.Common.{arith}
use Rattle.pb_board.specs.declared.piece.Kind.{Kind}
use Rattle.pb_board.specs.declared.piece.Kind.TheVariants.{Knight, Bishop, Rook, Queen, King}
use Rattle.pb_board.proofs.Backs.{either_bit, kind_bit_of, numbered}
use Rattle.pb_board.proofs.bitboards.kind_at.Goals as goal

pub returns : goal.returns
returns c = λ b p e here.
    let m = c.args.bitboards.now in
    let q = c.args.index in
    let bit = λ (k : Kind). kind_bit_of m b q p k e here in
    c.kind_of.ensures p.kind (omega (
      arith,
      c.bit-low.ensures.value,
      c.bit-middle.ensures.value,
      c.bit-high.ensures.value,
      either_bit _ _ q _ _ (either_bit _ _ q _ _ (bit Knight) (bit Rook)) (bit King),
      either_bit _ _ q _ _ (bit Bishop) (bit Rook),
      either_bit _ _ q _ _ (bit Queen) (bit King),
      numbered p,
    ))
