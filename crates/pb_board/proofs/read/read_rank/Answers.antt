use Rattle.std.proofs.Common.{◌≡◌, ◌+◌, ◌-◌, get_or, arith}
use Rattle.pb_board.proofs.Ranks.{rank_next, rank_end, rank_twice, rank_long, rank_short, rank_piece, rank_digit}
use Rattle.pb_board.proofs.read.read_rank.Goals.{then-after_digit-via-then-after_digit, then-after_digit-via-else-after_digit+then-file-run-gt8, in_default+in_ok-piece+else-file-eq8, in-49-to-56+else-after_digit+else-file-run-gt8}
use Rattle.pb_board.proofs.read.read_rank.Goals as goal

pub returns-then-after_digit : goal.returns-then-after_digit
returns-then-after_digit c =
    let h = rank_next _ _ _ _ _ c.loop-byte.invariant c.loop-byte-test.true in
    let byte = get_or c.args.text.now c.loop-byte.byte-index 0 in
    let is : byte ≡ 48 + (byte - 48) = omega arith in
    elim c.then-after_digit.branch [
      | then-after_digit-via-then-after_digit w ↦ rank_twice _ _ _ _ (byte - 48) _ (rw w.if-after_digit.true at h) is (omega arith) (omega arith)
      | then-after_digit-via-else-after_digit+then-file-run-gt8 w ↦ rank_long _ _ _ _ _ (byte - 48) _ h is (omega arith) w.if-file-run-gt8.true
    ]

pub loop-byte-preserved : goal.loop-byte-preserved
loop-byte-preserved c =
    let h = rank_next _ _ _ _ _ c.loop-byte.invariant c.loop-byte-test.true in
    let byte = get_or c.args.text.now c.loop-byte.byte-index 0 in
    elim c.if-byte-lt49.branch [
      | in-49-to-56+else-after_digit+else-file-run-gt8 w ↦
          rw (w.squares-is, w.file-is, w.after_digit-is) (rank_digit _ _ _ _ (byte - 48) _ (rw w.if-after_digit.false at h) (omega arith) (omega arith) (omega arith) w.if-file-run-gt8.false)
      | in_default+in_ok-piece+else-file-eq8 w ↦
          rw (w.squares-is, w.file-is, w.after_digit-is) (rank_piece _ _ _ _ _ _ _ h w.in_ok-piece.ensures (omega (arith, h.fits)))
    ]

pub returns-else-file-eq8-2 : goal.returns-else-file-eq8-2
returns-else-file-eq8-2 c =
    let h = rank_end _ _ _ _ _ c.loop-byte.invariant c.loop-byte-test.false in
    rank_short _ _ _ _ h (omega (arith, h.fits))
