use Rattle.std.proofs.Common.{arith, refl, w64}
use Rattle.std.specs.Int.{trailing_zeros}
use Rattle.pb_moves.proofs.Seen.{attacks_if_open, left_all, left_next, lowest_left, open_if_attacks, open_told, points_at}
use Rattle.pb_moves.proofs.Sets.{in_none}
use Rattle.pb_moves.proofs.Rising.{zeros_rise, without_small, zeros_some}
use Rattle.pb_moves.proofs.check.is_attacked.Goals as goal

pub loop-rest-init : goal.loop-rest-init
loop-rest-init c = left_all _ _ _

pub returns-then-between-sight-eq0 : goal.returns-then-between-sight-eq0
returns-then-between-sight-eq0 c = λ b sees.
    let rest = c.loop-rest.rest in
    let some = zeros_some rest (omega arith) (omega arith) in
    let lowest = lowest_left c.args.sight.occupied c.args.square _ rest c.square_at.result c.loop-rest.invariant (omega arith) some c.square_at.ensures in
    let points = points_at c.args.setup.now.board c.args.by c.args.sight c.pieces_from.result c.args.square c.square_at.result c.pieces_from.ensures lowest.0 lowest.1 in
    let told = open_told c.args.sight.occupied c.between.result c.square_at.result c.args.square (omega arith) (c.between.ensures points.0 points.1) in (
      λ _. attacks_if_open c.args.setup.now.board b c.args.by c.args.sight c.pieces_from.result c.args.square c.square_at.result sees c.pieces_from.ensures lowest.0 lowest.1
          (told.0 c.if-between-sight-eq0.true),
      λ _. refl,
    )

pub loop-rest-smaller : goal.loop-rest-smaller
loop-rest-smaller c =
    let bits = c.loop-rest.rest in
    let some = zeros_some bits (omega arith) (omega arith) in
    let rises = zeros_rise bits (omega arith) (without_small bits (trailing_zeros w64 c.loop-rest.rest) (omega arith)) some in
    omega arith

pub loop-rest-preserved : goal.loop-rest-preserved
loop-rest-preserved c =
    let rest = c.loop-rest.rest in
    let some = zeros_some rest (omega arith) (omega arith) in
    let lowest = lowest_left c.args.sight.occupied c.args.square _ rest c.square_at.result c.loop-rest.invariant (omega arith) some c.square_at.ensures in
    let points = points_at c.args.setup.now.board c.args.by c.args.sight c.pieces_from.result c.args.square c.square_at.result c.pieces_from.ensures lowest.0 lowest.1 in
    let told = open_told c.args.sight.occupied c.between.result c.square_at.result c.args.square (omega arith) (c.between.ensures points.0 points.1) in
    left_next c.args.sight.occupied c.args.square _ rest c.square_at.result c.loop-rest.invariant some c.square_at.ensures (λ way. c.if-between-sight-eq0.false (told.1 way))

pub returns : goal.returns
returns c = λ b sees. (
  λ h. absurd cc,
  λ attack.
      let seen = open_if_attacks c.args.setup.now.board b c.args.by c.args.sight c.pieces_from.result c.args.square sees c.pieces_from.ensures attack in
      absurd (c.loop-rest.invariant.shut seen.0 seen.1 seen.2 (in_none c.loop-rest.rest seen.0 c.loop-rest-test.false) seen.3),
)
