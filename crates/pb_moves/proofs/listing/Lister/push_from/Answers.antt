use Rattle.std.proofs.Common.{◌≡◌, ℕ, ◌+◌, ◌*◌, bit_and, subst, arith, w64}
use Rattle.std.specs.Int.{bit_not, trailing_zeros}
use Rattle.std.specs.Int.Count.{trailing_of_zero}
use Rattle.pb_moves.specs.Candidate.{ListsBelow}
use Rattle.std.proofs.lemmas.Nat.{and_le_l}
use Rattle.pb_moves.proofs.Listed.{HasTargets, lists_pass_from, lists_to_lowest, lists_next}
use Rattle.pb_moves.proofs.Rising.{zeros_rise, without_small, zeros_some}
use Rattle.pb_moves.proofs.Sets.{in_both, in_others}
use Rattle.pb_moves.proofs.listing.Lister.push_from.Goals as goal

pub returns-then-not-has : goal.returns-then-not-has
returns-then-not-has c =
    lists_pass_from c.args.self.now.setup.now c.args.moves.now.items c.args.from
    (λ p held. let inside = c.has.ensures.inside.1 ((c.requires.own c.args.from c.has.ensures.on_board).1 (p, held)) in let out = c.if-not-has.true in cc) c.requires.before

pub returns-in_default : goal.returns-in_default
returns-in_default c = lists_pass_from c.args.self.now.setup.now c.args.moves.now.items c.args.from c.in_default.ensures.found c.requires.before

pub loop-rest-init : goal.loop-rest-init
loop-rest-init c =
    let may = c.candidates.result in
    let own = c.args.self.now.own in
    let L : ℕ → Type 0 = λ n. ListsBelow c.args.self.now.setup.now c.args.moves.now.items n in
    let first : 320 * c.args.from ≡ 320 * c.args.from + 5 * 0 = omega arith in
    let targets : HasTargets c.args.self.now.setup.now c.in-Some.piece c.args.from 0 (bit_and may (bit_not w64 own)) =
    record {
      every = λ q on after goes unpinned.
          in_both may (bit_not w64 own) q ((c.candidates.ensures q on).1 goes)
          (in_others own q (omega arith) on (λ stands. let held = (c.requires.own q on).0 stands in unpinned held.0 held.1));
    } in
    record {
      before = lists_to_lowest c.args.self.now.setup.now c.args.moves.now.items c.in-Some.piece c.args.from 0 (bit_and may (bit_not w64 own)) c.own_piece.ensures.rules c.in-Some.ensures.found (omega (arith, and_le_l may (bit_not w64 own))) (omega arith)
          targets (subst L first c.requires.before);
      targets = record { every = λ q on after goes unpinned. targets.every q on (omega arith) goes unpinned };
    }

pub loop-rest-smaller : goal.loop-rest-smaller
loop-rest-smaller c =
    let bits = c.loop-rest.rest in
    let some = zeros_some bits (omega arith) (omega arith) in
    let rises = zeros_rise bits (omega arith) (without_small bits (trailing_zeros w64 c.loop-rest.rest) (omega arith)) some in
    omega arith

pub loop-rest-preserved : goal.loop-rest-preserved
loop-rest-preserved c =
    let bits = c.loop-rest.rest in
    let some = zeros_some bits (omega arith) (omega arith) in
    let next = lists_next c.args.self.now.setup.now c.push_to.new.moves.items c.in-Some.piece c.args.from bits c.square_at.result c.own_piece.ensures.rules c.in-Some.ensures.found (omega arith) some
    c.square_at.ensures c.loop-rest.invariant.targets c.in_ok-push_to.ensures in
    record { before = next.0; targets = next.1 }

pub returns : goal.returns
returns c =
    let none : c.loop-rest.rest ≡ 0 = omega arith in
    let L : ℕ → Type 0 = λ n. ListsBelow c.args.self.now.setup.now c.loop-rest.moves.items (320 * c.args.from + 5 * trailing_zeros w64 n) in
    let M : ℕ → Type 0 = λ n. ListsBelow c.args.self.now.setup.now c.loop-rest.moves.items n in
    let last = subst L none c.loop-rest.invariant.before in
    let zeros : trailing_zeros w64 0 ≡ 64 = trailing_of_zero 64 in
    let end : 320 * c.args.from + 5 * trailing_zeros w64 0 ≡ 320 * c.args.from + 320 = omega arith in
    subst M end last
