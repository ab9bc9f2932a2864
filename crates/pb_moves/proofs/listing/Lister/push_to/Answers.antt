use Rattle.std.proofs.Common.{◌≡◌, ℕ, ◌+◌, ◌*◌, subst, arith}
use Rattle.pb_moves.specs.Candidate.{ListsBelow}
use Rattle.pb_moves.proofs.Listed.{lists_pass_promotions}
use Rattle.pb_moves.proofs.listing.Lister.push_to.Goals as goal

pub returns-then-not-promotes : goal.returns-then-not-promotes
returns-then-not-promotes c =
    let Q : ℕ → Type 0 = λ n. ListsBelow c.args.self.now.setup.now c.push_legal.new.moves.items n in
    let same : 320 * c.args.mover.now.from + 5 * c.args.to + 0 + 1 ≡ 320 * c.args.mover.now.from + 5 * c.args.to + 1 = omega arith in
    lists_pass_promotions c.args.self.now.setup.now c.push_legal.new.moves.items c.args.mover.now.piece c.args.mover.now.from c.args.to c.may_promote-promotes.ensures.on_board c.requires.own
    (λ may. let yes = c.may_promote-promotes.ensures.promotes.1 may in let f = c.if-not-promotes.true in cc) (subst Q same c.in_ok-push_legal.ensures)
