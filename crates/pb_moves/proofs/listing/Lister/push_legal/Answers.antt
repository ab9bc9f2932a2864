use Rattle.std.proofs.Common.{◌+◌, ◌*◌, List, [], ◌∷◌, ◌++◌, subst, sym, refl}
use Rattle.pb_moves.specs.Moved.{Moved, promotion_number}
use Rattle.pb_moves.specs.Legal.{Legal}
use Rattle.pb_moves.specs.Candidate.{ListsBelow}
use Rattle.pb_moves.proofs.Listed.{lists_pass, lists_push, move_at}
use Rattle.pb_moves.proofs.listing.Lister.push_legal.Goals as goal

pub returns-in_default : goal.returns-in_default
returns-in_default c =
    let on = c.in_default.ensures.on_board in
    lists_pass c.args.self.now.setup.now c.args.moves.now.items c.args.mover.now.from c.args.to c.args.promotion on.0 on.1 c.requires.promotion
    (λ legal. c.in_default.ensures.made (legal.moves.is_move.moves, c.requires.promotion)) c.requires.before

pub returns-then-not-is_legal_for : goal.returns-then-not-is_legal_for
returns-then-not-is_legal_for c =
    let on = c.in-Some.ensures.on_board in
    let L : Moved → Type 0 = λ m. Legal c.args.self.now.setup.now m in
    lists_pass c.args.self.now.setup.now c.args.moves.now.items c.args.mover.now.from c.args.to c.args.promotion on.0 on.1 c.requires.promotion
    (λ legal. let yes = c.is_legal_for.ensures.1 (subst L (sym c.in-Some.ensures.made.1) legal) in let f = c.if-not-is_legal_for.true in cc) c.requires.before

pub returns : goal.returns
returns c =
    let s = c.args.self.now.setup.now in
    let ms = c.args.moves.now.items in
    let on = c.in-Some.ensures.on_board in
    let n = 320 * c.args.mover.now.from + 5 * c.args.to + promotion_number c.args.promotion in
    let m : Moved = record { from = c.args.mover.now.from; to = c.args.to; promo = c.args.promotion } in
    let made = c.in-Some.ensures.made in
    let L : Moved → Type 0 = λ x. Legal s x in
    let B : List Moved → Type 0 = λ x. ListsBelow s x (320 * c.args.mover.now.from + 5 * c.args.to + promotion_number c.args.promotion + 1) in
    let I : Moved → Type 0 = λ x. B (ms ++ x ∷ []) in
    subst B (sym c.in_ok-push.ensures.items)
    (subst I (sym made.1)
    (lists_push s ms n m c.requires.before (subst L made.1 (c.is_legal_for.ensures.0 c.if-not-is_legal_for.false)) refl
    (λ q ok here. move_at c.args.mover.now.from c.args.to c.args.promotion q on.0 on.1 c.requires.promotion ok here)))
