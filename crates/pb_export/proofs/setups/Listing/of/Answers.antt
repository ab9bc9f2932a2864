use Rattle.std.proofs.Common.{◌≡◌, ℕ, ◌+◌, List, [], take, sym, subst, arith}
use Rattle.std.proofs.lemmas.List.{take_all}
use Rattle.pb_board.specs.Position.{Position}
use Rattle.pb_games.specs.Submissions.{Submission}
use Rattle.pb_accepted.specs.Replying.{IsNumber}
use Rattle.pb_accepted.proofs.Places.{game_there}
use Rattle.pb_moves.specs.Moved.{Moved}
use Rattle.pb_poly.specs.declared.book.Entry.{Entry}
use Rattle.pb_export.specs.declared.setups.ListedSetup.{ListedSetup}
use Rattle.pb_export.specs.Setups.{ListsSetups, all_setups}
use Rattle.pb_export.proofs.ListedSetups.{all_setups-more, each_once, none_listed, numbered_game, setups_fit}
use Rattle.pb_export.proofs.setups.Listing.of.Goals as goal

pub unwrap-requires : goal.unwrap-requires
unwrap-requires g c =
    let games = c.args.ledger.now.accepted in
    game_there games c.loop-index.index c.get.result (λ p. IsNumber games (c.loop-index.index + 1) (p.0.now, p.1.now)) (omega (arith, c.len-index-end.ensures.value)) c.get.ensures

pub add_game-requires : goal.add_game-requires
add_game-requires g c =
    let number = rw c.unwrap.ensures at c.get.ensures in
    numbered_game c.args.ledger.now.accepted (c.loop-index.index + 1) _ c.len-index-end.ensures.rules.games number

begun : (words : List ℕ) (book : List Entry) (moves : List (Moved × ℕ)) (listed : List ListedSetup) → moves ≡ [] → listed ≡ [] → ListsSetups words book [] moves listed
begun words book moves listed no_moves no_setups =
    subst (λ (ms : List (Moved × ℕ)). ListsSetups words book [] ms listed) (sym no_moves) (subst (λ (xs : List ListedSetup). ListsSetups words book [] [] xs) (sym no_setups) (none_listed words book))

pub loop-index-init : goal.loop-index-init
loop-index-init g c =
    let words = c.args.ledger.now.basis.randoms in
    let book = c.args.book.now in
    begun words book c.new-2.result.items c.new.result.items c.new-2.ensures.items c.new.ensures.items

pub loop-index-preserved : goal.loop-index-preserved
loop-index-preserved g c =
    let games = c.args.ledger.now.accepted in
    let book = c.args.book.now in
    let number = rw c.unwrap.ensures at c.get.ensures in
    let added = rw c.table.ensures at (c.in_ok-add_game.ensures (all_setups (take c.loop-index.index games))) in
    subst (λ (known : List Position). ListsSetups c.args.ledger.now.basis.randoms book known c.add_game.new.self.moves.items c.add_game.new.self.setups.items) (all_setups-more games c.loop-index.index _ number)
    (added c.loop-index.invariant)

pub returns-clause-setups : goal.returns-clause-setups
returns-clause-setups g c =
    let games = c.args.ledger.now.accepted in
    let words = c.args.ledger.now.basis.randoms in
    let book = c.args.book.now in
    let moves = c.loop-index.listing.moves.items in
    let listed = c.loop-index.listing.setups.items in
    let all = subst (λ (S : List Submission). ListsSetups words book (all_setups S) moves listed) (take_all c.loop-index.index games (omega (arith, c.loop-index-test.false, c.len-index-end.ensures.value))) c.loop-index.invariant in
    each_once words book (all_setups games) moves listed c.put_in_order.new.setups.items all c.put_in_order.ensures.sound c.put_in_order.ensures.whole c.put_in_order.ensures.few

pub returns-clause-few : goal.returns-clause-few
returns-clause-few g c =
    setups_fit c.args.ledger.now c.args.book.now c.loop-index.listing.moves.items c.put_in_order.new.setups.items c.len-index-end.ensures.rules (returns-clause-setups g c)
