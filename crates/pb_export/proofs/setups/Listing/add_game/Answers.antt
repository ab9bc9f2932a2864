use Rattle.std.proofs.Common.{◌≡◌, ℕ, ◌<◌, List, ◌++◌, ◌∷◌, [], ◌+◌, ◌∙◌, ap, append_assoc, arith, get_or, length, map, sym, subst, take}
use Rattle.std.proofs.lemmas.List.{get_or-map, get_or_read, length-map, take_all, take_more}
use Rattle.pb_board.specs.Position.{Position}
use Rattle.pb_poly.specs.Key.{key}
use Rattle.pb_export.specs.Setups.{ListsSetups}
use Rattle.pb_export.proofs.setups.Listing.add_game.Goals as goal

pub loop-index-preserved : goal.loop-index-preserved
loop-index-preserved c = λ known lists.
    let words = c.args.table.now in
    let book = c.args.book.now in
    let setups : List Position = c.in_ok-keys.field-0.setups.items in
    let keys : List ℕ = c.in_ok-keys.field-0.keys.items in
    let i = c.loop-index.index in
    let s = c.index-in-loop-index.result.now in
    let k = c.index-key.result.now in
    let lt : i < length setups = omega (arith, c.loop-index-test.true, c.len-index-end.ensures) in
    let keys_are : keys ≡ map (key words) setups = c.in_ok-keys.ensures.keys ∙ ap (map (key words)) (sym c.in_ok-keys.ensures.setups) in
    let many : length keys ≡ length setups = ap length keys_are ∙ length-map setups (key words) in
    let here : s ≡ get_or setups i s = get_or_read setups i s lt c.index-in-loop-index.ensures s in
    let key_is : k ≡ key words s = get_or_read keys i k (omega (arith, lt, many)) c.index-key.ensures 0 ∙ ap (λ (ks : List ℕ). get_or ks i 0) keys_are ∙ get_or-map (key words) setups i s 0 lt ∙ ap (key words) (sym here) in
    let more : take (i + 1) setups ≡ take i setups ++ s ∷ [] = take_more setups i s lt ∙ ap (λ (p : Position). take i setups ++ p ∷ []) (sym here) in
    subst (λ (xs : List Position). ListsSetups words book xs c.add_setup.new.self.moves.items c.add_setup.new.self.setups.items) (append_assoc known (take i setups) (s ∷ []) ∙ ap (λ xs. known ++ xs) (sym more))
    (c.in_ok-add_setup.ensures words book key_is c.under.ensures (known ++ take i setups) (c.loop-index.invariant known lists))

pub returns : goal.returns
returns c = λ known lists.
    let setups : List Position = c.in_ok-keys.field-0.setups.items in
    subst (λ (xs : List Position). ListsSetups c.args.table.now c.args.book.now (known ++ xs) c.loop-index.self.moves.items c.loop-index.self.setups.items)
    (take_all c.loop-index.index setups (omega (arith, c.loop-index-test.false, c.len-index-end.ensures)) ∙ c.in_ok-keys.ensures.setups) (c.loop-index.invariant known lists)
