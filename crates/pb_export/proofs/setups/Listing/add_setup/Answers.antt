use Rattle.std.proofs.Common.{◌≡◌, ℕ, ◌≤◌, List, [], ◌∷◌, ◌++◌, ◌==◌, ◌∙◌, All, ap, append-nil, arith, length, length-append, refl, rules, subst, sym}
use Rattle.std.specs.Prelude.{filter}
use Rattle.pb_board.specs.Position.{Position}
use Rattle.pb_moves.specs.Moved.{Moved}
use Rattle.pb_poly.specs.declared.book.Entry.{Entry}
use Rattle.pb_poly.specs.Found.{Found}
use Rattle.pb_poly.specs.Key.{key}
use Rattle.pb_poly.proofs.Finding.{Found-under, is_under}
use Rattle.pb_export.specs.Setups.{ListsSetups}
use Rattle.pb_export.specs.declared.setups.ListedSetup.{ListedSetup}
use Rattle.pb_export.proofs.ListedSetups.{listed_before, no_move, one_listed}
use Rattle.pb_export.proofs.setups.Listing.add_setup.Goals as goal

-- what was found under the key is what the book has
record Finds (words : List ℕ) (book : List Entry) (s : Position) (old new : List (Moved × ℕ)) : Type 0 where
  found : List (Moved × ℕ)
  has : Found book words s found
  is : new ≡ old ++ found

finds : (words : List ℕ) (book under : List Entry) (s : Position) (k : ℕ) (old new : List (Moved × ℕ)) → k ≡ key words s → under ≡ filter (λ (e : Entry). e.key == k) book
    → (All (λ (e : Entry). e.key ≡ key words s) under → (found : List (Moved × ℕ)) × Found under words s found × (new ≡ old ++ found)) → Finds words book s old new
finds words book under s k old new key_is are h =
    let w = h (λ i d lt. is_under k book under i d are lt ∙ key_is) in
    record { found = w.0; has = Found-under words s k book w.0 key_is (subst (λ (es : List Entry). Found es words s w.0) are w.1); is = w.2 }

none : {A : Type 0} (xs : List A) → length xs ≤ 0 → xs ≡ []
none [] h = refl
none (x ∷ xs) h = absurd (omega (arith, h))

pub returns-then-is_empty : goal.returns-then-is_empty
returns-then-is_empty c = λ words book key_is under known lists.
    let s = c.args.setup.now in
    let moves = c.args.self.now.moves.items in
    let few : length c.args.entries.now ≤ 0 = search rules in
    let empty : filter (λ (e : Entry). e.key == c.args.key) book ≡ [] = sym under ∙ none c.args.entries.now few in
    no_move words book known moves c.args.self.now.setups.items lists s c.turn-turn.ensures.rules moves (sym (append-nil moves))
    (Found-under words s c.args.key book [] key_is (subst (λ (es : List Entry). Found es words s []) (sym empty) refl))

pub returns-then-is_recent : goal.returns-then-is_recent
returns-then-is_recent c = λ words book key_is under known lists.
    let x = c.is_recent.ensures c.if-is_recent.true in
    let as_bytes = c.as_bytes.ensures.value ∙ c.fields_of-fields.ensures in
    listed_before words book known c.args.self.now.moves.items c.args.self.now.setups.items lists c.args.setup.now c.turn-turn.ensures.rules x.0 x.1 (x.2 ∙ as_bytes)

-- a note of a key changes no listing
noted : (words : List ℕ) (book : List Entry) (known : List Position) (moves moves' : List (Moved × ℕ)) (listed listed' : List ListedSetup) → moves' ≡ moves → listed' ≡ listed → ListsSetups words book known moves listed → ListsSetups words book known moves' listed'
noted words book known moves moves' listed listed' first second h = subst (λ ms. ListsSetups words book known ms listed') (sym first) (subst (ListsSetups words book known moves) (sym second) h)

pub returns-in_ok-push : goal.returns-in_ok-push
returns-in_ok-push c = λ words book key_is under known lists.
    let s = c.args.setup.now in
    let moves = c.note_recent.new.self.moves.items in
    let listed = c.note_recent.new.self.setups.items in
    let same = noted words book known _ moves _ listed c.note_recent.ensures.moves c.note_recent.ensures.setups lists in
    let w = finds words book c.args.entries.now s c.args.key moves c.add_moves.new.moves.items key_is under (c.in_ok-add_moves.ensures words) in
    subst (λ (xs : List ListedSetup). ListsSetups words book (known ++ s ∷ []) c.add_moves.new.moves.items xs) (sym c.in_ok-push.ensures.items)
    (one_listed words book known moves listed same s c.turn-turn.ensures.rules w.found c.add_moves.new.moves.items _ w.is w.has c.fields_of-fields.ensures (omega (arith, c.len-first.ensures)) (omega (arith, c.len-end.ensures)) c.if-first-end.true)

pub returns-else-first-end : goal.returns-else-first-end
returns-else-first-end c = λ words book key_is under known lists.
    let s = c.args.setup.now in
    let moves = c.note_recent.new.self.moves.items in
    let listed = c.note_recent.new.self.setups.items in
    let same = noted words book known _ moves _ listed c.note_recent.ensures.moves c.note_recent.ensures.setups lists in
    let new = c.add_moves.new.moves.items in
    let w = finds words book c.args.entries.now s c.args.key moves new key_is under (c.in_ok-add_moves.ensures words) in
    let empty : w.found ≡ [] = none w.found (omega (arith, c.if-first-end.false, c.len-first.ensures, c.len-end.ensures, ap length w.is, length-append moves w.found)) in
    no_move words book known moves listed same s c.turn-turn.ensures.rules new (w.is ∙ ap (λ xs. moves ++ xs) empty) (subst (Found book words s) empty w.has)
