use Rattle.std.proofs.Common.{◌≡◌, ℕ, ◌+◌, ◌<◌, get_or, length, List, [], ◌∷◌, ◌++◌, ◌∙◌, ap, append_assoc, append-nil, arith, refl, sym, subst, take}
use Rattle.std.proofs.lemmas.List.{take_all}
use Rattle.pb_board.specs.Position.{Position}
use Rattle.pb_moves.specs.Moved.{Moved}
use Rattle.pb_poly.specs.declared.book.Entry.{Entry}
use Rattle.pb_poly.specs.Found.{Found}
use Rattle.pb_poly.proofs.Finding.{Found-here, Found-more, Found-not}
use Rattle.pb_export.proofs.setups.add_moves.Goals as goal
use Rattle.pb_export.proofs.setups.add_moves.Goals.{in-Some+in_ok-push, in_default}

pub loop-entry-init : goal.loop-entry-init
loop-entry-init c = λ words all. ([], refl, sym (append-nil c.args.moves.now.items))

module _ (words : List ℕ) (s : Position) (entries : List Entry) (i : ℕ) (d : Entry) (old mid new : List (Moved × ℕ)) (lt : i < length entries)
    (h : (found : List (Moved × ℕ)) × Found (take i entries) words s found × (mid ≡ old ++ found)) where
  one_more : (p : Moved × ℕ) → Found (get_or entries i d ∷ []) words s (p ∷ []) → new ≡ mid ++ p ∷ [] → (found : List (Moved × ℕ)) × Found (take (i + 1) entries) words s found × (new ≡ old ++ found)
  one_more p here is = (h.0 ++ p ∷ [], Found-more words s entries i d h.0 (p ∷ []) (h.0 ++ p ∷ []) lt h.1 here refl, is ∙ ap (λ xs. xs ++ p ∷ []) h.2 ∙ append_assoc old h.0 (p ∷ []))

  no_more : Found (get_or entries i d ∷ []) words s [] → new ≡ mid → (found : List (Moved × ℕ)) × Found (take (i + 1) entries) words s found × (new ≡ old ++ found)
  no_more here is = (h.0, Found-more words s entries i d h.0 [] h.0 lt h.1 here (sym (append-nil h.0)), is ∙ h.2)

pub loop-entry-preserved : goal.loop-entry-preserved
loop-entry-preserved c =
    let s = c.args.setup.now in
    let entries : List Entry = c.args.entries.now in
    let i = c.loop-entry.entry-index in
    let old = c.args.moves.now.items in
    elim c.match-move_of.branch [
      | in-Some+in_ok-push w ↦ λ words all.
          one_more words s entries i _ old c.loop-entry.moves.items _ c.loop-entry-test.true (c.loop-entry.invariant words all) _
          (Found-here words s _ w.in-Some.m (record { key_is = all i _ c.loop-entry-test.true; has_code = w.in-Some.ensures.0 }))
          (ap (λ v. v.items) w.moves-is ∙ w.in_ok-push.ensures.items)
      | in_default w ↦ λ words all.
          no_more words s entries i _ old c.loop-entry.moves.items _ c.loop-entry-test.true (c.loop-entry.invariant words all)
          (Found-not words s _ (λ m is. w.in_default.ensures m is.has_code)) (ap (λ v. v.items) w.moves-is)
    ]

pub returns : goal.returns
returns c = λ words all.
    let h = c.loop-entry.invariant words all in
    (h.0, subst (λ (es : List Entry). Found es words c.args.setup.now h.0) (take_all c.loop-entry.entry-index c.args.entries.now (omega (arith, c.loop-entry-test.false))) h.1, h.2)
