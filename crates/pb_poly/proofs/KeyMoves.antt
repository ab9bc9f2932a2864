-- The en passant square after a move, by what stood before it.
use Rattle.std.proofs.Common.{◌≡◌, ◌≢◌, ℕ, ◌+◌, ◌-◌, ◌/◌, ◌<◌, inl, inr, Some, None, Option, refl, sym, ap, ◌∙◌, arith}
use Rattle.std.specs.Prelude.{unwrap_or}
use Rattle.pb_board.specs.declared.piece.Colour.{Colour}
use Rattle.pb_board.specs.declared.piece.Colour.TheVariants.{White, Black}
use Rattle.pb_board.specs.Piece.{opponent, piece_of}
use Rattle.pb_board.specs.Board.{at, file, rank_for, IsForward}
use Rattle.pb_board.specs.Position.{Position, IsSetup, double_stepped}
use Rattle.pb_board.specs.Rights.{only_if}
use Rattle.pb_moves.specs.declared.effect.Effect.{Effect}
use Rattle.pb_moves.specs.Effect.{IsEffect}
use Rattle.pb_moves.specs.Legal.{PseudoLegal}
use Rattle.pb_moves.specs.Moved.{Moved}
use Rattle.pb_moves.specs.Successor.{after, en_passant_after}
use Rattle.pb_moves.proofs.Differing.{off_two}
use Rattle.pb_moves.proofs.Effects.{effect_ep}
use Rattle.pb_moves.proofs.Kept.{StepsTwo, crosses, two_differs}
use Rattle.pb_moves.proofs.Ways.{own_is}
use Rattle.pb_poly.specs.Key.{has_capturer, en_passant_offsets}
use Rattle.pb_poly.specs.KeyChange.{stepped_offsets}
use Rattle.pb_poly.proofs.Offsets.{passing_offsets}

-- the pawn made a double step over the square half way, which lies before it
step_double_stepped : (side : Colour) (from to : ℕ) → file to ≡ file from → IsForward side 2 from to → (double_stepped (opponent side) ((from + to) / 2) ≡ to) × (file ((from + to) / 2) ≡ file to)
step_double_stepped White from to same forward = (omega arith, omega arith)
step_double_stepped Black from to same forward = (omega arith, omega arith)

-- the squares beside the one reached are neither of the move's two
step_aside : (side : Colour) (from to : ℕ) → from < 64 → file to ≡ file from → IsForward side 2 from to → rank_for side from ≡ 1
    → (to - 1 ≢ from) × (to - 1 ≢ to) × (to + 1 ≢ from) × (to + 1 ≢ to)
step_aside White from to on same forward begins = ((λ e. omega arith), (λ e. omega arith), (λ e. omega arith), λ e. omega arith)
step_aside Black from to on same forward begins = ((λ e. omega arith), (λ e. omega arith), (λ e. omega arith), λ e. omega arith)

-- so those who may take stand there before the move too
capturers_stay : (s : Position) (m : Moved) (side : Colour) → IsSetup s → (h : PseudoLegal s m) → StepsTwo s m h.kind
    → has_capturer (after s m).board side m.to ≡ has_capturer s.board side m.to
capturers_stay s m side ok h x =
    let q = piece_of s.turn (unwrap_or m.promo h.kind) in
    let differs = two_differs s m ok h x in
    let aside = step_aside s.turn m.from m.to h.is_move.from_on_board x.pushes.same_file x.forward x.begins in
    let kept : (r : ℕ) → r ≢ m.from → r ≢ m.to → at (after s m).board r ≡ at s.board r = λ r f t. differs.others r (off_two r (m.from, None) (m.to, Some q) f t) in
    rw (kept (m.to - 1) aside.0 aside.1, kept (m.to + 1) aside.2 aside.3) refl

-- no other move crosses a square
pub steps_after : (s : Position) (m : Moved) (e : Effect) → IsSetup s → IsEffect s m e → en_passant_offsets (after s m) ≡ stepped_offsets s m.to e.ep
steps_after s m e ok is =
    let t = after s m in
    let h = is.moves in
    let enemy = opponent s.turn in
    let turn : t.turn ≡ enemy = ap (λ (u : Position). u.turn) is.after in
    let told : e.ep ≡ en_passant_after m (piece_of s.turn h.kind) = effect_ep s m e is ∙ ap (en_passant_after m) (own_is s m e.piece h is.stands) in
    let ep : t.ep ≡ en_passant_after m (piece_of s.turn h.kind) = ap (λ (u : Position). u.ep) is.after ∙ told in
    let offsets : (o : Option ℕ) → en_passant_after m (piece_of s.turn h.kind) ≡ o → passing_offsets t o ≡ stepped_offsets s m.to o → en_passant_offsets t ≡ stepped_offsets s m.to e.ep =
    λ o by same. ap (λ (x : Option ℕ). passing_offsets t x) (ep ∙ by) ∙ same ∙ sym (ap (λ (x : Option ℕ). stepped_offsets s m.to x) (told ∙ by)) in
    elim (crosses s m h.kind h.goes) [
      | inl none ↦ offsets None none refl
      | inr (x, some) ↦
          (let halfway = (m.from + m.to) / 2 in
          let aside = step_double_stepped s.turn m.from m.to x.pushes.same_file x.forward in
          offsets (Some halfway) some
          (ap (λ (side : Colour). only_if (has_capturer t.board side (double_stepped side halfway)) (772 + file halfway)) turn
          ∙ ap (λ q. only_if (has_capturer t.board enemy q) (772 + file halfway)) aside.0
          ∙ ap (λ flag. only_if flag (772 + file halfway)) (capturers_stay s m enemy ok h x)))
    ]
