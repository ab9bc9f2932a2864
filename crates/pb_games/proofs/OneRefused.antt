-- No line is refused by itself in two ways.
use Rattle.std.proofs.Common.{◌≡◌, ℕ, zero, suc, List, inl, inr, refl, sym, ap, subst, ◌∙◌, arith}
use Rattle.std.proofs.lemmas.Bool.{cases_lt}
use Rattle.pb_board.specs.declared.refusal.FenError.{FenError}
use Rattle.pb_board.specs.declared.refusal.FenError.TheVariants as fen
use Rattle.pb_board.specs.Position.{Record}
use Rattle.pb_board.specs.Fields.{field, fields}
use Rattle.pb_board.specs.Refusal.{BreaksAt, IsDueFen, fen_errors}
use Rattle.pb_board.proofs.Breaks.{one_all_break, one_break}
use Rattle.pb_board.proofs.Dues.{one_first}
use Rattle.pb_board.proofs.Unique.{one_record}
use Rattle.pb_moves.specs.Played.{AreLegal, IsSpelled}
use Rattle.pb_games.specs.declared.refusal.Refusal.{Refusal}
use Rattle.pb_games.specs.declared.refusal.Refusal.TheVariants as refusal
use Rattle.pb_games.specs.Cuts.{fields_of}
use Rattle.pb_games.specs.Refusing.{Refuses}
use Rattle.pb_games.proofs.Dues.{IsDue, none_before, order}
use Rattle.pb_games.proofs.OneLine.{spellings_injective}
use Rattle.pb_games.proofs.Played.{legal_fronts}

-- ---- one position in the order

-- the refusal of a position in the order, with its number or its cause where it has one
abbrev refusal_at : ℕ → ℕ → FenError → Refusal
refusal_at zero n e = refusal.Memory
refusal_at (suc zero) n e = refusal.Long
refusal_at (suc (suc zero)) n e = refusal.Shape
refusal_at (suc (suc (suc zero))) n e = refusal.Id
refusal_at (suc (suc (suc (suc zero)))) n e = refusal.Result
refusal_at (suc (suc (suc (suc (suc zero))))) n e = refusal.Fen e
refusal_at (suc (suc (suc (suc (suc (suc zero)))))) n e = refusal.Start
refusal_at (suc (suc (suc (suc (suc (suc (suc zero))))))) n e = refusal.Spelling n
refusal_at (suc (suc (suc (suc (suc (suc (suc (suc zero)))))))) n e = refusal.Plies
refusal_at (suc (suc (suc (suc (suc (suc (suc (suc (suc zero))))))))) n e = refusal.Illegal n
refusal_at (suc (suc (suc (suc (suc (suc (suc (suc (suc (suc k)))))))))) n e = refusal.Memory

abbrev Back : Refusal → Type 0
Back d = (n : ℕ) × (e : FenError) × (refusal_at (order d) n e ≡ d)

back : (line : List ℕ) (d : Refusal) → IsDue d line → Back d
back line refusal.Long due = (0, fen.Fields, refl)
back line refusal.Shape due = (0, fen.Fields, refl)
back line refusal.Id due = (0, fen.Fields, refl)
back line refusal.Result due = (0, fen.Fields, refl)
back line (refusal.Fen e) due = (0, e, refl)
back line refusal.Start due = (0, fen.Fields, refl)
back line (refusal.Spelling n) due = (n, fen.Fields, refl)
back line refusal.Plies due = (0, fen.Fields, refl)
back line (refusal.Illegal n) due = (n, fen.Fields, refl)
back line (refusal.Conflict n) due = absurd due
back line refusal.Full due = absurd due
back line refusal.Memory due = absurd due

illegal_is : (line : List ℕ) (m n : ℕ) → IsDue (refusal.Illegal m) line → IsDue (refusal.Illegal n) line → m ≡ n
illegal_is line m n h k =
    let starts : h.0 ≡ k.0 = one_record h.0 k.0 (field (fields_of line) 2) h.2.0 k.2.0 h.2.1 k.2.1 in
    let moves : h.1 ≡ k.1 = spellings_injective h.1 k.1 h.3.0 k.3.0 (h.3.1 ∙ sym k.3.1) in
    let here : BreaksAt (AreLegal k.0.setup) k.1 m =
    subst (λ ms. BreaksAt (AreLegal k.0.setup) ms m) moves (subst (λ (f : Record). BreaksAt (AreLegal f.setup) h.1 m) starts h.4) in
    one_break (AreLegal k.0.setup) (legal_fronts k.0.setup) k.1 m n here k.4

one_cause : (line : List ℕ) (k m n : ℕ) (d e : FenError) → IsDue (refusal_at k m d) line → IsDue (refusal_at k n e) line → refusal_at k m d ≡ refusal_at k n e
one_cause line zero m n d e h j = refl
one_cause line (suc zero) m n d e h j = refl
one_cause line (suc (suc zero)) m n d e h j = refl
one_cause line (suc (suc (suc zero))) m n d e h j = refl
one_cause line (suc (suc (suc (suc zero)))) m n d e h j = refl
one_cause line (suc (suc (suc (suc (suc zero))))) m n d e h j = ap (λ x. refusal.Fen x) (one_first (IsDueFen (fields 32 (field (fields_of line) 2))) fen_errors d e h j)
one_cause line (suc (suc (suc (suc (suc (suc zero)))))) m n d e h j = refl
one_cause line (suc (suc (suc (suc (suc (suc (suc zero))))))) m n d e h j = ap (λ x. refusal.Spelling x) (one_all_break IsSpelled _ m n h j)
one_cause line (suc (suc (suc (suc (suc (suc (suc (suc zero)))))))) m n d e h j = refl
one_cause line (suc (suc (suc (suc (suc (suc (suc (suc (suc zero))))))))) m n d e h j = ap (λ x. refusal.Illegal x) (illegal_is line m n h j)
one_cause line (suc (suc (suc (suc (suc (suc (suc (suc (suc (suc k)))))))))) m n d e h j = refl

same_position : (line : List ℕ) (d e : Refusal) → Refuses line d → Refuses line e → order d ≡ order e
same_position line d e h k =
    elim (cases_lt (order d) (order e)) [
      | inl less ↦ absurd (none_before line e k d less h.due)
      | inr le ↦ elim (cases_lt (order e) (order d)) [ inl less ↦ absurd (none_before line d h e less k.due) | inr ge ↦ omega arith ]
    ]

pub one_refusal : (line : List ℕ) (d e : Refusal) → Refuses line d → Refuses line e → d ≡ e
one_refusal line d e h k =
    let position = same_position line d e h k in
    let a = back line d h.due in
    let b = back line e k.due in
    let due_d : IsDue (refusal_at (order d) a.0 a.1) line = subst (λ x. IsDue x line) (sym a.2) h.due in
    let due_e : IsDue (refusal_at (order e) b.0 b.1) line = subst (λ x. IsDue x line) (sym b.2) k.due in
    let due_e_too : IsDue (refusal_at (order d) b.0 b.1) line = subst (λ i. IsDue (refusal_at i b.0 b.1) line) (sym position) due_e in
    sym a.2 ∙ one_cause line (order d) a.0 b.0 a.1 b.1 due_d due_e_too ∙ ap (λ i. refusal_at i b.0 b.1) position ∙ b.2
