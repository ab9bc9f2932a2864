-- A line is refused by itself for one reason, and a line that submits a legal game for none.
use Rattle.std.proofs.Common.{◌≡◌, ℕ, zero, suc, List, [], ◌∷◌, ◌++◌, inl, inr, sym, ap, subst, ◌∙◌}
use Rattle.std.specs.Prelude.{codes, decimal}
use Rattle.pb_board.specs.Fields.{field}
use Rattle.pb_board.specs.Position.{Record}
use Rattle.pb_board.specs.Refusal.{BreaksAt}
use Rattle.pb_board.proofs.Breaks.{one_all_break, one_break}
use Rattle.pb_board.proofs.Unique.{one_record}
use Rattle.pb_moves.specs.Played.{AreLegal, IsSpelled}
use Rattle.pb_games.specs.Cuts.{fields_of}
use Rattle.pb_games.specs.Tokens.{tokens_of}
use Rattle.pb_games.proofs.OneLine.{spellings_injective}
use Rattle.pb_games.proofs.Played.{legal_fronts}
use Rattle.pb_games.proofs.Refused.{none_due}
use Rattle.pb_games.specs.Submissions.{Submission, Submits}
use Rattle.pb_accepted.specs.Refusals.{IsFirst, reasons, IsRefused}
use Rattle.pb_accepted.proofs.RefusedTexts.{IsSaid, never_said}

module _ (line : List ℕ) where
  abbrev cells : List (List ℕ)
  cells = fields_of line

  abbrev tokens : List (List ℕ)
  tokens = tokens_of (field cells 3)

  -- each reason is said in one way
  one_said : (i : ℕ) (v w : List ℕ) → IsSaid i (reasons line cells) v → IsSaid i (reasons line cells) w → v ≡ w
  one_said zero v w h k = h.0 ∙ sym k.0
  one_said (suc zero) v w h k = h.0 ∙ sym k.0
  one_said (suc (suc zero)) v w h k = h.0 ∙ sym k.0
  one_said (suc (suc (suc zero))) v w h k = h.0 ∙ sym k.0
  one_said (suc (suc (suc (suc zero)))) v w h k = h.0 ∙ sym k.0
  one_said (suc (suc (suc (suc (suc zero))))) v w h k = h.0 ∙ sym k.0
  one_said (suc (suc (suc (suc (suc (suc zero)))))) v w h k = h.1 ∙ ap (λ (n : ℕ). field cells 0 ++ codes " spelling " ++ decimal n) (one_all_break IsSpelled tokens h.0 k.0 h.2 k.2) ∙ sym k.1
  one_said (suc (suc (suc (suc (suc (suc (suc zero))))))) v w h k = h.0 ∙ sym k.0
  one_said (suc (suc (suc (suc (suc (suc (suc (suc zero)))))))) v w h k =
      let starts : h.1 ≡ k.1 = one_record h.1 k.1 (field cells 2) h.4.0 k.4.0 h.4.1 k.4.1 in
      let moves : h.2 ≡ k.2 = spellings_injective h.2 k.2 h.5.0 k.5.0 (h.5.1 ∙ sym k.5.1) in
      let here : BreaksAt (AreLegal k.1.setup) k.2 h.0 =
      subst (λ ms. BreaksAt (AreLegal k.1.setup) ms h.0) moves (subst (λ (f : Record). BreaksAt (AreLegal f.setup) h.2 h.0) starts h.6) in
      h.3 ∙ ap (λ (n : ℕ). field cells 0 ++ codes " illegal " ++ decimal n) (one_break (AreLegal k.1.setup) (legal_fronts k.1.setup) k.2 h.0 k.0 here k.6) ∙ sym k.3
  one_said (suc (suc (suc (suc (suc (suc (suc (suc (suc i))))))))) v w h k = absurd h

one_first : (Rs : List (List ℕ → Type 0)) → ((i : ℕ) (v w : List ℕ) → IsSaid i Rs v → IsSaid i Rs w → v ≡ w) → (v w : List ℕ) → IsFirst Rs v → IsFirst Rs w → v ≡ w
one_first [] one v w h k = absurd h
one_first (R ∷ Rs) one v w (inl h) (inl k) = one 0 v w h k
one_first (R ∷ Rs) one v w (inl h) (inr k) = absurd (k.0 v h)
one_first (R ∷ Rs) one v w (inr h) (inl k) = absurd (h.0 w k)
one_first (R ∷ Rs) one v w (inr h) (inr k) = one_first Rs (λ i. one (suc i)) v w h.1 k.1

pub one_reason : (line v w : List ℕ) → IsRefused line v → IsRefused line w → v ≡ w
one_reason line = one_first (reasons line (fields_of line)) (one_said line)

never_first : (Rs : List (List ℕ → Type 0)) → ((i : ℕ) (why : List ℕ) → ¬ IsSaid i Rs why) → (why : List ℕ) → ¬ IsFirst Rs why
never_first [] never why h = h
never_first (R ∷ Rs) never why (inl h) = never 0 why h
never_first (R ∷ Rs) never why (inr h) = never_first Rs (λ i. never (suc i)) why h.1

pub lawful_is_not_refused : (line why : List ℕ) (s : Submission) → Submits line s → ¬ IsRefused line why
lawful_is_not_refused line why s lawful = never_first (reasons line (fields_of line)) (λ i. never_said line (λ _. Unit {0}) (λ d _. none_due line s lawful d) i tt) why
