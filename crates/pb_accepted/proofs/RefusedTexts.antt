-- What the reply says of a line that is refused by itself is the first reason that is due.
use Rattle.std.proofs.Common.{ℕ, zero, suc, ◌-◌, ◌<◌, List, [], ◌∷◌, ◌++◌, Err, inl, inr, refl, sym, subst, arith}
use Rattle.std.specs.Prelude.{codes, decimal}
use Rattle.std.proofs.lemmas.List.{append_assoc}
use Rattle.pb_board.specs.Fields.{field, fields}
use Rattle.pb_board.specs.Refusal.{fen_errors}
use Rattle.pb_board.specs.Text.{fen_text}
use Rattle.pb_board.proofs.Completes.{complete}
use Rattle.pb_board.proofs.Dues.{IsFirstDue}
use Rattle.pb_board.proofs.Fens.{record_never_due}
use Rattle.pb_games.specs.declared.refusal.Refusal.{Refusal}
use Rattle.pb_games.specs.declared.refusal.Refusal.TheVariants as refusal
use Rattle.pb_games.specs.Cuts.{fields_of}
use Rattle.pb_games.specs.Refusing.{Refuses}
use Rattle.pb_games.proofs.Dues.{IsDue, first_position, none_before, order}
use Rattle.pb_accepted.specs.Refusals.{IsFirst, IsRefused, reasons}
use Rattle.pb_accepted.specs.Accepting.{named, reason}

-- what the reply says after `refused `
abbrev pub why_of : List ℕ → Refusal → List ℕ
why_of line e = named line (Err e) ++ 32 ∷ reason e

-- the k-th of these reasons, from 0, is said
abbrev pub IsSaid : ℕ → List (List ℕ → Type 0) → List ℕ → Type 0
IsSaid k [] why = ⊥
IsSaid zero (R ∷ Rs) why = R why
IsSaid (suc k) (R ∷ Rs) why = IsSaid k Rs why

-- where no refusal of some positions in the order is due, the reasons there are never said
pub never_said : (line : List ℕ) (Q : ℕ → Type 0) → ((d : Refusal) → Q (order d) → ¬ IsDue d line) → (k : ℕ) → Q (suc k) → (why : List ℕ) → ¬ IsSaid k (reasons line (fields_of line)) why
never_said line Q none zero q why d = none refusal.Long q d.1
never_said line Q none (suc zero) q why d = none refusal.Shape q d.1
never_said line Q none (suc (suc zero)) q why d = none refusal.Id q d.1
never_said line Q none (suc (suc (suc zero))) q why d = none refusal.Result q d.1
never_said line Q none (suc (suc (suc (suc zero)))) q why d = complete (field (fields_of line) 2) (λ c first. none (refusal.Fen c) q first) (λ f ok is. d.1 f (ok, is))
never_said line Q none (suc (suc (suc (suc (suc zero))))) q why d = none refusal.Start q (d.1, d.2, d.3)
never_said line Q none (suc (suc (suc (suc (suc (suc zero)))))) q why d = none (refusal.Spelling d.0) q d.2
never_said line Q none (suc (suc (suc (suc (suc (suc (suc zero))))))) q why d = none refusal.Plies q d.1
never_said line Q none (suc (suc (suc (suc (suc (suc (suc (suc zero)))))))) q why d = none (refusal.Illegal d.0) q (d.1, d.2, d.4, d.5, d.6)
never_said line Q none (suc (suc (suc (suc (suc (suc (suc (suc (suc k))))))))) q why d = absurd d

-- one that is said is the first where none before it is ever said
first_said : (k : ℕ) (Rs : List (List ℕ → Type 0)) (why : List ℕ) → ((i : ℕ) → i < k → (w : List ℕ) → ¬ IsSaid i Rs w) → IsSaid k Rs why → IsFirst Rs why
first_said k [] why never said = absurd said
first_said zero (R ∷ Rs) why never said = inl said
first_said (suc k) (R ∷ Rs) why never said = inr (never 0 (omega arith), first_said k Rs why (λ i lt. never (suc i) (omega (arith, lt))) said)

said_of : (line : List ℕ) (e : Refusal) → IsDue e line → IsSaid (order e - 1) (reasons line (fields_of line)) (why_of line e)
said_of line refusal.Long due = (refl, due)
said_of line refusal.Shape due = (refl, due)
said_of line refusal.Id due = (refl, due)
said_of line refusal.Result due = (refl, due)
said_of line (refusal.Fen c) due = (refl, λ f s. record_never_due f (fen_text f) c s.0 refl (subst (λ (t : List ℕ). IsFirstDue fen_errors c (fields 32 t)) s.1 due))
said_of line refusal.Start due = (refl, due.0, due.1, due.2)
said_of line (refusal.Spelling n) due = (n, sym (append_assoc (field (fields_of line) 0) (codes " spelling ") (decimal n)), due)
said_of line refusal.Plies due = (refl, due)
said_of line (refusal.Illegal n) due = (n, due.0, due.1, sym (append_assoc (field (fields_of line) 0) (codes " illegal ") (decimal n)), due.2, due.3, due.4)
said_of line (refusal.Conflict n) due = absurd due
said_of line refusal.Full due = absurd due
said_of line refusal.Memory due = absurd due

pub refused_to : (line : List ℕ) (e : Refusal) → Refuses line e → IsRefused line (why_of line e)
refused_to line e h =
    first_said (order e - 1) (reasons line (fields_of line)) (why_of line e) (λ k lt. never_said line (λ n. n < order e) (none_before line e h) k (omega (arith, lt, first_position e))) (said_of line e h.due)
