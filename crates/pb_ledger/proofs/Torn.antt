-- A task that notes the bytes after the last LF, and takes them for no line.
use Rattle.std.proofs.Common.{◌≡◌, ◌∙◌, ℕ, Bool, true, false, List, [], ◌∷◌, length, nat_lt, Result, Ok, ap, arith, sym}
use Rattle.pb_io.specs.LineTask.{TakesTorn}

module _ {S E X : Type 0} (takes : S → List ℕ → Bool → Result (Unit {0}) E → S → Type 0) (is_torn : S → Bool) (kept : S → X) where
  -- it succeeded, this is whether there were any, and what is kept stayed
  pub record Notes (s t : S) (piece : List ℕ) (answer : Result (Unit {0}) E) : Type 0 where
    pub ok : answer ≡ Ok tt
    pub is : is_torn t ≡ nat_lt 0 (length piece)
    pub same : kept t ≡ kept s

  module _ (notes : (s t : S) (piece : List ℕ) (answer : Result (Unit {0}) E) → takes s piece false answer t → (answer ≡ Ok tt) × (is_torn t ≡ true) × (kept t ≡ kept s)) where
    pub noted : (s t : S) (piece : List ℕ) (answer : Result (Unit {0}) E) → is_torn s ≡ false → TakesTorn takes s piece answer t → Notes s t piece answer
    noted s t [] answer whole h = record { ok = h.0; is = ap is_torn h.1 ∙ whole; same = ap kept h.1 }
    noted s t (b ∷ bs) answer whole h = let k = notes s t (b ∷ bs) answer h in record { ok = k.0; is = k.1 ∙ sym (some b bs); same = k.2 }
      where
        some : (b : ℕ) (bs : List ℕ) → nat_lt 0 (length (b ∷ bs)) ≡ true
        some b bs = grind arith
