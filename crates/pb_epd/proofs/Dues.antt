-- The first refusal that is due.
use Rattle.std.proofs.Common.{◌≡◌, ℕ, suc, ◌+◌, ◌<◌, List, [], ◌∷◌, ◌++◌, length, refl, ap, subst, arith}
use Rattle.std.specs.Prelude.{All}
use Rattle.std.proofs.lemmas.List.{length-append}
use Rattle.std.proofs.lemmas.List.Elements.{All-cons, All-nil, All-weaker}
use Rattle.pb_board.specs.declared.refusal.FenError.{FenError}
use Rattle.pb_epd.specs.declared.operation.Operand.{Operand}
use Rattle.pb_epd.specs.declared.refusal.EpdError.{EpdError}
use Rattle.pb_epd.specs.declared.refusal.EpdError.TheVariants as epd
use Rattle.pb_epd.specs.declared.refusal.PutError.{PutError}
use Rattle.pb_epd.specs.declared.refusal.PutError.TheVariants as put
use Rattle.pb_epd.specs.Epd.{EpdRecord}
use Rattle.pb_epd.specs.Refusal.{Cut, IsDueEpd, IsDuePut, IsFirstDueEpd, IsFirstDuePut, epd_errors, put_errors, SpellSetup}

-- ---- lists whose places are known

module _ {E : Type 0} (place : E → ℕ) where
  -- the places from the n-th on
  abbrev AreFrom : ℕ → List E → Type 0
  AreFrom n [] = Unit {0}
  AreFrom n (x ∷ xs) = (place x ≡ n) × AreFrom (suc n) xs

  place_of : (n : ℕ) (before : List E) (x : E) (after : List E) → AreFrom n (before ++ x ∷ after) → place x ≡ n + length before
  place_of n [] x after are = omega (arith, are.0)
  place_of n (y ∷ before) x after are = omega (arith, place_of (suc n) before x after are.1)

  are_before : (n : ℕ) (before : List E) (x : E) (after : List E) → AreFrom n (before ++ x ∷ after) → All (λ y. place y < place x) before
  are_before n [] x after are = All-nil (λ y. place y < place x)
  are_before n (y ∷ before) x after are =
      All-cons (λ z. place z < place x) y before (omega (arith, are.0, place_of n (y ∷ before) x after are)) (are_before (suc n) before x after are.1)

-- ---- an operation that is added

abbrev pub put_place : PutError → ℕ
put_place put.Opcode = 1
put_place (put.Operand n) = 2
put_place put.Repeated = 3
put_place put.Memory = 4

pub first_put : (x : PutError) (e : EpdRecord) (opcode : List ℕ) (operands : List Operand) → IsDuePut x e opcode operands
    → ((y : PutError) → put_place y < put_place x → ¬ IsDuePut y e opcode operands) → IsFirstDuePut x e opcode operands
first_put x e opcode operands due none = record {
  due = due;
  first = λ n before after is.
      let places : AreFrom put_place 1 (put_errors n) = (refl, (refl, (refl, (refl, tt)))) in
      All-weaker (λ y. put_place y < put_place x) (λ y. ¬ IsDuePut y e opcode operands) none before
      (are_before put_place 1 before x after (subst (AreFrom put_place 1) is places));
}

-- ---- a text

abbrev pub epd_place : EpdError → ℕ
epd_place (epd.Token at) = 1
epd_place epd.Fields = 2
epd_place (epd.Setup e) = 3
epd_place (epd.Opcode n) = 4
epd_place epd.Unended = 5
epd_place (epd.Repeated n) = 6
epd_place epd.Memory = 7

epd_places : (at : ℕ) (e : FenError) (n m : ℕ) → AreFrom epd_place 1 (epd_errors at e n m)
epd_places at e n m = (refl, (refl, (refl, (refl, (refl, (refl, tt))))))

pub first_epd : (x : EpdError) (bytes : List ℕ) → IsDueEpd x bytes → ((y : EpdError) → epd_place y < epd_place x → ¬ IsDueEpd y bytes) → IsFirstDueEpd x bytes
first_epd x bytes due none = record {
  due = due;
  first = λ at e n m before after is.
      All-weaker (λ y. epd_place y < epd_place x) (λ y. ¬ IsDueEpd y bytes) none before
      (are_before epd_place 1 before x after (subst (AreFrom epd_place 1) is (epd_places at e n m)));
}

-- want of memory stands in no list
pub memory_first : (bytes : List ℕ) → (cut : Cut bytes) → SpellSetup cut.four → IsFirstDueEpd epd.Memory bytes
memory_first bytes cut setup = record {
  due = (cut, setup);
  first = λ at e n m before after is.
      let here = place_of epd_place 1 before epd.Memory after (subst (AreFrom epd_place 1) is (epd_places at e n m)) in
      absurd (omega (arith, here, ap length is, length-append before (epd.Memory ∷ after)));
}
