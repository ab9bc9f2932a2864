-- A final CR, and the line without it.
use Rattle.std.proofs.Common.{◌≡◌, ◌≢◌, ℕ, suc, ◌-◌, ◌≤◌, Bool, true, false, cond, eqb, ◌⊎◌, List, [], ◌∷◌, ◌++◌, length, take, get_or, length-append, Bor, Option, Some, None, MatchOption, unwrap_or, refl, sym, ap, ◌∙◌, subst, inl, inr, arith}
use Rattle.std.specs.Str.Lines.{strip_carriage_return}
use Rattle.std.proofs.lemmas.Bool.{cases_eq}
use Rattle.std.proofs.lemmas.Bool.Decides.{nat_tests}

is_return : (c : ℕ) → c ≡ 13 → eqb c 13 ≡ true
is_return c e = grind (arith, nat_tests)

no_return : (c : ℕ) → c ≢ 13 → eqb c 13 ≡ false
no_return c e = grind (arith, nat_tests)

-- ---- byte by byte

-- the line without one final CR
abbrev without_return : List ℕ → List ℕ
without_return [] = []
without_return (c ∷ []) = cond (eqb c 13) [] (c ∷ [])
without_return (c ∷ d ∷ cs) = c ∷ without_return (d ∷ cs)

under : (c : ℕ) (cs : List ℕ) (test : Bool) → cond test (c ∷ take (length cs - 1) cs) (c ∷ cs) ≡ c ∷ cond test (take (length cs - 1) cs) cs
under c cs true = refl
under c cs false = refl

stripped_is : (line : List ℕ) → strip_carriage_return line ≡ without_return line
stripped_is [] = refl
stripped_is (c ∷ []) = refl
stripped_is (c ∷ d ∷ cs) =
    let e : length (c ∷ d ∷ cs) - 1 ≡ suc (length (d ∷ cs) - 1) = omega arith in
    rw e (under c (d ∷ cs) (eqb (get_or (d ∷ cs) (length (d ∷ cs) - 1) 0) 13) ∙ ap (λ l. c ∷ l) (stripped_is (d ∷ cs)))

without_push : (xs : List ℕ) → without_return (xs ++ 13 ∷ []) ≡ xs
without_push [] = refl
without_push (x ∷ []) = refl
without_push (x ∷ y ∷ xs) = ap (λ (w : List ℕ). x ∷ w) (without_push (y ∷ xs))

cases_without : (xs : List ℕ) → (xs ≡ without_return xs) ⊎ (xs ≡ without_return xs ++ 13 ∷ [])
cases_without [] = inl refl
cases_without (x ∷ []) =
    elim (cases_eq x 13) [
      | inl is ↦ inr (rw (is_return x is) (ap (λ (n : ℕ). n ∷ []) is))
      | inr not ↦ inl (rw (no_return x not) refl)
    ]
cases_without (x ∷ y ∷ xs) =
    elim (cases_without (y ∷ xs)) [
      | inl same ↦ inl (ap (λ (w : List ℕ). x ∷ w) same)
      | inr more ↦ inr (ap (λ (w : List ℕ). x ∷ w) more)
    ]

-- ---- the whole

-- a final CR is dropped
pub strip_push : (xs : List ℕ) → strip_carriage_return (xs ++ 13 ∷ []) ≡ xs
strip_push xs = stripped_is (xs ++ 13 ∷ []) ∙ without_push xs

-- the line is what is left, or that and a CR
pub cases_return : (xs : List ℕ) → (xs ≡ strip_carriage_return xs) ⊎ (xs ≡ strip_carriage_return xs ++ 13 ∷ [])
cases_return xs =
    let Or : List ℕ → Type 0 = λ l. (xs ≡ l) ⊎ (xs ≡ l ++ 13 ∷ []) in
    subst Or (sym (stripped_is xs)) (cases_without xs)

-- where no CR is the last byte, nothing is dropped
pub strip_same : (xs : List ℕ) → ((front : List ℕ) → xs ≢ front ++ 13 ∷ []) → strip_carriage_return xs ≡ xs
strip_same xs none =
    elim (cases_return xs) [ inl same ↦ sym same | inr more ↦ absurd (none (strip_carriage_return xs) more) ]

-- what is left where a final CR was looked for
pub stripped : (line : Bor (List ℕ)) (front : Option (Bor (List ℕ)))
    → MatchOption front ((f : List ℕ) → line.now ≢ f ++ 13 ∷ []) (λ f. line.now ≡ f.now ++ 13 ∷ []) → (unwrap_or front line).now ≡ strip_carriage_return line.now
stripped line None none = sym (strip_same line.now none)
stripped line (Some front) is = sym (ap strip_carriage_return is ∙ strip_push front.now)

pub length-strip : (xs : List ℕ) → length (strip_carriage_return xs) ≤ length xs
length-strip xs =
    elim (cases_return xs) [ inl same ↦ omega (arith, ap length same) | inr more ↦ omega (arith, ap length more, length-append (strip_carriage_return xs) (13 ∷ [])) ]
