-- Equality as a program tests it.
use Rattle.std.specs.Prelude.{◌≡◌, Bool}
use Rattle.std.specs.Bool.{Decides}

-- the test is equality: it holds exactly where both are one
abbrev pub IsEquality : {A : Type 0} → (A → A → Bool) → Type 0
IsEquality {A} test = (a b : A) → Decides (test a b) (a ≡ b)

-- so it is where both keep this rule
abbrev pub IsEqualityWhere : {A : Type 0} → (A → Type 0) → (A → A → Bool) → Type 0
IsEqualityWhere {A} rule test = (a b : A) → rule a → rule b → Decides (test a b) (a ≡ b)
