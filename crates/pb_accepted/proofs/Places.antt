-- The games of a ledger by id.
use Rattle.std.proofs.Common.{◌≡◌, ◌≢◌, ℕ, ◌+◌, ◌<◌, List, [], ◌∷◌, length, Bool, true, false, Option, Some, None, IsSome, MatchOption, inl, inr, arith, refl, sym, ◌∙◌, true≢false}
use Rattle.std.specs.Bool.{Decides}
use Rattle.std.specs.List.{AllByRecursion}
use Rattle.std.specs.Map.{lookup, lookup_key}
use Rattle.std.specs.Str.{bytes_eq}
use Rattle.std.proofs.lemmas.List.Elements.{All-from_recursion, recursion_from_All}
use Rattle.std.proofs.lemmas.Map.{lookup-none, none_passes_from_lookup}
use Rattle.std.proofs.lemmas.Map.Made.{lookup_key_same}
use Rattle.std.proofs.lemmas.Option.{slice_get_cases}
use Rattle.std.proofs.lemmas.Slice.Eq.{bytes_eq-Decides}
use Rattle.pb_games.specs.Submissions.{Submission}
use Rattle.pb_accepted.specs.Replying.{IsNewId, IsNumber}

bytes_same : (a b : List ℕ) → Decides (bytes_eq a b) (a ≡ b)
bytes_same = bytes_eq-Decides

-- where an id is found, it is the id that stands there
pub key_found : (A : List Submission) (id key : List ℕ) → Some key ≡ lookup_key (bytes_eq id) A → key ≡ id
key_found A id key found = sym (lookup_key_same bytes_same id A key (sym found))

-- an id that isn't found is new
pub IsNewId-absent : (A : List Submission) (id : List ℕ) → lookup (bytes_eq id) A ≡ None → IsNewId id A
IsNewId-absent A id none = All-from_recursion (λ s. s.0 ≢ id) A (by A (none_passes_from_lookup (bytes_eq id) A none))
  where
    by : (B : List Submission) → AllByRecursion (λ e. bytes_eq id e.0 ≡ false) B → AllByRecursion (λ s. s.0 ≢ id) B
    by [] h = tt
    by (s ∷ B) h = (λ e. true≢false (sym ((bytes_same id s.0).1 (sym e)) ∙ h.0), by B h.1)

-- and a new one isn't found
pub absent_from_new : (A : List Submission) (id : List ℕ) → IsNewId id A → lookup (bytes_eq id) A ≡ None
absent_from_new A id fresh = lookup-none (bytes_eq id) A (by A (recursion_from_All (λ s. s.0 ≢ id) A fresh))
  where
    differ : (x : List ℕ) (b : Bool) → bytes_eq id x ≡ b → x ≢ id → b ≡ false
    differ x true t apart = absurd (apart (sym ((bytes_same id x).0 t)))
    differ x false t apart = refl

    by : (B : List Submission) → AllByRecursion (λ s. s.0 ≢ id) B → AllByRecursion (λ s. bytes_eq id s.0 ≡ false) B
    by [] h = tt
    by (s ∷ B) h = (differ s.0 (bytes_eq id s.0) (λ i. bytes_eq id s.0) h.0, by B h.1)

-- below the length each index has a game
pub game_there : {X : Type 0} (A : List Submission) (i : ℕ) (r : Option X) (P : X → Type 0) → i < length A → MatchOption r ((s : Submission) → ¬ IsNumber A (i + 1) s) P → IsSome r
game_there A i None P lt none = elim (slice_get_cases A i).1 [
  | inl at ↦ absurd (none at.0 (i, refl, at.2))
  | inr past ↦ absurd (omega (arith, lt, past.0))
]
game_there A i (Some x) P lt h = refl
