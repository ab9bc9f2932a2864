-- A tally that is made of tallies, one for each part of the keys.
use Rattle.std.specs.Prelude.{◌≡◌, ℕ, ◌/◌, ◌^◌, Option, None, Some, List, slice_get, IsSome}
use Rattle.std.specs.Option.{option_and_then}
use Rattle.pb_points.specs.Tally.{Content, Held}

-- the part of a key, by its upper eight bits
abbrev pub part_of : ℕ → ℕ
part_of k = k / 2 ^ 56

-- what the part of a key holds, where `content` says what a part holds
abbrev pub parts_content : {T : Type 0} → (T → Content) → List T → ℕ → ℕ → Option Held
parts_content content parts k c =
    option_and_then (λ part. content part k c) (slice_get parts (part_of k))

-- each part holds keys of its own alone
abbrev pub HoldsOwn : {T : Type 0} → (T → Content) → List T → Type 0
HoldsOwn {T} content parts = (i k c : ℕ) (part : T) → slice_get parts i ≡ Some part
    → IsSome (content part k c) → part_of k ≡ i

-- no part holds anything
abbrev pub HoldNothing : {T : Type 0} → (T → Content) → List T → Type 0
HoldNothing {T} content parts = (i k c : ℕ) (part : T) → slice_get parts i ≡ Some part
    → content part k c ≡ None
