-- The key of a narrow row, as bytes.
use Rattle.std.specs.Prelude.{◌≡◌, ℕ, ◌<◌, ◌^◌, List, All, length, get_or}
use Rattle.std.specs.Int.{from_le_bytes, to_le_bytes, w64}
use Rattle.std.proofs.Common.{ap, refl}
use Rattle.std.proofs.lemmas.Nat.{le_bytes_8}

-- bytes that are read as a number and written again are the same
pub narrow-back : {A : Type 0} (make : List ℕ → A) (bs : List ℕ) → (length bs ≡ 8) × ((i : ℕ) → get_or bs i 0 < 256)
    → make (to_le_bytes w64 (from_le_bytes w64 bs)) ≡ make bs
narrow-back make bs h = ap make (le_bytes_8 bs (from_le_bytes w64 bs) h.0 h.1 refl)
