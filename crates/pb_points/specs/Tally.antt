-- What a tally holds of keys and codes.
use Rattle.std.specs.Prelude.{◌≡◌, ℕ, ◌+◌, ◌≤◌, ◌^◌, Bool, ◌==◌, ◌&&◌}
use Rattle.std.specs.Prelude.{if◌then◌else◌, Option, Some, unwrap_or}
use Rattle.pb_points.specs.declared.row.Row.{Row}

-- what is held of one key and one code: points, and of how many plies
pub record Held : Type 0 where
  pub points : ℕ
  pub times : ℕ

-- what an absent row means
abbrev pub nothing : Held
nothing = record { points = 0; times = 0 }

-- with one ply more, which gives so many points
abbrev pub more : ℕ → Held → Held
more n h = record { points = h.points + n; times = h.times + 1 }

-- one ply more, of so many points, fits: neither sum passes 2^63
pub record HasRoomFor (h : Held) (n : ℕ) : Type 0 where
  pub points : h.points + n ≤ 2 ^ 63
  pub times : h.times + 1 ≤ 2 ^ 63

abbrev pub held_of : Row → Held
held_of r = record { points = r.points; times = r.times }

-- the look-up of a tally: what is held of a key and a code, where there is a row
abbrev pub Content : Type 0
Content = ℕ → ℕ → Option Held

-- what is held of a key and a code, with or without a row
abbrev pub held : Content → ℕ → ℕ → Held
held content k c = unwrap_or (content k c) nothing

-- k and c are this key and this code
abbrev pub is_pair : ℕ → ℕ → ℕ → ℕ → Bool
is_pair key code k c = (key == k) && (code == c)

-- there is a row of this key and this code, a new one holds nothing, and no other has changed
abbrev pub MakesRow : Content → Content → ℕ → ℕ → Type 0
MakesRow old new key code = (k c : ℕ)
    → new k c ≡ (if is_pair key code k c then Some (held old k c) else old k c)

-- the row of this key and this code holds one ply more, of n points, and no other has changed
abbrev pub AddsPly : Content → Content → ℕ → ℕ → ℕ → Type 0
AddsPly old new key code n = (k c : ℕ)
    → new k c ≡ (if is_pair key code k c then Some (more n (held old k c)) else old k c)
