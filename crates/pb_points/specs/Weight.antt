-- Weights of moves, and the order in which a book has them.
use Rattle.std.specs.Prelude.{◌≡◌, ℕ, ◌*◌, ◌/◌, ◌<◌, ◌⊎◌, if◌then◌else◌, nat_le}
use Rattle.pb_poly.specs.declared.book.Entry.{Entry}

-- a count scaled to 16 bits, where M is the greatest count under its key
abbrev pub scaled : ℕ → ℕ → ℕ
scaled n M = if nat_le M 65535 then n else (n * 65535) / M

-- key rising, then weight falling, then code rising
abbrev pub Before : Entry → Entry → Type 0
Before e f = (e.key < f.key)
    ⊎ ((e.key ≡ f.key) × ((f.weight < e.weight) ⊎ ((e.weight ≡ f.weight) × (e.code < f.code))))
