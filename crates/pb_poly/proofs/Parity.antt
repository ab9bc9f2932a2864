-- A key, bit by bit, is the parity of the randoms at the setup's offsets, and no other number is.
use Rattle.std.proofs.Common.{◌≡◌, ℕ, ◌+◌, ◌%◌, ◌^◌, ◌<◌, inl, inr, List, [], ◌∷◌, length, sym, ap, ◌∙◌, arith}
use Rattle.std.specs.Prelude.{bit_xor, slice_index, sum_by}
use Rattle.std.specs.Int.{bit_at}
use Rattle.std.proofs.lemmas.Bool.{cases_lt}
use Rattle.std.proofs.lemmas.List.{get_or_past}
use Rattle.std.proofs.lemmas.Nat.{xor_lt}
use Rattle.std.proofs.lemmas.Nat.Bits.{bit_at-lt, bit_at-zero, bit_at_xor, same_from_bits_below}
use Rattle.pb_board.specs.Position.{IsSetup, Position}
use Rattle.pb_poly.specs.Key.{AreOffsets, IsKey, key, offsets}
use Rattle.pb_poly.specs.KeyChange.{toggled}
use Rattle.pb_poly.specs.Table.{IsTable}
use Rattle.pb_poly.proofs.Among.{among_contained, contains_among, pairs_distinct, sum_is_total, total, total_same}
use Rattle.pb_poly.proofs.Offsets.{are_offsets}

random_below : (randoms : List ℕ) (offset : ℕ) → IsTable randoms → slice_index randoms offset < 2 ^ 64
random_below randoms offset table = elim (cases_lt offset (length randoms)) [
  | inl within ↦ table.fit offset 0 within
  | inr past ↦ let none = get_or_past randoms offset 0 past in omega (arith, none)
]

pub toggled_below : (randoms : List ℕ) (k : ℕ) (ps : List ℕ) → IsTable randoms → k < 2 ^ 64 → toggled randoms k ps < 2 ^ 64
toggled_below randoms k [] table below = below
toggled_below randoms k (p ∷ ps) table below = toggled_below randoms (bit_xor k (slice_index randoms p)) ps table (xor_lt 64 k (slice_index randoms p) below (random_below randoms p table))

toggled_bit : (randoms : List ℕ) (bit k : ℕ) (ps : List ℕ) → bit_at (toggled randoms k ps) bit ≡ (bit_at k bit + total (λ offset. bit_at (slice_index randoms offset) bit) ps) % 2
toggled_bit randoms bit k [] = let low = bit_at-lt k bit in omega (arith, low)
toggled_bit randoms bit k (p ∷ ps) =
    let more = toggled_bit randoms bit (bit_xor k (slice_index randoms p)) ps in
    let first = bit_at_xor k (slice_index randoms p) bit in
    omega (arith, more, first)

-- what is toggled depends on how often each offset stands, odd or even
pub toggled_same : (randoms xs ys : List ℕ) → IsTable randoms → ((f : ℕ → ℕ) → total f xs % 2 ≡ total f ys % 2) → toggled randoms 0 xs ≡ toggled randoms 0 ys
toggled_same randoms xs ys table same =
    same_from_bits_below 64 (toggled randoms 0 xs) (toggled randoms 0 ys) (toggled_below randoms 0 xs table (omega arith)) (toggled_below randoms 0 ys table (omega arith)) (λ bit low.
    let left = toggled_bit randoms bit 0 xs in
    let right = toggled_bit randoms bit 0 ys in
    let parity = same (λ offset. bit_at (slice_index randoms offset) bit) in
    omega (arith, left, right, parity))

pub key_is_parity : (randoms : List ℕ) (s : Position) → IsTable randoms → IsSetup s → IsKey randoms s (key randoms s)
unfolding key
key_is_parity randoms s table setup = record {
  below = toggled_below randoms 0 (offsets s) table (omega arith);
  offsets = offsets s;
  are = are_offsets s setup;
  bits = λ bit low.
      let is = toggled_bit randoms bit 0 (offsets s) in
      let none = bit_at-zero bit in
      let sum = sum_is_total (λ offset. bit_at (slice_index randoms offset) bit) (offsets s) in
      omega (arith, is, none, sum);
}

-- how many of the numbers at these offsets have this bit
abbrev randoms_with : List ℕ → ℕ → List ℕ → ℕ
randoms_with randoms bit offsets = sum_by (λ offset. bit_at (slice_index randoms offset) bit) offsets

same_sums : (randoms : List ℕ) (s : Position) (ps qs : List ℕ) (bit : ℕ) → AreOffsets s ps → AreOffsets s qs → randoms_with randoms bit ps ≡ randoms_with randoms bit qs
same_sums randoms s ps qs bit x y =
    let f : ℕ → ℕ = λ offset. bit_at (slice_index randoms offset) bit in
    sum_is_total f ps
    ∙ total_same f ps qs (pairs_distinct ps x.once) (pairs_distinct qs y.once)
    (λ n among. among_contained qs n ((y.each n).1 ((x.each n).0 (contains_among ps n among))))
    (λ n among. among_contained ps n ((x.each n).1 ((y.each n).0 (contains_among qs n among))))
    ∙ sym (sum_is_total f qs)

pub key_is_one : (randoms : List ℕ) (s : Position) (k l : ℕ) → IsKey randoms s k → IsKey randoms s l → k ≡ l
key_is_one randoms s k l x y =
    same_from_bits_below 64 k l x.below y.below (λ bit low.
    x.bits bit low ∙ ap (λ n. n % 2) (same_sums randoms s x.offsets y.offsets bit x.are y.are) ∙ sym (y.bits bit low))
