-- What is toggled in a key, part by part.
use Rattle.std.proofs.Common.{◌≡◌, ℕ, List, [], ◌∷◌, ◌++◌, sym, ap, ◌∙◌}
use Rattle.std.specs.Prelude.{bit_xor, slice_index}
use Rattle.std.specs.Int.Bits.{xor_assoc, xor_zero_l, xor_zero_r}
use Rattle.std.proofs.lemmas.List.Sums.{fold-append}
use Rattle.pb_poly.specs.KeyChange.{toggled}

pub toggled_from : (randoms : List ℕ) (k : ℕ) (xs : List ℕ) → toggled randoms k xs ≡ bit_xor k (toggled randoms 0 xs)
toggled_from randoms k [] = sym (xor_zero_r k)
toggled_from randoms k (x ∷ xs) =
    let first = slice_index randoms x in
    let rest = toggled randoms 0 xs in
    toggled_from randoms (bit_xor k first) xs ∙ xor_assoc k first rest
    ∙ ap (λ n. bit_xor k n) (sym (toggled_from randoms (bit_xor 0 first) xs ∙ ap (λ n. bit_xor n rest) (xor_zero_l first)))

-- the randoms of both lists are the exclusive or of those of each
pub toggled-append : (randoms : List ℕ) (k : ℕ) (xs ys : List ℕ) → toggled randoms k (xs ++ ys) ≡ bit_xor (toggled randoms k xs) (toggled randoms 0 ys)
toggled-append randoms k xs ys = fold-append (λ n offset. bit_xor n (slice_index randoms offset)) k xs ys ∙ toggled_from randoms (toggled randoms k xs) ys

pub toggled_one : (randoms : List ℕ) (x : ℕ) → toggled randoms 0 (x ∷ []) ≡ slice_index randoms x
toggled_one randoms x = xor_zero_l (slice_index randoms x)

-- what is left is two lists, each with its part
last_two : (randoms : List ℕ) (k : ℕ) (xs ys : List ℕ) → bit_xor k (toggled randoms 0 (xs ++ ys)) ≡ bit_xor (bit_xor k (toggled randoms 0 xs)) (toggled randoms 0 ys)
last_two randoms k xs ys = ap (λ n. bit_xor k n) (toggled-append randoms 0 xs ys) ∙ sym (xor_assoc k (toggled randoms 0 xs) (toggled randoms 0 ys))

pub toggled_three : (randoms : List ℕ) (k : ℕ) (xs ys zs : List ℕ)
    → toggled randoms k (xs ++ (ys ++ zs)) ≡ bit_xor (bit_xor (toggled randoms k xs) (toggled randoms 0 ys)) (toggled randoms 0 zs)
toggled_three randoms k xs ys zs = toggled-append randoms k xs (ys ++ zs) ∙ last_two randoms (toggled randoms k xs) ys zs

pub toggled_four : (randoms : List ℕ) (k : ℕ) (ws xs ys zs : List ℕ)
    → toggled randoms k (ws ++ (xs ++ (ys ++ zs))) ≡ bit_xor (bit_xor (bit_xor (toggled randoms k ws) (toggled randoms 0 xs)) (toggled randoms 0 ys)) (toggled randoms 0 zs)
toggled_four randoms k ws xs ys zs =
    toggled_three randoms k ws xs (ys ++ zs) ∙ last_two randoms (bit_xor (toggled randoms k ws) (toggled randoms 0 xs)) ys zs

pub toggled_five : (randoms : List ℕ) (k : ℕ) (vs ws xs ys zs : List ℕ)
    → toggled randoms k (vs ++ (ws ++ (xs ++ (ys ++ zs))))
    ≡ bit_xor (bit_xor (bit_xor (bit_xor (toggled randoms k vs) (toggled randoms 0 ws)) (toggled randoms 0 xs)) (toggled randoms 0 ys)) (toggled randoms 0 zs)
toggled_five randoms k vs ws xs ys zs =
    toggled_four randoms k vs ws xs (ys ++ zs) ∙ last_two randoms (bit_xor (bit_xor (toggled randoms k vs) (toggled randoms 0 ws)) (toggled randoms 0 xs)) ys zs
