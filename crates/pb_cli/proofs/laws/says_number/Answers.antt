use Rattle.std.proofs.Common.{◌≡◌, ◌≢◌, ◌<◌, ◌∙◌, [], ◌∷◌, ℕ, List, ap, arith, get_or, subst, sym}
use Rattle.std.proofs.lemmas.Fmt.{decimal_is_IsNumeral}
use Rattle.std.proofs.lemmas.Str.Parse.{without_leading_plus_none}
use Rattle.std.specs.Char.{digit_value}
use Rattle.std.specs.Prelude.{decimal}
use Rattle.std.specs.Str.Parse.{IsNumeral, digits_value, without_leading_plus}
use Rattle.pb_cli.proofs.laws.says_number.Goals as goal

-- a digit is no plus
no_plus : (ds : List ℕ) → IsNumeral 10 ds → get_or ds 0 0 ≢ 43
no_plus [] h e = omega (arith, h.0)
no_plus (c ∷ cs) h e = let digit = subst (λ x. digit_value x < 10) e h.1.0 in omega (arith, digit)

pub returns : goal.returns
returns c = λ id number rows fits is.
    let (numeral, value) = decimal_is_IsNumeral number fits in
    let plain : without_leading_plus (decimal number) ≡ decimal number = without_leading_plus_none (decimal number) (no_plus (decimal number) numeral) in
    (decimal number, is, subst (IsNumeral 10) (sym plain) numeral, ap (digits_value 10) plain ∙ value)
