-- The table of the bytes of words, by a test of all bytes, computed once.
use Rattle.std.proofs.Common.{◌≡◌, ℕ, ◌<◌, ◌↔◌, ◌&&◌, Bool, true, eqb, leb, not, refl, sym, subst, rules, get_or}
use Rattle.std.specs.Prelude.{IsTrue}
use Rattle.std.proofs.lemmas.Bool.{agree_below, agree_below_at}
use Rattle.pb_epd.specs.Token.{IsWordByte}
use Rattle.pb_epd.specs.declared.token.TheConstants.{WORD_BYTES}

-- a byte of 33 to 126 that is no ; and no "
abbrev tests_word : ℕ → Bool
tests_word b = leb 33 b && leb b 126 && not (eqb b 59) && not (eqb b 34)

abbrev stands_y : ℕ → Bool
stands_y b = eqb (get_or WORD_BYTES b 0) 121

table_is_right : agree_below stands_y tests_word 256 ≡ true
table_is_right = refl

tested : (b : ℕ) → IsTrue (tests_word b) ↔ IsWordByte b
tested b = search rules

pub word_byte : (b : ℕ) → b < 256 → IsTrue (stands_y b) ↔ IsWordByte b
word_byte b lt = subst (λ x. IsTrue x ↔ IsWordByte b) (sym (agree_below_at stands_y tests_word 256 b table_is_right lt)) (tested b)
