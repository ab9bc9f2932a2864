-- What the getters of clap's matches give, by the rows.
use Rattle.std.proofs.Common.{◌≡◌, ◌∙◌, ◌<◌, ◌^◌, ℕ, Bool, true, false, List, [], Option, Some, None, ap, codes, refl, sym, subst}
use Rattle.std.specs.Prelude.{SomeIff, option_map, unwrap_or}
use Rattle.std.specs.Borrow.{Bor}
use Rattle.std.specs.Str.Parse.{ExplainsUnsignedError, HasUnsignedDigitsIfOk, ParsesUnsigned}
use Rattle.clap.specs.Matches.{ReadsOne, first_value, one_text, raw_values}
use Rattle.clap.specs.Values.{bool_text}
use Rattle.clap.specs.Words.{Text, all_of, first_of, found_of, matched_of}
use Rattle.clap.specs.Walk.{texts}
use Rattle.clap.specs.declared.parser.matches.ArgMatches.{ArgMatches}
use Rattle.clap.proofs.WalkLemmas.{first_value-rows, one_text-rows, raw_values-rows}
use Rattle.pb_accepted.specs.Rules.{AreRules, CountingRules}
use Rattle.pb_cli.specs.Orders.{HasFlag, SaysNumber, rows_given}

module _ (given : ArgMatches) (id : Text) where
  pub first_given : (o : Option (Bor Text)) → option_map (λ s. s.now) o ≡ first_value (found_of given) id
      → first_of id (rows_given given) ≡ option_map (λ s. s.now) o
  first_given o is = sym (is ∙ first_value-rows (found_of given) id)

  pub text_given : (o : Option (Bor Text)) (other : Bor Text) → option_map (λ s. s.now) o ≡ first_value (found_of given) id
      → other.now ≡ [] → (unwrap_or o other).now ≡ unwrap_or (first_of id (rows_given given)) []
  text_given o other is empty = go o ∙ ap (λ t. unwrap_or t []) (sym (first_given o is))
    where
      go : (o : Option (Bor Text)) → (unwrap_or o other).now ≡ unwrap_or (option_map (λ s. s.now) o) []
      go None = empty
      go (Some s) = refl

  pub texts_given : (o : Option (Bor (List (Bor Text)))) (other : Bor (List (Bor Text)))
      → option_map (λ s. texts s.now) o ≡ option_map raw_values (matched_of (found_of given) id) → other.now ≡ []
      → texts (unwrap_or o other).now ≡ unwrap_or (all_of id (rows_given given)) []
  texts_given o other is empty = go o ∙ ap (λ t. unwrap_or t []) (is ∙ raw_values-rows (found_of given) id)
    where
      go : (o : Option (Bor (List (Bor Text)))) → texts (unwrap_or o other).now ≡ unwrap_or (option_map (λ s. texts s.now) o) []
      go None = ap texts empty
      go (Some s) = refl

  pub flag_given : (flag : Bool) → (one_text (found_of given) id ≡ None → flag ≡ false)
      → (one_text (found_of given) id ≡ Some (codes "true") → flag ≡ true) → (one_text (found_of given) id ≡ Some (codes "false") → flag ≡ false)
      → HasFlag id flag (rows_given given)
  flag_given flag none set unset said is = go (one_text (found_of given) id) refl said (ap (λ o. unwrap_or o (codes "false")) (one_text-rows (found_of given) id) ∙ is)
    where
      go : (o : Option Text) → one_text (found_of given) id ≡ o → (said : Bool) → unwrap_or o (codes "false") ≡ bool_text said → flag ≡ said
      go None found false is = none found
      go None found true is = absurd (cc is)
      go (Some t) found true is = set (found ∙ ap Some is)
      go (Some t) found false is = unset (found ∙ ap Some is)

  pub number_given : (o : Option ℕ) (n : ℕ)
      → ((t : List ℕ) → one_text (found_of given) id ≡ Some t
      → ReadsOne (λ u r. ParsesUnsigned 32 10 u r × ExplainsUnsignedError 10 u r × HasUnsignedDigitsIfOk u r) t o)
      → n < 2 ^ 32 → SaysNumber id n (rows_given given) → o ≡ Some n
  number_given o n reads small said = go o (reads said.0 (one_text-rows (found_of given) id ∙ said.1))
    where
      go : (o : Option ℕ) → ReadsOne (λ u r. ParsesUnsigned 32 10 u r × ExplainsUnsignedError 10 u r × HasUnsignedDigitsIfOk u r) said.0 o
          → o ≡ Some n
      go (Some v) h = ap Some (h.0.1 ∙ said.3)
      go None h = absurd (h.1.0 (said.2, subst (λ k. k < 2 ^ 32) (sym said.3) small))

abbrev pub rules_from : ℕ → ℕ → CountingRules
rules_from plies least = record { plies = plies; least = least }

-- what `Rules::new` gives, or others in its place
pub rules_given : (o : Option CountingRules) (plies least : ℕ) (said other : CountingRules)
    → SomeIff o (AreRules (rules_from plies least)) (rules_from plies least)
    → plies ≡ said.plies → least ≡ said.least → AreRules said → unwrap_or o other ≡ said
rules_given o plies least said other made is_plies is_least right = go o made
  where
    is : rules_from plies least ≡ said
    is = ap (λ n. rules_from n least) is_plies ∙ ap (rules_from said.plies) is_least

    go : (o : Option CountingRules) → SomeIff o (AreRules (rules_from plies least)) (rules_from plies least) → unwrap_or o other ≡ said
    go (Some r) h = h.1 ∙ is
    go None h = absurd (h (subst AreRules (sym is) right))
