use Rattle.std.proofs.Common.{◌≡◌, ◌≤◌, ◌<◌, ◌∷◌, ◌++◌, ◌∙◌, ◌+◌, [], ℕ, List, Result, Ok, Err, Bor, ap, arith, length, map, slice_set, subst, sym, take}
use Rattle.std.specs.Prelude.{IfErr, IfOk}
use Rattle.std.proofs.lemmas.List.{length-map, length-set, length-take, map_push, take_all, take_more_set}
use Rattle.pb_epd.specs.Lexeme.{token_of}
use Rattle.pb_epd.specs.Reading.{Follow}
use Rattle.pb_epd.specs.Refusal.{IsFirstDueEpd}
use Rattle.pb_epd.specs.Token.{Token, Tokens, TokensAfter, end_mark, word}
use Rattle.pb_epd.specs.declared.refusal.EpdError.TheVariants as epd
use Rattle.pb_epd.proofs.Reader.{HasRead, first_is, no_fourth, no_step, no_word, read_more}
use Rattle.pb_epd.proofs.Texts.{fields_first, setup_refused, found_all, refused_all, no_memory}
use Rattle.pb_epd.proofs.TokenLists.{found_first}
use Rattle.pb_epd.proofs.read.read_tokens.Goals as goal

-- the first words as tokens
abbrev tokens_of : List (Bor (List ℕ)) → List Token
tokens_of words = map word (map (λ w. w.now) words)

few : (words : List (Bor (List ℕ))) (n : ℕ) → n < 4 → length (tokens_of (take n words)) < 4
few words n lt = omega (arith, lt, length-map (map (λ (w : Bor (List ℕ)). w.now) (take n words)) word, length-map (take n words) (λ w. w.now), length-take n words)

no_fields : (bytes : List ℕ) (words : List (Bor (List ℕ))) (n : ℕ) (last : Token) (rest : List ℕ) → n < 4 → HasRead end_mark bytes (tokens_of (take n words)) last rest
    → ((w : List ℕ) (us : List Token) → ¬ TokensAfter last (word w ∷ us) rest) → (ts : List Token) → Tokens ts bytes → IsFirstDueEpd epd.Fields bytes
no_fields bytes words n last rest lt read none ts tokens = fields_first bytes ts tokens (no_fourth bytes _ last rest read (few words n lt) none)

pub returns-in_default-clause-refused : goal.returns-in_default-clause-refused
returns-in_default-clause-refused c =
    no_fields _ c.loop-n.four c.loop-n.n _ _ c.loop-n-test.true c.loop-n.invariant.read
    (λ w us h. let none = no_step _ _ _ (word w ∷ us) c.next_token.ensures c.in_default.not-Found h in cc (none))

pub returns-in_default-token-clause-refused : goal.returns-in_default-token-clause-refused
returns-in_default-token-clause-refused c =
    no_fields _ c.loop-n.four c.loop-n.n _ _ c.loop-n-test.true c.loop-n.invariant.read
    (λ w us h. no_word c.in-Found.token w (first_is _ _ _ _ (found_first _ _ (word w ∷ us) _ _ h c.in-Found.ensures)) c.in_default-token.not-Word)

tokens_more : (words : List (Bor (List ℕ))) (n : ℕ) (bytes : Bor (List ℕ)) → n < length words → tokens_of (take (n + 1) (slice_set words n bytes)) ≡ tokens_of (take n words) ++ word bytes.now ∷ []
tokens_more words n bytes lt =
    ap tokens_of (take_more_set words n bytes lt) ∙ ap (map word) (map_push (λ w. w.now) (take n words) bytes)
    ∙ map_push word (map (λ w. w.now) (take n words)) bytes.now

pub loop-n-preserved : goal.loop-n-preserved
loop-n-preserved c =
    let now = c.loop-n.invariant in
    let front = tokens_of (take c.loop-n.n c.loop-n.four) in
    let is = ap (λ t. front ++ token_of t ∷ []) c.in-Word.is ∙ sym (tokens_more c.loop-n.four c.loop-n.n c.in-Word.bytes (omega (arith, now.size, c.loop-n-test.true))) in
    record {
      size = length-set c.loop-n.four c.loop-n.n c.in-Word.bytes ∙ now.size;
      read = subst (λ ts. HasRead end_mark c.args.text.now ts (token_of c.in-Found.token) c.in-Found.after.now) is (read_more _ _ front _ _ _ _ now.read c.in-Found.ensures);
    }

four_read : (bytes : List ℕ) (words : List (Bor (List ℕ))) (n : ℕ) (last : Token) (rest : List ℕ) → length words ≤ n → HasRead end_mark bytes (tokens_of (take n words)) last rest → (ts : List Token) → Tokens ts bytes → Follow (tokens_of words) last ts rest
four_read bytes words n last rest all read = (subst (λ ws. HasRead end_mark bytes (tokens_of ws) last rest) (take_all n words all) read).tokens

pub returns-in-Err-clause-refused : goal.returns-in-Err-clause-refused
returns-in-Err-clause-refused c = setup_refused _ _ _ _ (length-map c.loop-n.four (λ w. w.now) ∙ c.loop-n.invariant.size) (four_read _ c.loop-n.four c.loop-n.n _ _ (omega (arith, c.loop-n.invariant.size, c.loop-n-test.false)) c.loop-n.invariant.read) _ c.in-Err.ensures.refused

each_ok : {T E : Type 0} (P Q : T → Type 0) (r : Result T E) → ((x : T) → P x → Q x) → IfOk r P → IfOk r Q
each_ok P Q (Ok x) then h = then x h
each_ok P Q (Err x) then h = tt

each_err : {T E : Type 0} (P Q : E → Type 0) (r : Result T E) → ((x : E) → P x → Q x) → IfErr r P → IfErr r Q
each_err P Q (Ok x) then h = tt
each_err P Q (Err x) then h = then x h

pub returns-clause-found : goal.returns-clause-found
returns-clause-found c =
    each_ok _ _ c.read_operations.result (λ e h. found_all _ _ _ _ (ap length c.in-Ok.ensures.found.1) (four_read _ c.loop-n.four c.loop-n.n _ _ (omega (arith, c.loop-n.invariant.size, c.loop-n-test.false)) c.loop-n.invariant.read) _ c.in-Ok.ensures.found.0 c.in-Ok.ensures.found.1 c.loop-n.invariant.read.back e h) c.read_operations.ensures.found

pub returns-clause-refused : goal.returns-clause-refused
returns-clause-refused c =
    each_err _ _ c.read_operations.result (λ x h. refused_all _ _ _ _ (ap length c.in-Ok.ensures.found.1) (four_read _ c.loop-n.four c.loop-n.n _ _ (omega (arith, c.loop-n.invariant.size, c.loop-n-test.false)) c.loop-n.invariant.read) _ c.in-Ok.ensures.found.0 c.in-Ok.ensures.found.1 x h) c.read_operations.ensures.refused

pub returns-clause-memory : goal.returns-clause-memory
returns-clause-memory c = each_err _ _ c.read_operations.result (λ x h. no_memory _ _ _ _ (ap length c.in-Ok.ensures.found.1) (four_read _ c.loop-n.four c.loop-n.n _ _ (omega (arith, c.loop-n.invariant.size, c.loop-n-test.false)) c.loop-n.invariant.read) x h) c.read_operations.ensures.refused
