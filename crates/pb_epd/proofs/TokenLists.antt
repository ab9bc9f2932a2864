-- Lists of tokens that stand in bytes: no bytes have two.
use Rattle.std.proofs.Common.{◌≡◌, ◌≢◌, ℕ, zero, suc, ◌+◌, ◌≤◌, List, [], ◌∷◌, ◌++◌, replicate, refl, sym, ap, subst, ◌∙◌, arith, add-one}
use Rattle.std.proofs.lemmas.List.{append_assoc, append-nil, replicate-append-replicate, replicate_more}
use Rattle.pb_epd.specs.Token.{Token, word, quoted, end_mark, IsToken, IsWordByte, TokensAfter, token_text}
use Rattle.pb_epd.specs.Lexeme.{MayFollow, IsWholeBefore, BeginsWithWordByte, NextIs, IsStuck}
use Rattle.pb_epd.specs.Reading.{Follow}
use Rattle.pb_epd.proofs.Lexing.{spaces_alone, steps_one, stuck_steps, begins_unspaced, no_word_end}

pub no_word_space : ¬ IsWordByte 32
no_word_space h = omega (arith, h.low)

-- ---- a token is whole before what follows it

spaces_begin : (n : ℕ) (bytes : List ℕ) → 1 ≤ n → BeginsWithWordByte (replicate n 32 ++ bytes) → ⊥
spaces_begin zero bytes some h = omega (arith, some)
spaces_begin (suc n) bytes some h = no_word_space h

only_spaces_begin : (n : ℕ) → BeginsWithWordByte (replicate n 32) → ⊥
only_spaces_begin zero h = h
only_spaces_begin (suc n) h = no_word_space h

pub after_spaces : (t : Token) (n : ℕ) (bytes : List ℕ) → 1 ≤ n → IsWholeBefore t (replicate n 32 ++ bytes)
after_spaces (word w) n bytes some = spaces_begin n bytes some
after_spaces (quoted w) n bytes some = tt
after_spaces end_mark n bytes some = tt

word_whole : (w : List ℕ) (ts : List Token) (rest : List ℕ) → TokensAfter (word w) ts rest → ¬ BeginsWithWordByte rest
word_whole w [] rest h = λ k. only_spaces_begin h.0 (subst BeginsWithWordByte h.1 k)
word_whole w (word u ∷ ts) rest h = λ k. spaces_begin h.0 (u ++ h.1) (h.3 (λ e. cc (e)) (λ e. cc (e))) (subst BeginsWithWordByte h.4 k)
word_whole w (quoted u ∷ ts) rest h = λ k. spaces_begin h.0 ((34 ∷ (u ++ 34 ∷ [])) ++ h.1) (h.3 (λ e. cc (e)) (λ e. cc (e))) (subst BeginsWithWordByte h.4 k)
word_whole w (end_mark ∷ ts) rest h = λ k. before_end h.0 h.1 (subst BeginsWithWordByte h.4 k)
  where
    before_end : (n : ℕ) (r : List ℕ) → BeginsWithWordByte (replicate n 32 ++ 59 ∷ r) → ⊥
    before_end zero r k = no_word_end k
    before_end (suc n) r k = no_word_space k

pub tokens_whole : (t : Token) (ts : List Token) (rest : List ℕ) → TokensAfter t ts rest → IsWholeBefore t rest
tokens_whole (word w) ts rest h = word_whole w ts rest h
tokens_whole (quoted w) ts rest h = tt
tokens_whole end_mark ts rest h = tt

-- ---- the first token of a list, and the others

pub tokens_steps : (before t : Token) (ts : List Token) (bytes : List ℕ) → (h : TokensAfter before (t ∷ ts) bytes) → NextIs before bytes t h.1
tokens_steps before t ts bytes h = record {
  spaces = h.0;
  back = token_text t ++ h.1;
  cut = h.4;
  begins = record { is_token = h.2; stands = refl; whole = tokens_whole t ts h.1 h.5 };
  follows = h.3;
}

pub steps_tokens : (before t : Token) (ts : List Token) (bytes rest : List ℕ) → NextIs before bytes t rest → TokensAfter t ts rest → TokensAfter before (t ∷ ts) bytes
steps_tokens before t ts bytes rest h k = (h.spaces, rest, h.begins.is_token, h.follows, h.cut ∙ ap (λ w. replicate h.spaces 32 ++ w) h.begins.stands, k)

-- where a token comes first, it is the first of the list
pub found_first : (before t : Token) (ts : List Token) (bytes rest : List ℕ) → TokensAfter before ts bytes → NextIs before bytes t rest → Follow (t ∷ []) t ts rest
found_first before t [] bytes rest h k = absurd (spaces_alone h.0 k.spaces k.back (begins_unspaced k.back t rest k.begins) (sym h.1 ∙ k.cut))
found_first before t (u ∷ ts) bytes rest h k =
    let o = steps_one before bytes u t h.1 rest (tokens_steps before u ts bytes h) k in
    record { others = ts; is = ap (λ x. x ∷ ts) o.0; after = subst (λ r. TokensAfter t ts r) o.1 (subst (λ x. TokensAfter x ts h.1) o.0 h.5) }

pub stuck_none : (before : Token) (ts : List Token) (bytes : List ℕ) (n : ℕ) → IsStuck before bytes n → TokensAfter before ts bytes → ⊥
stuck_none before [] bytes n h k = spaces_alone k.0 n h.back h.unspaced (sym k.1 ∙ h.cut)
stuck_none before (t ∷ ts) bytes n h k = stuck_steps before bytes n t k.1 h (tokens_steps before t ts bytes k)

pub done_only : (before : Token) (ts : List Token) (bytes : List ℕ) (n : ℕ) → bytes ≡ replicate n 32 → TokensAfter before ts bytes → ts ≡ []
done_only before [] bytes n is h = refl
done_only before (t ∷ ts) bytes n is h =
    let k = tokens_steps before t ts bytes h in
    absurd (spaces_alone n k.spaces k.back (begins_unspaced k.back t h.1 k.begins) (sym is ∙ k.cut))

pub tokens_one : (before : Token) (ts us : List Token) (bytes : List ℕ) → TokensAfter before ts bytes → TokensAfter before us bytes → ts ≡ us
tokens_one before [] us bytes h k = sym (done_only before us bytes h.0 h.1 k)
tokens_one before (t ∷ ts) us bytes h k =
    let f = found_first before t us bytes h.1 k (tokens_steps before t ts bytes h) in
    ap (λ x. t ∷ x) (tokens_one t ts f.others h.1 h.5 f.after) ∙ sym f.is

-- ---- more at the end

pub tokens_spaces : (before : Token) (ts : List Token) (bytes : List ℕ) (n : ℕ) → TokensAfter before ts bytes → TokensAfter before ts (bytes ++ replicate n 32)
tokens_spaces before [] bytes n h = (h.0 + n, ap (λ w. w ++ replicate n 32) h.1 ∙ replicate-append-replicate h.0 n 32)
tokens_spaces before (t ∷ ts) bytes n h = (
  h.0,
  h.1 ++ replicate n 32,
  h.2,
  h.3,
  ap (λ w. w ++ replicate n 32) h.4 ∙ append_assoc (replicate h.0 32) (token_text t ++ h.1) (replicate n 32) ∙ ap (λ w. replicate h.0 32 ++ w) (append_assoc (token_text t) h.1 (replicate n 32)),
  tokens_spaces t ts h.1 n h.5,
)

-- the last byte is no space
abbrev pub EndsInToken : List ℕ → Type 0
EndsInToken bytes = (kept : List ℕ) → bytes ≢ kept ++ 32 ∷ []

pub unended_spaces : (n : ℕ) → EndsInToken (replicate n 32) → n ≡ 0
unended_spaces zero h = refl
unended_spaces (suc n) h = absurd (h (replicate n 32) (sym (replicate_more n 32 ∙ ap (λ m. replicate m 32) (add-one n))))

pub ends_back : (front bytes : List ℕ) → EndsInToken (front ++ bytes) → EndsInToken bytes
ends_back front bytes h kept e = h (front ++ kept) (ap (λ w. front ++ w) e ∙ sym (append_assoc front kept (32 ∷ [])))

-- the last of the tokens, where there is one, and else the one before them
abbrev pub last_token : Token → List Token → Token
last_token before [] = before
last_token before (t ∷ ts) = last_token t ts

-- one more token
pub tokens_push : (before : Token) (ts : List Token) (bytes : List ℕ) (n : ℕ) (t : Token) → TokensAfter before ts bytes → EndsInToken bytes → IsToken t → MayFollow (last_token before ts) n t → TokensAfter before (ts ++ t ∷ []) (bytes ++ (replicate n 32 ++ token_text t))
tokens_push before [] bytes n t h ends is follows =
    let none : bytes ≡ [] = h.1 ∙ ap (λ m. replicate m 32) (unended_spaces h.0 (subst EndsInToken h.1 ends)) in
    (n, [], is, follows, ap (λ w. w ++ (replicate n 32 ++ token_text t)) none ∙ ap (λ w. replicate n 32 ++ w) (sym (append-nil (token_text t))), (0, refl))
tokens_push before (u ∷ ts) bytes n t h ends is follows =
    let inner : EndsInToken h.1 = ends_back (token_text u) h.1 (ends_back (replicate h.0 32) (token_text u ++ h.1) (subst EndsInToken h.4 ends)) in
    let more = replicate n 32 ++ token_text t in (
      h.0,
      h.1 ++ more,
      h.2,
      h.3,
      ap (λ w. w ++ more) h.4 ∙ append_assoc (replicate h.0 32) (token_text u ++ h.1) more ∙ ap (λ w. replicate h.0 32 ++ w) (append_assoc (token_text u) h.1 more),
      tokens_push u ts h.1 n t h.5 inner is follows,
    )

pub last_push : (before : Token) (ts : List Token) (t : Token) → last_token before (ts ++ t ∷ []) ≡ t
last_push before [] t = refl
last_push before (u ∷ ts) t = last_push u ts t
