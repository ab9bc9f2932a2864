-- The tokens before a place of a line, and the first bad token.
use Rattle.std.proofs.Common.{◌≡◌, ◌≢◌, ℕ, zero, suc, ◌+◌, ◌-◌, ◌<◌, ◌≤◌, List, [], ◌∷◌, ◌++◌, length, take, drop, replicate, refl, sym, ap, subst, ◌∙◌, inl, inr, arith, add-one}
use Rattle.std.specs.Prelude.{All}
use Rattle.std.proofs.lemmas.List.{append_assoc, append-nil, drop_all, length-append, length-replicate, length-take, replicate_more, same_from_push, take_all, take-append-drop}
use Rattle.std.proofs.lemmas.Bool.{cases_lt}
use Rattle.std.proofs.Math.Seq.{drop-append-add, drop-append_seam, take-append-add, take-append_seam}
use Rattle.std.proofs.lemmas.List.Elements.{All-head, All-tail}
use Rattle.pb_epd.specs.Token.{Token, word, quoted, end_mark, IsToken, IsWordByte, TokensAfter, Tokens, token_text, IsBadAt}
use Rattle.pb_epd.specs.Lexeme.{MayFollow, BeginsUnspaced, BeginsWithWordByte, IsStuck, IsWholeBefore, NextIs}
use Rattle.pb_epd.proofs.Lexing.{begins_unspaced, no_word_end, no_word_quote, spaces_alone, spaces_one}
use Rattle.pb_epd.proofs.TokenLists.{after_spaces, no_word_space, tokens_steps, found_first, tokens_spaces, EndsInToken, ends_back, unended_spaces, tokens_push, last_push, last_token}

-- ---- a token ends in no space

record Last (P : ℕ → Type 0) (bytes : List ℕ) : Type 0 where
  front : List ℕ
  byte : ℕ
  is : bytes ≡ front ++ byte ∷ []
  kind : P byte

last_of : (P : ℕ → Type 0) (bytes : List ℕ) → 1 ≤ length bytes → All P bytes → Last P bytes
last_of P [] some h = absurd (omega (arith, some))
last_of P (b ∷ []) some h = record { front = []; byte = b; is = refl; kind = All-head P b [] h }
last_of P (b ∷ c ∷ bytes) some h =
    let l = last_of P (c ∷ bytes) (omega arith) (All-tail P b (c ∷ bytes) h) in
    record { front = b ∷ l.front; byte = l.byte; is = ap (λ w. b ∷ w) l.is; kind = l.kind }

byte_ends : (front bytes : List ℕ) (b : ℕ) → b ≢ 32 → bytes ≡ front ++ b ∷ [] → EndsInToken bytes
byte_ends front bytes b other is kept e = other (same_from_push front kept b 32 (sym is ∙ e)).1

pub token_ends : (front : List ℕ) (t : Token) → IsToken t → EndsInToken (front ++ token_text t)
token_ends front (word w) is =
    let l = last_of IsWordByte w is.0 is.2 in
    byte_ends (front ++ l.front) (front ++ w) l.byte (λ e. omega (arith, l.kind.low, e)) (ap (λ x. front ++ x) l.is ∙ sym (append_assoc front l.front (l.byte ∷ [])))
token_ends front (quoted w) is = byte_ends (front ++ 34 ∷ w) (front ++ 34 ∷ (w ++ 34 ∷ [])) 34 (λ e. omega (arith, e)) (sym (append_assoc front (34 ∷ w) (34 ∷ [])))
token_ends front end_mark is = byte_ends front (front ++ 59 ∷ []) 59 (λ e. omega (arith, e)) refl

nothing_ends : EndsInToken []
nothing_ends kept e = omega (arith, ap length e, length-append kept (32 ∷ []))

some_token : (t : Token) → IsToken t → 1 ≤ length (token_text t)
some_token (word w) is = is.0
some_token (quoted w) is = omega arith
some_token end_mark is = omega arith

pub steps_shorter : (before : Token) (bytes : List ℕ) (t : Token) (rest : List ℕ) → NextIs before bytes t rest → length rest < length bytes
steps_shorter before bytes t rest h =
    omega (arith, ap length h.cut, length-append (replicate h.spaces 32) h.back, ap length h.begins.stands, length-append (token_text t) rest, some_token t h.begins.is_token)

-- ---- a word doesn't go on behind a whole token

-- no word of the front goes on in the rest
abbrev Uncut : List ℕ → List ℕ → Type 0
Uncut front rest = (kept more : List ℕ) (a b : ℕ) → front ≡ kept ++ a ∷ [] → rest ≡ b ∷ more → IsWordByte a → ¬ IsWordByte b

ends_other : (front rest : List ℕ) (c : ℕ) → ¬ IsWordByte c → Uncut (front ++ c ∷ []) rest
ends_other front rest c other kept more a b is next h k = other (subst IsWordByte (sym (same_from_push front kept c a is).1) h)

begins_other : (front rest : List ℕ) → ¬ BeginsWithWordByte rest → Uncut front rest
begins_other front rest other kept more a b is next h k = other (subst BeginsWithWordByte (sym next) k)

token_uncut : (front : List ℕ) (t : Token) (rest : List ℕ) → IsWholeBefore t rest → Uncut (front ++ token_text t) rest
token_uncut front (word w) rest whole = begins_other (front ++ w) rest whole
token_uncut front (quoted w) rest whole = subst (λ x. Uncut x rest) (append_assoc front (34 ∷ w) (34 ∷ [])) (ends_other (front ++ 34 ∷ w) rest 34 no_word_quote)
token_uncut front end_mark rest whole = ends_other front rest 59 no_word_end

nothing_uncut : (rest : List ℕ) → Uncut [] rest
nothing_uncut rest kept more a b is next h k = omega (arith, ap length is, length-append kept (a ∷ []))

spaces_uncut : (n : ℕ) (front back : List ℕ) → Uncut front (replicate n 32 ++ back) → Uncut (front ++ replicate n 32) back
spaces_uncut zero front back h = subst (λ x. Uncut x back) (sym (append-nil front)) h
spaces_uncut (suc n) front back h =
    let last : front ++ replicate (suc n) 32 ≡ (front ++ replicate n 32) ++ 32 ∷ [] =
    ap (λ w. front ++ w) (sym (replicate_more n 32 ∙ ap (λ m. replicate m 32) (add-one n))) ∙ sym (append_assoc front (replicate n 32) (32 ∷ [])) in
    subst (λ x. Uncut x back) (sym last) (ends_other (front ++ replicate n 32) back 32 no_word_space)

uncut_behind : (front back rest : List ℕ) → Uncut (front ++ back) rest → Uncut back rest
uncut_behind front back rest h kept more a b is next k l =
    h (front ++ kept) more a b (ap (λ w. front ++ w) is ∙ sym (append_assoc front kept (a ∷ []))) next k l

-- ---- reading on

-- whole tokens stand before the rest, the last of them this one
pub record Lexed (bytes : List ℕ) (before : Token) (rest : List ℕ) : Type 0 where
  pub tokens : List Token
  pub front : List ℕ
  pub cut : bytes ≡ front ++ rest
  pub are : Tokens tokens front
  pub last : last_token end_mark tokens ≡ before
  pub ends : EndsInToken front
  pub whole : IsWholeBefore before rest
  pub uncut : Uncut front rest

pub lexed_start : (bytes : List ℕ) → Lexed bytes end_mark bytes
lexed_start bytes = record { tokens = []; front = []; cut = refl; are = (0, refl); last = refl; ends = nothing_ends; whole = tt; uncut = nothing_uncut bytes }

pub lexed_more : (bytes : List ℕ) (before : Token) (rest : List ℕ) (t : Token) (after : List ℕ) → Lexed bytes before rest → NextIs before rest t after → Lexed bytes t after
lexed_more bytes before rest t after h k =
    let spaces = replicate k.spaces 32 in
    record {
      tokens = h.tokens ++ t ∷ [];
      front = h.front ++ (spaces ++ token_text t);
      cut =
          h.cut ∙ ap (λ w. h.front ++ w) (k.cut ∙ ap (λ w. spaces ++ w) k.begins.stands ∙ sym (append_assoc spaces (token_text t) after))
          ∙ sym (append_assoc h.front (spaces ++ token_text t) after);
      are = tokens_push end_mark h.tokens h.front k.spaces t h.are h.ends k.begins.is_token (subst (λ b. MayFollow b k.spaces t) (sym h.last) k.follows);
      last = last_push end_mark h.tokens t;
      ends = subst EndsInToken (append_assoc h.front spaces (token_text t)) (token_ends (h.front ++ spaces) t k.begins.is_token);
      whole = k.begins.whole;
      uncut = subst (λ x. Uncut x after) (append_assoc h.front spaces (token_text t)) (token_uncut (h.front ++ spaces) t after k.begins.whole);
    }

pub lexed_done : (bytes : List ℕ) (before : Token) (rest : List ℕ) (n : ℕ) → (h : Lexed bytes before rest) → rest ≡ replicate n 32 → Tokens h.tokens bytes
lexed_done bytes before rest n h is = subst (λ w. Tokens h.tokens w) (sym (h.cut ∙ ap (λ w. h.front ++ w) is)) (tokens_spaces end_mark h.tokens h.front n h.are)

-- ---- the tokens of a longer front go on after those of a front

begins_front : (r rest : List ℕ) → 1 ≤ length r → BeginsWithWordByte (r ++ rest) → BeginsWithWordByte r
begins_front [] rest some h = absurd (omega (arith, some))
begins_front (b ∷ r) rest some h = h

only_front : (n : ℕ) (front : List ℕ) → front ≡ replicate n 32 → EndsInToken front → front ≡ []
only_front n front is ends = is ∙ ap (λ m. replicate m 32) (unended_spaces n (subst EndsInToken is ends))

word_on : (w : List ℕ) (ts : List Token) (r rest : List ℕ) → TokensAfter (word w) ts r → ¬ BeginsWithWordByte r → EndsInToken r → IsWholeBefore (last_token (word w) ts) rest → ¬ BeginsWithWordByte (r ++ rest)
word_on w [] r rest h alone ends whole = λ k. whole (subst (λ x. BeginsWithWordByte (x ++ rest)) (only_front h.0 r h.1 ends) k)
word_on w (t ∷ ts) r rest h alone ends whole = λ k. alone (begins_front r rest (omega (arith, steps_shorter (word w) r t h.1 (tokens_steps (word w) t ts r h))) k)

whole_on : (t : Token) (ts : List Token) (r rest : List ℕ) → TokensAfter t ts r → IsWholeBefore t r → EndsInToken r → IsWholeBefore (last_token t ts) rest → IsWholeBefore t (r ++ rest)
whole_on (word w) ts r rest h alone ends whole = word_on w ts r rest h alone ends whole
whole_on (quoted w) ts r rest h alone ends whole = tt
whole_on end_mark ts r rest h alone ends whole = tt

-- whole tokens, and what follows them
record Front (before : Token) (ts : List Token) (front rest : List ℕ) : Type 0 where
  are : TokensAfter before ts front
  ends : EndsInToken front
  whole : IsWholeBefore (last_token before ts) rest

front_steps : (before t : Token) (ts : List Token) (front rest : List ℕ) → (h : Front before (t ∷ ts) front rest) → NextIs before (front ++ rest) t (h.are.1 ++ rest)
front_steps before t ts front rest h =
    let k = tokens_steps before t ts front h.are in
    let inner = ends_back (token_text t) h.are.1 (ends_back (replicate h.are.0 32) (token_text t ++ h.are.1) (subst EndsInToken h.are.4 h.ends)) in
    record {
      spaces = h.are.0;
      back = token_text t ++ (h.are.1 ++ rest);
      cut =
          ap (λ w. w ++ rest) h.are.4 ∙ append_assoc (replicate h.are.0 32) (token_text t ++ h.are.1) rest
          ∙ ap (λ w. replicate h.are.0 32 ++ w) (append_assoc (token_text t) h.are.1 rest);
      begins = record { is_token = h.are.2; stands = refl; whole = whole_on t ts h.are.1 rest h.are.5 k.begins.whole inner h.whole };
      follows = h.are.3;
    }

front_next : (before t : Token) (ts : List Token) (front rest : List ℕ) → (h : Front before (t ∷ ts) front rest) → Front t ts h.are.1 rest
front_next before t ts front rest h = record {
  are = h.are.5;
  ends = ends_back (token_text t) h.are.1 (ends_back (replicate h.are.0 32) (token_text t ++ h.are.1) (subst EndsInToken h.are.4 h.ends));
  whole = h.whole;
}

-- the tokens of the whole go on after those of the front
front_goes_on : (before : Token) (ts us : List Token) (front rest : List ℕ) → Front before ts front rest → TokensAfter before us (front ++ rest) → (vs : List Token) × TokensAfter (last_token before ts) vs rest
front_goes_on before [] us front rest h k = (us, subst (λ w. TokensAfter before us (w ++ rest)) (only_front h.are.0 front h.are.1 h.ends) k)
front_goes_on before (t ∷ ts) us front rest h k =
    let f = found_first before t us (front ++ rest) (h.are.1 ++ rest) k (front_steps before t ts front rest h) in
    front_goes_on t ts f.others h.are.1 rest (front_next before t ts front rest h) f.after

-- ---- the first bad token

-- a token that is whole at the end of its text, and that is left uncut there
goes_on : (t : Token) (r rest : List ℕ) → IsWholeBefore t r → Uncut (token_text t ++ r) rest → IsToken t → IsWholeBefore t (r ++ rest)
goes_on (word w) [] rest whole uncut is = λ k.
    let l = last_of IsWordByte w is.0 is.2 in
    uncut_begins w rest l.front l.byte (subst (λ x. Uncut x rest) (append-nil w) uncut) l.is l.kind k
  where
    uncut_begins : (w rest front : List ℕ) (a : ℕ) → Uncut w rest → w ≡ front ++ a ∷ [] → IsWordByte a → ¬ BeginsWithWordByte rest
    uncut_begins w [] front a uncut is kind k = k
    uncut_begins w (b ∷ rest) front a uncut is kind k = uncut front rest a b is refl kind k
goes_on (word w) (b ∷ r) rest whole uncut is = whole
goes_on (quoted w) r rest whole uncut is = tt
goes_on end_mark r rest whole uncut is = tt

-- a longer front that is uncut, where the front before a bad token ends
begins_more : (p left : List ℕ) → BeginsWithWordByte p → BeginsWithWordByte (p ++ left)
begins_more [] left b = absurd b
begins_more (x ∷ p) left b = b

unspaced_some : (bytes : List ℕ) → BeginsUnspaced bytes → 1 ≤ length bytes
unspaced_some [] u = absurd u
unspaced_some (b ∷ bytes) u = omega arith

module _ (bytes : List ℕ) (before : Token) (rest : List ℕ) (n : ℕ) (h : Lexed bytes before rest) (k : IsStuck before rest n) (p left : List ℕ) (cut : k.back ≡ p ++ left) (some : 1 ≤ length p) where
  unspaced_front : BeginsUnspaced p
  unspaced_front = begin p left some (subst BeginsUnspaced cut k.unspaced)
    where
      begin : (p left : List ℕ) → 1 ≤ length p → BeginsUnspaced (p ++ left) → BeginsUnspaced p
      begin [] left some u = absurd (omega (arith, some))
      begin (b ∷ p) left some u = u

  uncut_back : (t : Token) (m : ℕ) → m ≡ n → IsWholeBefore t rest → IsWholeBefore t (replicate m 32 ++ p)
  uncut_back t (suc m) is whole = after_spaces t (suc m) p (omega arith)
  uncut_back (quoted w) zero is whole = tt
  uncut_back end_mark zero is whole = tt
  uncut_back (word w) zero is whole = λ b.
      let here : rest ≡ p ++ left = k.cut ∙ ap (λ m. replicate m 32 ++ k.back) (sym is) ∙ cut in
      whole (subst BeginsWithWordByte (sym here) (begins_more p left b))

  front_of : Front end_mark h.tokens h.front (replicate n 32 ++ p)
  front_of = record { are = h.are; ends = h.ends; whole = subst (λ t. IsWholeBefore t (replicate n 32 ++ p)) (sym h.last) (uncut_back before n refl h.whole) }

  none_on : (vs : List Token) → TokensAfter before vs (replicate n 32 ++ p) → Uncut (h.front ++ (replicate n 32 ++ p)) left → ⊥
  none_on [] on uncut = spaces_alone on.0 n p unspaced_front (sym on.1)
  none_on (t ∷ vs) on uncut =
      let s = tokens_steps before t vs (replicate n 32 ++ p) on in
      let o = spaces_one n s.spaces p s.back unspaced_front (begins_unspaced s.back t on.1 s.begins) s.cut in
      let is : p ≡ token_text t ++ on.1 = o.1 ∙ s.begins.stands in
      let uncut_token : Uncut (token_text t ++ on.1) left = uncut_behind (h.front ++ replicate n 32) (token_text t ++ on.1) left (subst (λ x. Uncut x left) (sym (append_assoc h.front (replicate n 32) p) ∙ ap (λ w. (h.front ++ replicate n 32) ++ w) is) uncut) in
      k.bad t (on.1 ++ left) (record {
        is_token = s.begins.is_token;
        stands = cut ∙ ap (λ w. w ++ left) is ∙ append_assoc (token_text t) on.1 left;
        whole = goes_on t on.1 left s.begins.whole uncut_token s.begins.is_token;
      }) (subst (λ m. MayFollow before m t) (sym o.0) s.follows)

  pub no_longer : (us : List Token) → Tokens us (h.front ++ (replicate n 32 ++ p)) → Uncut (h.front ++ (replicate n 32 ++ p)) left → ⊥
  no_longer us are uncut =
      let on = front_goes_on end_mark h.tokens us h.front (replicate n 32 ++ p) front_of are in
      none_on on.0 (subst (λ t. TokensAfter t on.0 (replicate n 32 ++ p)) h.last on.1) uncut

pub lexed_bad : (bytes : List ℕ) (before : Token) (rest : List ℕ) (n at : ℕ) → Lexed bytes before rest → IsStuck before rest n → at ≡ length bytes - length rest + n → IsBadAt bytes at
lexed_bad bytes before rest n at h k is =
    let front = h.front ++ replicate n 32 in
    let whole_is : bytes ≡ front ++ k.back = h.cut ∙ ap (λ w. h.front ++ w) k.cut ∙ sym (append_assoc h.front (replicate n 32) k.back) in
    let place : at ≡ length front = omega (arith, is, ap length h.cut, length-append h.front rest, length-append h.front (replicate n 32), length-replicate {A = ℕ} n 32) in
    let some : 1 ≤ length k.back = unspaced_some k.back k.unspaced in
    let taken : take at bytes ≡ front = ap (λ m. take m bytes) place ∙ ap (take (length front)) whole_is ∙ take-append_seam front k.back in
    let left : drop at bytes ≡ k.back = ap (λ m. drop m bytes) place ∙ ap (drop (length front)) whole_is ∙ drop-append_seam front k.back in
    record {
      within = omega (arith, place, ap length whole_is, length-append front k.back, some);
      whole = record {
        tokens = h.tokens;
        are = subst (λ w. Tokens h.tokens w) (sym taken) (tokens_spaces end_mark h.tokens h.front n h.are);
        uncut = rw (taken, left) (spaces_uncut n h.front k.back (subst (Uncut h.front) k.cut h.uncut));
      };
      longest = λ m other.
          elim (cases_lt at m) [
            | inr le ↦ le
            | inl lt ↦
                let d = m - at in
                let far : m ≡ length front + d = omega (arith, place, lt) in
                let p = take d k.back in
                let longer : take m bytes ≡ h.front ++ (replicate n 32 ++ p) =
                ap (λ i. take i bytes) far ∙ ap (take (length front + d)) whole_is ∙ take-append-add front k.back d ∙ append_assoc h.front (replicate n 32) p in
                let behind : drop m bytes ≡ drop d k.back =
                ap (λ i. drop i bytes) far ∙ ap (drop (length front + d)) whole_is ∙ drop-append-add front k.back d in
                absurd (no_longer bytes before rest n h k p (drop d k.back) (sym (take-append-drop d k.back)) (omega (arith, length-take d k.back, some, lt)) other.tokens
                (subst (λ w. Tokens other.tokens w) longer other.are)
                (subst (λ w. Uncut (h.front ++ (replicate n 32 ++ p)) w) behind (subst (λ w. Uncut w (drop m bytes)) longer other.uncut)))
          ];
    }

-- a line with a bad token is no tokens
pub bad_none : (bytes : List ℕ) (at : ℕ) → IsBadAt bytes at → (ts : List Token) → Tokens ts bytes → ⊥
bad_none bytes at h ts tokens =
    let all = h.longest (length bytes) (record {
      tokens = ts;
      are = subst (λ w. Tokens ts w) (sym (take_all (length bytes) bytes (omega arith))) tokens;
      uncut = subst (λ w. Uncut (take (length bytes) bytes) w) (sym (drop_all (length bytes) bytes (omega arith))) (begins_other (take (length bytes) bytes) [] (λ k. k));
    }) in
    omega (arith, all, h.within)

pub bad_one : (bytes : List ℕ) (a b : ℕ) → IsBadAt bytes a → IsBadAt bytes b → a ≡ b
bad_one bytes a b h k = omega (arith, h.longest b k.whole, k.longest a h.whole)
