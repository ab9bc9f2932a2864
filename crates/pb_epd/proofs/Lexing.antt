-- The token that begins the bytes.
use Rattle.std.proofs.Common.{◌≡◌, ◌≢◌, ℕ, ◌+◌, ◌<◌, ◌≤◌, ◌⊎◌, List, [], ◌∷◌, ◌++◌, length, take, drop, get_or, replicate, refl, sym, ap, subst, ◌∙◌, inl, inr, arith}
use Rattle.std.specs.Prelude.{All}
use Rattle.std.proofs.lemmas.List.{take-append-drop, append_assoc, append-nil, drop_all, drop_more, length-drop, length-replicate}
use Rattle.std.proofs.lemmas.List.Elements.{All-head, All-tail, All-replicate}
use Rattle.pb_epd.specs.Run.{IsRun}
use Rattle.pb_epd.specs.Token.{Token, word, quoted, end_mark, IsToken, IsWordByte, IsQuotedByte}
use Rattle.pb_epd.specs.Lexeme.{IsOperandToken, MayFollow, IsWholeBefore, BeginsWithWordByte, BeginsUnspaced, Begins, NextIs, IsStuck}
use Rattle.pb_epd.proofs.Runs.{Stops, same_run, run_inside, run_stops, run_only, run_length}

pub whole_from_stops : (bytes : List ℕ) → Stops IsWordByte bytes → ¬ BeginsWithWordByte bytes
whole_from_stops [] h = λ k. k
whole_from_stops (b ∷ bytes) h = h

pub stops_from_whole : (bytes : List ℕ) → ¬ BeginsWithWordByte bytes → Stops IsWordByte bytes
stops_from_whole [] h = tt
stops_from_whole (b ∷ bytes) h = h

pub first_same : (a b : ℕ) (x y : List ℕ) → a ∷ x ≡ b ∷ y → a ≡ b
first_same a b x y e = cc

-- ---- words

pub word_begins : (bytes : List ℕ) (n : ℕ) → IsRun IsWordByte bytes n → n ≢ 0 → n ≤ 255 → Begins bytes (word (take n bytes)) (drop n bytes)
word_begins bytes n h some short = record {
  is_token = (omega (arith, run_length IsWordByte bytes n h), omega (arith, run_length IsWordByte bytes n h), run_inside IsWordByte bytes n h);
  stands = sym (take-append-drop n bytes);
  whole = whole_from_stops (drop n bytes) (run_stops IsWordByte bytes n h);
}

pub no_word : (bytes : List ℕ) (n : ℕ) → IsRun IsWordByte bytes n → (n ≡ 0) ⊎ (255 < n) → (w r : List ℕ) → Begins bytes (word w) r → ⊥
no_word bytes n h bad w r b =
    let o = run_only IsWordByte bytes n h w r b.is_token.2 (stops_from_whole r b.whole) b.stands in
    omega (arith, ap length o.0, run_length IsWordByte bytes n h, b.is_token.0, b.is_token.1, bad)

-- ---- quoted texts

quote_stops : (rest : List ℕ) → Stops IsQuotedByte (34 ∷ rest)
quote_stops rest h = h.no_quote refl

pub quoted_begins : (bytes : List ℕ) (n : ℕ) → IsRun IsQuotedByte bytes n → n ≤ 255 → n < length bytes → get_or bytes n 0 ≡ 34 → IsToken (quoted (take n bytes)) × (bytes ≡ take n bytes ++ 34 ∷ drop (n + 1) bytes)
quoted_begins bytes n h short lt quote = (
  (omega (arith, run_length IsQuotedByte bytes n h), run_inside IsQuotedByte bytes n h),
  sym (take-append-drop n bytes) ∙ ap (λ w. take n bytes ++ w) (drop_more bytes n 0 lt ∙ ap (λ b. b ∷ drop (n + 1) bytes) quote),
)

pub no_quoted_run : (bytes : List ℕ) (n : ℕ) → IsRun IsQuotedByte bytes n → (255 < n) ⊎ ((length bytes ≤ n) ⊎ (n < length bytes) × (get_or bytes n 0 ≢ 34)) → (w r : List ℕ) → IsToken (quoted w) → bytes ≢ w ++ 34 ∷ r
no_quoted_run bytes n h bad w r is e =
    let o = run_only IsQuotedByte bytes n h w (34 ∷ r) is.1 (quote_stops r) e in
    let len : length w ≡ n = ap length o.0 ∙ run_length IsQuotedByte bytes n h in
    elim bad [
      | inl long ↦ omega (arith, len, is.0, long)
      | inr k ↦ elim k [
        | inl end ↦ omega (arith, ap length o.1, length-drop n bytes, end)
        | inr q ↦ q.1 (sym (first_same 34 (get_or bytes n 0) r (drop (n + 1) bytes) (o.1 ∙ drop_more bytes n 0 q.0)))
      ]
    ]

-- ---- tokens

append_one : (w r : List ℕ) → (w ++ 34 ∷ []) ++ r ≡ w ++ 34 ∷ r
append_one w r = append_assoc w (34 ∷ []) r

no_word_first : (b : ℕ) (rest w r : List ℕ) → ¬ IsWordByte b → Begins (b ∷ rest) (word w) r → ⊥
no_word_first b rest [] r bad h = omega (arith, h.is_token.0)
no_word_first b rest (x ∷ w) r bad h = bad (subst IsWordByte (sym (first_same b x rest (w ++ r) h.stands)) (All-head IsWordByte x w h.is_token.2))

no_quoted_first : (b : ℕ) (rest w r : List ℕ) → b ≢ 34 → Begins (b ∷ rest) (quoted w) r → ⊥
no_quoted_first b rest w r bad h = bad (first_same b 34 rest ((w ++ 34 ∷ []) ++ r) h.stands)

no_end_first : (b : ℕ) (rest r : List ℕ) → b ≢ 59 → Begins (b ∷ rest) end_mark r → ⊥
no_end_first b rest r bad h = bad (first_same b 59 rest r h.stands)

pub no_quoted : (rest : List ℕ) → ((w r : List ℕ) → IsToken (quoted w) → rest ≢ w ++ 34 ∷ r) → (t : Token) (r : List ℕ) → Begins (34 ∷ rest) t r → ⊥
no_quoted rest none (word w) r h = no_word_first 34 rest w r (λ k. k.no_quote refl) h
no_quoted rest none (quoted w) r h =
    let tails : rest ≡ (w ++ 34 ∷ []) ++ r = ap (drop 1) h.stands in
    none w r h.is_token (tails ∙ append_one w r)
no_quoted rest none end_mark r h = no_end_first 34 rest r (λ e. omega (arith, e)) h

pub no_token : (b : ℕ) (rest : List ℕ) → b ≢ 34 → b ≢ 59 → ((w r : List ℕ) → ¬ Begins (b ∷ rest) (word w) r) → (t : Token) (r : List ℕ) → Begins (b ∷ rest) t r → ⊥
no_token b rest no_quote no_end none (word w) r h = none w r h
no_token b rest no_quote no_end none (quoted w) r h = no_quoted_first b rest w r no_quote h
no_token b rest no_quote no_end none end_mark r h = no_end_first b rest r no_end h

-- ---- one token begins the bytes

no_word_at : (b : ℕ) (x w r : List ℕ) → ¬ IsWordByte b → IsToken (word w) → IsWholeBefore (word w) r → b ∷ x ≡ w ++ r → ⊥
no_word_at b x w r bad is whole e = no_word_first b x w r bad (record { is_token = is; stands = e; whole = whole })

pub no_word_quote : ¬ IsWordByte 34
no_word_quote h = h.no_quote refl

pub no_word_end : ¬ IsWordByte 59
no_word_end h = h.no_end refl

pub one_begin : (bytes : List ℕ) (t u : Token) (r s : List ℕ) → Begins bytes t r → Begins bytes u s → (t ≡ u) × (r ≡ s)
one_begin bytes (word a) (word b) r s h k =
    let o = same_run IsWordByte a b r s h.is_token.2 k.is_token.2 (stops_from_whole r h.whole) (stops_from_whole s k.whole) (sym h.stands ∙ k.stands) in
    (ap word o.0, o.1)
one_begin bytes (word a) (quoted b) r s h k = absurd (no_word_at 34 ((b ++ 34 ∷ []) ++ s) a r no_word_quote h.is_token h.whole (sym k.stands ∙ h.stands))
one_begin bytes (word a) end_mark r s h k = absurd (no_word_at 59 s a r no_word_end h.is_token h.whole (sym k.stands ∙ h.stands))
one_begin bytes (quoted a) (word b) r s h k = absurd (no_word_at 34 ((a ++ 34 ∷ []) ++ r) b s no_word_quote k.is_token k.whole (sym h.stands ∙ k.stands))
one_begin bytes (quoted a) (quoted b) r s h k =
    let inner : a ++ 34 ∷ r ≡ b ++ 34 ∷ s = sym (append_one a r) ∙ ap (drop 1) (sym h.stands ∙ k.stands) ∙ append_one b s in
    let o = same_run IsQuotedByte a b (34 ∷ r) (34 ∷ s) h.is_token.1 k.is_token.1 (quote_stops r) (quote_stops s) inner in
    (ap quoted o.0, ap (drop 1) o.1)
one_begin bytes (quoted a) end_mark r s h k = absurd (omega (arith, first_same 34 59 ((a ++ 34 ∷ []) ++ r) s (sym h.stands ∙ k.stands)))
one_begin bytes end_mark (word b) r s h k = absurd (no_word_at 59 r b s no_word_end k.is_token k.whole (sym h.stands ∙ k.stands))
one_begin bytes end_mark (quoted b) r s h k = absurd (omega (arith, first_same 59 34 r ((b ++ 34 ∷ []) ++ s) (sym h.stands ∙ k.stands)))
one_begin bytes end_mark end_mark r s h k = (refl, ap (drop 1) (sym h.stands ∙ k.stands))

-- ---- spaces

pub unspaced_stops : (bytes : List ℕ) → BeginsUnspaced bytes → Stops (λ b. b ≡ 32) bytes
unspaced_stops [] h = tt
unspaced_stops (b ∷ bytes) h = h

all_spaces : (bytes : List ℕ) → All (λ b. b ≡ 32) bytes → bytes ≡ replicate (length bytes) 32
all_spaces [] h = refl
all_spaces (b ∷ bytes) h =
    ap (λ x. x ∷ bytes) (All-head (λ x. x ≡ 32) b bytes h) ∙ ap (λ x. 32 ∷ x) (all_spaces bytes (All-tail (λ x. x ≡ 32) b bytes h))

pub spaces_cut : (bytes : List ℕ) (n : ℕ) → IsRun (λ b. b ≡ 32) bytes n → bytes ≡ replicate n 32 ++ drop n bytes
spaces_cut bytes n h =
    sym (take-append-drop n bytes)
    ∙ ap (λ w. w ++ drop n bytes) (all_spaces (take n bytes) (run_inside (λ b. b ≡ 32) bytes n h) ∙ ap (λ m. replicate m 32) (run_length (λ b. b ≡ 32) bytes n h))

some_unspaced : (bytes : List ℕ) → 0 < length bytes → Stops (λ b. b ≡ 32) bytes → BeginsUnspaced bytes
some_unspaced [] some h = absurd (omega (arith, some))
some_unspaced (b ∷ bytes) some h = h

spaces_all : (n : ℕ) → All (λ (b : ℕ). b ≡ 32) (replicate n 32)
spaces_all n = All-replicate (λ b. b ≡ 32) n 32 refl

pub spaces_one : (n m : ℕ) (a b : List ℕ) → BeginsUnspaced a → BeginsUnspaced b → replicate n 32 ++ a ≡ replicate m 32 ++ b → (n ≡ m) × (a ≡ b)
spaces_one n m a b h k e =
    let o = same_run (λ x. x ≡ 32) (replicate n 32) (replicate m 32) a b (spaces_all n) (spaces_all m) (unspaced_stops a h) (unspaced_stops b k) e in
    (sym (length-replicate {A = ℕ} n 32) ∙ ap length o.0 ∙ length-replicate {A = ℕ} m 32, o.1)

pub spaces_alone : (n m : ℕ) (a : List ℕ) → BeginsUnspaced a → replicate n 32 ≡ replicate m 32 ++ a → ⊥
spaces_alone n m a h e =
    let o = same_run (λ x. x ≡ 32) (replicate n 32) (replicate m 32) [] a (spaces_all n) (spaces_all m) tt (unspaced_stops a h) (append-nil (replicate n 32) ∙ e) in
    subst BeginsUnspaced (sym o.1) h

pub begins_unspaced : (bytes : List ℕ) (t : Token) (rest : List ℕ) → Begins bytes t rest → BeginsUnspaced bytes
begins_unspaced bytes (word []) rest h = absurd (omega (arith, h.is_token.0))
begins_unspaced bytes (word (x ∷ w)) rest h =
    let first = All-head IsWordByte x w h.is_token.2 in
    subst BeginsUnspaced (sym h.stands) (λ e. omega (arith, first.low, e))
begins_unspaced bytes (quoted w) rest h = subst BeginsUnspaced (sym h.stands) (λ e. omega (arith, e))
begins_unspaced bytes end_mark rest h = subst BeginsUnspaced (sym h.stands) (λ e. omega (arith, e))

-- ---- what comes next

pub steps_one : (before : Token) (bytes : List ℕ) (t u : Token) (r s : List ℕ) → NextIs before bytes t r → NextIs before bytes u s → (t ≡ u) × (r ≡ s)
steps_one before bytes t u r s h k =
    let o = spaces_one h.spaces k.spaces h.back k.back (begins_unspaced h.back t r h.begins) (begins_unspaced k.back u s k.begins) (sym h.cut ∙ k.cut) in
    one_begin h.back t u r s h.begins (subst (λ x. Begins x u s) (sym o.1) k.begins)

pub stuck_steps : (before : Token) (bytes : List ℕ) (n : ℕ) (t : Token) (r : List ℕ) → IsStuck before bytes n → NextIs before bytes t r → ⊥
stuck_steps before bytes n t r h k =
    let o = spaces_one n k.spaces h.back k.back h.unspaced (begins_unspaced k.back t r k.begins) (sym h.cut ∙ k.cut) in
    h.bad t r (subst (λ x. Begins x t r) (sym o.1) k.begins) (subst (λ m. MayFollow before m t) (sym o.0) k.follows)

-- ---- what the tokenizer found

pub stuck_at : (before : Token) (bytes : List ℕ) (n : ℕ) → IsRun (λ b. b ≡ 32) bytes n → n < length bytes → ((t : Token) (rest : List ℕ) → Begins (drop n bytes) t rest → ¬ MayFollow before n t) → IsStuck before bytes n
stuck_at before bytes n h some bad = record { back = drop n bytes; cut = spaces_cut bytes n h; unspaced = some_unspaced (drop n bytes) (omega (arith, length-drop n bytes, some)) (run_stops (λ b. b ≡ 32) bytes n h); bad = bad }

pub steps_at : (before : Token) (bytes : List ℕ) (n : ℕ) (t : Token) (rest : List ℕ) → IsRun (λ b. b ≡ 32) bytes n → Begins (drop n bytes) t rest → MayFollow before n t → NextIs before bytes t rest
steps_at before bytes n t rest h begins follows = record { spaces = n; back = drop n bytes; cut = spaces_cut bytes n h; begins = begins; follows = follows }

-- an operand directly after an operand is bad, whichever it is
pub joined_bad : (before : Token) (back : List ℕ) (t : Token) (rest : List ℕ) → IsOperandToken before → IsOperandToken t → Begins back t rest → (u : Token) (other : List ℕ) → Begins back u other → ¬ MayFollow before 0 u
joined_bad before back t rest one two h u other k follows =
    let o = one_begin back t u rest other h k in
    omega (arith, follows one (subst IsOperandToken o.0 two))

pub done_at : (bytes : List ℕ) (n : ℕ) → IsRun (λ b. b ≡ 32) bytes n → length bytes ≤ n → bytes ≡ replicate n 32
done_at bytes n h le = spaces_cut bytes n h ∙ ap (λ w. replicate n 32 ++ w) (drop_all n bytes le) ∙ append-nil (replicate n 32)
