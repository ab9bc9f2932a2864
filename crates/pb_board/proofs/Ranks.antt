-- Reading the text of a rank from left to right.
use Rattle.std.proofs.Common.{◌≡◌, ℕ, zero, suc, ◌+◌, ◌-◌, ◌<◌, ◌≤◌, Bool, true, false, IsTrue, List, [], ◌∷◌, ◌++◌, length, take, drop, set, get_or, replicate, Some, None, refl, sym, ap, subst, ◌∙◌, inl, inr, arith}
use Rattle.std.proofs.lemmas.List.{drop_more, take_more, take_more_set, drop_all, length-drop, length-take, length-append, length-replicate, length-set, drop-drop, take_at, drop_at, drop-set-lt, take-append-drop, replicate-append-replicate}
use Rattle.std.proofs.Math.Seq.{take-add}
use Rattle.std.proofs.lemmas.Bool.{false≢true}
use Rattle.pb_board.specs.declared.piece.Piece.{Piece}
use Rattle.pb_board.specs.Board.{Place}
use Rattle.pb_board.specs.Ranks.{BeginsOccupied, RankText}
use Rattle.pb_board.specs.Text.{piece_letter}
use Rattle.pb_board.proofs.Letters.{letter_injective, letter_above}

-- the text of squares that follow a digit, or don't
pub record RankFrom (after : Bool) (s : List Place) (t : List ℕ) : Type 0 where
  pub start : IsTrue after → BeginsOccupied s
  pub text : RankText s t

-- ---- the first byte of a text

pub piece_first : (after : Bool) (p : Piece) (c : ℕ) (x : Place) (r : List Place) (t : List ℕ) → c ≡ piece_letter p → RankFrom after (x ∷ r) (c ∷ t) → (x ≡ Some p) × RankFrom false r t
piece_first after p c x r t is h =
    elim h.text.1 [
      | inl q ↦
          let same : q.0 ≡ p = letter_injective q.0 p (sym q.1 ∙ is) in
          let head : x ≡ Some q.0 = cc in
          let tail : r ≡ h.text.0 = cc in
          (head ∙ ap (λ (y : Piece). Some y) same, record { start = λ e. absurd (false≢true e); text = subst (λ (w : List Place). RankText w t) (sym tail) h.text.2 })
      | inr q ↦ absurd (omega (arith, letter_above p, is, q.3, q.2))
    ]

pub piece_again : (after : Bool) (p : Piece) (c : ℕ) (r : List Place) (t : List ℕ) → c ≡ piece_letter p → RankFrom false r t → RankFrom after (Some p ∷ r) (c ∷ t)
piece_again after p c r t is h = record { start = λ _. tt; text = (r, inl (p, is, refl), h.text) }

pub digit_first : (n c : ℕ) (s : List Place) (t : List ℕ) → c ≡ 48 + n → n ≤ 8 → RankText s (c ∷ t) → (rest : List Place) × (s ≡ replicate n None ++ rest) × RankFrom true rest t
digit_first n c s t is small h =
    elim h.1 [
      | inl q ↦ absurd (omega (arith, letter_above q.0, is, q.1))
      | inr q ↦
          let same : q.0 ≡ n = omega (arith, is, q.3) in
          (h.0, subst (λ m. s ≡ replicate m None ++ h.0) same q.4, record { start = λ _. q.5; text = h.2 })
    ]

pub digit_again : (n c : ℕ) (rest : List Place) (t : List ℕ) → c ≡ 48 + n → 1 ≤ n → n ≤ 8 → RankFrom true rest t → RankFrom false (replicate n None ++ rest) (c ∷ t)
digit_again n c rest t is low high h =
    record { start = λ e. absurd (false≢true e); text = (rest, inr (n, low, high, is, refl, h.start refl), h.text) }

begins_empty : (n : ℕ) (s rest : List Place) → 1 ≤ n → s ≡ replicate n None ++ rest → BeginsOccupied s → ⊥
begins_empty zero s rest low is h = absurd (omega arith)
begins_empty (suc n) s rest low is h = subst BeginsOccupied is h

pub digit_twice : (n c : ℕ) (s : List Place) (t : List ℕ) → c ≡ 48 + n → 1 ≤ n → n ≤ 8 → RankFrom true s (c ∷ t) → ⊥
digit_twice n c s t is low high h =
    let d = digit_first n c s t is high h.text in
    begins_empty n s d.0 low d.1 (h.start refl)

pub nothing_left : (c : ℕ) (t : List ℕ) → RankText [] (c ∷ t) → ⊥
nothing_left c t h =
    elim h.1 [
      | inl q ↦ absurd (cc (q.2))
      | inr q ↦ absurd (omega (arith, q.1, length-append (replicate q.0 None) h.0, ap length q.4, length-replicate {A = Place} q.0 None))
    ]

-- ---- parts of lists

abbrev blank : Place
blank = None

drop-blank : (n m k : ℕ) → n + k ≡ m → drop n (replicate m None) ≡ replicate k blank
drop-blank n m k e =
    rw (← e, ← replicate-append-replicate n k blank) (drop_at (replicate n None) (replicate k None) n (length-replicate n None))

take_replicate : (n m k : ℕ) → n + k ≡ m → take n (replicate m None) ≡ replicate n blank
take_replicate n m k e =
    rw (← e, ← replicate-append-replicate n k blank) (take_at (replicate n None) (replicate k None) n (length-replicate n None))

pub same_front : (a b x y : List Place) → length a ≡ length b → a ++ x ≡ b ++ y → (a ≡ b) × (x ≡ y)
same_front [] [] x y len e = (refl, e)
same_front [] (q ∷ b) x y len e = absurd (omega (arith, len))
same_front (p ∷ a) [] x y len e = absurd (omega (arith, len))
same_front (p ∷ a) (q ∷ b) x y len e =
    let heads : p ≡ q = cc in
    let tails : a ++ x ≡ b ++ y = cc in
    let r = same_front a b x y (omega (arith, len)) tails in
    (ap (λ (z : Place). z ∷ a) heads ∙ ap (λ (z : List Place). q ∷ z) r.0, r.1)

last_parts : (a b : List Place) (x y : Place) → a ++ x ∷ [] ≡ b ++ y ∷ [] → (a ≡ b) × (x ≡ y)
last_parts a b x y e =
    let lens : length a ≡ length b = omega (arith, ap length e, length-append a (x ∷ []), length-append b (y ∷ [])) in
    let r = same_front a b (x ∷ []) (y ∷ []) lens e in
    (r.0, cc (r.1))

blank_front : (squares : List Place) (file n : ℕ) → file + n ≤ 8 → drop file squares ≡ replicate (8 - file) None → take n (drop file squares) ≡ replicate n None
blank_front squares file n fits h = rw h (take_replicate n (8 - file) (8 - (file + n)) (omega arith))

-- ---- a rank that has been read up to a file

-- s agrees with the squares that were read, and the rest of the text spells the rest of it
pub record Agrees (squares : List Place) (file : ℕ) (after : Bool) (t : List ℕ) (s : List Place) : Type 0 where
  pub done : take file s ≡ take file squares
  pub rest : RankFrom after (drop file s) t

-- of the text of a rank the part before t was read
pub record InRank (text : List ℕ) (squares : List Place) (file : ℕ) (after : Bool) (t : List ℕ) : Type 0 where
  pub fits : file ≤ 8
  pub size : length squares ≡ 8
  pub blank : drop file squares ≡ replicate (8 - file) None
  pub agrees : (s : List Place) → length s ≡ 8 → RankText s text → Agrees squares file after t s
  pub spells : (s : List Place) → length s ≡ 8 → Agrees squares file after t s → RankText s text

blank_more : (squares : List Place) (file n : ℕ) → file + n ≤ 8 → drop file squares ≡ replicate (8 - file) None → drop (file + n) squares ≡ replicate (8 - (file + n)) None
blank_more squares file n fits h =
    sym (drop-drop n file squares) ∙ ap (drop n) h ∙ drop-blank n (8 - file) (8 - (file + n)) (omega arith)

pub rank_piece : (text : List ℕ) (squares : List Place) (file : ℕ) (after : Bool) (c : ℕ) (t : List ℕ) (p : Piece) → InRank text squares file after (c ∷ t) → c ≡ piece_letter p → file < 8 → InRank text (set squares file (Some p)) (file + 1) false t
rank_piece text squares file after c t p h is lt = record {
  fits = omega arith;
  size = length-set squares file (Some p) ∙ h.size;
  blank = drop-set-lt (file + 1) squares file (Some p) (omega arith) ∙ blank_more squares file 1 (omega arith) h.blank;
  agrees = λ s len r.
      let a = h.agrees s len r in
      let cut : drop file s ≡ get_or s file None ∷ drop (file + 1) s = drop_more s file None (omega arith) in
      let f = piece_first after p c (get_or s file None) (drop (file + 1) s) t is (subst (λ (w : List Place). RankFrom after w (c ∷ t)) cut a.rest) in
      record {
        done = take_more s file None (omega arith) ∙ ap (λ (w : List Place). w ++ get_or s file None ∷ []) a.done ∙ ap (λ (x : Place). take file squares ++ x ∷ []) f.0 ∙ sym (take_more_set squares file (Some p) (omega (arith, h.size)));
        rest = f.1;
      };
  spells = λ s len a.
      let cut : drop file s ≡ get_or s file None ∷ drop (file + 1) s = drop_more s file None (omega arith) in
      let both : take file s ++ get_or s file None ∷ [] ≡ take file squares ++ Some p ∷ [] = sym (take_more s file None (omega arith)) ∙ a.done ∙ take_more_set squares file (Some p) (omega (arith, h.size)) in
      let parts = last_parts (take file s) (take file squares) (get_or s file None) (Some p) both in
      h.spells s len (record {
        done = parts.0;
        rest = rw (cut, parts.1) (piece_again after p c (drop (file + 1) s) t is a.rest);
      });
}

pub rank_digit : (text : List ℕ) (squares : List Place) (file c n : ℕ) (t : List ℕ) → InRank text squares file false (c ∷ t) → c ≡ 48 + n → 1 ≤ n → n ≤ 8 → file + n ≤ 8 → InRank text squares (file + n) true t
rank_digit text squares file c n t h is low high fits = record {
  fits = fits;
  size = h.size;
  blank = blank_more squares file n fits h.blank;
  agrees = λ s len r.
      let a = h.agrees s len r in
      let f = digit_first n c (drop file s) t is high a.rest.text in
      let run : drop n (drop file s) ≡ f.0 = ap (drop n) f.1 ∙ drop_at (replicate n None) f.0 n (length-replicate n None) in
      let front : take n (drop file s) ≡ replicate n None = ap (take n) f.1 ∙ take_at (replicate n None) f.0 n (length-replicate n None) in
      record {
        done = take-add file n s ∙ ap (λ (w : List Place). w ++ take n (drop file s)) a.done ∙ ap (λ (w : List Place). take file squares ++ w) (front ∙ sym (blank_front squares file n fits h.blank)) ∙ sym (take-add file n squares);
        rest = subst (λ (w : List Place). RankFrom true w t) (sym run ∙ drop-drop n file s) f.2;
      };
  spells = λ s len a.
      let both : take file s ++ take n (drop file s) ≡ take file squares ++ take n (drop file squares) = sym (take-add file n s) ∙ a.done ∙ take-add file n squares in
      let parts = same_front (take file s) (take file squares) (take n (drop file s)) (take n (drop file squares)) (omega (arith, length-take file s, length-take file squares, h.size)) both in
      let run : take n (drop file s) ≡ replicate n None = parts.1 ∙ blank_front squares file n fits h.blank in
      let whole : drop file s ≡ replicate n None ++ drop (file + n) s = sym (take-append-drop n (drop file s)) ∙ ap (λ (w : List Place). w ++ drop n (drop file s)) run ∙ ap (λ (w : List Place). replicate n None ++ w) (drop-drop n file s) in
      h.spells s len (record {
        done = parts.0;
        rest = rw whole (digit_again n c (drop (file + n) s) t is low high a.rest);
      });
}

pub rank_twice : (text : List ℕ) (squares : List Place) (file c n : ℕ) (t : List ℕ) → InRank text squares file true (c ∷ t) → c ≡ 48 + n → 1 ≤ n → n ≤ 8 → (s : List Place) → length s ≡ 8 → RankText s text → ⊥
rank_twice text squares file c n t h is low high s len r = digit_twice n c (drop file s) t is low high (h.agrees s len r).rest

pub rank_long : (text : List ℕ) (squares : List Place) (file : ℕ) (after : Bool) (c n : ℕ) (t : List ℕ) → InRank text squares file after (c ∷ t) → c ≡ 48 + n → n ≤ 8 → 8 < file + n → (s : List Place) → length s ≡ 8 → RankText s text → ⊥
rank_long text squares file after c n t h is high long s len r =
    let f = digit_first n c (drop file s) t is high (h.agrees s len r).rest.text in
    omega (arith, h.fits, ap length f.1, length-drop file s, length-append (replicate n None) f.0, length-replicate {A = Place} n None)

pub rank_short : (text : List ℕ) (squares : List Place) (file : ℕ) (after : Bool) → InRank text squares file after [] → file < 8 → (s : List Place) → length s ≡ 8 → RankText s text → ⊥
rank_short text squares file after h short s len r =
    omega (arith, ap length (h.agrees s len r).rest.text, length-drop file s)

-- the next byte
pub rank_next : (text : List ℕ) (squares : List Place) (file : ℕ) (after : Bool) (i : ℕ) → InRank text squares file after (drop i text) → i < length text → InRank text squares file after (get_or text i 0 ∷ drop (i + 1) text)
rank_next text squares file after i h lt = subst (λ (t : List ℕ). InRank text squares file after t) (drop_more text i 0 lt) h

pub rank_end : (text : List ℕ) (squares : List Place) (file : ℕ) (after : Bool) (i : ℕ) → InRank text squares file after (drop i text) → length text ≤ i → InRank text squares file after []
rank_end text squares file after i h le = subst (λ (t : List ℕ). InRank text squares file after t) (drop_all i text le) h
