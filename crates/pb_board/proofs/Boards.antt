-- Reading the ranks of a placement from rank 8 down.
use Rattle.std.proofs.Common.{◌≡◌, ℕ, suc, ◌+◌, ◌-◌, ◌*◌, ◌<◌, ◌≤◌, ◌↔◌, eqb, List, [], ◌∷◌, ◌++◌, length, take, drop, refl, sym, ap, subst, ◌∙◌, inl, inr, arith}
use Rattle.std.specs.List.{AllZip, slice_split, join_with_byte}
use Rattle.std.proofs.lemmas.List.{length-drop, length-take, length-append, take-append-drop, drop-drop, drop_at, drop_all}
use Rattle.std.proofs.lemmas.List.Splits.{join_with_byte-slice_split}
use borrow.Rule.Slice.PartMut.{put_mid, post_of}
use Rattle.pb_board.specs.Board.{Place}
use Rattle.pb_board.specs.Ranks.{RankText}
use Rattle.pb_board.proofs.Placements.{PlacementText, rank_of, ranks_down}
use Rattle.pb_board.proofs.Letters.{letter_above}
use Rattle.pb_board.proofs.Joins.{Above, AllAbove, split_join, split_one}
use Rattle.pb_board.proofs.Ranks.{same_front}

-- the bytes of a rank's text are digits and letters
pub rank_above : (s : List Place) (t : List ℕ) → RankText s t → Above 47 t
rank_above s [] h = tt
rank_above s (c ∷ t) h = (
  elim h.1 [
    | inl q ↦ omega (arith, letter_above q.0, q.1)
    | inr q ↦ omega (arith, q.1, q.3)
  ],
  rank_above h.0 t h.2,
)

pub ranks_above : (rs : List (List Place)) (ts : List (List ℕ)) → AllZip RankText rs ts → AllAbove 47 ts
ranks_above [] [] h = tt
ranks_above [] (t ∷ ts) h = absurd h
ranks_above (r ∷ rs) [] h = absurd h
ranks_above (r ∷ rs) (t ∷ ts) h = (rank_above r t h.0, ranks_above rs ts h.1)

pub as_many : (rs : List (List Place)) (ts : List (List ℕ)) → AllZip RankText rs ts → length ts ≡ length rs
as_many [] [] h = refl
as_many [] (t ∷ ts) h = absurd h
as_many (r ∷ rs) [] h = absurd h
as_many (r ∷ rs) (t ∷ ts) h = ap suc (as_many rs ts h.1)

abbrev pub rows : List ℕ → List (List ℕ)
rows text = slice_split (λ b. eqb b 47) text

-- a placement, by the pieces between its slashes
pub placement_rows : (board : List Place) (text : List ℕ) → PlacementText board text → AllZip RankText (ranks_down board 8) (rows text)
placement_rows board text h =
    let many = as_many (ranks_down board 8) h.0 h.1 in
    let pieces : rows text ≡ h.0 = ap rows h.2 ∙ split_join 47 h.0 (ranks_above (ranks_down board 8) h.0 h.1) (omega (arith, many)) in
    subst (λ (ts : List (List ℕ)). AllZip RankText (ranks_down board 8) ts) (sym pieces) h.1

pub rows_placement : (board : List Place) (text : List ℕ) → AllZip RankText (ranks_down board 8) (rows text) → PlacementText board text
rows_placement board text h = (rows text, h, sym (join_with_byte-slice_split 47 text))

-- b agrees with the ranks from rank n on, and the rest of the text spells those below
pub record Below (board : List Place) (n : ℕ) (rest : List ℕ) (b : List Place) : Type 0 where
  pub done : drop (8 * n) b ≡ drop (8 * n) board
  pub below : AllZip RankText (ranks_down b n) (rows rest)

-- the ranks from rank n on were read
pub record InBoard (text : List ℕ) (board : List Place) (n : ℕ) (rest : List ℕ) : Type 0 where
  pub size : length board ≡ 64
  pub agrees : (b : List Place) → length b ≡ 64 → PlacementText b text → Below board n rest b
  pub spells : (b : List Place) → length b ≡ 64 → Below board n rest b → PlacementText b text

pub board_start : (text : List ℕ) (board : List Place) → length board ≡ 64 → InBoard text board 8 text
board_start text board size = record {
  size = size;
  agrees = λ b len h. record { done = drop_all 64 b (omega arith) ∙ sym (drop_all 64 board (omega arith)); below = placement_rows b text h };
  spells = λ b len h. rows_placement b text h.below;
}

-- what `read_rank` answers
pub record IsRank (squares : List Place) (t : List ℕ) : Type 0 where
  pub len : length squares ≡ 8
  pub same : (s : List Place) → length s ≡ 8 → RankText s t ↔ s ≡ squares

rank_len : (b : List Place) (n : ℕ) → length b ≡ 64 → n < 8 → length (rank_of b n) ≡ 8
rank_len b n len lt = omega (arith, length-take 8 (drop (8 * n) b), length-drop (8 * n) b)

rank_cut : (b : List Place) (n : ℕ) → drop (8 * n) b ≡ rank_of b n ++ drop (8 * suc n) b
rank_cut b n = sym (take-append-drop 8 (drop (8 * n) b)) ∙ ap (λ (w : List Place). rank_of b n ++ w) (drop-drop 8 (8 * n) b ∙ ap (λ k. drop k b) (omega arith))

-- the next rank was read, and put where it belongs
pub board_rank : (text : List ℕ) (board after : List Place) (n : ℕ) (rest first next : List ℕ) (squares : List Place) → InBoard text board (suc n) rest → n < 8 → rows rest ≡ first ∷ rows next → IsRank squares first → length after ≡ 64 → drop (8 * n) after ≡ squares ++ drop (8 * suc n) board → InBoard text after n next
board_rank text board after n rest first next squares h lt cut is size put = record {
  size = size;
  agrees = λ b len p.
      let a = h.agrees b len p in
      let texts : AllZip RankText (rank_of b n ∷ ranks_down b n) (first ∷ rows next) = subst (λ (ts : List (List ℕ)). AllZip RankText (rank_of b n ∷ ranks_down b n) ts) cut a.below in
      let same : rank_of b n ≡ squares = (is.same (rank_of b n) (rank_len b n len lt)).0 texts.0 in
      record {
        done = rank_cut b n ∙ ap (λ (w : List Place). w ++ drop (8 * suc n) b) same ∙ ap (λ (w : List Place). squares ++ w) a.done ∙ sym put;
        below = texts.1;
      };
  spells = λ b len a.
      let both : rank_of b n ++ drop (8 * suc n) b ≡ squares ++ drop (8 * suc n) board = sym (rank_cut b n) ∙ a.done ∙ put in
      let halves = same_front (rank_of b n) squares (drop (8 * suc n) b) (drop (8 * suc n) board) (rank_len b n len lt ∙ sym is.len) both in
      let spelt : RankText (rank_of b n) first = (is.same (rank_of b n) (rank_len b n len lt)).1 halves.0 in
      h.spells b len (record { done = halves.1; below = subst (λ (ts : List (List ℕ)). AllZip RankText (rank_of b n ∷ ranks_down b n) ts) (sym cut) (spelt, a.below) });
}

pub board_uncut : (text : List ℕ) (board : List Place) (n : ℕ) (rest : List ℕ) → InBoard text board (suc (suc n)) rest → rows rest ≡ rest ∷ [] → (b : List Place) → length b ≡ 64 → PlacementText b text → ⊥
board_uncut text board n rest h whole b len p =
    let two = as_many (ranks_down b (suc (suc n))) (rows rest) (h.agrees b len p).below in
    omega (arith, two, ap length whole)

pub board_unread : (text : List ℕ) (board : List Place) (n : ℕ) (rest first : List ℕ) (more : List (List ℕ)) → InBoard text board (suc n) rest → n < 8 → rows rest ≡ first ∷ more → ((s : List Place) → length s ≡ 8 → RankText s first → ⊥) → (b : List Place) → length b ≡ 64 → PlacementText b text → ⊥
board_unread text board n rest first more h lt cut none b len p =
    let texts : AllZip RankText (rank_of b n ∷ ranks_down b n) (first ∷ more) = subst (λ (ts : List (List ℕ)). AllZip RankText (rank_of b n ∷ ranks_down b n) ts) cut (h.agrees b len p).below in
    none (rank_of b n) (rank_len b n len lt) texts.0

-- the last rank has no slash
single : (r : List Place) (ts : List (List ℕ)) (rest : List ℕ) → AllZip RankText (r ∷ []) ts → join_with_byte 47 ts ≡ rest → RankText r rest
single r [] rest h e = absurd h
single r (t ∷ []) rest h e = subst (RankText r) e h.0
single r (t ∷ u ∷ ts) rest h e = absurd h.1

last_row : (b : List Place) (rest : List ℕ) → AllZip RankText (ranks_down b 1) (rows rest) → RankText (rank_of b 0) rest
last_row b rest h = single (rank_of b 0) (rows rest) rest h (join_with_byte-slice_split 47 rest)

pub board_last_unread : (text : List ℕ) (board : List Place) (rest : List ℕ) → InBoard text board 1 rest → ((s : List Place) → length s ≡ 8 → RankText s rest → ⊥) → (b : List Place) → length b ≡ 64 → PlacementText b text → ⊥
board_last_unread text board rest h none b len p = none (rank_of b 0) (rank_len b 0 len (omega arith)) (last_row b rest (h.agrees b len p).below)

pub board_done : (text : List ℕ) (board after : List Place) (rest : List ℕ) (squares : List Place) → InBoard text board 1 rest → IsRank squares rest → length after ≡ 64 → after ≡ squares ++ drop 8 board → (b : List Place) → length b ≡ 64 → PlacementText b text ↔ b ≡ after
board_done text board after rest squares h is size put b len = (
  λ p.
      let a = h.agrees b len p in
      let same : rank_of b 0 ≡ squares = (is.same (rank_of b 0) (rank_len b 0 len (omega arith))).0 (last_row b rest a.below) in
      rank_cut b 0 ∙ ap (λ (w : List Place). w ++ drop 8 b) same ∙ ap (λ (w : List Place). squares ++ w) a.done ∙ sym put,
  λ e.
      let both : rank_of b 0 ++ drop 8 b ≡ squares ++ drop 8 board = sym (rank_cut b 0) ∙ e ∙ put in
      let halves = same_front (rank_of b 0) squares (drop 8 b) (drop 8 board) (rank_len b 0 len (omega arith) ∙ sym is.len) both in
      let spelt : RankText (rank_of b 0) rest = (is.same (rank_of b 0) (rank_len b 0 len (omega arith))).1 halves.0 in
      h.spells b len (record {
        done = halves.1;
        below = subst (λ (ts : List (List ℕ)). AllZip RankText (rank_of b 0 ∷ []) ts) (sym (split_one 47 rest (rank_above (rank_of b 0) rest spelt))) (spelt, tt);
      }),
)

-- ---- the loop over the rows

pub at_row : (text : List ℕ) (board : List Place) (row n : ℕ) (rest : List ℕ) → InBoard text board (8 - row) rest → 8 - row ≡ n → InBoard text board n rest
at_row text board row n rest h e = subst (λ k. InBoard text board k rest) e h

-- squares that were copied into the board
pub put_rank : (a k : ℕ) (xs ys squares : List Place) → a + 8 ≤ length xs → k ≡ 8 → ys ≡ squares → drop a (put_mid a k xs ys) ≡ squares ++ drop (a + 8) xs
put_rank a k xs ys squares fits k-is same =
    drop_at (take a xs) (ys ++ post_of a k xs) a (omega (arith, length-take a xs)) ∙ ap (λ (w : List Place). w ++ post_of a k xs) same ∙ ap (λ (w : List Place). squares ++ w) (drop-drop k a xs ∙ ap (λ m. drop m xs) (omega arith))

pub length-put : (a k : ℕ) (xs ys : List Place) → a + 8 ≤ length xs → k ≡ 8 → length ys ≡ 8 → length (put_mid a k xs ys) ≡ length xs
length-put a k xs ys fits k-is len =
    omega (arith, length-append (take a xs) (ys ++ post_of a k xs), length-append ys (post_of a k xs), length-take a xs, length-drop k (drop a xs), length-drop a xs)

pub row_turn : (text : List ℕ) (board ys squares : List Place) (row a k : ℕ) (rest first next : List ℕ) → row < 7 → InBoard text board (8 - row) rest → a ≡ 56 - 8 * row → k ≡ 8 → rows rest ≡ first ∷ rows next → ys ≡ squares → length ys ≡ 8 → ((s : List Place) → length s ≡ 8 → RankText s first ↔ s ≡ squares) → InBoard text (put_mid a k board ys) (8 - (row + 1)) next
row_turn text board ys squares row a k rest first next lt h a-is k-is cut same len is =
    let n-is : 8 - (row + 1) ≡ 7 - row = omega arith in
    let low : a ≡ 8 * (7 - row) = omega arith in
    let high : a + 8 ≡ 8 * suc (7 - row) = omega arith in
    let here : InBoard text board (suc (7 - row)) rest = at_row text board row (suc (7 - row)) rest h (omega arith) in
    let fits : a + 8 ≤ length board = omega (arith, h.size) in
    let put : drop (8 * (7 - row)) (put_mid a k board ys) ≡ squares ++ drop (8 * suc (7 - row)) board = rw (← low, ← high) (put_rank a k board ys squares fits k-is same) in
    rw n-is (board_rank text board (put_mid a k board ys) (7 - row) rest first next squares here (omega arith) cut (record { len = sym (ap length same) ∙ len; same = is }) (length-put a k board ys fits k-is len ∙ h.size) put)

pub length-chunk : (a k : ℕ) (xs : List Place) → a + 8 ≤ length xs → k ≡ 8 → length (take k (drop a xs)) ≡ 8
length-chunk a k xs fits k-is = omega (arith, length-take k (drop a xs), length-drop a xs)
