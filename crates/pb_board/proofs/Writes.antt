-- Writing ranks and boards.
use Rattle.std.proofs.Common.{◌≡◌, ℕ, zero, suc, ◌+◌, ◌-◌, ◌*◌, ◌<◌, ◌≤◌, false, eqb, List, [], ◌∷◌, ◌++◌, length, drop, get_or, Option, Some, None, refl, sym, ap, subst, ◌∙◌, arith}
use Rattle.std.proofs.lemmas.List.{append_assoc, append-nil, drop_more, drop_all, get_or-drop, get_or-take, length-append, length-take}
use Rattle.std.proofs.lemmas.Bool.Decides.{nat_tests}
use Rattle.pb_board.specs.declared.piece.Piece.{Piece}
use Rattle.pb_board.specs.declared.piece.Colour.{Colour}
use Rattle.pb_board.specs.declared.piece.Colour.TheVariants.{White, Black}
use Rattle.pb_board.specs.declared.setup.Rights.{Rights}
use Rattle.pb_board.specs.Board.{Place, at}
use Rattle.pb_board.specs.Position.{Position}
use Rattle.pb_board.specs.Text.{castling_text, empty_squares, en_passant_text, piece_letter, placement_text, rank_text, setup_text, turn_text}
use Rattle.pb_board.proofs.Placements.{rank_of}

-- ---- ranks

-- the first i squares were written, but for a run of empty ones at their end
pub record InRun (squares : List Place) (i run : ℕ) (start out : List ℕ) : Type 0 where
  pub few : run ≤ i
  pub short : length out + run ≤ length start + i
  pub completes : out ++ rank_text run (drop i squares) ≡ start ++ rank_text 0 squares

not_zero : (n : ℕ) → eqb (suc n) 0 ≡ false
not_zero n = grind (arith, nat_tests)

run_short : (n : ℕ) → length (empty_squares n) ≤ n
run_short zero = omega arith
run_short (suc n) = rw (not_zero n) (omega arith)

pub run_piece : (squares : List Place) (i run : ℕ) (start out after : List ℕ) (p : Piece) → InRun squares i run start out → i < length squares → get_or squares i None ≡ Some p → after ≡ (out ++ empty_squares run) ++ piece_letter p ∷ [] → InRun squares (i + 1) 0 start after
run_piece squares i run start out after p h lt place put =
    let next : drop i squares ≡ Some p ∷ drop (i + 1) squares = drop_more squares i None lt ∙ ap (λ x. x ∷ drop (i + 1) squares) place in
    let rest = rank_text 0 (drop (i + 1) squares) in
    record {
      few = omega arith;
      short = omega (arith, ap length put, length-append (out ++ empty_squares run) (piece_letter p ∷ []), length-append out (empty_squares run), run_short run, h.short);
      completes =
          ap (λ w. w ++ rest) put ∙ append_assoc (out ++ empty_squares run) (piece_letter p ∷ []) rest ∙ append_assoc out (empty_squares run) (piece_letter p ∷ rest)
          ∙ ap (λ (s : List Place). out ++ rank_text run s) (sym next) ∙ h.completes;
    }

pub run_empty : (squares : List Place) (i run : ℕ) (start out : List ℕ) → InRun squares i run start out → i < length squares → get_or squares i None ≡ None → InRun squares (i + 1) (run + 1) start out
run_empty squares i run start out h lt place =
    let next : drop i squares ≡ None ∷ drop (i + 1) squares = drop_more squares i None lt ∙ ap (λ x. x ∷ drop (i + 1) squares) place in
    record {
      few = omega (arith, h.few);
      short = omega (arith, h.short);
      completes = ap (λ (s : List Place). out ++ rank_text run s) (sym next) ∙ h.completes;
    }

pub run_done : (squares : List Place) (i run : ℕ) (start out after : List ℕ) → InRun squares i run start out → length squares ≤ i → after ≡ out ++ empty_squares run → after ≡ start ++ rank_text 0 squares
run_done squares i run start out after h past put = put ∙ ap (λ (s : List Place). out ++ rank_text run s) (sym (drop_all i squares past)) ∙ h.completes

rank_short_after : (n : ℕ) (squares : List Place) → length (rank_text n squares) ≤ n + length squares
rank_short_after n [] = omega (arith, run_short n)
rank_short_after n (None ∷ squares) = omega (arith, rank_short_after (n + 1) squares)
rank_short_after n (Some p ∷ squares) =
    omega (arith, run_short n, length-append (empty_squares n) (piece_letter p ∷ rank_text 0 squares), rank_short_after 0 squares)

-- a rank's text has no more bytes than the rank has squares
pub rank_short : (squares : List Place) → length (rank_text 0 squares) ≤ length squares
rank_short squares = omega (arith, rank_short_after 0 squares)

-- a square of a rank is one of the board
pub of_rank : (board : List Place) (r file q : ℕ) (place : Place) → file < 8 → q ≡ 8 * r + file → place ≡ at board q → get_or (rank_of board r) file None ≡ place
of_rank board r file q place on same is =
    get_or-take 8 (drop (8 * r) board) file None on ∙ get_or-drop (8 * r) board file None ∙ ap (λ i. get_or board i None) (sym same) ∙ sym is

-- ---- boards

-- the lowest n ranks, each after a slash
abbrev pub ranks_below : List Place → ℕ → List ℕ
ranks_below board zero = []
ranks_below board (suc n) = 47 ∷ (rank_text 0 (rank_of board n) ++ ranks_below board n)

-- the ranks from rank n on were written
pub record InRows (board : List Place) (n : ℕ) (start out : List ℕ) : Type 0 where
  pub short : length out + 9 * n ≤ length start + 71
  pub completes : out ++ ranks_below board n ≡ start ++ placement_text board

top_first : (board : List Place) → rank_text 0 (rank_of board 7) ++ ranks_below board 7 ≡ placement_text board
top_first board =
    let R : ℕ → List ℕ = λ r. rank_text 0 (rank_of board r) in
    ap (λ w. R 7 ++ 47 ∷ (R 6 ++ 47 ∷ (R 5 ++ 47 ∷ (R 4 ++ 47 ∷ (R 3 ++ 47 ∷ (R 2 ++ 47 ∷ (R 1 ++ 47 ∷ w))))))) (append-nil (R 0))

pub rows_start : (board : List Place) (start after : List ℕ) → after ≡ start ++ rank_text 0 (rank_of board 7) → InRows board 7 start after
rows_start board start after put = record {
  short =
      omega (arith, ap length put, length-append start (rank_text 0 (rank_of board 7)), rank_short (rank_of board 7), length-take 8 (drop 56 board));
  completes =
      ap (λ w. w ++ ranks_below board 7) put ∙ append_assoc start (rank_text 0 (rank_of board 7)) (ranks_below board 7) ∙ ap (λ w. start ++ w) (top_first board);
}

pub row_written : (board : List Place) (m : ℕ) (start out slash after : List ℕ) → 1 ≤ m → InRows board m start out → slash ≡ out ++ 47 ∷ [] → after ≡ slash ++ rank_text 0 (rank_of board (m - 1)) → InRows board (m - 1) start after
row_written board m start out slash after low h put written =
    let n = m - 1 in
    let here : InRows board (suc n) start out = subst (λ m. InRows board m start out) (omega arith) h in
    let text = rank_text 0 (rank_of board n) in
    let after-is : after ≡ (out ++ 47 ∷ []) ++ text = written ∙ ap (λ w. w ++ text) put in
    record {
      short =
          omega (arith, here.short, ap length after-is, length-append (out ++ 47 ∷ []) text, length-append out (47 ∷ []), rank_short (rank_of board n), length-take 8 (drop (8 * n) board));
      completes =
          ap (λ w. w ++ ranks_below board n) after-is ∙ append_assoc (out ++ 47 ∷ []) text (ranks_below board n) ∙ append_assoc out (47 ∷ []) (text ++ ranks_below board n)
          ∙ here.completes;
    }

pub rows_done : (board : List Place) (start out : List ℕ) → InRows board 0 start out → out ≡ start ++ placement_text board
rows_done board start out h = sym (append-nil out) ∙ h.completes

pub rows_short : (board : List Place) (start out : List ℕ) → InRows board 0 start out → length (placement_text board) ≤ 71
rows_short board start out h = omega (arith, h.short, ap length (rows_done board start out h), length-append start (placement_text board))

-- ---- the first four fields

join_four : (s p t c e : List ℕ) → ((((((s ++ p) ++ 32 ∷ []) ++ t) ++ 32 ∷ []) ++ c) ++ 32 ∷ []) ++ e ≡ s ++ (p ++ 32 ∷ (t ++ 32 ∷ (c ++ 32 ∷ e)))
join_four s p t c e = simp append_assoc

length-four : (p t c e : List ℕ) → length (p ++ 32 ∷ (t ++ 32 ∷ (c ++ 32 ∷ e))) ≡ length p + length t + length c + length e + 3
length-four p t c e = omega (arith, length-append p (32 ∷ (t ++ 32 ∷ (c ++ 32 ∷ e))), length-append t (32 ∷ (c ++ 32 ∷ e)), length-append c (32 ∷ e))

turn_short : (t : Colour) → length (turn_text t) ≡ 1
turn_short White = refl
turn_short Black = refl

pub setup_short : (p : Position) (r : Rights) (e : Option ℕ) → r ≡ p.rights → e ≡ p.ep → length (placement_text p.board) ≤ 71 → length (castling_text r) ≤ 4 → length (en_passant_text e) ≤ 2 → length (setup_text p) ≤ 81
setup_short p r e r-is e-is h four two =
    omega (arith, length-four (placement_text p.board) (turn_text p.turn) (castling_text p.rights) (en_passant_text p.ep), h, turn_short p.turn, rw r-is at four, rw e-is at two)

pub setup_written : (p : Position) (start s1 s2 s3 s4 s5 s6 s7 : List ℕ) (t : Colour) (r : Rights) (e : Option ℕ) → t ≡ p.turn → r ≡ p.rights → e ≡ p.ep → s1 ≡ start ++ placement_text p.board → s2 ≡ s1 ++ 32 ∷ [] → s3 ≡ s2 ++ turn_text t → s4 ≡ s3 ++ 32 ∷ [] → s5 ≡ s4 ++ castling_text r → s6 ≡ s5 ++ 32 ∷ [] → s7 ≡ s6 ++ en_passant_text e → s7 ≡ start ++ setup_text p
setup_written p start s1 s2 s3 s4 s5 s6 s7 t r e t-is r-is e-is h h2 h3 h4 h5 h6 h7 =
    rw (h7, h6, h5, h4, h3, h2, h, t-is, r-is, e-is) (join_four start (placement_text p.board) (turn_text p.turn) (castling_text p.rights) (en_passant_text p.ep))
