-- No record has two texts, and no text has two records.
use Rattle.std.proofs.Common.{◌≡◌, ℕ, zero, suc, ◌+◌, ◌/◌, ◌*◌, ◌%◌, ◌≤◌, Bool, true, false, cond, eqb, List, [], ◌∷◌, ◌++◌, length, take, get_or, replicate, Option, Some, None, refl, sym, ap, subst, ◌∙◌, inl, inr, arith, lit<}
use Rattle.std.specs.Prelude.{IfSome, decimal}
use Rattle.std.specs.List.{AllZip, join_with_byte}
use Rattle.std.proofs.Math.Seq.{take-add}
use Rattle.std.proofs.lemmas.List.{take_all}
use Rattle.std.proofs.lemmas.Fmt.{decimal_injective}
use Rattle.pb_board.specs.declared.piece.Colour.{Colour}
use Rattle.pb_board.specs.declared.piece.Colour.TheVariants.{White, Black}
use Rattle.pb_board.specs.declared.piece.Piece.{Piece}
use Rattle.pb_board.specs.declared.setup.Rights.{Rights}
use Rattle.pb_board.specs.Board.{Place}
use Rattle.pb_board.specs.Position.{Position, Record, IsSetup, OnEnPassantRank, EnPassantHolds, position_of}
use Rattle.pb_board.specs.Ranks.{BeginsOccupied, RankText}
use Rattle.pb_board.specs.Text.{castling_text, en_passant_text, fen_text, piece_letter, placement_text, setup_fields, turn_text}
use Rattle.pb_board.specs.Position.{IsRecord, record_of}
use Rattle.pb_board.specs.Fields.{fields}
use Rattle.pb_board.proofs.Letters.{letter_injective, letter_above}
use Rattle.pb_board.proofs.Joins.{Above, split_join}
use Rattle.pb_board.proofs.FieldBytes.{above_space, placement_bytes, turn_bytes, castling_bytes, en_passant_bytes, number_bytes}
use Rattle.pb_board.proofs.Ranks.{nothing_left}
use Rattle.pb_board.proofs.Boards.{placement_rows, rows}
use Rattle.pb_board.proofs.Placements.{PlacementText, rank_of, ranks_down}
use Rattle.pb_board.proofs.Spelled.{placement_is}

-- ---- one rank for a text

pub rank_one_board : (t : List ℕ) (r s : List Place) → RankText r t → RankText s t → r ≡ s
rank_one_board [] r s h k = h ∙ sym k
rank_one_board (c ∷ t) r s h k =
    let tails = rank_one_board t h.0 k.0 h.2 k.2 in
    elim h.1 [
      | inl p ↦ elim k.1 [
        | inl q ↦
            let same : p.0 ≡ q.0 = letter_injective p.0 q.0 (sym p.1 ∙ q.1) in
            p.2 ∙ ap (λ (x : Piece). Some x ∷ h.0) same ∙ ap (λ (w : List Place). Some q.0 ∷ w) tails ∙ sym q.2
        | inr q ↦ absurd (omega (arith, letter_above p.0, p.1, q.3, q.2))
      ]
      | inr p ↦ elim k.1 [
        | inl q ↦ absurd (omega (arith, letter_above q.0, q.1, p.3, p.2))
        | inr q ↦
            let same : p.0 ≡ q.0 = omega (arith, p.3, q.3) in
            p.4 ∙ ap (λ n. replicate n None ++ h.0) same ∙ ap (λ (w : List Place). replicate q.0 None ++ w) tails ∙ sym q.4
      ]
    ]

-- ---- one text for a rank

run_is : (m n : ℕ) (r s : List Place) → BeginsOccupied r → BeginsOccupied s → replicate m None ++ r ≡ replicate n None ++ s → (m ≡ n) × (r ≡ s)
run_is zero zero r s h k e = (refl, e)
run_is zero (suc n) r s h k e = absurd (subst BeginsOccupied e h)
run_is (suc m) zero r s h k e = absurd (subst BeginsOccupied (sym e) k)
run_is (suc m) (suc n) r s h k e =
    let tails : replicate m None ++ r ≡ replicate n None ++ s = cc in
    let more = run_is m n r s h k tails in
    (ap suc more.0, more.1)

piece_or_run : (n : ℕ) (p : Piece) (r s : List Place) → 1 ≤ n → Some p ∷ r ≡ replicate n None ++ s → ⊥
piece_or_run zero p r s low e = omega (arith, low)
piece_or_run (suc n) p r s low e = subst BeginsOccupied e tt

pub rank_one_text : (t u : List ℕ) (s : List Place) → RankText s t → RankText s u → t ≡ u
rank_one_text [] [] s h k = refl
rank_one_text [] (c ∷ u) s h k = absurd (nothing_left c u (subst (λ w. RankText w (c ∷ u)) h k))
rank_one_text (c ∷ t) [] s h k = absurd (nothing_left c t (subst (λ w. RankText w (c ∷ t)) k h))
rank_one_text (c ∷ t) (d ∷ u) s h k =
    elim h.1 [
      | inl p ↦ elim k.1 [
        | inl q ↦
            let both : Some p.0 ∷ h.0 ≡ Some q.0 ∷ k.0 = sym p.2 ∙ q.2 in
            let head : p.0 ≡ q.0 = cc (both) in
            let tail : h.0 ≡ k.0 = cc (both) in
            let more = rank_one_text t u k.0 (subst (λ w. RankText w t) tail h.2) k.2 in
            ap (λ x. x ∷ t) (p.1 ∙ ap piece_letter head ∙ sym q.1) ∙ ap (λ w. d ∷ w) more
        | inr q ↦ absurd (piece_or_run q.0 p.0 h.0 k.0 q.1 (sym p.2 ∙ q.4))
      ]
      | inr p ↦ elim k.1 [
        | inl q ↦ absurd (piece_or_run p.0 q.0 k.0 h.0 p.1 (sym q.2 ∙ p.4))
        | inr q ↦
            let same = run_is p.0 q.0 h.0 k.0 p.5 q.5 (sym p.4 ∙ q.4) in
            let more = rank_one_text t u k.0 (subst (λ w. RankText w t) same.1 h.2) k.2 in
            ap (λ x. x ∷ t) (p.3 ∙ ap (λ n. 48 + n) same.0 ∙ sym q.3) ∙ ap (λ w. d ∷ w) more
      ]
    ]

-- ---- placements

ranks_one_text : (rs : List (List Place)) (ts us : List (List ℕ)) → AllZip RankText rs ts → AllZip RankText rs us → ts ≡ us
ranks_one_text [] [] [] h k = refl
ranks_one_text [] [] (u ∷ us) h k = absurd k
ranks_one_text [] (t ∷ ts) us h k = absurd h
ranks_one_text (r ∷ rs) [] us h k = absurd h
ranks_one_text (r ∷ rs) (t ∷ ts) [] h k = absurd k
ranks_one_text (r ∷ rs) (t ∷ ts) (u ∷ us) h k =
    ap (λ x. x ∷ ts) (rank_one_text t u r h.0 k.0) ∙ ap (λ w. u ∷ w) (ranks_one_text rs ts us h.1 k.1)

placement_one_text : (b : List Place) (x y : List ℕ) → PlacementText b x → PlacementText b y → x ≡ y
placement_one_text b x y h k = h.2 ∙ ap (join_with_byte 47) (ranks_one_text (ranks_down b 8) h.0 k.0 h.1 k.1) ∙ sym k.2

ranks_one_board : (n : ℕ) (a b : List Place) (ts : List (List ℕ)) → AllZip RankText (ranks_down a n) ts → AllZip RankText (ranks_down b n) ts → take (8 * n) a ≡ take (8 * n) b
ranks_one_board zero a b ts h k = refl
ranks_one_board (suc n) a b [] h k = absurd h
ranks_one_board (suc n) a b (t ∷ ts) h k =
    let step : 8 * suc n ≡ 8 * n + 8 = omega arith in
    rw step (take-add (8 * n) 8 a ∙ ap (λ w. w ++ rank_of a n) (ranks_one_board n a b ts h.1 k.1) ∙ ap (λ w. take (8 * n) b ++ w) (rank_one_board t (rank_of a n) (rank_of b n) h.0 k.0) ∙ sym (take-add (8 * n) 8 b))

-- the text of a board is the one that the function gives
pub placement_to : (board : List Place) (text : List ℕ) → PlacementText board text → text ≡ placement_text board
placement_to board text h = placement_one_text board text (placement_text board) h (placement_is board)

placement_from : (board : List Place) (text : List ℕ) → text ≡ placement_text board → PlacementText board text
placement_from board text e = subst (PlacementText board) (sym e) (placement_is board)

placement_one_board : (a b : List Place) (x : List ℕ) → length a ≡ 64 → length b ≡ 64 → PlacementText a x → PlacementText b x → a ≡ b
placement_one_board a b x la lb h k =
    let same : take 64 a ≡ take 64 b = ranks_one_board 8 a b (rows x) (placement_rows a x h) (placement_rows b x k) in
    sym (take_all 64 a (omega arith)) ∙ same ∙ take_all 64 b (omega arith)

-- a text that is no board's
pub none_spelled : (text : List ℕ) → ((b : List Place) → length b ≡ 64 → PlacementText b text → ⊥) → (b : List Place) → length b ≡ 64 → text ≡ placement_text b → ⊥
none_spelled text none b len e = none b len (placement_from b text e)

pub placement_injective : (a b : List Place) → length a ≡ 64 → length b ≡ 64 → placement_text a ≡ placement_text b → a ≡ b
placement_injective a b la lb e = placement_one_board a b (placement_text a) la lb (placement_is a) (placement_from b (placement_text a) e)

-- ---- the pieces of a record's text

pub on_rank : (board : List Place) (turn : Colour) (ep : Option ℕ) → EnPassantHolds board turn ep → IfSome ep (OnEnPassantRank turn)
on_rank board turn None h = h
on_rank board turn (Some q) h = h.0

above_en_passant : (p : Position) → IsSetup p → Above 32 (en_passant_text p.ep)
above_en_passant p lawful = above_space (en_passant_text p.ep) (en_passant_bytes p.turn p.ep (on_rank p.board p.turn p.ep lawful.en_passant))

pub fields_of_text : (f : Record) → IsRecord f → fields 32 (fen_text f) ≡ setup_fields f.setup ++ decimal f.half ∷ decimal f.full ∷ []
fields_of_text f lawful =
    let p = f.setup in
    split_join 32 (placement_text p.board ∷ turn_text p.turn ∷ castling_text p.rights ∷ en_passant_text p.ep ∷ decimal f.half ∷ decimal f.full ∷ []) (
      above_space _ (placement_bytes p.board),
      (
        above_space _ (turn_bytes p.turn),
        (
          above_space _ (castling_bytes p.rights),
          (above_en_passant p lawful.setup, (above_space _ (number_bytes f.half lawful.half), (above_space _ (number_bytes f.full lawful.full), tt))),
        ),
      ),
    ) (lit< tt)

-- ---- one record for a text

has : ℕ → List ℕ → Bool
has c [] = false
has c (x ∷ xs) = cond (eqb x c) true (has c xs)

rights_from : List ℕ → Rights
rights_from t = record { white_short = has 75 t; white_long = has 81 t; black_short = has 107 t; black_long = has 113 t }

rights_back : (a b c d : Bool) → rights_from (castling_text (record { white_short = a; white_long = b; black_short = c; black_long = d })) ≡ record { white_short = a; white_long = b; black_short = c; black_long = d }
unfolding rights_from has
rights_back true true true true = refl
rights_back true true true false = refl
rights_back true true false true = refl
rights_back true true false false = refl
rights_back true false true true = refl
rights_back true false true false = refl
rights_back true false false true = refl
rights_back true false false false = refl
rights_back false true true true = refl
rights_back false true true false = refl
rights_back false true false true = refl
rights_back false true false false = refl
rights_back false false true true = refl
rights_back false false true false = refl
rights_back false false false true = refl
rights_back false false false false = refl

castling_injective : (r s : Rights) → castling_text r ≡ castling_text s → r ≡ s
castling_injective r s e = sym (rights_back r.white_short r.white_long r.black_short r.black_long) ∙ ap rights_from e ∙ rights_back s.white_short s.white_long s.black_short s.black_long

pub turn_injective : (s t : Colour) → turn_text s ≡ turn_text t → s ≡ t
turn_injective White White e = refl
turn_injective White Black e = let h : ◌≡◌ {A = ℕ} 119 98 = ap (λ (t : List ℕ). get_or t 0 0) e in absurd (omega (arith, h))
turn_injective Black White e = let h : ◌≡◌ {A = ℕ} 98 119 = ap (λ (t : List ℕ). get_or t 0 0) e in absurd (omega (arith, h))
turn_injective Black Black e = refl

same_rank : (turn : Colour) (x y : ℕ) → OnEnPassantRank turn x → OnEnPassantRank turn y → x / 8 ≡ y / 8
same_rank White x y h k = omega (arith, h, k)
same_rank Black x y h k = omega (arith, h, k)

pub en_passant_injective : (turn : Colour) (p q : Option ℕ) → IfSome p (OnEnPassantRank turn) → IfSome q (OnEnPassantRank turn) → en_passant_text p ≡ en_passant_text q → p ≡ q
en_passant_injective turn None None h k e = refl
en_passant_injective turn None (Some y) h k e = absurd (omega (arith, ap length e))
en_passant_injective turn (Some x) None h k e = absurd (omega (arith, ap length e))
en_passant_injective turn (Some x) (Some y) h k e =
    let file : 97 + x % 8 ≡ 97 + y % 8 = ap (λ (t : List ℕ). get_or t 0 0) e in
    let same : x ≡ y = omega (arith, file, same_rank turn x y h k) in
    ap (λ n. Some n) same

pub one_setup : (p q : Position) (four : List (List ℕ)) → IsSetup p → IsSetup q → four ≡ setup_fields p → four ≡ setup_fields q → p ≡ q
one_setup p q four lp lq h k =
    let cells = sym h ∙ k in
    let cell = λ (i : ℕ). ap (λ (w : List (List ℕ)). get_or w i []) cells in
    let boards : p.board ≡ q.board = placement_injective p.board q.board lp.places lq.places (cell 0) in
    let turns : p.turn ≡ q.turn = turn_injective p.turn q.turn (cell 1) in
    let rights : p.rights ≡ q.rights = castling_injective p.rights q.rights (cell 2) in
    let eps : p.ep ≡ q.ep = en_passant_injective p.turn p.ep q.ep (on_rank p.board p.turn p.ep lp.en_passant) (subst (λ x. IfSome q.ep (OnEnPassantRank x)) (sym turns) (on_rank q.board q.turn q.ep lq.en_passant)) (cell 3) in
    ap (λ x. position_of x p.turn p.rights p.ep) boards ∙ ap (λ x. position_of q.board x p.rights p.ep) turns ∙ ap (λ x. position_of q.board q.turn x p.ep) rights ∙ ap (λ x. position_of q.board q.turn q.rights x) eps

pub one_record : (f g : Record) (t : List ℕ) → IsRecord f → IsRecord g → t ≡ fen_text f → t ≡ fen_text g → f ≡ g
one_record f g t lf lg h k =
    let cells = sym (fields_of_text f lf) ∙ ap (fields 32) (sym h ∙ k) ∙ fields_of_text g lg in
    let cell = λ (i : ℕ). ap (λ (w : List (List ℕ)). get_or w i []) cells in
    let setups : f.setup ≡ g.setup = one_setup f.setup g.setup (setup_fields f.setup) lf.setup lg.setup refl (ap (take 4) cells) in
    let halves : f.half ≡ g.half = decimal_injective f.half g.half (omega (arith, lf.half)) (omega (arith, lg.half)) (cell 4) in
    let fulls : f.full ≡ g.full = decimal_injective f.full g.full (omega (arith, lf.full)) (omega (arith, lg.full)) (cell 5) in
    ap (λ x. record_of x f.half f.full) setups ∙ ap (λ x. record_of g.setup x f.full) halves ∙ ap (λ x. record_of g.setup g.half x) fulls
