-- Tokens, and the moves that they spell.
use Rattle.std.proofs.Common.{◌≡◌, ℕ, ◌+◌, ◌≤◌, eqb, List, [], ◌∷◌, length, map, get_or, Option, Some, None, refl, sym, ap, subst, ◌∙◌, arith}
use Rattle.std.specs.Iterator.{YieldsFirst}
use Rattle.std.specs.List.{All, join_with_byte}
use Rattle.std.proofs.lemmas.List.Elements.{All-head, All-tail, All-rest, All-map, All-weaker}
use Rattle.std.proofs.lemmas.List.Splits.{length-slice_split, join_with_byte-slice_split}
use Rattle.std.proofs.lemmas.List.Sums.{count_by-le-length}
use Rattle.pb_board.specs.declared.piece.Kind.{Kind}
use Rattle.pb_board.specs.declared.piece.Kind.TheVariants.{Pawn, Knight, Bishop, Rook, Queen, King}
use Rattle.pb_board.specs.Board.{file, rank}
use Rattle.pb_moves.specs.Moved.{Moved, IsMove, IsPromotion, moved_of}
use Rattle.pb_moves.specs.Played.{Spells, IsSpelled}
use Rattle.std.specs.Prelude.{option_to_list}
use Rattle.pb_board.specs.declared.piece.Colour.TheVariants as side
use Rattle.pb_board.specs.Piece.{piece_of}
use Rattle.pb_board.specs.Text.{piece_letter}
use Rattle.pb_moves.specs.Spelling.{spelling}
use Rattle.pb_games.specs.Tokens.{ReadsFirst, tokens_of, square_spelt, promotion_spelt, move_spelt}

-- a field has no more tokens than bytes, and one
pub few_tokens : (field : List ℕ) → length (tokens_of field) ≤ length field + 1
few_tokens [] = omega arith
few_tokens (c ∷ cs) = omega (arith, length-slice_split (λ b. eqb b 32) (c ∷ cs), count_by-le-length (λ b. eqb b 32) (c ∷ cs))

-- ---- the move that a token names

square_back : (q : ℕ) → square_spelt (97 + file q) (49 + rank q) ≡ q
square_back q = omega arith

abbrev promotion_text : Option Kind → List ℕ
promotion_text promo = map (λ kind. piece_letter (piece_of side.Black kind)) (option_to_list promo)

kind_back : (kind : Kind) (a b c d : ℕ) → IsPromotion kind → promotion_spelt (get_or (a ∷ b ∷ c ∷ d ∷ promotion_text (Some kind)) 4 0) ≡ Some kind
kind_back Pawn a b c d h = absurd (h.0 refl)
kind_back Knight a b c d h = refl
kind_back Bishop a b c d h = refl
kind_back Rook a b c d h = refl
kind_back Queen a b c d h = refl
kind_back King a b c d h = absurd (h.1 refl)

promotion_back : (promo : Option Kind) (a b c d : ℕ) → ((kind : Kind) → promo ≡ Some kind → IsPromotion kind) → promotion_spelt (get_or (a ∷ b ∷ c ∷ d ∷ promotion_text promo) 4 0) ≡ promo
promotion_back None a b c d h = refl
promotion_back (Some kind) a b c d h = kind_back kind a b c d (h kind refl)

-- the spelling of a move names the move
pub spelt_back : (m : Moved) → IsMove m → move_spelt (spelling m) ≡ m
spelt_back m h =
    let promo = promotion_back m.promo (97 + file m.from) (49 + rank m.from) (97 + file m.to) (49 + rank m.to) h.promotes in
    ap (λ q. moved_of q (square_spelt (97 + file m.to) (49 + rank m.to)) (promotion_spelt (get_or (spelling m) 4 0))) (square_back m.from)
    ∙ ap (λ q. moved_of m.from q (promotion_spelt (get_or (spelling m) 4 0))) (square_back m.to)
    ∙ ap (λ p. moved_of m.from m.to p) promo

spelt_is : (token : List ℕ) (m : Moved) → Spells token m → move_spelt token ≡ m
spelt_is token m h = ap move_spelt h.is ∙ spelt_back m h.is_move

pub spells_it : (token : List ℕ) → IsSpelled token → Spells token (move_spelt token)
spells_it token h =
    let same = sym (spelt_is token h.0 h.1) in
    record {
      is_move = subst IsMove same h.1.is_move;
      is = h.1.is ∙ ap spelling same;
    }

-- a move has one spelling, and a spelling one move
pub spelling_injective : (l m : Moved) → IsMove l → IsMove m → spelling l ≡ spelling m → l ≡ m
spelling_injective l m hl hm e = sym (spelt_back l hl) ∙ ap move_spelt e ∙ spelt_back m hm

-- ---- the tokens of a field

-- tokens of which each spells a move are the spellings of the moves that they name
pub spellings_back : (tokens : List (List ℕ)) → All IsSpelled tokens → map spelling (map move_spelt tokens) ≡ tokens
spellings_back [] h = refl
spellings_back (w ∷ ws) h =
    ap (λ x. x ∷ map spelling (map move_spelt ws)) (sym (spells_it w (All-head IsSpelled w ws h)).is)
    ∙ ap (λ (xs : List (List ℕ)). w ∷ xs) (spellings_back ws (All-tail IsSpelled w ws h))

pub spelt_are_moves : (tokens : List (List ℕ)) → All IsSpelled tokens → All IsMove (map move_spelt tokens)
spelt_are_moves tokens h = All-map IsMove move_spelt tokens (All-weaker IsSpelled (λ w. IsMove (move_spelt w)) (λ w s. (spells_it w s).is_move) tokens h)

-- the first of tokens that spell moves gives the first move
pub next_move : (r : Option Moved) (now : List Moved) (tokens rest : List (List ℕ)) → now ≡ map move_spelt tokens → All IsSpelled tokens → ReadsFirst tokens r rest → YieldsFirst (λ s. s) now r (map move_spelt rest)
next_move None now tokens rest view spelt h = absurd (h.2 (All-head IsSpelled h.0 rest (subst (All IsSpelled) h.1 spelt)))
next_move (Some m) now tokens rest view spelt h = view ∙ ap (map move_spelt) h.1 ∙ ap (λ x. x ∷ map move_spelt rest) (spelt_back m h.0)

pub spelt_left : (r : Option Moved) (tokens rest : List (List ℕ)) → All IsSpelled tokens → ReadsFirst tokens r rest → All IsSpelled rest
spelt_left None tokens rest spelt h = All-rest IsSpelled _ _ _ h.1 spelt
spelt_left (Some m) tokens rest spelt h = All-rest IsSpelled _ _ _ h.1 spelt

-- tokens that spell moves are read as the first of them first
pub read_first : (m : Moved) (r : Option Moved) (tokens rest : List (List ℕ)) (ms : List Moved) → IsMove m → ReadsFirst tokens r rest → tokens ≡ map spelling (m ∷ ms) → r ≡ Some m
read_first m None tokens rest ms is h all = let first : h.0 ≡ spelling m = cc (h.1, all) in absurd (h.2 (m, record { is_move = is; is = first }))
read_first m (Some read) tokens rest ms is h all = let first : spelling read ≡ spelling m = cc (h.1, all) in ap (λ x. Some x) (spelling_injective read m h.0 is first)

-- a field is its tokens, with a space between each two
pub tokens-back : (field : List ℕ) → join_with_byte 32 (tokens_of field) ≡ field
tokens-back [] = refl
tokens-back (c ∷ cs) = join_with_byte-slice_split 32 (c ∷ cs)
