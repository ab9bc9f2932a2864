-- Reading the spelling of a move.
use Rattle.std.proofs.Common.{◌≡◌, ◌≢◌, ℕ, List, [], ◌∷◌, ◌++◌, ◌≤◌, length, take, get_or, Option, Some, None, MatchOption, refl, sym, ap, ap₂, subst, ◌∙◌, arith}
use Rattle.std.proofs.lemmas.List.{take_all}
use Rattle.std.specs.Option.{ForSome, SomeIff}
use Rattle.pb_board.specs.declared.piece.Colour.TheVariants.{Black}
use Rattle.pb_board.specs.declared.piece.Kind.{Kind}
use Rattle.pb_board.specs.declared.piece.Piece.{Piece}
use Rattle.pb_board.specs.Piece.{piece_of}
use Rattle.pb_board.specs.Text.{piece_letter, square_text}
use Rattle.pb_board.proofs.Letters.{letter_injective}
use Rattle.pb_moves.specs.Moved.{Moved, IsMove, IsPromotion, moved_of}
use Rattle.pb_moves.specs.Spelling.{spelling}

abbrev Squares : Moved → List ℕ
Squares m = square_text m.from ++ square_text m.to

-- this is what reading the text gives
abbrev pub Reads : List ℕ → Option Moved → Type 0
Reads text r = MatchOption r ((m : Moved) → IsMove m → text ≢ spelling m) (λ m. IsMove m × (text ≡ spelling m))

-- the same move without its promotion
unpromoted : (m : Moved) → IsMove m → IsMove (moved_of m.from m.to None)
unpromoted m is = record { from_on_board = is.from_on_board; to_on_board = is.to_on_board; moves = is.moves; promotes = λ kind e. absurd (cc) }

lawful_some : (k : Kind) → IsPromotion k → ForSome (Some k) IsPromotion
lawful_some k lawful kind e = let same : k ≡ kind = cc in subst IsPromotion same lawful

-- the first four of some bytes
abbrev front : List ℕ → List ℕ
front text = get_or text 0 0 ∷ get_or text 1 0 ∷ get_or text 2 0 ∷ get_or text 3 0 ∷ []

front_is : (text : List ℕ) → 4 ≤ length text → front text ≡ take 4 text
front_is [] many = absurd (omega (arith, many))
front_is (a ∷ []) many = absurd (omega (arith, many))
front_is (a ∷ b ∷ []) many = absurd (omega (arith, many))
front_is (a ∷ b ∷ c ∷ []) many = absurd (omega (arith, many))
front_is (a ∷ b ∷ c ∷ d ∷ more) many = refl

five_are : (text : List ℕ) → length text ≡ 5 → text ≡ front text ++ get_or text 4 0 ∷ []
five_are [] five = absurd (omega (arith, five))
five_are (a ∷ []) five = absurd (omega (arith, five))
five_are (a ∷ b ∷ []) five = absurd (omega (arith, five))
five_are (a ∷ b ∷ c ∷ []) five = absurd (omega (arith, five))
five_are (a ∷ b ∷ c ∷ d ∷ []) five = absurd (omega (arith, five))
five_are (a ∷ b ∷ c ∷ d ∷ e ∷ []) five = refl
five_are (a ∷ b ∷ c ∷ d ∷ e ∷ f ∷ more) five = absurd (omega (arith, five))

pub four_spelled : (text : List ℕ) (r : Option Moved) → length text ≡ 4 → Reads (front text) r → Reads text r
four_spelled text r four h = subst (λ bytes. Reads bytes r) (front_is text (omega arith) ∙ take_all 4 text (omega arith)) h

-- five bytes of which the first four spell no move spell none
pub five_unspelled : (text : List ℕ) → length text ≡ 5 → ((m : Moved) → IsMove m → front text ≢ spelling m)
    → (m : Moved) → IsMove m → text ≢ spelling m
five_unspelled text five none m is spelt =
    none (moved_of m.from m.to None) (unpromoted m is) (front_is text (omega arith) ∙ ap (take 4) spelt)

-- the last of five bytes that spell a move names its promotion
last_letter : (text : List ℕ) (from to : ℕ) (promo : Option Kind) → length text ≡ 5 → text ≡ spelling (moved_of from to promo)
    → (k : Kind) × (promo ≡ Some k) × (piece_letter (piece_of Black k) ≡ get_or text 4 0)
last_letter text from to None five spelt = absurd (let four = ap (λ (w : List ℕ). length w) spelt in omega (arith, four, five))
last_letter text from to (Some k) five spelt = (k, refl, sym (ap (λ (w : List ℕ). get_or w 4 0) spelt))

-- five bytes spell the move that the first four spell, with the promotion to the kind that the last
-- names
pub five_spelled : (text : List ℕ) (p : Moved) (k : Kind) (from to : ℕ) (r : Option Moved) → length text ≡ 5
    → IsMove p → front text ≡ spelling p
    → piece_letter (piece_of Black k) ≡ get_or text 4 0
    → from ≡ p.from → to ≡ p.to → SomeIff r ((from ≢ to) × ForSome (Some k) IsPromotion) (moved_of from to (Some k)) → Reads text r
five_spelled text p k from to None five is spelt last leaves reaches h = λ m lawful named.
    let l = last_letter text m.from m.to m.promo five named in
    let same : l.0 ≡ k = ap (λ (q : Piece). q.kind) (letter_injective (piece_of Black l.0) (piece_of Black k) (l.2 ∙ sym last)) in
    h ((λ e. is.moves (sym leaves ∙ e ∙ reaches)), lawful_some k (subst IsPromotion same (lawful.promotes l.0 l.1)))
five_spelled text p k from to (Some m) five is spelt last leaves reaches h =
    let made : m ≡ moved_of p.from p.to (Some k) = h.1 ∙ ap₂ (λ x y. moved_of x y (Some k)) leaves reaches in (
      subst IsMove (sym made) (record { from_on_board = is.from_on_board; to_on_board = is.to_on_board; moves = is.moves; promotes = h.0.1 }),
      five_are text five
          ∙ ap (λ (w : List ℕ). take 4 w ++ get_or text 4 0 ∷ []) spelt
          ∙ ap (λ (n : ℕ). Squares p ++ n ∷ []) (sym last)
          ∙ ap spelling (sym made),
    )
