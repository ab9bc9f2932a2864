-- Where the kings stand on a board that differs, and what stands on a square.
use Rattle.std.proofs.Common.{◌≡◌, ◌≢◌, ℕ, ◌⊎◌, refl, arith, inl, inr, sym, ap, subst, ◌∙◌, Some, None, List, ◌∷◌}
use Rattle.std.specs.Prelude.{All}
use Rattle.pb_board.specs.declared.piece.Colour.{Colour}
use Rattle.pb_board.specs.declared.piece.Colour.TheVariants.{White, Black}
use Rattle.pb_board.specs.declared.piece.Kind.{Kind}
use Rattle.pb_board.specs.declared.piece.Kind.TheVariants.{Pawn, Knight, King}
use Rattle.pb_board.specs.declared.piece.Piece.{Piece}
use Rattle.pb_board.specs.Piece.{opponent, king_of, rook_of}
use Rattle.pb_board.specs.Board.{Board, Place, file, rank, Holds, IsEmpty, IsForward}
use Rattle.pb_board.specs.Position.{Position, IsOnlyKing, double_stepped}
use Rattle.pb_board.specs.declared.castling.Castling.{Castling}
use Rattle.pb_board.proofs.Kings.{only_king}
use Rattle.pb_moves.specs.Attacks.{Attacks}
use Rattle.pb_board.specs.Castling.{castling_row}
use Rattle.pb_moves.specs.Legal.{IsCapturable}
use Rattle.pb_moves.specs.Successor.{Differs}
use Rattle.pb_moves.proofs.Castlings.{Asks, rows}
use Rattle.pb_moves.proofs.Differing.{All-two, arrived, each_place}

-- two pieces do not stand on one square
pub holds_one : (board : Board) (q : ℕ) (p r : Piece) → Holds board q p → Holds board q r → p ≡ r
holds_one board q p r x y = cc

pub holds_at : (board : Board) (q r : ℕ) (p : Piece) → q ≡ r → Holds board q p → Holds board r p
holds_at board q r p e h = let P : ℕ → Type 0 = λ k. Holds board k p in subst P e h

-- an empty square holds nothing
pub empty_holds : (board : Board) (q r : ℕ) (p : Piece) → IsEmpty board r → q ≡ r → Holds board q p → ⊥
empty_holds board q r p e same h = let here = holds_at board q r p same h in cc

-- a king stays where it is while what changes is neither its square nor a king that arrives
pub king_stays_differs : (old new : Board) (now : List (ℕ × Place)) (k : ℕ) (side : Colour) → Differs old new now
    → All (λ c. (c.1 ≢ Some (king_of side)) × ¬ Holds old c.0 (king_of side)) now → IsOnlyKing old side k → IsOnlyKing new side k
king_stays_differs old new now k side moved safe only =
    let H : ℕ → Type 0 = λ q. Holds old q (king_of side) in
    let here = (only k).1 refl in
    only_king new side k (moved.others k (λ i d lt same. (safe i d lt).1 (subst H same here)) ∙ here)
    (each_place old new now (λ q place. place ≡ Some (king_of side) → q ≡ k) moved (λ i d lt e. absurd ((safe i d lt).0 e)) (λ q off. (only q).0))

-- a king that goes stands where it arrives
pub king_goes_differs : (old new : Board) (from to k : ℕ) (side : Colour) (besides : List (ℕ × Place))
    → Differs old new ((from, None) ∷ (to, Some (king_of side)) ∷ besides) → All (λ c. c.1 ≢ Some (king_of side)) besides → Holds old from (king_of side)
    → IsOnlyKing old side k → IsOnlyKing new side to
king_goes_differs old new from to k side besides moved safe stands only =
    let now : List (ℕ × Place) = (from, None) ∷ (to, Some (king_of side)) ∷ besides in
    let F : ℕ × Place → Type 0 = λ c. c.1 ≡ Some (king_of side) → c.0 ≡ to in
    only_king new side to (arrived old new from to (king_of side) besides moved)
    (each_place old new now (λ q place. place ≡ Some (king_of side) → q ≡ to) moved
    (All-two F (from, None) (to, Some (king_of side)) besides (λ e. absurd cc) (λ e. refl) (λ i d lt e. absurd (safe i d lt e)))
    (λ q off e. absurd (off 0 (0, None) (omega arith) ((only q).0 e ∙ sym ((only from).0 stands)))))

pub rook_no_king : (colour side : Colour) → rook_of colour ≢ king_of side
rook_no_king colour side same = let F : Piece → Kind = λ x. x.kind in let e = ap F same in cc

-- the target of a piece or a capture holds no king
pub open_no_king : (s : Position) (to : ℕ) (c : Colour) → (IsEmpty s.board to ⊎ IsCapturable s to) → ¬ Holds s.board to (king_of c)
open_no_king s to c (inl e) h = cc
open_no_king s to c (inr (k, no_king, stands)) h =
    let same = holds_one s.board to _ (king_of c) stands h in
    let F : Piece → Kind = λ x. x.kind in
    no_king (ap F same)

pub no_king : (p : Piece) (c : Colour) → p.kind ≢ King → p ≢ king_of c
no_king p c ne same = let F : Piece → Kind = λ x. x.kind in ne (ap F same)

-- a piece of the other colour is not this side's king
pub enemy_no_king : (p : Piece) (side : Colour) → p.colour ≡ side → p ≢ king_of (opponent side)
enemy_no_king p White own same = let F : Piece → Colour = λ x. x.colour in let e = ap F same in cc
enemy_no_king p Black own same = let F : Piece → Colour = λ x. x.colour in let e = ap F same in cc

pub king_or_not : (k : Kind) → (k ≡ King) ⊎ (k ≢ King)
king_or_not King = inl refl
king_or_not Knight = inr (λ e. cc)
king_or_not k = inr (λ e. cc)

pub some_one : (p q : Piece) → Some p ≡ Some q → p ≡ q
some_one p q e = cc

pub empty_at : (board : Board) (q r : ℕ) → q ≡ r → IsEmpty board q → IsEmpty board r
empty_at board q r e empty = let P : ℕ → Type 0 = λ k. IsEmpty board k in subst P e empty

pub pawn_reach : (colour : Colour) (kind : Kind) (board : Board) (a b : ℕ) → Attacks colour kind board a b → kind ≡ Pawn → IsForward colour 1 a b
pawn_reach _ _ board a b r e = r.1 e

-- the pawn that is taken en passant stands where its double step took it
pub gone_is_double_stepped : (side : Colour) (from to gone : ℕ) → IsForward side 1 from to → file gone ≡ file to → rank gone ≡ rank from → gone ≡ double_stepped side to
gone_is_double_stepped White from to gone forward gone_file gone_rank = omega arith
gone_is_double_stepped Black from to gone forward gone_file gone_rank = omega arith

-- where king and rook go nothing stood
pub castling_unpinned : (c : Castling) (s : Position) → Asks (castling_row c) s
    → IsEmpty s.board (castling_row c).king_to × IsEmpty s.board (castling_row c).rook_to
castling_unpinned c s asks =
    let row = castling_row c in
    let squares = rows c in
    (asks.2 row.king_to squares.king_to squares.king_crosses, asks.2 row.rook_to squares.rook_to squares.rook_crosses)
