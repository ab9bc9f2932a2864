-- What a piece's kind tells of its move.
use Rattle.std.proofs.Common.{◌≡◌, ℕ, ◌≤◌, arith, ap, subst, ◌∙◌, Option, Some}
use Rattle.pb_board.specs.declared.piece.Colour.{Colour}
use Rattle.pb_board.specs.declared.piece.Colour.TheVariants.{White, Black}
use Rattle.pb_board.specs.declared.piece.Kind.{Kind}
use Rattle.pb_board.specs.declared.piece.Kind.TheVariants.{Pawn, King}
use Rattle.pb_board.specs.declared.piece.Piece.{Piece}
use Rattle.pb_board.specs.Board.{Board, IsForward}
use Rattle.pb_board.specs.Position.{Position, IsSetup, EnPassantHolds}
use Rattle.pb_moves.specs.Attacks.{Attacks, files_apart, ranks_apart}

-- a piece is its colour and its kind
pub piece_is : (p : Piece) (colour : Colour) (kind : Kind) → p.colour ≡ colour → p.kind ≡ kind → p ≡ record { colour = colour; kind = kind }
piece_is p colour kind c k =
    let F : Kind → Piece = λ x. record { colour = p.colour; kind = x } in
    let G : Colour → Piece = λ x. record { colour = x; kind = kind } in
    ap F k ∙ ap G c

-- the en passant square of a setup is empty, and the pawn that made the double step stands there
pub en_passant_at : (s : Position) (q : ℕ) → IsSetup s → s.ep ≡ Some q → EnPassantHolds s.board s.turn (Some q)
en_passant_at s q ok here =
    let P : Option ℕ → Type 0 = λ ep. EnPassantHolds s.board s.turn ep in
    subst P here ok.en_passant

pub king_near : (colour : Colour) (kind : Kind) (board : Board) (a b : ℕ) → Attacks colour kind board a b → kind ≡ King → files_apart a b ≤ 1
king_near colour King board a b r e = omega (arith, r.0)
king_near colour k board a b r e = absurd (cc)

pub pawn_files : (colour : Colour) (kind : Kind) (board : Board) (a b : ℕ) → Attacks colour kind board a b → kind ≡ Pawn → files_apart a b ≡ 1
pawn_files colour Pawn board a b r e = r.0.0
pawn_files colour k board a b r e = absurd (cc)

pub step_ranks : (colour : Colour) (n a b : ℕ) → IsForward colour n a b → ranks_apart a b ≡ n
step_ranks White n a b h = omega arith
step_ranks Black n a b h = omega arith
