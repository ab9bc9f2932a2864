-- What the tests of a place tell: its colour, its kind, and the piece that stands there.
use Rattle.std.proofs.Common.{◌≡◌, ◌≤◌, true, ◌&&◌, ◌==◌, Some, None, ap, ap₂, refl, arith}
use Rattle.std.proofs.lemmas.Bool.{eq-eqb, eqb-true, false≢true}
use Rattle.std.proofs.lemmas.Bool.Decides.{nat_tests}
use Rattle.pb_board.specs.declared.piece.Colour.{Colour}
use Rattle.pb_board.specs.declared.piece.Colour.TheVariants.{White, Black}
use Rattle.pb_board.specs.declared.piece.Kind.{Kind}
use Rattle.pb_board.specs.declared.piece.Kind.TheVariants.{Pawn, Knight, Bishop, Rook, Queen, King}
use Rattle.pb_board.specs.declared.piece.Piece.{Piece}
use Rattle.pb_board.specs.Piece.{colour_number, kind_number, piece_number}
use Rattle.pb_board.specs.Board.{Place, is_piece}

pub colour_one : (c d : Colour) → colour_number c ≡ colour_number d → c ≡ d
colour_one White White e = refl
colour_one Black Black e = refl
colour_one c d e = absurd (omega arith)

pub kind_one : (j k : Kind) → kind_number j ≡ kind_number k → j ≡ k
kind_one Pawn Pawn e = refl
kind_one Knight Knight e = refl
kind_one Bishop Bishop e = refl
kind_one Rook Rook e = refl
kind_one Queen Queen e = refl
kind_one King King e = refl
kind_one j k e = absurd (omega arith)

colour_small : (c : Colour) → colour_number c ≤ 1
colour_small White = omega arith
colour_small Black = omega arith

piece_one : (p q : Piece) → piece_number p ≡ piece_number q → p ≡ q
piece_one p q e =
    let colour = colour_one p.colour q.colour (omega (arith, e, colour_small p.colour, colour_small q.colour)) in
    let kind = kind_one p.kind q.kind (omega (arith, e, colour_small p.colour, colour_small q.colour)) in
    ap₂ (λ (c : Colour) (k : Kind). record { colour = c; kind = k }) colour kind

-- where the test passes, this piece stands
pub is_piece-is : (piece : Piece) (place : Place) → is_piece piece place ≡ true → place ≡ Some piece
is_piece-is piece None e = absurd (false≢true e)
is_piece-is piece (Some p) e = ap (λ (x : Piece). Some x) (piece_one p piece (eqb-true (piece_number p) (piece_number piece) e))

pub is_piece-passes : (piece : Piece) → is_piece piece (Some piece) ≡ true
is_piece-passes piece = eq-eqb (piece_number piece) (piece_number piece) refl

-- pieces of one number are of one kind and one colour
pub piece_number-halves : (p q : Piece) → (kind_number p.kind == kind_number q.kind && colour_number p.colour == colour_number q.colour) ≡ (piece_number p == piece_number q)
piece_number-halves p q = let small = colour_small p.colour in let other = colour_small q.colour in grind (arith, nat_tests)
