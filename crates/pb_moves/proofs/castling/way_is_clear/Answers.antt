use Rattle.std.proofs.Common.{◌≡◌, ◌<◌, ◌^◌, ◌↔◌, ℕ, IsTrue, inr, subst, eqb, bit_and, arith}
use Rattle.std.proofs.lemmas.Bool.{eq-eqb, eqb-true}
use Rattle.pb_board.specs.declared.castling.Castling.{Castling}
use Rattle.pb_board.specs.declared.piece.Kind.{Kind}
use Rattle.pb_board.specs.declared.piece.Kind.TheVariants.{Rook}
use Rattle.pb_board.specs.Board.{Board}
use Rattle.pb_board.specs.Castling.{castling_row}
use Rattle.pb_moves.specs.Attackers.{IsOccupied}
use Rattle.pb_moves.specs.Attacks.{Clear, Pattern, files_apart, ranks_apart}
use Rattle.pb_moves.proofs.Castlings.{rows}
use Rattle.pb_moves.proofs.Seen.{HasBetween, clear_if_open, open_if_clear, open_told}
use Rattle.pb_moves.proofs.castling.way_is_clear.Goals as goal

-- the way between king and rook is clear just where nothing of what is taken lies there
row_way : (c : Castling) (board : Board) (occ set king rook : ℕ) → IsOccupied occ board → occ < 2 ^ 64 → king ≡ (castling_row c).king_from → rook ≡ (castling_row c).rook_from
    → ((k : Kind) → Pattern k (files_apart king rook) (ranks_apart king rook) → HasBetween set king rook) → IsTrue (eqb (bit_and set occ) 0) ↔ Clear board (castling_row c).king_from (castling_row c).rook_from
row_way c board occ set king rook taken small king_is rook_is has =
    let row = castling_row c in
    let line = (rows c).line in
    let L : ℕ → ℕ → Type 0 = λ f t. (k : Kind) → Pattern k (files_apart f t) (ranks_apart f t) → HasBetween set f t in
    let between = subst (λ (f : ℕ). L f row.rook_from) king_is (subst (λ (t : ℕ). L king t) rook_is has) in
    let told = open_told occ set row.king_from row.rook_from small (between Rook line) in (
      λ h. clear_if_open board occ row.king_from row.rook_from taken (told.0 (eqb-true _ _ h)) (inr line.0, line.1),
      λ way. eq-eqb _ _ (told.1 (open_if_clear board occ row.king_from row.rook_from taken way)),
    )

pub returns : goal.returns
returns c =
    let squares = c.squares-squares.ensures in
    let taken : IsOccupied c.occupied.result c.args.setup.now.board = λ q on. c.occupied.ensures.squares q in
    row_way c.args.castling c.args.setup.now.board c.occupied.result c.between.result c.squares-squares.result.king_from c.squares-squares.result.rook_from
    taken (omega arith) squares.king_from squares.rook_from c.between.ensures
