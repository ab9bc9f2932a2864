-- Squares to which a piece may go, and the legal moves found so far.
use Rattle.std.specs.Prelude.{◌≡◌, ℕ, ◌<◌, ◌⊎◌, ◌↔◌, List, Some, All, AllPairs, Contains, IsSome}
use Rattle.pb_board.specs.declared.piece.Colour.{Colour}
use Rattle.pb_board.specs.declared.piece.Colour.TheVariants.{Black}
use Rattle.pb_board.specs.declared.piece.Kind.{Kind}
use Rattle.pb_board.specs.declared.piece.Kind.TheVariants.{Pawn, King}
use Rattle.pb_board.specs.declared.piece.Piece.{Piece}
use Rattle.pb_board.specs.Board.{Board, Holds, IsEmpty, file, rank, rank_for, IsForward}
use Rattle.pb_board.specs.Piece.{kind_number}
use Rattle.pb_board.specs.Position.{Position}
use Rattle.pb_moves.specs.Attacks.{Attacks, Clear, Pattern, files_apart, ranks_apart}
use Rattle.pb_moves.specs.Legal.{Castles, IsCapturable, Legal}
use Rattle.pb_moves.specs.Moved.{Moved}
use Rattle.pb_moves.specs.Listing.{order_of}
use Rattle.pb_moves.specs.Attackers.{In}

-- this piece of the side to move stands there
pub record IsOwn (s : Position) (square : ℕ) (piece : Piece) : Type 0 where
  pub stands : Holds s.board square piece
  pub own : piece.colour ≡ s.turn

-- the set has the squares of the board on which a piece of the side to move stands
abbrev pub AreOwn : ℕ → Position → Type 0
AreOwn own s = (q : ℕ) → q < 64 → In own q ↔ ((piece : Piece) × IsOwn s q piece)

-- a piece of this side and kind on a attacks b, if nothing stands between
abbrev pub Aims : Colour → Kind → ℕ → ℕ → Type 0
Aims side kind a b =
    Pattern kind (files_apart a b) (ranks_apart a b) × (kind ≡ Pawn → IsForward side 1 a b)

-- a pawn of this side on a steps to b, if nothing stands there or between
abbrev pub Steps : Colour → ℕ → ℕ → Type 0
Steps side a b = (file b ≡ file a)
    × (IsForward side 1 a b ⊎ ((rank_for side a ≡ 1) × IsForward side 2 a b))

-- the piece may go from a to b on some board, castling apart
abbrev pub MayTarget : Colour → Kind → ℕ → ℕ → Type 0
MayTarget side kind a b = Aims side kind a b ⊎ ((kind ≡ Pawn) × Steps side a b)

-- its row in the table of these squares: the number of its kind, but for black pawns
abbrev pub target_row : Kind → Colour → ℕ
target_row Pawn Black = 6
target_row kind side = kind_number kind

-- the piece may go from a to b on some board; or it is a king, and b stands two files from a on its
-- rank, also where a isn't the king's home
abbrev pub MayReach : Colour → Kind → ℕ → ℕ → Type 0
MayReach side kind a b = MayTarget side kind a b
    ⊎ ((kind ≡ King) × (files_apart a b ≡ 2) × (ranks_apart a b ≡ 0))

-- the piece attacks b, a pawn where something stands; or a pawn steps to b, with nothing in its way
abbrev pub GoesTo : Piece → Board → ℕ → ℕ → Type 0
GoesTo p board a b =
    (Attacks p.colour p.kind board a b × (p.kind ≡ Pawn → ¬ IsEmpty board b))
    ⊎ ((p.kind ≡ Pawn) × Steps p.colour a b × Clear board a b × IsEmpty board b)

-- the piece goes so to a square that is empty, or takes what stands there
abbrev pub GoesAlone : Position → Moved → Piece → Type 0
GoesAlone s m p =
    (IsEmpty s.board m.to ⊎ IsCapturable s m.to) × GoesTo p s.board m.from m.to

-- a pawn attacks the en passant square, and goes there
abbrev pub TakesEnPassant : Position → Moved → Type 0
TakesEnPassant s m = (s.ep ≡ Some m.to) × Attacks s.turn Pawn s.board m.from m.to

-- another piece goes too: the pawn that is taken en passant, or the rook that castles
abbrev pub GoesInTwo : Position → Moved → Kind → Type 0
GoesInTwo s m kind = ((kind ≡ Pawn) × TakesEnPassant s m) ⊎ ((kind ≡ King) × Castles s m)

-- a promotion is named just where a pawn of this side reaches the last rank
abbrev pub Promotes : Colour → Moved → Kind → Type 0
Promotes side m kind = IsSome m.promo ↔ ((kind ≡ Pawn) × (rank_for side m.to ≡ 7))

-- a pawn that goes to the first or last rank
abbrev pub MayPromote : Kind → ℕ → Type 0
MayPromote kind to = (kind ≡ Pawn) × ((rank to ≡ 0) ⊎ (rank to ≡ 7))

-- the legal moves that come before n in the order, each once, in order
pub record ListsBelow (s : Position) (ms : List Moved) (n : ℕ) : Type 0 where
  pub legal : All (λ m. Legal s m × (order_of m < n)) ms
  pub every : (m : Moved) → Legal s m → order_of m < n → Contains ms m
  pub ordered : AllPairs (λ a b. order_of a < order_of b) ms
