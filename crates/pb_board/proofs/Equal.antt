-- What `==` of the public types says, field by field.
use Rattle.std.proofs.Common.{◌≡◌, ℕ, Bool, ◌&&◌, List, length, take, Option, Some, None, refl, sym, ap, ap₂, ◌∙◌, eqb}
use Rattle.std.proofs.lemmas.Bool.{false≢true}
use Rattle.std.proofs.lemmas.Bool.Decides.{Decides-and, Decides-like, Decides-eqb}
use Rattle.std.proofs.lemmas.List.{take_at}
use Rattle.std.proofs.lemmas.Option.{none-some, same_Some}
use Rattle.std.proofs.lemmas.Slice.Eq.{slice_eq-Decides}
use Rattle.std.specs.Bool.{Decides, beq}
use Rattle.std.specs.Cmp.{booleans_Decides}
use Rattle.std.specs.Option.{option_eq}
use Rattle.std.specs.Cmp.Lexicographic.{pointwise}
use denote.Enum.Bare.{Bare, sameb, same_true, true_same}
use denote.Enum.Declared.{Declared}
use Rattle.pb_board.specs.contracts.castling.Castling as castling
use Rattle.pb_board.specs.contracts.piece.Colour as colour
use Rattle.pb_board.specs.contracts.piece.Kind as kind
use Rattle.pb_board.specs.contracts.refusal.FenError as fen_error
use Rattle.pb_board.specs.declared.castling.Castling.{Castling}
use Rattle.pb_board.specs.declared.castling.CastlingSquares.{CastlingSquares}
use Rattle.pb_board.specs.declared.piece.Colour.{Colour}
use Rattle.pb_board.specs.declared.piece.Kind.{Kind}
use Rattle.pb_board.specs.declared.piece.Piece.{Piece}
use Rattle.pb_board.specs.declared.refusal.FenError.{FenError}
use Rattle.pb_board.specs.declared.setup.MovedPiece.{MovedPiece}
use Rattle.pb_board.specs.declared.setup.Rights.{Rights}
use Rattle.pb_board.specs.Board.{Board}
use Rattle.pb_board.specs.Bitboards.{bitboards_of, board_of}
use Rattle.pb_board.specs.Padded.{padded}
use Rattle.pb_board.proofs.Backs.{board_back}
use Rattle.pb_board.specs.Position.{IsRecord, IsSetup, Position, Record, record_of}

options : {A : Type 0} {E : A → A → Bool} → ((a b : A) → Decides (E a b) (a ≡ b)) → (x y : Option A) → Decides (option_eq E x y) (x ≡ y)
options each None None = (λ e. refl, λ e. refl)
options each None (Some b) = (λ e. absurd (false≢true e), λ e. absurd (none-some b e))
options each (Some a) None = (λ e. absurd (false≢true e), λ e. absurd (none-some a (sym e)))
options each (Some a) (Some b) = Decides-like _ (λ e. ap Some e) (same_Some a b) (each a b)

bare : (D : Declared) → Bare D.parts → (a b : D.D) → Decides (sameb D a b) (a ≡ b)
bare D no_fields a b = (same_true D no_fields a b, true_same D a b)

pub colours : (a b : Colour) → Decides (sameb colour.the_type a b) (a ≡ b)
colours = bare colour.the_type tt

pub kinds : (a b : Kind) → Decides (sameb kind.the_type a b) (a ≡ b)
kinds = bare kind.the_type tt

pub castlings : (a b : Castling) → Decides (sameb castling.the_type a b) (a ≡ b)
castlings = bare castling.the_type tt

pub fen_errors : (a b : FenError) → Decides (sameb fen_error.the_type a b) (a ≡ b)
fen_errors = bare fen_error.the_type tt

abbrev same_pieces : Piece → Piece → Bool
same_pieces a b = sameb colour.the_type a.colour b.colour && sameb kind.the_type a.kind b.kind

pub pieces : (a b : Piece) → Decides (same_pieces a b) (a ≡ b)
pieces a b = Decides-like _
    (λ e. ap₂ (λ (c : Colour) (k : Kind). record { colour = c; kind = k }) e.0 e.1)
    (λ e. (ap (λ (p : Piece). p.colour) e, ap (λ (p : Piece). p.kind) e))
    (Decides-and _ _ (colours a.colour b.colour) (kinds a.kind b.kind))

abbrev same_rights : Rights → Rights → Bool
same_rights a b = beq a.white_short b.white_short && (beq a.white_long b.white_long && (beq a.black_short b.black_short && beq a.black_long b.black_long))

pub rights : (a b : Rights) → Decides (same_rights a b) (a ≡ b)
rights a b = Decides-like _
    (λ e. ap₂ (λ (w v : Bool × Bool). record { white_short = w.0; white_long = w.1; black_short = v.0; black_long = v.1 })
    (ap₂ (λ (s l : Bool). (s, l)) e.0 e.1.0) (ap₂ (λ (s l : Bool). (s, l)) e.1.1.0 e.1.1.1))
    (λ e. (ap (λ (r : Rights). r.white_short) e, (ap (λ (r : Rights). r.white_long) e, (ap (λ (r : Rights). r.black_short) e, ap (λ (r : Rights). r.black_long) e))))
    (Decides-and _ _ (booleans_Decides a.white_short b.white_short)
    (Decides-and _ _ (booleans_Decides a.white_long b.white_long)
    (Decides-and _ _ (booleans_Decides a.black_short b.black_short) (booleans_Decides a.black_long b.black_long))))

abbrev same_bitboards : Board → Board → Bool
same_bitboards a b = pointwise (λ (m n : ℕ). eqb m n) (bitboards_of a).sides (bitboards_of b).sides && pointwise (λ (m n : ℕ). eqb m n) (bitboards_of a).kinds (bitboards_of b).kinds

boards : (a b : Board) → length a ≡ 64 → length b ≡ 64 → Decides (same_bitboards a b) (a ≡ b)
boards a b full_a full_b = Decides-like _
    (λ e. sym (board_back _ a full_a refl) ∙ ap board_of (ap₂ (λ (s k : List ℕ). record { sides = s; kinds = k }) e.0 e.1) ∙ board_back _ b full_b refl)
    (λ e. (ap (λ (c : Board). (bitboards_of c).sides) e, ap (λ (c : Board). (bitboards_of c).kinds) e))
    (Decides-and _ _ (slice_eq-Decides Decides-eqb (bitboards_of a).sides (bitboards_of b).sides _ refl) (slice_eq-Decides Decides-eqb (bitboards_of a).kinds (bitboards_of b).kinds _ refl))

abbrev same_positions : Position → Position → Bool
same_positions p q = same_bitboards p.board q.board && (sameb colour.the_type p.turn q.turn && (same_rights p.rights q.rights && option_eq (λ (m n : ℕ). eqb m n) p.ep q.ep))

pub positions : (p q : Position) → IsSetup p → IsSetup q → Decides (same_positions p q) (p ≡ q)
positions p q p_rules q_rules = Decides-like _
    (λ e. ap₂ (λ (s : Board × Colour) (l : Rights × Option ℕ). record { board = s.0; turn = s.1; rights = l.0; ep = l.1 })
    (ap₂ (λ (s : Board) (c : Colour). (s, c)) e.0 e.1.0) (ap₂ (λ (s : Rights) (o : Option ℕ). (s, o)) e.1.1.0 e.1.1.1))
    (λ e. (ap (λ (s : Position). s.board) e, (ap (λ (s : Position). s.turn) e, (ap (λ (s : Position). s.rights) e, ap (λ (s : Position). s.ep) e))))
    (Decides-and _ _ (boards p.board q.board p_rules.places q_rules.places) (Decides-and _ _ (colours p.turn q.turn)
    (Decides-and _ _ (rights p.rights q.rights) (options Decides-eqb p.ep q.ep))))

pub moved : (a b : MovedPiece) → Decides (eqb a.from b.from && (eqb a.to b.to && same_pieces a.piece b.piece)) (a ≡ b)
moved a b = Decides-like _
    (λ e. ap₂ (λ (q : ℕ) (r : ℕ × Piece). record { from = q; to = r.0; piece = r.1 }) e.0 (ap₂ (λ (q : ℕ) (p : Piece). (q, p)) e.1.0 e.1.1))
    (λ e. (ap (λ (c : MovedPiece). c.from) e, (ap (λ (c : MovedPiece). c.to) e, ap (λ (c : MovedPiece). c.piece) e)))
    (Decides-and _ _ (Decides-eqb a.from b.from) (Decides-and _ _ (Decides-eqb a.to b.to) (pieces a.piece b.piece)))

pub castling_squares : (a b : CastlingSquares) → Decides
    (eqb a.king_from b.king_from && (eqb a.king_to b.king_to && (eqb a.rook_from b.rook_from && eqb a.rook_to b.rook_to)))
    (a ≡ b)
castling_squares a b = Decides-like _
    (λ e. ap₂ (λ (k r : ℕ × ℕ). record { king_from = k.0; king_to = k.1; rook_from = r.0; rook_to = r.1 })
    (ap₂ (λ (m n : ℕ). (m, n)) e.0 e.1.0) (ap₂ (λ (m n : ℕ). (m, n)) e.1.1.0 e.1.1.1))
    (λ e. (
      ap (λ (s : CastlingSquares). s.king_from) e,
      (
        ap (λ (s : CastlingSquares). s.king_to) e,
        (ap (λ (s : CastlingSquares). s.rook_from) e, ap (λ (s : CastlingSquares). s.rook_to) e),
      ),
    ))
    (Decides-and _ _ (Decides-eqb a.king_from b.king_from) (Decides-and _ _ (Decides-eqb a.king_to b.king_to)
    (Decides-and _ _ (Decides-eqb a.rook_from b.rook_from) (Decides-eqb a.rook_to b.rook_to))))

pub records : (f g : Record) → IsRecord f → IsRecord g → Decides (eqb f.half g.half && (eqb f.full g.full && same_positions f.setup g.setup)) (f ≡ g)
records f g f_rules g_rules = Decides-like _
    (λ e. ap₂ (λ (p : Position) (c : ℕ × ℕ). record_of p c.0 c.1) e.1.1 (ap₂ (λ (m n : ℕ). (m, n)) e.0 e.1.0))
    (λ e. (ap (λ (r : Record). r.half) e, (ap (λ (r : Record). r.full) e, ap (λ (r : Record). r.setup) e)))
    (Decides-and _ _ (Decides-eqb f.half g.half) (Decides-and _ _ (Decides-eqb f.full g.full) (positions f.setup g.setup f_rules.setup g_rules.setup)))

-- short texts in buffers of one size, of which the bytes and the lengths are compared
pub texts : (room : ℕ) (a b : List ℕ) → Decides (pointwise (λ (m n : ℕ). eqb m n) (padded room a) (padded room b) && eqb (length a) (length b)) (a ≡ b)
texts room a b = Decides-like _
    (λ e. sym (take_at a _ (length a) refl) ∙ ap₂ (λ (n : ℕ) (bytes : List ℕ). take n bytes) e.1 e.0 ∙ take_at b _ (length b) refl)
    (λ e. (ap (λ (t : List ℕ). padded room t) e, ap (λ (t : List ℕ). length t) e))
    (Decides-and _ _ (slice_eq-Decides Decides-eqb (padded room a) (padded room b) _ refl) (Decides-eqb (length a) (length b)))
