-- What `==` of moves says.
use Rattle.std.proofs.Common.{◌≡◌, ℕ, ◌+◌, ◌*◌, ◌<◌, Bool, ◌&&◌, Option, Some, None, refl, ap, ap₂, sym, ◌∙◌, eqb, arith}
use Rattle.std.proofs.lemmas.Bool.{false≢true}
use Rattle.std.proofs.lemmas.Bool.Decides.{Decides-and, Decides-like, Decides-eqb}
use Rattle.std.proofs.lemmas.Option.{none-some, same_Some}
use Rattle.std.specs.Option.{option_eq}
use Rattle.pb_board.proofs.Equal as board_equal
use Rattle.pb_board.specs.declared.piece.Piece.{Piece}
use Rattle.pb_board.specs.declared.setup.MovedPiece.{MovedPiece}
use Rattle.pb_board.specs.declared.setup.Rights.{Rights}
use Rattle.pb_moves.specs.declared.effect.Effect.{Effect}
use Rattle.std.specs.Bool.{Decides, beq}
use denote.Enum.Bare.{sameb}
use Rattle.pb_board.specs.contracts.piece.Colour as colour
use Rattle.pb_board.specs.contracts.piece.Kind as kind
use Rattle.pb_board.specs.declared.piece.Kind.{Kind}
use Rattle.pb_moves.specs.Moved.{Moved, IsMove, moved_of, promotion_number, promotion_of}
use Rattle.pb_moves.specs.Packed.{packed, promotion_back}

-- what a number of 16 bits holds is the same where the numbers are
parts : (p q r s m n : ℕ) → p < 64 → q < 64 → r < 64 → s < 64 → q + 64 * p + 4096 * m ≡ s + 64 * r + 4096 * n → (p ≡ r) × (q ≡ s) × (m ≡ n)
parts p q r s m n a b c d e = (omega (arith, a, b, c, d, e), omega (arith, a, b, c, d, e), omega (arith, a, b, c, d, e))

packed_once : (a b : Moved) → IsMove a → IsMove b → packed a ≡ packed b → a ≡ b
packed_once a b h k e =
    let same = parts a.from a.to b.from b.to (promotion_number a.promo) (promotion_number b.promo) h.from_on_board h.to_on_board k.from_on_board k.to_on_board e in
    let promo : a.promo ≡ b.promo = sym (promotion_back a.promo h.promotes) ∙ ap promotion_of same.2 ∙ promotion_back b.promo k.promotes in
    ap₂ (λ (squares : ℕ × ℕ) (o : Option Kind). moved_of squares.0 squares.1 o) (ap₂ (λ (m n : ℕ). (m, n)) same.0 same.1) promo

pub moves : (a b : Moved) → IsMove a → IsMove b → Decides (eqb (packed a) (packed b)) (a ≡ b)
moves a b h k = Decides-like _ (packed_once a b h k) (ap packed) (Decides-eqb (packed a) (packed b))

options : {A : Type 0} {E : A → A → Bool} → ((a b : A) → Decides (E a b) (a ≡ b)) → (x y : Option A) → Decides (option_eq E x y) (x ≡ y)
options each None None = (λ e. refl, λ e. refl)
options each None (Some b) = (λ e. absurd (false≢true e), λ e. absurd (none-some b e))
options each (Some a) None = (λ e. absurd (false≢true e), λ e. absurd (none-some a (sym e)))
options each (Some a) (Some b) = Decides-like _ (λ e. ap Some e) (same_Some a b) (each a b)

abbrev same_pieces : Piece → Piece → Bool
same_pieces a b = sameb colour.the_type a.colour b.colour && sameb kind.the_type a.kind b.kind

abbrev same_moved : MovedPiece → MovedPiece → Bool
same_moved a b = eqb a.from b.from && (eqb a.to b.to && same_pieces a.piece b.piece)

abbrev same_rights : Rights → Rights → Bool
same_rights a b = beq a.white_short b.white_short && (beq a.white_long b.white_long && (beq a.black_short b.black_short && beq a.black_long b.black_long))

abbrev same_effects : Effect → Effect → Bool
same_effects d e = same_pieces d.piece e.piece && (same_moved d.first e.first && (option_eq same_moved d.second e.second
    && (same_rights d.rights e.rights && option_eq (λ (m n : ℕ). eqb m n) d.ep e.ep)))

pub effects : (d e : Effect) → Decides (same_effects d e) (d ≡ e)
effects d e = Decides-like _
    (λ h. ap₂ (λ (p : Piece × MovedPiece) (s : Option MovedPiece × (Rights × Option ℕ)). record { piece = p.0; first = p.1; second = s.0; rights = s.1.0; ep = s.1.1 })
    (ap₂ (λ (p : Piece) (m : MovedPiece). (p, m)) h.0 h.1.0)
    (ap₂ (λ (s : Option MovedPiece) (r : Rights × Option ℕ). (s, r)) h.1.1.0 (ap₂ (λ (r : Rights) (o : Option ℕ). (r, o)) h.1.1.1.0 h.1.1.1.1)))
    (λ h. (
      ap (λ (x : Effect). x.piece) h,
      (
        ap (λ (x : Effect). x.first) h,
        (
          ap (λ (x : Effect). x.second) h,
          (ap (λ (x : Effect). x.rights) h, ap (λ (x : Effect). x.ep) h),
        ),
      ),
    ))
    (Decides-and _ _ (board_equal.pieces d.piece e.piece) (Decides-and _ _ (board_equal.moved d.first e.first)
    (Decides-and _ _ (options board_equal.moved d.second e.second) (Decides-and _ _ (board_equal.rights d.rights e.rights)
    (options Decides-eqb d.ep e.ep)))))
