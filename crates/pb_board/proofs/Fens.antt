-- What was read of the six fields of a record, and what follows for the whole.
use Rattle.std.proofs.Common.{◌≡◌, ℕ, ◌^◌, ◌<◌, ◌↔◌, List, [], ◌∷◌, ◌++◌, length, take, drop, get_or, refl, sym, ap, subst, ◌∙◌, arith}
use Rattle.std.proofs.lemmas.List.Elements.{All-nil, All-cons, All-append}
use Rattle.std.specs.Prelude.{All, IfSome, IfOk, IfErr, Result, Ok, Err, decimal, map}
use Rattle.std.specs.Borrow.{Bor}
use Rattle.std.specs.List.{join_with_byte}
use Rattle.std.proofs.lemmas.List.Splits.{join_with_byte-slice_split}
use Rattle.pb_board.specs.declared.refusal.SetupError.{SetupError}
use Rattle.pb_board.specs.declared.refusal.SetupError.TheVariants as fault
use Rattle.pb_board.specs.declared.refusal.FenError.{FenError}
use Rattle.pb_board.specs.declared.refusal.FenError.TheVariants as refusal
use Rattle.pb_board.specs.Board.{Place}
use Rattle.pb_board.specs.Position.{Position, Record, IsSetup, HasKings, HasNoEdgePawn, EnPassantHolds, OnEnPassantRank}
use Rattle.pb_board.specs.Fields.{field, fields}
use Rattle.pb_board.specs.FourFields.{SpellFour, refusal_of}
use Rattle.pb_board.specs.Text.{castling_text, en_passant_text, fen_text, placement_text, setup_fields, turn_text}
use Rattle.pb_board.specs.Position.{IsRecord, record_of}
use Rattle.pb_board.specs.Refusal.{IsDueFen, IsFault, IsFirstFault, SpellsBoard, SpellsSquare, fen_errors, of_setup}
use Rattle.pb_board.proofs.Unique.{placement_injective, turn_injective, en_passant_injective, fields_of_text, on_rank, one_record, one_setup}
use Rattle.pb_board.proofs.Dues.{IsFirstDue, first_here, first_later, first_front, first_behind, first_map, none_first}

-- the first four pieces of a text are these
pub record Begins (pieces four : List (List ℕ)) : Type 0 where
  pub first : field pieces 0 ≡ field four 0
  pub second : field pieces 1 ≡ field four 1
  pub third : field pieces 2 ≡ field four 2
  pub fourth : field pieces 3 ≡ field four 3

abbrev NotDue : List (List ℕ) → FenError → Type 0
NotDue pieces d = ¬ IsDueFen pieces d

-- the refusals of the four texts, and those of the setup that they spell
abbrev of_texts : List FenError
of_texts = take 4 of_setup

abbrev of_parts : List FenError
of_parts = drop 4 of_setup

all_two : {A : Type 0} (P : A → Type 0) (x y : A) → P x → P y → All P (x ∷ y ∷ [])
all_two P x y h k = All-cons P x (y ∷ []) h (All-cons P y [] k (All-nil P))

all_three : {A : Type 0} (P : A → Type 0) (x y z : A) → P x → P y → P z → All P (x ∷ y ∷ z ∷ [])
all_three P x y z h k l = All-cons P x (y ∷ z ∷ []) h (all_two P y z k l)

all_four : {A : Type 0} (P : A → Type 0) (w x y z : A) → P w → P x → P y → P z → All P (w ∷ x ∷ y ∷ z ∷ [])
all_four P w x y z g h k l = All-cons P w (x ∷ y ∷ z ∷ []) g (all_three P x y z h k l)

module _ (pieces four : List (List ℕ)) (p : Position) (cut : Begins pieces four) (h : SpellFour p four) where
  placement_is : field pieces 0 ≡ placement_text p.board
  placement_is = cut.first ∙ ap (λ w. field w 0) h.fields_are

  turn_is : field pieces 1 ≡ turn_text p.turn
  turn_is = cut.second ∙ ap (λ w. field w 1) h.fields_are

  castling_is : field pieces 2 ≡ castling_text p.rights
  castling_is = cut.third ∙ ap (λ w. field w 2) h.fields_are

  square_is : field pieces 3 ≡ en_passant_text p.ep
  square_is = cut.fourth ∙ ap (λ w. field w 3) h.fields_are

  spells_board : SpellsBoard pieces p.board
  spells_board = (h.places, placement_is)

  only_board : (x : List Place) → SpellsBoard pieces x → x ≡ p.board
  only_board x s = placement_injective x p.board s.0 h.places (sym s.1 ∙ placement_is)

  spells_square : SpellsSquare pieces p.turn p.ep
  spells_square = (turn_is, square_is, h.rank_is)

  -- none of the refusals of the four texts is due
  no_text_due : All (NotDue pieces) of_texts
  no_text_due =
      all_four (NotDue pieces) refusal.Placement refusal.Turn refusal.Castling refusal.EnPassantText
      (λ due. due p.board spells_board) (λ due. due p.turn turn_is) (λ due. due p.rights castling_is) (λ due. due p.turn p.ep spells_square)

  kings_due : IsFault fault.Kings p → IsDueFen pieces refusal.Kings
  kings_due bad x s kings = bad (subst HasKings (only_board x s) kings)

  pawns_due : IsFault fault.Pawns p → IsDueFen pieces refusal.Pawns
  pawns_due bad x s none = bad (subst HasNoEdgePawn (only_board x s) none)

  en_passant_due : IsFault fault.EnPassant p → IsDueFen pieces refusal.EnPassantPawn
  en_passant_due bad x t q s sp holds =
      let same = only_board x s in
      let side : t ≡ p.turn = turn_injective t p.turn (sym sp.0 ∙ turn_is) in
      let square : q ≡ p.ep = en_passant_injective t q p.ep sp.2 (subst (λ w. IfSome p.ep (OnEnPassantRank w)) (sym side) h.rank_is) (sym sp.1 ∙ square_is) in
      bad (subst (EnPassantHolds p.board p.turn) square (subst (λ w. EnPassantHolds p.board w q) side (subst (λ w. EnPassantHolds w t q) same holds)))

  -- the parts break a rule exactly where the refusal of that rule is due
  fault_is : (e : SetupError) → IsFault e p ↔ IsDueFen pieces (refusal_of e)
  fault_is fault.Kings = (kings_due, λ due. due p.board spells_board)
  fault_is fault.Pawns = (pawns_due, λ due. due p.board spells_board)
  fault_is fault.EnPassant = (en_passant_due, λ due. due p.board p.turn p.ep spells_board spells_square)

  fault_due : (e : SetupError) → IsFirstFault e p → IsFirstDue of_parts (refusal_of e) pieces
  fault_due e f = first_map refusal_of (λ x. IsFault x p) (IsDueFen pieces) (fault.Kings ∷ fault.Pawns ∷ fault.EnPassant ∷ []) e (λ i x lt. fault_is _) f

  no_fault_due : IsSetup p → All (NotDue pieces) of_parts
  no_fault_due lawful =
      all_three (NotDue pieces) refusal.Kings refusal.Pawns refusal.EnPassantPawn
      (λ due. (fault_is fault.Kings).1 due lawful.kings) (λ due. (fault_is fault.Pawns).1 due lawful.pawns) (λ due. (fault_is fault.EnPassant).1 due lawful.en_passant)

-- ---- four texts

pub setup_fault : (e : SetupError) (p : Position) (four : List (List ℕ)) → SpellFour p four → IsFirstFault e p → IsFirstDue of_setup (refusal_of e) four
setup_fault e p four h first =
    let cut : Begins four four = record { first = refl; second = refl; third = refl; fourth = refl } in
    first_behind (IsDueFen four) of_texts of_parts (refusal_of e) (no_text_due four four p cut h) (fault_due four four p cut h e first)

pub texts_refused : (e : FenError) (four : List (List ℕ)) → IsFirstDue (take 4 of_setup) e four → IsFirstDue of_setup e four
texts_refused e four h = first_front (IsDueFen four) of_texts of_parts e h

-- a list of four
pub four_cells : {A : Type 0} (xs : List A) (d : A) → length xs ≡ 4 → xs ≡ get_or xs 0 d ∷ get_or xs 1 d ∷ get_or xs 2 d ∷ get_or xs 3 d ∷ []
four_cells [] d e = absurd (omega (arith, e))
four_cells (w ∷ []) d e = absurd (omega (arith, e))
four_cells (w ∷ x ∷ []) d e = absurd (omega (arith, e))
four_cells (w ∷ x ∷ y ∷ []) d e = absurd (omega (arith, e))
four_cells (w ∷ x ∷ y ∷ z ∷ []) d e = refl
four_cells (w ∷ x ∷ y ∷ z ∷ v ∷ vs) d e = absurd (omega (arith, e))

-- ---- six texts

-- what a refusal of one of the four texts asks is the same of all six
four_of_six : (a b c d e f : List ℕ) → All (λ x. IsDueFen (a ∷ b ∷ c ∷ d ∷ []) x ↔ IsDueFen (a ∷ b ∷ c ∷ d ∷ e ∷ f ∷ []) x) of_texts
four_of_six a b c d e f =
    let Same : FenError → Type 0 = λ x. IsDueFen (a ∷ b ∷ c ∷ d ∷ []) x ↔ IsDueFen (a ∷ b ∷ c ∷ d ∷ e ∷ f ∷ []) x in
    all_four Same refusal.Placement refusal.Turn refusal.Castling refusal.EnPassantText (λ h. h, λ h. h) (λ h. h, λ h. h) (λ h. h, λ h. h) (λ h. h, λ h. h)

module _ (text a b c d e f : List ℕ) (cut : fields 32 text ≡ a ∷ b ∷ c ∷ d ∷ e ∷ f ∷ []) where
  six_begin : Begins (fields 32 text) (a ∷ b ∷ c ∷ d ∷ [])
  six_begin = record { first = ap (λ p. field p 0) cut; second = ap (λ p. field p 1) cut; third = ap (λ p. field p 2) cut; fourth = ap (λ p. field p 3) cut }

  are_six : NotDue (fields 32 text) refusal.Fields
  are_six due = due (ap length cut)

  -- a refusal of one of the first four fields
  pub four_refused : (x : FenError) → IsFirstDue (take 4 of_setup) x (a ∷ b ∷ c ∷ d ∷ []) → IsFirstDue fen_errors x (fields 32 text)
  four_refused x h =
      let six = a ∷ b ∷ c ∷ d ∷ e ∷ f ∷ [] in
      let here : IsFirstDue of_texts x six = first_map (λ y. y) (IsDueFen (a ∷ b ∷ c ∷ d ∷ [])) (IsDueFen six) of_texts x (four_of_six a b c d e f) h in
      first_later (IsDueFen (fields 32 text)) refusal.Fields x _ are_six
      (first_front (IsDueFen (fields 32 text)) of_texts (refusal.Half ∷ refusal.Full ∷ of_parts) x (subst (IsFirstDue of_texts x) (sym cut) here))

  module _ (p : Position) (h : SpellFour p (a ∷ b ∷ c ∷ d ∷ [])) where
    -- the fields before the fifth are no cause
    no_field_due : All (NotDue (fields 32 text)) (refusal.Fields ∷ of_texts)
    no_field_due = All-cons (NotDue (fields 32 text)) refusal.Fields of_texts are_six (no_text_due (fields 32 text) (a ∷ b ∷ c ∷ d ∷ []) p six_begin h)

    no_half_due : (half : ℕ) → (half < 2 ^ 16) × (e ≡ decimal half) → NotDue (fields 32 text) refusal.Half
    no_half_due half is due = due half is.0 (ap (λ w. field w 4) cut ∙ is.1)

    -- nor are the clocks
    no_clock_due : (half full : ℕ) → (half < 2 ^ 16) × (e ≡ decimal half) → (0 < full) × (full < 2 ^ 16) × (f ≡ decimal full) → All (NotDue (fields 32 text)) (refusal.Fields ∷ (of_texts ++ refusal.Half ∷ refusal.Full ∷ []))
    no_clock_due half full is count =
        All-append (NotDue (fields 32 text)) (refusal.Fields ∷ of_texts) (refusal.Half ∷ refusal.Full ∷ []) no_field_due
        (all_two (NotDue (fields 32 text)) refusal.Half refusal.Full (no_half_due half is) (λ due. due full count.0 count.1 (ap (λ w. field w 5) cut ∙ count.2)))

    pub half_refused : ((n : ℕ) → n < 2 ^ 16 → e ≡ decimal n → ⊥) → IsFirstDue fen_errors refusal.Half (fields 32 text)
    half_refused bad =
        first_behind (IsDueFen (fields 32 text)) (refusal.Fields ∷ of_texts) (refusal.Half ∷ refusal.Full ∷ of_parts) refusal.Half no_field_due
        (first_here (IsDueFen (fields 32 text)) refusal.Half (refusal.Full ∷ of_parts) (λ n lt is. bad n lt (sym (ap (λ w. field w 4) cut) ∙ is)))

    pub full_refused : (half : ℕ) → (half < 2 ^ 16) × (e ≡ decimal half) → ((n : ℕ) → 0 < n → n < 2 ^ 16 → f ≡ decimal n → ⊥) → IsFirstDue fen_errors refusal.Full (fields 32 text)
    full_refused half number bad =
        first_behind (IsDueFen (fields 32 text)) (refusal.Fields ∷ of_texts) (refusal.Half ∷ refusal.Full ∷ of_parts) refusal.Full no_field_due
        (first_later (IsDueFen (fields 32 text)) refusal.Half refusal.Full (refusal.Full ∷ of_parts) (no_half_due half number)
        (first_here (IsDueFen (fields 32 text)) refusal.Full of_parts (λ n low lt is. bad n low lt (sym (ap (λ w. field w 5) cut) ∙ is))))

    pub setup_refused : (x : SetupError) (half full : ℕ) → (half < 2 ^ 16) × (e ≡ decimal half) → (0 < full) × (full < 2 ^ 16) × (f ≡ decimal full) → IsFirstFault x p → IsFirstDue fen_errors (refusal_of x) (fields 32 text)
    setup_refused x half full is count first =
        first_behind (IsDueFen (fields 32 text)) (refusal.Fields ∷ (of_texts ++ refusal.Half ∷ refusal.Full ∷ [])) of_parts (refusal_of x) (no_clock_due half full is count) (fault_due (fields 32 text) (a ∷ b ∷ c ∷ d ∷ []) p six_begin h x first)

    pub text_found : (half full : ℕ) → (half < 2 ^ 16) × (e ≡ decimal half) → (0 < full) × (full < 2 ^ 16) × (f ≡ decimal full) → IsSetup p → IsRecord (record_of p half full) × (text ≡ fen_text (record_of p half full))
    text_found half full number count lawful = (
      record { setup = lawful; half = number.0; low = count.0; full = count.1 },
      sym (join_with_byte-slice_split 32 text) ∙ ap (join_with_byte 32) cut ∙ ap (λ x. join_with_byte 32 (a ∷ b ∷ c ∷ d ∷ x ∷ f ∷ [])) number.1
          ∙ ap (λ x. join_with_byte 32 (a ∷ b ∷ c ∷ d ∷ decimal half ∷ x ∷ [])) count.2 ∙ ap (λ (four : List (List ℕ)). join_with_byte 32 (four ++ decimal half ∷ decimal full ∷ [])) h.fields_are,
    )

-- ---- the other way: a text of a record

-- the fields of a setup are its parts
parts_of : (p : Position) → IsSetup p → SpellFour p (setup_fields p)
parts_of p lawful = record { places = lawful.places; fields_are = refl; rank_is = on_rank p.board p.turn p.ep lawful.en_passant }

-- where the text spells a record, no refusal is due
pub record_never_due : (f : Record) (text : List ℕ) (e : FenError) → IsRecord f → text ≡ fen_text f → IsFirstDue fen_errors e (fields 32 text) → ⊥
record_never_due f text e lawful h =
    let p = f.setup in
    let a = placement_text p.board in
    let b = turn_text p.turn in
    let c = castling_text p.rights in
    let d = en_passant_text p.ep in
    let cut = ap (fields 32) h ∙ fields_of_text f lawful in
    let parts = parts_of p lawful.setup in
    let clocks = no_clock_due text a b c d (decimal f.half) (decimal f.full) cut p parts f.half f.full (lawful.half, refl) (lawful.low, lawful.full, refl) in
    let setup = no_fault_due (fields 32 text) (a ∷ b ∷ c ∷ d ∷ []) p (six_begin text a b c d (decimal f.half) (decimal f.full) cut) parts lawful.setup in
    none_first (IsDueFen (fields 32 text)) fen_errors e (All-append (NotDue (fields 32 text)) (refusal.Fields ∷ (of_texts ++ refusal.Half ∷ refusal.Full ∷ [])) of_parts clocks setup)

-- the one answer for a text of the record f
only_record : (r : Result Record FenError) (f : Record) (text : List ℕ) → IfOk r (λ g. IsRecord g × (text ≡ fen_text g)) → IfErr r (λ e. IsFirstDue fen_errors e (fields 32 text)) → IsRecord f → text ≡ fen_text f → r ≡ Ok f
only_record (Ok g) f text found refused lawful h = ap (λ x. Ok x) (one_record g f text found.0 lawful found.1 h)
only_record (Err e) f text found refused lawful h = absurd (record_never_due f text e lawful h refused)

-- what `read_fen` owes of its answer, and all of it from two clauses
abbrev pub OwesRecord : Result Record FenError → List ℕ → Type 0
OwesRecord r text = record {
  found : IfOk r (λ f. IsRecord f × (text ≡ fen_text f));
  only : (f : Record) → IsRecord f → text ≡ fen_text f → r ≡ Ok f;
  refused : IfErr r (λ e. IsFirstDue fen_errors e (fields 32 text));
}

pub owes_record : (r : Result Record FenError) (text : List ℕ) → IfOk r (λ f. IsRecord f × (text ≡ fen_text f)) → IfErr r (λ e. IsFirstDue fen_errors e (fields 32 text)) → OwesRecord r text
owes_record r text found refused = record { found = found; only = λ f. only_record r f text found refused; refused = refused }

pub setup_never_due : (p : Position) (four : List (List ℕ)) (e : FenError) → IsSetup p → four ≡ setup_fields p → IsFirstDue of_setup e four → ⊥
setup_never_due p four e lawful h refused =
    let pieces = setup_fields p in
    let begins : Begins pieces pieces = record { first = refl; second = refl; third = refl; fourth = refl } in
    let parts = parts_of p lawful in
    let texts = no_text_due pieces pieces p begins parts in
    let setup = no_fault_due pieces pieces p begins parts lawful in
    none_first (IsDueFen pieces) of_setup e (All-append (NotDue pieces) of_texts of_parts texts setup) (subst (IsFirstDue of_setup e) h refused)

only_setup : (r : Result Position FenError) (p : Position) (four : List (List ℕ)) → IfOk r (λ s. IsSetup s × (four ≡ setup_fields s)) → IfErr r (λ e. IsFirstDue of_setup e four) → IsSetup p → four ≡ setup_fields p → r ≡ Ok p
only_setup (Ok s) p four found refused lawful h = ap (λ x. Ok x) (one_setup s p four found.0 lawful found.1 h)
only_setup (Err e) p four found refused lawful h = absurd (setup_never_due p four e lawful h refused)

-- what `read_setup` owes of its answer, and all of it from two clauses
abbrev pub OwesSetup : Result Position FenError → List (List ℕ) → Type 0
OwesSetup r four = record {
  found : IfOk r (λ s. IsSetup s × (four ≡ setup_fields s));
  only : (p : Position) → IsSetup p → four ≡ setup_fields p → r ≡ Ok p;
  refused : IfErr r (λ e. IsFirstDue of_setup e four);
}

pub owes_setup : (r : Result Position FenError) (four : List (List ℕ)) → IfOk r (λ s. IsSetup s × (four ≡ setup_fields s)) → IfErr r (λ e. IsFirstDue of_setup e four) → OwesSetup r four
owes_setup r four found refused = record { found = found; only = λ p. only_setup r p four found refused; refused = refused }

pub four_texts : (four : List (Bor (List ℕ))) (d : Bor (List ℕ)) → length four ≡ 4 → map (λ t. t.now) four ≡ (get_or four 0 d).now ∷ (get_or four 1 d).now ∷ (get_or four 2 d).now ∷ (get_or four 3 d).now ∷ []
four_texts four d e = ap (λ (w : List (Bor (List ℕ))). map (λ t. t.now) w) (four_cells four d e)

-- what the four texts spell
pub of_four : (P : List (List ℕ) → Type 0) (four : List (Bor (List ℕ))) (d : Bor (List ℕ)) → length four ≡ 4 → P ((get_or four 0 d).now ∷ (get_or four 1 d).now ∷ (get_or four 2 d).now ∷ (get_or four 3 d).now ∷ []) → P (map (λ t. t.now) four)
of_four P four d e h = subst P (sym (four_texts four d e)) h

pub spell_four : (a b c d : List ℕ) (p : Position) → (length p.board ≡ 64) × (a ≡ placement_text p.board) → b ≡ turn_text p.turn → c ≡ castling_text p.rights → (d ≡ en_passant_text p.ep) × IfSome p.ep (OnEnPassantRank p.turn)
    → SpellFour p (a ∷ b ∷ c ∷ d ∷ [])
spell_four a b c d p placement turn castling ep = record { places = placement.0; fields_are = rw (placement.1, turn, castling, ep.0) refl; rank_is = ep.1 }
