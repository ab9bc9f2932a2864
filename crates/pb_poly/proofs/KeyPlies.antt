-- The key before a move, with what the move changes toggled, is the key after it.
use Rattle.std.proofs.Common.{◌≡◌, ℕ, ◌+◌, ◌%◌, Bool, true, false, not, List, [], ◌∷◌, ◌++◌, sym, ap, ◌∙◌, arith}
use Rattle.std.specs.Prelude.{bit_xor, slice_index}
use Rattle.std.specs.Bool.{beq}
use Rattle.std.proofs.lemmas.List.Sums.{fold-append}
use Rattle.pb_board.specs.declared.piece.Colour.{Colour}
use Rattle.pb_board.specs.declared.piece.Colour.TheVariants.{White, Black}
use Rattle.pb_board.specs.declared.setup.Rights.{Rights}
use Rattle.pb_board.specs.Piece.{opponent}
use Rattle.pb_board.specs.Position.{Position}
use Rattle.pb_board.specs.Rights.{only_if}
use Rattle.pb_poly.specs.Key.{key, en_passant_offsets, piece_offsets, offsets}
use Rattle.pb_poly.specs.KeyChange.{changed_offsets, toggled}
use Rattle.pb_poly.specs.Table.{IsTable}
use Rattle.pb_poly.proofs.Among.{total}
use Rattle.pb_poly.proofs.KeyChanges.{total-append}
use Rattle.pb_poly.proofs.Parity.{toggled_same}
use Rattle.pb_poly.proofs.Offsets.{right_offsets, turn_offsets}

-- ---- the parts of a key

flag_changes : (f : ℕ → ℕ) (old new : Bool) (offset : ℕ) → (total f (only_if old offset) + total f (only_if (not (beq old new)) offset)) % 2 ≡ total f (only_if new offset) % 2
flag_changes f true true offset = omega arith
flag_changes f true false offset = omega arith
flag_changes f false true offset = omega arith
flag_changes f false false offset = omega arith

four_lists : (f : ℕ → ℕ) (a b c d : List ℕ) → total f (a ++ (b ++ (c ++ d))) ≡ total f a + total f b + total f c + total f d
four_lists f a b c d =
    let first = total-append f a (b ++ (c ++ d)) in
    let second = total-append f b (c ++ d) in
    let third = total-append f c d in
    omega (arith, first, second, third)

rights_total : (f : ℕ → ℕ) (r : Rights)
    → total f (right_offsets r) ≡ total f (only_if r.white_short 768) + total f (only_if r.white_long 769) + total f (only_if r.black_short 770) + total f (only_if r.black_long 771)
rights_total f r = four_lists f (only_if r.white_short 768) (only_if r.white_long 769) (only_if r.black_short 770) (only_if r.black_long 771)

rights_change : (f : ℕ → ℕ) (old new : Rights) → (total f (right_offsets old) + total f (changed_offsets old new)) % 2 ≡ total f (right_offsets new) % 2
rights_change f old new =
    let changed : Rights = record {
      white_short = not (beq old.white_short new.white_short);
      white_long = not (beq old.white_long new.white_long);
      black_short = not (beq old.black_short new.black_short);
      black_long = not (beq old.black_long new.black_long);
    } in
    omega (
      arith,
      rights_total f old,
      rights_total f new,
      rights_total f changed,
      flag_changes f old.white_short new.white_short 768,
      flag_changes f old.white_long new.white_long 769,
      flag_changes f old.black_short new.black_short 770,
      flag_changes f old.black_long new.black_long 771,
    )

turn_changes : (f : ℕ → ℕ) (side : Colour) → (total f (turn_offsets side) + total f (780 ∷ [])) % 2 ≡ total f (turn_offsets (opponent side)) % 2
turn_changes f White = omega arith
turn_changes f Black = omega arith

offsets_total : (f : ℕ → ℕ) (s : Position) → total f (offsets s) ≡ total f (piece_offsets s.board 0) + total f (right_offsets s.rights) + total f (en_passant_offsets s) + total f (turn_offsets s.turn)
offsets_total f s = four_lists f (piece_offsets s.board 0) (right_offsets s.rights) (en_passant_offsets s) (turn_offsets s.turn)

-- ---- the key

five_lists : (f : ℕ → ℕ) (a b c d e : List ℕ) → total f (a ++ (b ++ (c ++ (d ++ e)))) ≡ total f a + total f b + total f c + total f d + total f e
five_lists f a b c d e =
    let first = total-append f a (b ++ (c ++ (d ++ e))) in
    let rest = four_lists f b c d e in
    omega (arith, first, rest)

-- the offsets of all changes
abbrev pub change_offsets : Position → Position → List ℕ → List ℕ
change_offsets s t moved = moved ++ (changed_offsets s.rights t.rights ++ (en_passant_offsets s ++ (en_passant_offsets t ++ (780 ∷ []))))

-- with the changes toggled, each offset counts an odd number of times just where the new key has it
changes_follow : (f : ℕ → ℕ) (s t : Position) (moved : List ℕ) → t.turn ≡ opponent s.turn
    → (total f (piece_offsets s.board 0) + total f moved) % 2 ≡ total f (piece_offsets t.board 0) % 2
    → total f (offsets s ++ change_offsets s t moved) % 2 ≡ total f (offsets t) % 2
changes_follow f s t moved turn board =
    let all = total-append f (offsets s) (change_offsets s t moved) in
    let parts = five_lists f moved (changed_offsets s.rights t.rights) (en_passant_offsets s) (en_passant_offsets t) (780 ∷ []) in
    let had = offsets_total f s in
    let has = offsets_total f t in
    let rights = rights_change f s.rights t.rights in
    let turns = turn_changes f s.turn in
    let turned = ap (λ (c : Colour). total f (turn_offsets c)) turn in
    omega (arith, all, parts, had, has, board, rights, turns, turned)

pub key_follows : (randoms : List ℕ) (s t : Position) (moved : List ℕ) → IsTable randoms → t.turn ≡ opponent s.turn
    → ((f : ℕ → ℕ) → (total f (piece_offsets s.board 0) + total f moved) % 2 ≡ total f (piece_offsets t.board 0) % 2)
    → key randoms t ≡ toggled randoms (key randoms s) (change_offsets s t moved)
unfolding key
key_follows randoms s t moved table turn board =
    sym (toggled_same randoms (offsets s ++ change_offsets s t moved) (offsets t) table (λ f. changes_follow f s t moved turn (board f)))
    ∙ fold-append (λ k offset. bit_xor k (slice_index randoms offset)) 0 (offsets s) (change_offsets s t moved)
