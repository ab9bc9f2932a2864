-- The lines of a text in other words, which go through the list of its pieces.
use Rattle.std.proofs.Common.{◌≡◌, ℕ, suc, ◌-◌, Bool, true, false, cond, List, [], ◌∷◌, ◌++◌, length, take, get_or, append-nil, arith, refl, sym, ap, ◌∙◌}
use Rattle.std.specs.List.{onto_first}
use Rattle.std.specs.Prelude.{◌==◌, nat_lt}
use Rattle.pb_io.specs.Lines.{ended_lines, last_piece, line_feed, lines, line_pieces}

-- a byte ends a line
abbrev pub is_line_feed : ℕ → Bool
is_line_feed b = b == line_feed

abbrev pub all_but_last : {X : Type 0} → List X → List X
all_but_last [] = []
all_but_last (x ∷ []) = []
all_but_last (x ∷ y ∷ ys) = x ∷ all_but_last (y ∷ ys)

abbrev pub last_of : List (List ℕ) → List ℕ
last_of [] = []
last_of (x ∷ []) = x
last_of (x ∷ y ∷ ys) = last_of (y ∷ ys)

-- a piece that no line feed ended is a line unless it is empty
abbrev pub line_at_end : List ℕ → List (List ℕ)
line_at_end [] = []
line_at_end (b ∷ bs) = (b ∷ bs) ∷ []

abbrev pub IsNonEmpty : {X : Type 0} → List X → Type 0
IsNonEmpty {X} xs = (y : X) × (ys : List X) × (xs ≡ y ∷ ys)

pub onto_first-nonempty : (b : ℕ) (ps : List (List ℕ)) → IsNonEmpty (onto_first b ps)
onto_first-nonempty b [] = (b ∷ [], [], refl)
onto_first-nonempty b (p ∷ ps) = (b ∷ p, ps, refl)

pub pieces-nonempty : (bytes : List ℕ) → IsNonEmpty (line_pieces bytes)
pieces-nonempty [] = ([], [], refl)
pieces-nonempty (b ∷ bs) =
    elim (is_line_feed b) as (λ v. IsNonEmpty (cond v ([] ∷ line_pieces bs) (onto_first b (line_pieces bs)))) [
      | true ↦ ([], line_pieces bs, refl)
      | false ↦ onto_first-nonempty b (line_pieces bs)
    ]

-- all of a list but its last
front_is : {X : Type 0} (xs : List X) → take (length xs - 1) xs ≡ all_but_last xs
front_is [] = refl
front_is (x ∷ []) = refl
front_is (x ∷ y ∷ ys) = let e : length (x ∷ y ∷ ys) - 1 ≡ suc (length (y ∷ ys) - 1) = omega arith in rw e (ap (λ zs. x ∷ zs) (front_is (y ∷ ys)))

end_is : (xs : List (List ℕ)) → get_or xs (length xs - 1) [] ≡ last_of xs
end_is [] = refl
end_is (x ∷ []) = refl
end_is (x ∷ y ∷ ys) = let e : length (x ∷ y ∷ ys) - 1 ≡ suc (length (y ∷ ys) - 1) = omega arith in rw e (end_is (y ∷ ys))

-- a list is all but its last, and its last
with_last : (x : List ℕ) (ys : List (List ℕ)) → x ∷ ys ≡ all_but_last (x ∷ ys) ++ last_of (x ∷ ys) ∷ []
with_last x [] = refl
with_last x (y ∷ ys) = ap (λ ws. x ∷ ws) (with_last y ys)

some_left : (b : ℕ) (bs : List ℕ) → nat_lt 0 (length (b ∷ bs)) ≡ true
some_left b bs = grind arith

by_last : (x : List ℕ) (ys : List (List ℕ)) (last : List ℕ) → last_of (x ∷ ys) ≡ last
    → cond (nat_lt 0 (length last)) (x ∷ ys) (all_but_last (x ∷ ys)) ≡ all_but_last (x ∷ ys) ++ line_at_end last
by_last x ys [] is = sym (append-nil (all_but_last (x ∷ ys)))
by_last x ys (b ∷ bs) is = rw (some_left b bs) (with_last x ys ∙ ap (λ l. all_but_last (x ∷ ys) ++ l ∷ []) is)

-- the lines, told from the pieces
lines_of : (ps : List (List ℕ)) → IsNonEmpty ps → cond (nat_lt 0 (length (last_of ps))) ps (all_but_last ps) ≡ all_but_last ps ++ line_at_end (last_of ps)
lines_of [] h = cc
lines_of (x ∷ ys) h = by_last x ys (last_of (x ∷ ys)) refl

pub ended_are : (bytes : List ℕ) → ended_lines bytes ≡ all_but_last (line_pieces bytes)
ended_are bytes = front_is (line_pieces bytes)

pub last_is : (bytes : List ℕ) → last_piece bytes ≡ last_of (line_pieces bytes)
last_is bytes = end_is (line_pieces bytes)

pub lines_are : (bytes : List ℕ) → lines bytes ≡ all_but_last (line_pieces bytes) ++ line_at_end (last_of (line_pieces bytes))
lines_are bytes =
    let ps = line_pieces bytes in
    ap (λ p. cond (nat_lt 0 (length p)) ps (ended_lines bytes)) (last_is bytes) ∙ ap (λ f. cond (nat_lt 0 (length (last_of ps))) ps f) (ended_are bytes)
    ∙ lines_of ps (pieces-nonempty bytes)

-- the lines that a line feed ended, and what is left where that is no empty piece
pub lines-cut : (bytes : List ℕ) → lines bytes ≡ ended_lines bytes ++ line_at_end (last_piece bytes)
lines-cut bytes =
    lines_are bytes ∙ ap (λ ls. ls ++ line_at_end (last_of (line_pieces bytes))) (sym (ended_are bytes)) ∙ ap (λ p. ended_lines bytes ++ line_at_end p) (sym (last_is bytes))
