-- Moves and weights that are found, entry after entry.
use Rattle.std.proofs.Common.{◌≡◌, ℕ, ◌+◌, ◌<◌, inl, inr, All, Bool, true, ◌==◌, cond, List, [], ◌∷◌, ◌++◌, length, take, get_or, refl, sym, ap, subst, ◌∙◌}
use Rattle.std.specs.Prelude.{filter}
use Rattle.std.proofs.lemmas.Bool.{eqb-true}
use Rattle.std.proofs.lemmas.Bool.Decides.{eqb_tells}
use Rattle.std.proofs.lemmas.List.{take_more}
use Rattle.std.proofs.lemmas.List.Elements.{filter_passes}
use Rattle.pb_board.specs.Position.{IsSetup, Position}
use Rattle.pb_moves.specs.Moved.{Moved}
use Rattle.pb_poly.specs.declared.book.Entry.{Entry}
use Rattle.pb_poly.specs.Key.{key}
use Rattle.pb_poly.specs.Found.{Found, IsFor}
use Rattle.pb_poly.proofs.Codes.{code_is_one}

pub Found-append : (randoms : List ℕ) (s : Position) (front back : List Entry) (found later : List (Moved × ℕ))
    → Found front randoms s found → Found back randoms s later → Found (front ++ back) randoms s (found ++ later)
Found-append randoms s [] back found later x y =
    let P : List (Moved × ℕ) → Type 0 = λ pairs. Found back randoms s (pairs ++ later) in
    subst P (sym x) y
Found-append randoms s (e ∷ front) back found later (inl x) y =
    inl (x.0, x.1 ++ later, x.2, ap (λ (pairs : List (Moved × ℕ)). pairs ++ later) x.3, Found-append randoms s front back x.1 later x.4 y)
Found-append randoms s (e ∷ front) back found later (inr x) y =
    inr (x.0, Found-append randoms s front back found later x.1 y)

-- an entry that is for the setup
pub Found-here : (randoms : List ℕ) (s : Position) (e : Entry) (m : Moved) → IsFor randoms s e m → Found (e ∷ []) randoms s ((m, e.weight) ∷ [])
Found-here randoms s e m is = inl (m, [], is, refl, refl)

-- one that isn't
pub Found-not : (randoms : List ℕ) (s : Position) (e : Entry) → ((m : Moved) → ¬ IsFor randoms s e m) → Found (e ∷ []) randoms s []
Found-not randoms s e none = inr (none, refl)

-- one entry more, after those before it
pub Found-more : (randoms : List ℕ) (s : Position) (entries : List Entry) (i : ℕ) (d : Entry) (found later all : List (Moved × ℕ)) → i < length entries
    → Found (take i entries) randoms s found → Found (get_or entries i d ∷ []) randoms s later → all ≡ found ++ later → Found (take (i + 1) entries) randoms s all
Found-more randoms s entries i d found later all within before here is =
    let P : List Entry → Type 0 = λ front. Found front randoms s all in
    let Q : List (Moved × ℕ) → Type 0 = λ pairs. Found (take i entries ++ get_or entries i d ∷ []) randoms s pairs in
    subst P (sym (take_more entries i d within)) (subst Q (sym is) (Found-append randoms s (take i entries) (get_or entries i d ∷ []) found later before here))

-- each entry under a key has it
pub is_under : (key_of : ℕ) (entries under : List Entry) (i : ℕ) (d : Entry) → under ≡ filter (λ (e : Entry). e.key == key_of) entries → i < length under → (get_or under i d).key ≡ key_of
is_under key_of entries under i d is within =
    let all = filter_passes (λ (e : Entry). e.key == key_of) entries in
    let P : List Entry → Type 0 = λ es. All (λ (e : Entry). (e.key == key_of) ≡ true) es in
    eqb-true (get_or under i d).key key_of (subst P (sym is) all i d within)

-- what is found under the setup's key is found in the whole book
pub Found-under : (randoms : List ℕ) (s : Position) (key_of : ℕ) (entries : List Entry) (found : List (Moved × ℕ)) → key_of ≡ key randoms s
    → Found (filter (λ (e : Entry). e.key == key_of) entries) randoms s found → Found entries randoms s found
Found-under randoms s key_of [] found is h = h
Found-under randoms s key_of (e ∷ entries) found is h =
    let under : List Entry = filter (λ (x : Entry). x.key == key_of) entries in
    let P : Bool → Type 0 = λ here. Found (cond here (e ∷ under) under) randoms s found in
    elim (eqb_tells e.key key_of) [
      | inl same ↦ elim (subst P same.0 h) as (λ x. Found (e ∷ entries) randoms s found) [
        | inl x ↦ inl (x.0, x.1, x.2, x.3, Found-under randoms s key_of entries x.1 is x.4)
        | inr x ↦ inr (x.0, Found-under randoms s key_of entries found is x.1)
      ]
      | inr other ↦ inr ((λ m for. other.1 (for.key_is ∙ sym is)), Found-under randoms s key_of entries found is (subst P other.0 h))
    ]

pub found_is_one : (entries : List Entry) (randoms : List ℕ) (s : Position) (pairs others : List (Moved × ℕ)) → IsSetup s → Found entries randoms s pairs → Found entries randoms s others → pairs ≡ others
found_is_one [] randoms s pairs others setup x y = x ∙ sym y
found_is_one (e ∷ entries) randoms s pairs others setup (inl x) (inl y) =
    let move : x.0 ≡ y.0 = code_is_one s x.0 y.0 e.code setup x.2.has_code y.2.has_code in
    let rest : x.1 ≡ y.1 = found_is_one entries randoms s x.1 y.1 setup x.4 y.4 in
    x.3 ∙ ap (λ (m : Moved). (m, e.weight) ∷ x.1) move ∙ ap (λ (pairs : List (Moved × ℕ)). (y.0, e.weight) ∷ pairs) rest ∙ sym y.3
found_is_one (e ∷ entries) randoms s pairs others setup (inl x) (inr y) = absurd (y.0 x.0 x.2)
found_is_one (e ∷ entries) randoms s pairs others setup (inr x) (inl y) = absurd (x.0 y.0 y.2)
found_is_one (e ∷ entries) randoms s pairs others setup (inr x) (inr y) = found_is_one entries randoms s pairs others setup x.1 y.1
