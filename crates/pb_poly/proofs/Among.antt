-- Members of lists of numbers, lists that have each member once, and their sums.
use Rattle.std.proofs.Common.{◌≡◌, ◌≢◌, ℕ, zero, suc, ◌+◌, ◌<◌, ◌⊎◌, inl, inr, List, [], ◌∷◌, ◌++◌, length, fold, get_or, refl, sym, ap, ◌∙◌, subst, arith}
use Rattle.std.specs.Prelude.{AllPairs, Contains, sum_by}

-- the number is one of these
abbrev pub Among : List ℕ → ℕ → Type 0
Among [] n = ⊥
Among (x ∷ xs) n = (n ≡ x) ⊎ Among xs n

-- no number stands twice
abbrev pub Distinct : List ℕ → Type 0
Distinct [] = Unit {0}
Distinct (x ∷ xs) = (¬ Among xs x) × Distinct xs

pub among_contained : (xs : List ℕ) (n : ℕ) → Contains xs n → Among xs n
among_contained [] n h = absurd (let below = h.1 in omega arith)
among_contained (x ∷ xs) n (zero, below, is) = inl (sym is)
among_contained (x ∷ xs) n (suc k, below, is) = inr (among_contained xs n (k, omega arith, is))

pub contains_among : (xs : List ℕ) (n : ℕ) → Among xs n → Contains xs n
contains_among [] n h = absurd h
contains_among (x ∷ xs) n (inl e) = (0, omega arith, sym e)
contains_among (x ∷ xs) n (inr h) = let more = contains_among xs n h in let below = more.1 in (suc more.0, omega arith, more.2)

pub among_read : (xs : List ℕ) (k d : ℕ) → k < length xs → Among xs (get_or xs k d)
among_read [] k d below = absurd (omega arith)
among_read (x ∷ xs) zero d below = inl refl
among_read (x ∷ xs) (suc k) d below = inr (among_read xs k d (omega arith))

distinct_at : (x : ℕ) (xs : List ℕ) → ¬ Among xs x → AllPairs (λ a b. a ≢ b) xs → (i j d : ℕ) → i < j → j < length (x ∷ xs) → get_or (x ∷ xs) i d ≢ get_or (x ∷ xs) j d
distinct_at x xs new pairs i zero d low high = absurd (omega arith)
distinct_at x xs new pairs zero (suc j) d low high = λ e. new (let P : ℕ → Type 0 = λ n. Among xs n in subst P (sym e) (among_read xs j d (omega arith)))
distinct_at x xs new pairs (suc i) (suc j) d low high = pairs i j d (omega arith) (omega arith)

-- numbers that each stand once differ
pub distinct_pairs : (xs : List ℕ) → Distinct xs → AllPairs (λ a b. a ≢ b) xs
distinct_pairs [] h = λ i j d low high. absurd (omega arith)
distinct_pairs (x ∷ xs) h = distinct_at x xs h.0 (distinct_pairs xs h.1)

among_later : (xs : List ℕ) (n : ℕ) → Among xs n → (k : ℕ) × (k < length xs) × (get_or xs k 0 ≡ n)
among_later [] n h = absurd h
among_later (x ∷ xs) n (inl e) = (0, omega arith, sym e)
among_later (x ∷ xs) n (inr h) = let more = among_later xs n h in let below = more.1 in (suc more.0, omega arith, more.2)

pub pairs_distinct : (xs : List ℕ) → AllPairs (λ a b. a ≢ b) xs → Distinct xs
pairs_distinct [] h = tt
pairs_distinct (x ∷ xs) h = (
  λ again. let at = among_later xs x again in let below = at.1 in h 0 (suc at.0) 0 (omega arith) (omega arith) (sym at.2),
  pairs_distinct xs (λ i j d low high. h (suc i) (suc j) d (omega arith) (omega arith)),
)

pub among_left : (xs ys : List ℕ) (n : ℕ) → Among xs n → Among (xs ++ ys) n
among_left [] ys n h = absurd h
among_left (x ∷ xs) ys n (inl e) = inl e
among_left (x ∷ xs) ys n (inr h) = inr (among_left xs ys n h)

pub among_right : (xs ys : List ℕ) (n : ℕ) → Among ys n → Among (xs ++ ys) n
among_right [] ys n h = h
among_right (x ∷ xs) ys n h = inr (among_right xs ys n h)

pub among_either : (xs ys : List ℕ) (n : ℕ) → Among (xs ++ ys) n → Among xs n ⊎ Among ys n
among_either [] ys n h = inr h
among_either (x ∷ xs) ys n (inl e) = inl (inl e)
among_either (x ∷ xs) ys n (inr h) = elim (among_either xs ys n h) [ inl l ↦ inl (inr l) | inr r ↦ inr r ]

pub distinct_append : (xs ys : List ℕ) → Distinct xs → Distinct ys → ((n : ℕ) → Among xs n → ¬ Among ys n) → Distinct (xs ++ ys)
distinct_append [] ys h k apart = k
distinct_append (x ∷ xs) ys h k apart = (
  λ again. elim (among_either xs ys x again) [ inl l ↦ h.0 l | inr r ↦ apart x (inl refl) r ],
  distinct_append xs ys h.1 k (λ n l. apart n (inr l)),
)

-- the sum, from the front on
abbrev pub total : (ℕ → ℕ) → List ℕ → ℕ
total f [] = 0
total f (x ∷ xs) = f x + total f xs

total_from : (f : ℕ → ℕ) (n : ℕ) (xs : List ℕ) → fold (λ a x. a + f x) n xs ≡ n + total f xs
total_from f n [] = omega arith
total_from f n (x ∷ xs) = let more = total_from f (n + f x) xs in more ∙ omega arith

pub sum_is_total : (f : ℕ → ℕ) (xs : List ℕ) → sum_by f xs ≡ total f xs
sum_is_total f xs = total_from f 0 xs ∙ omega arith

split : (xs : List ℕ) (n : ℕ) → Among xs n → (front : List ℕ) × (back : List ℕ) × (xs ≡ front ++ n ∷ back)
split [] n h = absurd h
split (x ∷ xs) n (inl e) = ([], xs, ap (λ m. m ∷ xs) (sym e))
split (x ∷ xs) n (inr h) = let more = split xs n h in (x ∷ more.0, more.1, ap (λ ys. x ∷ ys) more.2)

total_split : (f : ℕ → ℕ) (front back : List ℕ) (n : ℕ) → total f (front ++ n ∷ back) ≡ f n + total f (front ++ back)
total_split f [] back n = refl
total_split f (x ∷ front) back n = let more = total_split f front back n in omega (arith, more)

among_without : (front back : List ℕ) (n m : ℕ) → Among (front ++ n ∷ back) m → m ≢ n → Among (front ++ back) m
among_without front back n m h other = elim (among_either front (n ∷ back) m h) [
  | inl l ↦ among_left front back m l
  | inr r ↦ elim r [ inl e ↦ absurd (other e) | inr b ↦ among_right front back m b ]
]

among_with : (front back : List ℕ) (n m : ℕ) → Among (front ++ back) m → Among (front ++ n ∷ back) m
among_with front back n m h = elim (among_either front back m h) [
  | inl l ↦ among_left front (n ∷ back) m l
  | inr b ↦ among_right front (n ∷ back) m (inr b)
]

distinct_without : (front back : List ℕ) (n : ℕ) → Distinct (front ++ n ∷ back) → (¬ Among (front ++ back) n) × Distinct (front ++ back)
distinct_without [] back n h = h
distinct_without (x ∷ front) back n h =
    let more = distinct_without front back n h.1 in (
      λ again. elim again [
        | inl e ↦ h.0 (among_right front (n ∷ back) x (inl (sym e)))
        | inr later ↦ more.0 later
      ],
      (λ again. h.0 (among_with front back n x again), more.1),
    )

-- lists with the same members, each once, have the same sum
pub total_same : (f : ℕ → ℕ) (xs ys : List ℕ) → Distinct xs → Distinct ys → ((n : ℕ) → Among xs n → Among ys n) → ((n : ℕ) → Among ys n → Among xs n) → total f xs ≡ total f ys
total_same f [] [] h k there back = refl
total_same f [] (y ∷ ys) h k there back = absurd (back y (inl refl))
total_same f (x ∷ xs) ys h k there back =
    let at = split ys x (there x (inl refl)) in
    let front : List ℕ = at.0 in
    let rest : List ℕ = at.1 in
    let P : List ℕ → Type 0 = λ zs. Distinct zs in
    let once = distinct_without front rest x (subst P at.2 k) in
    let more : total f xs ≡ total f (front ++ rest) =
    total_same f xs (front ++ rest) h.1 once.1
    (λ n among. let Q : List ℕ → Type 0 = λ zs. Among zs n in among_without front rest x n (subst Q at.2 (there n (inr among))) (λ e. let R : ℕ → Type 0 = λ m. Among xs m in h.0 (subst R e among)))
    (λ n among. let Q : List ℕ → Type 0 = λ zs. Among zs n in elim (back n (subst Q (sym at.2) (among_with front rest x n among))) [
      | inl e ↦ let R : ℕ → Type 0 = λ m. Among (front ++ rest) m in absurd (once.0 (subst R e among))
      | inr r ↦ r
    ]) in
    ap (λ t. f x + t) more ∙ sym (total_split f front rest x) ∙ ap (λ zs. total f zs) (sym at.2)
