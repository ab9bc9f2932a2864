-- What is replied to the line that submits Fool's mate, and the book of that game.
use Rattle.std.proofs.Common.{◌≡◌, ℕ, ◌*◌, ◌/◌, ◌^◌, ◌<◌, ◌≤◌, nat_le, Bool, true, false, cond, eqb, List, [], ◌∷◌, length, map, get_or, All, AllPairs, Contains, refl, sym, ap, subst, ◌∙◌, inl, arith}
use Rattle.std.specs.Prelude.{codes}
use Rattle.std.specs.Fmt.{digits}
use Rattle.std.specs.List.{range_with_len}
use Rattle.std.proofs.Math.Nat.{mul-le-mul_left}
use Rattle.std.proofs.lemmas.List.FromFn.{get_or-map-range_with_len, length-map-range_with_len}
use Rattle.std.proofs.lemmas.Bool.Decides.{nat_tests}
use Rattle.std.proofs.lemmas.List.Elements.{All-nil, All-cons, All-contains}
use Rattle.std.proofs.lemmas.List.Kept.{AllPairs-cons}
use Rattle.pb_board.specs.Initial.{initial_board}
use Rattle.pb_moves.specs.Successor.{after}
use Rattle.pb_poly.specs.declared.book.Entry.{Entry}
use Rattle.pb_poly.specs.Book.{BookBytes}
use Rattle.pb_poly.specs.Entry.{IsEntry}
use Rattle.pb_poly.specs.Key.{key}
use Rattle.pb_poly.specs.Table.{IsTable}
use Rattle.pb_games.specs.Submissions.{Submission}
use Rattle.pb_games.specs.Worked.{worked_line, worked_submission}
use Rattle.pb_games.proofs.WorkedLine as line
use Rattle.pb_points.specs.Weight.{Before, scaled}
use Rattle.pb_board.proofs.Elements.{contains_head, contains_tail}
use Rattle.pb_accepted.specs.Counting.{IsBook, IsGreatest, count, counted, times}
use Rattle.pb_accepted.specs.Replying.{Replies, new}
use Rattle.pb_accepted.specs.Worked.{worked_basis, worked_book, worked_bytes}
use Rattle.pb_accepted.specs.declared.ply_points.PlyPoints.{PlyPoints}
use Rattle.pb_accepted.proofs.GivenPoints.{count-le, small_ply_points}
use Rattle.pb_accepted.proofs.SomeBooks.{ply_of}

-- ---- the reply

abbrev HasOtherId : Submission → Type 0
HasOtherId s = s.0 ≡ worked_submission.0 → ⊥

pub replied : Replies 1000000 [] (worked_line ∷ []) (codes "ok g1 1" ∷ []) (worked_submission ∷ [])
unfolding digits
replied = (worked_submission ∷ [], new worked_submission (line.lawful, All-nil HasOtherId) (omega arith) refl refl, refl)

-- ---- the table

small : (j d : ℕ) → j < 781 → get_or (map (λ n. n * n) (range_with_len 0 781)) j d < 2 ^ 64
small j d on = let below : j ≤ 781 = omega (arith, on) in omega (arith, get_or-map-range_with_len (λ n. n * n) 0 781 j j d on (omega arith), mul-le-mul_left j below)

pub table : IsTable worked_basis.randoms
table =
    let all : length worked_basis.randoms ≡ 781 = length-map-range_with_len (λ n. n * n) 0 781 in
    record { all = all; fit = λ j d lt. small j d (omega (arith, lt, all)) }

-- ---- the plies that count

abbrev ply : ℕ → ℕ → ℕ → PlyPoints
ply k c n = record { key = k; code = c; points = n }

-- f2f3, e7e5, g2g4 and d8h4
abbrev plies : List PlyPoints
plies = ply 632220 853 0 ∷ ply 58908 3364 2 ∷ ply 631052 926 0 ∷ ply 56540 3807 2 ∷ []

counted_are : counted worked_basis (worked_submission ∷ []) ≡ plies
unfolding initial_board after key
counted_are = refl

-- ---- the book

-- d8h4 and e7e5
abbrev entry : ℕ → ℕ → Entry
entry k c = record { key = k; code = c; weight = 2; learn = 0 }

no_more : (b : Bool) (n : ℕ) → cond b n 0 ≤ n
no_more true n = omega arith
no_more false n = omega arith

after_g2g4 : IsGreatest plies 1 56540 2
after_g2g4 = record { above = λ c often. omega (arith, no_more (eqb 3807 c) 2); met = (3807, omega arith, refl) }

after_f2f3 : IsGreatest plies 1 58908 2
after_f2f3 = record { above = λ c often. omega (arith, no_more (eqb 3364 c) 2); met = (3364, omega arith, refl) }

-- what is so of an entry of the book
abbrev Belongs : Entry → Type 0
Belongs e = (1 ≤ times plies e.key e.code) × ((M : ℕ) × IsGreatest plies 1 e.key M × (e.weight ≡ scaled (count plies e.key e.code) M)) × (1 ≤ e.weight) × (e.learn ≡ 0)

belongs : (e : Entry) → Contains worked_book e → Belongs e
belongs e =
    All-contains Belongs worked_book e (All-cons Belongs (entry 56540 3807) (entry 58908 3364 ∷ []) (omega arith, (2, after_g2g4, refl), omega arith, refl)
    (All-cons Belongs (entry 58908 3364) [] (omega arith, (2, after_f2f3, refl), omega arith, refl) (All-nil Belongs)))

unscaled : (n M : ℕ) → M ≤ 65535 → scaled n M ≡ n
unscaled n M low = let fits : nat_le M 65535 ≡ true = grind (arith, nat_tests) in ap (λ b. cond b n ((n * 65535) / M)) fits

entry_is : (e : Entry) (k c : ℕ) → k ≡ e.key → c ≡ e.code → 2 ≡ e.weight → 0 ≡ e.learn → entry k c ≡ e
entry_is e k c key code weight learn = λ i. record { key = key i; code = code i; weight = weight i; learn = learn i }

module _ (e : Entry) (h : Belongs e) where
  -- no count is so great that it would be scaled
  weighs : e.weight ≡ count plies e.key e.code
  weighs =
      let greatest = h.1.1 in
      let few = subst (λ G. All (λ r. r.points ≤ 2) G) counted_are (small_ply_points worked_basis (worked_submission ∷ [])) in
      let low : h.1.0 ≤ 65535 = omega (arith, greatest.met.2, count-le plies e.key greatest.met.0 few) in
      h.1.2 ∙ unscaled (count plies e.key e.code) h.1.0 low

  abbrev Gives : PlyPoints → Type 0
  Gives p = p.key ≡ e.key → p.code ≡ e.code → Contains worked_book e

  weight_of : (k c : ℕ) → k ≡ e.key → c ≡ e.code → count plies k c ≡ e.weight
  weight_of k c key code = (λ i. count plies (key i) (code i)) ∙ sym weighs

  listed : Contains worked_book e
  listed =
      let p = ply_of plies e.key e.code h.0 in
      let none : (k c : ℕ) → count plies k c ≡ 0 → k ≡ e.key → c ≡ e.code → Contains worked_book e = λ k c no_points key code. absurd (omega (arith, h.2, no_points, weight_of k c key code)) in
      let found : (k c : ℕ) → Contains worked_book (entry k c) → count plies k c ≡ 2 → k ≡ e.key → c ≡ e.code → Contains worked_book e =
      λ k c here points key code. subst (Contains worked_book) (entry_is e k c key code (sym points ∙ weight_of k c key code) (sym h.3)) here in
      let first = contains_head (entry 56540 3807) (entry 58908 3364 ∷ []) in
      let second = contains_tail (entry 56540 3807) (entry 58908 3364 ∷ []) (entry 58908 3364) (contains_head (entry 58908 3364) []) in
      let each : All Gives plies =
      All-cons Gives (ply 632220 853 0) (ply 58908 3364 2 ∷ ply 631052 926 0 ∷ ply 56540 3807 2 ∷ []) (none 632220 853 refl)
      (All-cons Gives (ply 58908 3364 2) (ply 631052 926 0 ∷ ply 56540 3807 2 ∷ []) (found 58908 3364 second refl)
      (All-cons Gives (ply 631052 926 0) (ply 56540 3807 2 ∷ []) (none 631052 926 refl)
      (All-cons Gives (ply 56540 3807 2) [] (found 56540 3807 first refl) (All-nil Gives)))) in
      All-contains Gives plies p.0 each p.1 p.2 p.3

ordered : AllPairs Before worked_book
ordered =
    AllPairs-cons Before (entry 56540 3807) (entry 58908 3364 ∷ []) (All-cons (Before (entry 56540 3807)) (entry 58908 3364) [] (inl (omega arith)) (All-nil (Before (entry 56540 3807))))
    (AllPairs-cons Before (entry 58908 3364) [] (All-nil (Before (entry 58908 3364))) (λ i j d lt fits. absurd (omega (arith, fits))))

pub book : IsBook (counted worked_basis (worked_submission ∷ [])) 1 worked_book
book = subst (λ G. IsBook G 1 worked_book) (sym counted_are) (record { ordered = ordered; members = λ e. (belongs e, listed e) })

-- ---- the bytes

pub bytes : BookBytes worked_book worked_bytes
bytes = record {
  bounds = All-cons IsEntry (entry 56540 3807) (entry 58908 3364 ∷ []) (record { key = omega arith; code = omega arith; weight = omega arith; learn = omega arith })
      (All-cons IsEntry (entry 58908 3364) [] (record { key = omega arith; code = omega arith; weight = omega arith; learn = omega arith }) (All-nil IsEntry));
  are = refl;
}
