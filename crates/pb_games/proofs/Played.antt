-- Moves that are played while their tokens are read.
use Rattle.std.proofs.Common.{Option, Some, None, true, false, true≢false, is_some, ◌≡◌, zero, suc, ◌+◌, ◌-◌, ◌∷◌, ◌++◌, [], ℕ, List, length, take, append-nil, append_assoc, map, refl, sym, ap, subst, ◌∙◌, arith}
use Rattle.pb_board.specs.Position.{Position}
use Rattle.pb_board.specs.Refusal.{BreaksAt}
use Rattle.pb_board.proofs.Breaks.{KeepsFronts}
use Rattle.pb_moves.specs.Legal.{Legal}
use Rattle.pb_moves.specs.Moved.{Moved}
use Rattle.pb_moves.specs.Played.{AreLegal, Ply, plies_from}
use Rattle.pb_moves.specs.Successor.{after}
use Rattle.pb_games.specs.Submissions.{setup_after}
use Rattle.pb_games.specs.Tokens.{move_spelt}
use Rattle.std.proofs.lemmas.List.{length_push}

-- ---- moves of which each is legal, and the first that isn't

pub legal_fronts : (s : Position) → KeepsFronts (AreLegal s)
legal_fronts s [] back h = tt
legal_fronts s (m ∷ front) back h = (h.0, legal_fronts (after s m) front back h.1)

first_illegal : (s : Position) (m : Moved) (ms : List Moved) → ¬ Legal s m → BreaksAt (AreLegal s) (m ∷ ms) 1
first_illegal s m ms bad = (tt, λ h. bad h.0)

later_illegal : (s : Position) (m : Moved) (ms : List Moved) (n : ℕ) → Legal s m → BreaksAt (AreLegal (after s m)) ms n → BreaksAt (AreLegal s) (m ∷ ms) (n + 1)
later_illegal s m ms zero legal h = absurd (h.1 h.0)
later_illegal s m ms (suc n) legal h =
    let one_less : suc n - 1 ≡ n = omega arith in
    let back : suc n ≡ (suc n + 1) - 1 = omega arith in
    let up : suc n + 1 ≡ suc (suc n) = omega arith in
    let before : AreLegal (after s m) (take n ms) = subst (λ i. AreLegal (after s m) (take i ms)) one_less h.0 in
    (subst (λ i. AreLegal s (take i (m ∷ ms))) back (legal, before), λ k. h.1 (subst (λ i. AreLegal s (take i (m ∷ ms))) up k).1)

-- ---- tokens that are left

-- what the tokens that are left come to from this setup is what all the moves come to from the
-- start, their numbers begin after this one, and the plies before them are held
pub record Leads (holds : List Ply → Position → Type 0) (start : Position) (all : List Moved) (setup : Position) (left : List (List ℕ)) (count : ℕ) : Type 0 where
  pub legal : AreLegal setup (map move_spelt left) → AreLegal start all
  pub illegal : (n : ℕ) → BreaksAt (AreLegal setup) (map move_spelt left) n → BreaksAt (AreLegal start) all (count + n)
  pub known : List Ply
  pub held : holds known setup
  pub number : length known ≡ count
  pub plies : known ++ plies_from setup (map move_spelt left) ≡ plies_from start all
  pub last : setup_after setup (map move_spelt left) ≡ setup_after start all

pub leads_all : (holds : List Ply → Position → Type 0) (start : Position) (tokens : List (List ℕ)) → holds [] start → Leads holds start (map move_spelt tokens) start tokens 0
leads_all holds start tokens h = record { legal = λ h. h; illegal = λ n h. subst (λ k. BreaksAt (AreLegal start) (map move_spelt tokens) k) (omega arith) h; known = []; held = h; number = refl; plies = refl; last = refl }

pub leads_same : (holds : List Ply → Position → Type 0) (start : Position) (all rest : List (List ℕ)) → all ≡ rest → holds [] start → Leads holds start (map move_spelt all) start rest 0
leads_same holds start all rest same h = subst (λ ws. Leads holds start (map move_spelt all) start ws 0) same (leads_all holds start all h)

module _ (holds now : List Ply → Position → Type 0) (start s t : Position) (all : List Moved) (m : Moved) (token : List ℕ) (left rest : List (List ℕ)) (count : ℕ)
    (h : Leads holds start all s left count) (cut : left ≡ token ∷ rest) (same : move_spelt token ≡ m) where
  -- all that is left, with the first move by its name
  here : map move_spelt left ≡ m ∷ map move_spelt rest
  here = ap (map move_spelt) cut ∙ ap (λ k. k ∷ map move_spelt rest) same

  pub leads_more : t ≡ after s m → Legal s m → ((ps : List Ply) → holds ps s → now (ps ++ (s, m) ∷ []) t) → Leads now start all t rest (count + 1)
  leads_more next legal push = record {
    legal = λ others. h.legal (subst (AreLegal s) (sym here) (legal, subst (λ u. AreLegal u (map move_spelt rest)) next others));
    illegal = λ n bad.
        let later : BreaksAt (AreLegal s) (m ∷ map move_spelt rest) (n + 1) =
        later_illegal s m (map move_spelt rest) n legal (subst (λ u. BreaksAt (AreLegal u) (map move_spelt rest) n) next bad) in
        subst (λ k. BreaksAt (AreLegal start) all k) (omega arith) (h.illegal (n + 1) (subst (λ ms. BreaksAt (AreLegal s) ms (n + 1)) (sym here) later));
    known = h.known ++ (s, m) ∷ [];
    held = push h.known h.held;
    number = length_push h.known (s, m) ∙ ap (λ n. n + 1) h.number;
    plies =
        append_assoc h.known ((s, m) ∷ []) (plies_from t (map move_spelt rest))
        ∙ ap (λ u. h.known ++ (s, m) ∷ plies_from u (map move_spelt rest)) next
        ∙ ap (λ ms. h.known ++ plies_from s ms) (sym here)
        ∙ h.plies;
    last = ap (λ u. setup_after u (map move_spelt rest)) next ∙ ap (setup_after s) (sym here) ∙ h.last;
  }

  pub leads_bad : ¬ Legal s m → BreaksAt (AreLegal start) all (count + 1)
  leads_bad bad = h.illegal 1 (subst (λ ms. BreaksAt (AreLegal s) ms 1) (sym here) (first_illegal s m (map move_spelt rest) bad))

-- no token is left
module _ (holds : List Ply → Position → Type 0) (start s : Position) (all : List Moved) (left : List (List ℕ)) (count : ℕ)
    (h : Leads holds start all s left count) (none : left ≡ []) where
  pub legal_all : AreLegal start all
  legal_all = h.legal (subst (λ ws. AreLegal s (map move_spelt ws)) (sym none) _)

  pub known_all : holds (plies_from start all) (setup_after start all)
  known_all =
      let plies : h.known ≡ plies_from start all = sym (append-nil h.known) ∙ ap (λ ws. h.known ++ plies_from s (map move_spelt ws)) (sym none) ∙ h.plies in
      let last : s ≡ setup_after start all = ap (λ ws. setup_after s (map move_spelt ws)) (sym none) ∙ h.last in
      subst (λ t. holds (plies_from start all) t) last (subst (λ ps. holds ps s) plies h.held)

-- ---- options of numbers

pub is_none : (o : Option ℕ) → is_some o ≡ false → o ≡ None
is_none None e = refl
is_none (Some n) e = absurd (true≢false e)

pub none_not_some : (n : ℕ) → ¬ (Some n ≡ None)
none_not_some n e = true≢false (ap is_some e)

abbrev or_zero : Option ℕ → ℕ
or_zero None = 0
or_zero (Some n) = n

pub same_some : (a b : ℕ) → Some a ≡ Some b → a ≡ b
same_some a b e = ap or_zero e

pub not_none : (o : Option ℕ) → is_some o ≡ true → ¬ (o ≡ None)
not_none o some none = true≢false (sym some ∙ ap is_some none)
