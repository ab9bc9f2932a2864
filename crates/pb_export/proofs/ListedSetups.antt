-- The setups of games, listed with their moves.
use Rattle.std.proofs.Common.{suc, ◌≡◌, ℕ, ◌+◌, ◌-◌, ◌*◌, ◌^◌, ◌<◌, ◌≤◌, List, [], ◌∷◌, ◌++◌, Some, slice_get, append-nil, append_assoc, length, take, drop, get_or, sym, ap, subst, ◌∙◌, inl, inr, arith}
use Rattle.std.specs.Prelude.{All, Contains, map}
use Rattle.std.proofs.Math.ListN.{drop_of_length-le}
use Rattle.std.proofs.lemmas.List.{drop-append-le, drop_more, flat_map_more, length-append, length-drop, take-append-le, take_all, length-map, length_push, take_more}
use Rattle.std.proofs.Math.Seq.{drop-append_seam}
use Rattle.std.proofs.lemmas.Option.{get_or_from_slice_get, slice_get_within}
use Rattle.std.proofs.lemmas.List.Elements.{All-contains, All-nil, All-push, Contains-append_left, Contains-push, Contains-push_cases}
use Rattle.pb_board.specs.Position.{Position, IsSetup}
use Rattle.pb_board.specs.Text.{setup_text}
use Rattle.pb_moves.specs.Moved.{Moved}
use Rattle.pb_moves.specs.Successor.{after}
use Rattle.pb_moves.specs.Legal.{Legal}
use Rattle.pb_moves.specs.Played.{AreLegal, Ply, plies_from}
use Rattle.pb_epd.specs.Epd.{EpdRecord, EpdText, IsEpd}
use Rattle.pb_epd.specs.Operation.{IsOperation, Operation}
use Rattle.pb_epd.specs.ByteOrder.{IsBytesBelow}
use Rattle.pb_epd.proofs.Forms.{form_is_text, record_is_one}
use Rattle.pb_epd.proofs.Lists.{contains_none, pairs_none}
use Rattle.pb_games.specs.declared.game.Game.{Game}
use Rattle.pb_games.specs.Submissions.{IsLegalGame, IsSubmission, Submission, plies}
use Rattle.pb_accepted.specs.Replying.{IsNumber}
use Rattle.pb_poly.specs.declared.book.Entry.{Entry}
use Rattle.pb_poly.specs.Found.{Found}
use Rattle.pb_export.specs.Setups.{HasMoves, IsListedAs, ListsSetups, all_setups, moves_of, setups_before}
use Rattle.pb_export.specs.declared.setups.ListedSetup.{ListedSetup}
use Rattle.pb_accepted.specs.Ledger.{IsLedger, LedgerState}
use Rattle.pb_accepted.proofs.GivenPoints.{length-plies_from}

-- ---- one text, one setup

abbrev bare : Position → EpdRecord
bare p = record { setup = p; operations = [] }

is_epd : (p : Position) → IsSetup p → IsEpd (bare p)
is_epd p rules = record { setup = rules; lawful = All-nil IsOperation; ordered = pairs_none (λ (o q : Operation). IsBytesBelow o.0 q.0) }

bare_text : (p : Position) (t : List ℕ) → IsSetup p → t ≡ setup_text p → EpdText (bare p) t
bare_text p t rules h = subst (EpdText (bare p)) (append-nil (setup_text p) ∙ sym h) (form_is_text (bare p) (is_epd p rules))

pub setup_of_text : (p q : Position) (t : List ℕ) → IsSetup p → IsSetup q → t ≡ setup_text p → t ≡ setup_text q → p ≡ q
setup_of_text p q t hp hq ht hu = ap (λ (e : EpdRecord). e.setup) (record_is_one (bare p) (bare q) t (is_epd p hp) (is_epd q hq) (bare_text p t hp ht) (bare_text q t hq hu))

-- ---- ranges of moves

same_range : (moves more : List (Moved × ℕ)) (x : ListedSetup) → HasMoves moves x → moves_of (moves ++ more) x ≡ moves_of moves x
same_range moves more x has =
    ap (take (x.end - x.first)) (drop-append-le x.first moves more (omega (arith, has.0, has.1)))
    ∙ take-append-le (x.end - x.first) (drop x.first moves) more (omega (arith, length-drop x.first moves, has.0, has.1))

last_range : (moves found : List (Moved × ℕ)) (x : ListedSetup) → x.first ≡ length moves → x.end ≡ length (moves ++ found) → moves_of (moves ++ found) x ≡ found
last_range moves found x first end =
    let rest : drop x.first (moves ++ found) ≡ found = ap (λ n. drop n (moves ++ found)) first ∙ drop-append_seam moves found in
    let all : length found ≤ x.end - x.first = omega (arith, end, first, length-append moves found) in
    ap (take (x.end - x.first)) rest ∙ take_all (x.end - x.first) found all

-- ---- listed setups

module _ (words : List ℕ) (book : List Entry) where
  pub none_listed : ListsSetups words book [] [] []
  none_listed = record {
    setups = All-nil IsSetup;
    sound = λ x h. absurd (contains_none x h);
    whole = λ s h. absurd (contains_none s h);
    few = omega arith;
  }

  grown : (moves more : List (Moved × ℕ)) (s : Position) (x : ListedSetup) → IsListedAs words book moves s x → IsListedAs words book (moves ++ more) s x
  grown moves more s x h = record {
    fields = h.fields;
    has = (h.has.0, omega (arith, h.has.1, length-append moves more));
    found = subst (Found book words s) (sym (same_range moves more x h.has)) h.found;
  }

  module _ (known : List Position) (moves : List (Moved × ℕ)) (listed : List ListedSetup) (h : ListsSetups words book known moves listed) (s : Position) (rules : IsSetup s) where
    -- a setup for which the book has no move
    pub no_move : (new : List (Moved × ℕ)) → new ≡ moves ++ [] → Found book words s [] → ListsSetups words book (known ++ s ∷ []) new listed
    no_move new is none = subst (λ (ms : List (Moved × ℕ)). ListsSetups words book (known ++ s ∷ []) ms listed) (sym (is ∙ append-nil moves)) (record {
      setups = All-push IsSetup known s h.setups rules;
      sound = λ x c. let w = h.sound x c in (w.0, Contains-append_left known (s ∷ []) w.0 w.1, w.2);
      whole = λ t c. elim (Contains-push_cases known s t c) [
        | inl old ↦ h.whole t old
        | inr e ↦ inl (subst (λ (p : Position). Found book words p []) e none)
      ];
      few = omega (arith, h.few, length_push known s);
    })

    -- one that is listed
    pub listed_before : (x : ListedSetup) → Contains listed x → x.fields ≡ setup_text s → ListsSetups words book (known ++ s ∷ []) moves listed
    listed_before x c fields =
        let w = h.sound x c in
        let same : w.0 ≡ s = setup_of_text w.0 s x.fields (All-contains IsSetup known w.0 h.setups w.1) rules w.2.fields fields in
        record {
          setups = All-push IsSetup known s h.setups rules;
          sound = λ y k. let v = h.sound y k in (v.0, Contains-append_left known (s ∷ []) v.0 v.1, v.2);
          whole = λ t k. elim (Contains-push_cases known s t k) [
            | inl old ↦ h.whole t old
            | inr e ↦ inr (x, c, subst (λ (p : Position). IsListedAs words book moves p x) (same ∙ e) w.2)
          ];
          few = omega (arith, h.few, length_push known s);
        }

    -- one for which it has moves
    pub one_listed : (found new : List (Moved × ℕ)) (x : ListedSetup) → new ≡ moves ++ found → Found book words s found → x.fields ≡ setup_text s → x.first ≡ length moves → x.end ≡ length new → x.first < x.end
        → ListsSetups words book (known ++ s ∷ []) new (listed ++ x ∷ [])
    one_listed found new x is has fields first end some =
        let within : x.end ≡ length (moves ++ found) = end ∙ ap length is in
        let here : IsListedAs words book (moves ++ found) s x = record {
          fields = fields;
          has = (some, omega (arith, within));
          found = subst (Found book words s) (sym (last_range moves found x first within)) has;
        } in
        subst (λ (ms : List (Moved × ℕ)). ListsSetups words book (known ++ s ∷ []) ms (listed ++ x ∷ [])) (sym is) (record {
          setups = All-push IsSetup known s h.setups rules;
          sound = λ y c. elim (Contains-push_cases listed x y c) [
            | inl old ↦ let w = h.sound y old in (w.0, Contains-append_left known (s ∷ []) w.0 w.1, grown moves found w.0 y w.2)
            | inr e ↦ (s, Contains-push known s, subst (IsListedAs words book (moves ++ found) s) e here)
          ];
          whole = λ t c. elim (Contains-push_cases known s t c) [
            | inl old ↦ elim (h.whole t old) [
              | inl none ↦ inl none
              | inr w ↦ inr (w.0, Contains-append_left listed (x ∷ []) w.0 w.1, grown moves found t w.0 w.2)
            ]
            | inr e ↦ inr (x, Contains-push listed x, subst (λ (p : Position). IsListedAs words book (moves ++ found) p x) e here)
          ];
          few = omega (arith, h.few, length_push known s, length_push listed x);
        })

  -- in another order and without repeats
  pub each_once : (known : List Position) (moves : List (Moved × ℕ)) (old new : List ListedSetup) → ListsSetups words book known moves old → ((x : ListedSetup) → Contains new x → Contains old x)
      → ((x : ListedSetup) → Contains old x → (y : ListedSetup) × Contains new y × (y.fields ≡ x.fields)) → length new ≤ length old → ListsSetups words book known moves new
  each_once known moves old new h sound whole few = record {
    setups = h.setups;
    sound = λ x c. h.sound x (sound x c);
    whole = λ s c. elim (h.whole s c) [
      | inl none ↦ inl none
      | inr w ↦
          let y = whole w.0 w.1 in
          let v = h.sound y.0 (sound y.0 y.1) in
          let is : v.0 ≡ s = setup_of_text v.0 s y.0.fields (All-contains IsSetup known v.0 h.setups v.1) (All-contains IsSetup known s h.setups c) v.2.fields (y.2 ∙ w.2.fields) in
          inr (y.0, y.1, subst (λ (p : Position). IsListedAs words book moves p y.0) is v.2)
    ];
    few = omega (arith, h.few, few);
  }

-- ---- the setups of a game

-- the setups before these moves
abbrev pub setups_from : Position → List Moved → List Position
setups_from s ms = map (λ p. p.0) (plies_from s ms)

-- the setups before the first moves of the game, and the moves that are left from the next setup
pub record Standing (g : Game) (done : List Position) (s : Position) (ms : List Moved) : Type 0 where
  pub legal : AreLegal s ms
  pub all : done ++ setups_from s ms ≡ setups_before g

module _ (g : Game) (done : List Position) (s : Position) (ms : List Moved) (i : ℕ) (h : Standing g done s (drop i ms)) where
  pub Standing-more : (d : Moved) (new : List Position) → i < length ms → new ≡ done ++ s ∷ [] → Standing g new (after s (get_or ms i d)) (drop (i + 1) ms)
  Standing-more d new lt is =
      let m = get_or ms i d in
      let cut : drop i ms ≡ m ∷ drop (i + 1) ms = drop_more ms i d lt in
      let legal = subst (AreLegal s) cut h.legal in
      let all : done ++ setups_from s (m ∷ drop (i + 1) ms) ≡ setups_before g = subst (λ xs. done ++ setups_from s xs ≡ setups_before g) cut h.all in
      record {
        legal = legal.1;
        all = ap (λ xs. xs ++ setups_from (after s m) (drop (i + 1) ms)) is ∙ append_assoc done (s ∷ []) (setups_from (after s m) (drop (i + 1) ms)) ∙ all;
      }

  pub Standing-legal : (d : Moved) → i < length ms → Legal s (get_or ms i d)
  Standing-legal d lt = (subst (AreLegal s) (drop_more ms i d lt) h.legal).0

  pub Standing-all : length ms ≤ i → done ≡ setups_before g
  Standing-all past =
      let none : setups_from s (drop i ms) ≡ [] = ap (setups_from s) (drop_of_length-le ms past) in
      sym (append-nil done) ∙ ap (λ xs. done ++ xs) (sym none) ∙ h.all

-- as many as moves
pub length-setups_before : (g : Game) → length (setups_before g) ≡ length g.moves
length-setups_before g = length-map (plies g) (λ (p : Ply). p.0) ∙ length-plies_from g.start.setup g.moves

-- ---- the setups of all games

-- a game stands under each number up to how many there are
pub numbered_game : (A : List Submission) (n : ℕ) (s : Submission) → All IsSubmission A → IsNumber A n s → IsLegalGame s.1
numbered_game A n s games h = (All-contains IsSubmission A s games (h.0, slice_get_within A h.0 s h.2, get_or_from_slice_get A h.0 s s h.2)).legal

pub all_setups-more : (A : List Submission) (i : ℕ) (s : Submission) → IsNumber A (i + 1) s → all_setups (take i A) ++ setups_before s.1 ≡ all_setups (take (i + 1) A)
all_setups-more A i s h =
    let same : h.0 ≡ i = omega (arith, h.1) in
    let at = subst (λ k. slice_get A k ≡ Some s) same h.2 in
    let lt = slice_get_within A i s at in
    flat_map_more (λ (x : Submission). setups_before x.1) [] (take i A) s ∙ ap all_setups (sym (take_more A i s lt ∙ ap (λ x. take i A ++ x ∷ []) (get_or_from_slice_get A i s s at)))

-- at most 1,024 for each game
setups_few : (S : List Submission) → All IsSubmission S → length (all_setups S) ≤ length S * 1024
setups_few [] games = omega arith
setups_few (x ∷ S) games =
    let first : length (setups_before x.1) ≡ length x.1.moves = length-setups_before x.1 in
    let own : length x.1.moves ≤ 1024 = (games 0 x (omega arith)).game.few in
    omega (arith, length-append (setups_before x.1) (all_setups S), first, own, setups_few S (λ k d lt. games (suc k) d (omega (arith, lt))))

-- so a ledger's setups can be counted in 32 bits
pub setups_fit : (l : LedgerState) (book : List Entry) (moves : List (Moved × ℕ)) (listed : List ListedSetup) → IsLedger l → ListsSetups l.basis.randoms book (all_setups l.accepted) moves listed → length listed < 2 ^ 32
setups_fit l book moves listed rules h = omega (arith, h.few, setups_few l.accepted rules.games, rules.room, rules.few)
