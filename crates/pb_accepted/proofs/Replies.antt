-- What one line is answered and what it does to the list of what is held.
use Rattle.std.proofs.Common.{◌≡◌, ◌≢◌, ℕ, ◌+◌, ◌<◌, ◌≤◌, ◌⊎◌, List, [], ◌∷◌, ◌++◌, length, Some, slice_get, get_or, Ok, Err, refl, sym, ap, subst, ◌∙◌, inl, inr, arith}
use Rattle.std.proofs.lemmas.Bool.{cases_lt}
use Rattle.std.proofs.lemmas.List.{length_push}
use Rattle.std.proofs.lemmas.List.Quantifiers.{all_pairs_push}
use Rattle.std.proofs.lemmas.Option.{slice_get_within, get_or_from_slice_get}
use Rattle.pb_games.specs.declared.game.Game.{Game}
use Rattle.pb_games.specs.declared.refusal.Refusal.{Refusal}
use Rattle.pb_games.specs.declared.refusal.Refusal.TheVariants.{Long, Shape, Id, Result, Fen, Start, Spelling, Plies, Illegal, Conflict, Full, Memory}
use Rattle.pb_games.specs.Submissions.{Submission, Submits}
use Rattle.pb_games.specs.Refusing.{Refuses}
use Rattle.pb_games.proofs.OneLine as line
use Rattle.pb_games.proofs.OneRefused as refusals
use Rattle.pb_games.proofs.Refused as refused
use Rattle.pb_accepted.specs.Accepting.{Answer, HasRoom, Adds}
use Rattle.pb_accepted.specs.Replying.{IsNumber, IsNewId}
use Rattle.pb_accepted.specs.Replying.{HaveOwnIds}
use Rattle.pb_accepted.proofs.Allowing.{Allowed, Answers, Reply, Takes}

-- the id, and the game, of a submission
abbrev pub id_of : Submission → List ℕ
id_of s = s.0

abbrev pub game_of : Submission → Game
game_of s = s.1

-- ---- lines

-- a line submits one legal game at most
pub one_submission : (b : List ℕ) (s t : Submission) → Submits b s → Submits b t → s ≡ t
one_submission b s t h k = line.one_lawful b s t h k

-- ---- indices of the list

-- what stands at an index has no new id
pub held_not_new : (A : List Submission) (k : ℕ) (s : Submission) → slice_get A k ≡ Some s → IsNewId s.0 A → ⊥
held_not_new A k s at new = new k s (slice_get_within A k s at) (ap id_of (get_or_from_slice_get A k s s at))

-- ---- what may be answered to a lawful submission

pub data Answered (cap : ℕ) (A : List Submission) (s : Submission) (r : Answer) : Type 0 where
  held : (n : ℕ) → r ≡ Ok n → IsNumber A n s → Answered cap A s r
  new : r ≡ Ok (length A + 1) → IsNewId s.0 A → length A < cap → Answered cap A s r
  other : (n : ℕ) (g : Game) → r ≡ Err (Conflict n) → IsNumber A n (s.0, g) → g ≢ s.1 → Answered cap A s r
  full : r ≡ Err Full → IsNewId s.0 A → cap ≤ length A → Answered cap A s r

pub answered : (cap : ℕ) (A : List Submission) (s : Submission) (r : Answer) → Answers cap A s r → Answered cap A s r
answered cap A s (Ok n) (inl h) = held n refl h
answered cap A s (Ok n) (inr h) = new (ap (λ m. Ok m) h.2) h.0 h.1
answered cap A s (Err (Conflict n)) h = other n h.0 refl h.1 h.2
answered cap A s (Err Full) h = full refl h.0 h.1
answered cap A s (Err Memory) h = absurd h
answered cap A s (Err Long) h = absurd h
answered cap A s (Err Shape) h = absurd h
answered cap A s (Err Id) h = absurd h
answered cap A s (Err Result) h = absurd h
answered cap A s (Err (Fen e)) h = absurd h
answered cap A s (Err Start) h = absurd h
answered cap A s (Err (Spelling n)) h = absurd h
answered cap A s (Err Plies) h = absurd h
answered cap A s (Err (Illegal n)) h = absurd h

-- a submission that is new may be answered with the next number, or with want of room
pub new_answer : (cap : ℕ) (A : List Submission) (s : Submission) (r : Answer) → IsNewId s.0 A → Answers cap A s r
    → ((r ≡ Ok (length A + 1)) × (length A < cap)) ⊎ ((r ≡ Err Full) × (cap ≤ length A))
new_answer cap A s r fresh h = by (answered cap A s r h)
  where
    by : Answered cap A s r → ((r ≡ Ok (length A + 1)) × (length A < cap)) ⊎ ((r ≡ Err Full) × (cap ≤ length A))
    by (held n e at) = absurd (held_not_new A at.0 s at.2 fresh)
    by (new e _ room) = inl (e, room)
    by (other n g e at _) = absurd (held_not_new A at.0 (s.0, g) at.2 fresh)
    by (full e _ many) = inr (e, many)

-- ---- what `submit` answers and leaves, case by case

module _ (cap : ℕ) (A : List Submission) (line : List ℕ) (s : Submission) (lawful : Submits line s) where
  pub Allowed-full : IsNewId s.0 A → cap ≤ length A → Allowed cap A line (Err Full)
  Allowed-full fresh many = inl (inl (s, lawful, (fresh, many)))

  pub Allowed-new : IsNewId s.0 A → length A < cap → Allowed cap A line (Ok (length A + 1))
  Allowed-new fresh room = inl (inl (s, lawful, inr (fresh, room, refl)))

  pub Allowed-memory : IsNewId s.0 A → length A < cap → Allowed cap A line (Err Memory)
  Allowed-memory fresh room = inr (refl, inl (s, lawful, inr (fresh, room, refl)))

  pub Takes-held : (k : ℕ) (g : Game) (r : Answer) → slice_get A k ≡ Some (s.0, g) → Takes A line r A
  Takes-held k g r at = inr (λ t law fresh _. held_not_new A k (s.0, g) at (subst (λ x. IsNewId x A) (ap id_of (one_submission line t s law lawful)) fresh), refl)

  pub Takes-new : (n : ℕ) → IsNewId s.0 A → Takes A line (Ok n) (A ++ s ∷ [])
  Takes-new n fresh = inl (s, lawful, fresh, (λ e. (cc), λ e. (cc)), refl)

-- a line that is refused by itself
pub Allowed-refused : (cap : ℕ) (A : List Submission) (line : List ℕ) (e : Refusal) → Refuses line e → Allowed cap A line (Err e)
Allowed-refused cap A line e h = inl (inr (e, refl, h))

pub Takes-refused : (A : List Submission) (line : List ℕ) (e : Refusal) → Refuses line e → Takes A line (Err e) A
Takes-refused A line e h = inr (λ t law _ _. refused.unlawful line e t h law, refl)

-- want of room or memory leaves the list
pub Takes-full : (A : List Submission) (line : List ℕ) → Takes A line (Err Full) A
Takes-full A line = inr (λ t law fresh room. room.0 refl, refl)

pub Takes-memory : (A : List Submission) (line : List ℕ) → Takes A line (Err Memory) A
Takes-memory A line = inr (λ t law fresh room. room.1 refl, refl)

-- ---- what a line does

-- what a line makes of the list is determined
pub Adds-unique : (IsNew : List Submission → Submission → Type 0) (A : List Submission) (line : List ℕ) (r : Answer) (M N : List Submission) → Adds IsNew A line r M → Adds IsNew A line r N → M ≡ N
Adds-unique IsNew A line r M N (inl h) (inl k) = h.4 ∙ ap (λ s. A ++ s ∷ []) (one_submission line h.0 k.0 h.1 k.1) ∙ sym k.4
Adds-unique IsNew A line r M N (inl h) (inr k) = absurd (k.0 h.0 h.1 h.2 h.3)
Adds-unique IsNew A line r M N (inr h) (inl k) = absurd (h.0 k.0 k.1 k.2 k.3)
Adds-unique IsNew A line r M N (inr h) (inr k) = h.1 ∙ sym k.1

pub Takes-unique : (A : List Submission) (line : List ℕ) (r : Answer) (M N : List Submission) → Takes A line r M → Takes A line r N → M ≡ N
Takes-unique = Adds-unique (λ A s. IsNewId s.0 A)

-- ids stay apart
pub HaveOwnIds-Takes : (A : List Submission) (line : List ℕ) (r : Answer) (M : List Submission) → Takes A line r M → HaveOwnIds A → HaveOwnIds M
HaveOwnIds-Takes A line r M (inl h) own = subst HaveOwnIds (sym h.4) (all_pairs_push (λ s t. s.0 ≢ t.0) A h.0 own h.2)
HaveOwnIds-Takes A line r M (inr h) own = subst HaveOwnIds (sym h.1) own

-- a refusal takes nothing
pub Takes-refusal : (cap : ℕ) (A : List Submission) (line : List ℕ) (e : Refusal) (B : List Submission) → Allowed cap A line (Err e) → Takes A line (Err e) B → B ≡ A
Takes-refusal cap A line e B ok (inr t) = t.1
Takes-refusal cap A line e B (inl (inr h)) (inl t) = absurd (refused.unlawful line h.0 t.0 h.2 t.1)
Takes-refusal cap A line e B (inr h) (inl t) = absurd (t.3.1 h.0)
Takes-refusal cap A line e B (inl (inl h)) (inl t) =
    let same = one_submission line h.0 t.0 h.1 t.1 in
    elim (new_answer cap A t.0 (Err e) t.2 (subst (λ s. Answers cap A s (Err e)) same h.2)) [
      | inl k ↦ let no : Err e ≡ Ok (length A + 1) = k.0 in cc
      | inr k ↦ absurd (t.3.0 k.0)
    ]

-- a submission that is added is answered with the next number, and there was room for it
pub new_is_next : (cap : ℕ) (A : List Submission) (line : List ℕ) (s : Submission) (r : Answer) → Submits line s → IsNewId s.0 A → HasRoom r → Allowed cap A line r
    → (r ≡ Ok (length A + 1)) × (length A < cap)
new_is_next cap A line s r law fresh room (inr h) = absurd (room.1 h.0)
new_is_next cap A line s r law fresh room (inl (inr h)) = absurd (refused.unlawful line h.0 s h.2 law)
new_is_next cap A line s r law fresh room (inl (inl h)) =
    let same = one_submission line h.0 s h.1 law in
    elim (new_answer cap A s r fresh (subst (λ t. Answers cap A t r) same h.2)) [
      | inl k ↦ k
      | inr k ↦ absurd (room.0 k.0)
    ]

-- the list never has more than cap members
pub room-Takes : (cap : ℕ) (A : List Submission) (line : List ℕ) (r : Answer) (M : List Submission) → length A ≤ cap → Allowed cap A line r → Takes A line r M → length M ≤ cap
room-Takes cap A line r M few allowed (inr t) = subst (λ X. length X ≤ cap) (sym t.1) few
room-Takes cap A line r M few allowed (inl t) =
    let next = new_is_next cap A line t.0 r t.1 t.2 t.3 allowed in
    subst (λ X. length X ≤ cap) (sym t.4) (omega (arith, next.1, length_push A t.0))

-- ---- where no id stands twice

-- an id has one index
pub one_index : (A : List Submission) → HaveOwnIds A → (k l : ℕ) (s t : Submission) → slice_get A k ≡ Some s → slice_get A l ≡ Some t → s.0 ≡ t.0 → k ≡ l
one_index A own k l s t h m e = by (cases_lt k l) (cases_lt l k)
  where
    here : (d : Submission) → get_or A k d ≡ s
    here d = get_or_from_slice_get A k s d h

    there : (d : Submission) → get_or A l d ≡ t
    there d = get_or_from_slice_get A l t d m

    by : (k < l) ⊎ (l ≤ k) → (l < k) ⊎ (k ≤ l) → k ≡ l
    by (inl before) _ = absurd (own k l s before (slice_get_within A l t m) (ap id_of (here s) ∙ e ∙ sym (ap id_of (there s))))
    by (inr from) (inl after) = absurd (own l k s after (slice_get_within A k s h) (ap id_of (there s) ∙ sym e ∙ sym (ap id_of (here s))))
    by (inr from) (inr upto) = omega (arith, from, upto)

-- a submission has one number
pub one_number : (A : List Submission) (m n : ℕ) (s : Submission) → HaveOwnIds A → IsNumber A m s → IsNumber A n s → m ≡ n
one_number A m n s own h k = omega (arith, one_index A own h.0 k.0 s s h.2 k.2 refl, h.1, k.1)

-- one under another game's id has none
no_number : (A : List Submission) (m n : ℕ) (s : Submission) (g : Game) → HaveOwnIds A → IsNumber A m (s.0, g) → g ≢ s.1 → IsNumber A n s → ⊥
no_number A m n s g own h differs k =
    let same = one_index A own h.0 k.0 (s.0, g) s h.2 k.2 refl in
    let both : Some (s.0, g) ≡ Some s = sym h.2 ∙ ap (slice_get A) same ∙ k.2 in
    let pair : (s.0, g) ≡ s = cc in
    differs (ap game_of pair)

-- a submission that is held is answered with its number
held_answered : (cap : ℕ) (A : List Submission) (s : Submission) (n : ℕ) (r : Answer) → HaveOwnIds A → IsNumber A n s → Answered cap A s r → r ≡ Ok n
held_answered cap A s n r own at (held m e h) = e ∙ ap (λ x. Ok x) (one_number A m n s own h at)
held_answered cap A s n r own at (new e fresh room) = absurd (held_not_new A at.0 s at.2 fresh)
held_answered cap A s n r own at (other m g e h differs) = absurd (no_number A m n s g own h differs at)
held_answered cap A s n r own at (full e fresh many) = absurd (held_not_new A at.0 s at.2 fresh)

reply_held : (cap : ℕ) (A : List Submission) (line : List ℕ) (s : Submission) (n : ℕ) (r : Answer) → HaveOwnIds A → Submits line s → IsNumber A n s → Reply cap A line r → r ≡ Ok n
reply_held cap A line s n r own law at (inl h) =
    held_answered cap A s n r own at (answered cap A s r (subst (λ t. Answers cap A t r) (one_submission line h.0 s h.1 law) h.2))
reply_held cap A line s n r own law at (inr h) = absurd (refused.unlawful line h.0 s h.2 law)

pub allowed_held : (cap : ℕ) (A : List Submission) (line : List ℕ) (s : Submission) (n : ℕ) (r : Answer) → HaveOwnIds A → Submits line s → IsNumber A n s → Allowed cap A line r → r ≡ Ok n
allowed_held cap A line s n r own law at (inl h) = reply_held cap A line s n r own law at h
allowed_held cap A line s n r own law at (inr h) =
    let last : Ok (length A + 1) ≡ Ok n = reply_held cap A line s n (Ok (length A + 1)) own law at h.1 in
    let number : length A + 1 ≡ n = cc in
    absurd (omega (arith, slice_get_within A at.0 s at.2, at.1, number))

-- a line has one reply
one_answer : (cap : ℕ) (A : List Submission) (s : Submission) (q r : Answer) → HaveOwnIds A → Answered cap A s q → Answered cap A s r → q ≡ r
one_answer cap A s q r own (held n e at) k = e ∙ sym (held_answered cap A s n r own at k)
one_answer cap A s q r own (new e fresh room) (new f _ _) = e ∙ sym f
one_answer cap A s q r own (new e fresh room) (full f _ many) = absurd (omega (arith, room, many))
one_answer cap A s q r own (new e fresh room) (held n f at) = absurd (held_not_new A at.0 s at.2 fresh)
one_answer cap A s q r own (new e fresh room) (other n g f at _) = absurd (held_not_new A at.0 (s.0, g) at.2 fresh)
one_answer cap A s q r own (full e fresh many) (new f _ room) = absurd (omega (arith, room, many))
one_answer cap A s q r own (full e fresh many) (full f _ _) = e ∙ sym f
one_answer cap A s q r own (full e fresh many) (held n f at) = absurd (held_not_new A at.0 s at.2 fresh)
one_answer cap A s q r own (full e fresh many) (other n g f at _) = absurd (held_not_new A at.0 (s.0, g) at.2 fresh)
one_answer cap A s q r own (other n g e at differs) (held m f k) = absurd (no_number A n m s g own at differs k)
one_answer cap A s q r own (other n g e at differs) (new f fresh _) = absurd (held_not_new A at.0 (s.0, g) at.2 fresh)
one_answer cap A s q r own (other n g e at differs) (full f fresh _) = absurd (held_not_new A at.0 (s.0, g) at.2 fresh)
one_answer cap A s q r own (other n g e at differs) (other m k f there _) =
    let same = one_index A own at.0 there.0 (s.0, g) (s.0, k) at.2 there.2 refl in
    let number : n ≡ m = omega (arith, same, at.1, there.1) in
    e ∙ ap (λ x. Err (Conflict x)) number ∙ sym f

pub one_reply : (cap : ℕ) (A : List Submission) (line : List ℕ) (q r : Answer) → HaveOwnIds A → Reply cap A line q → Reply cap A line r → q ≡ r
one_reply cap A line q r own (inl h) (inl k) =
    one_answer cap A k.0 q r own (answered cap A k.0 q (subst (λ t. Answers cap A t q) (one_submission line h.0 k.0 h.1 k.1) h.2)) (answered cap A k.0 r k.2)
one_reply cap A line q r own (inl h) (inr k) = absurd (refused.unlawful line k.0 h.0 k.2 h.1)
one_reply cap A line q r own (inr h) (inl k) = absurd (refused.unlawful line h.0 k.0 h.2 k.1)
one_reply cap A line q r own (inr h) (inr k) = h.1 ∙ ap (λ e. Err e) (refusals.one_refusal line h.0 k.0 h.2 k.2) ∙ sym k.1
