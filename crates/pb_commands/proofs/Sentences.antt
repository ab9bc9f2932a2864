-- The theorem's sentence, from the effect of a run.
use Rattle.std.proofs.Common.{◌≡◌, ◌⊎◌, ◌∙◌, ℕ, zero, suc, ◌+◌, ◌<◌, ◌≤◌, List, [], ◌∷◌, ◌++◌, length, take, get_or, slice_get, Some, None, Contains, refl, sym, ap, subst, inl, inr, add-one, arith}
use Rattle.std.specs.Prelude.{codes}
use Rattle.std.specs.List.{flat_map}
use Rattle.std.proofs.lemmas.List.Elements.{Contains-append_left}
use Rattle.std.proofs.lemmas.Option.{get_or_from_slice_get, slice_get_read, slice_get_within}
use Rattle.pb_poly.specs.Book.{BookBytes}
use Rattle.pb_poly.specs.Entry.{entry_bytes}
use Rattle.pb_poly.specs.declared.book.Entry.{Entry}
use Rattle.pb_games.specs.declared.game.Game.{Game}
use Rattle.pb_games.specs.Submissions.{Submits, Submission}
use Rattle.pb_accepted.specs.Accepting.{OneGame}
use Rattle.pb_accepted.specs.Rules.{Basis}
use Rattle.pb_accepted.specs.Accepting.{NoRepeats, SameMembers}
use Rattle.pb_accepted.specs.Replying as replied
use Rattle.pb_accepted.specs.Replying.{AreNumbered, Arrives, IsAccepted, IsNewId, IsNumber, Replies, Reply, ok, refused}
use Rattle.pb_accepted.proofs.BookLaws.{same_book}
use Rattle.pb_accepted.proofs.OneReason.{lawful_is_not_refused}
use Rattle.pb_accepted.proofs.Replies.{game_of, held_not_new, id_of, one_submission}
use Rattle.pb_commands.specs.Headline.{Effect}
use Rattle.pb_commands.specs.Sentence.{HeldAfter, WasAccepted, Sentence}

-- ---- one reply

-- a reply is not both `ok` and `refused`
ok_is_no_refusal : (s : Submission) (n : ℕ) (why : List ℕ) → ok s n ≡ refused why → ⊥
ok_is_no_refusal s n why e = let first = ap (λ (t : List ℕ). get_or t 0 0) e in omega (arith, first)

-- what is held stays
stays : (cap : ℕ) (A : List Submission) (line r : List ℕ) (B : List Submission) → Reply cap A line r B → (s : Submission) → Contains A s → Contains B s
stays cap A line r B (replied.new t fresh room e f) s h = subst (λ X. Contains X s) (sym f) (Contains-append_left A (t ∷ []) s h)
stays cap A line r B (replied.full t fresh many e f) s h = subst (λ X. Contains X s) (sym f) h
stays cap A line r B (replied.memory t fresh room e f) s h = subst (λ X. Contains X s) (sym f) h
stays cap A line r B (replied.repeat t n law at e f) s h = subst (λ X. Contains X s) (sym f) h
stays cap A line r B (replied.conflict t g n law at differs e f) s h = subst (λ X. Contains X s) (sym f) h
stays cap A line r B (replied.refused_alone why is e f) s h = subst (λ X. Contains X s) (sym f) h

-- a new game and a reply that leaves the list don't go together
module _ (cap : ℕ) (A : List Submission) (line r : List ℕ) (s : Submission) (law : Submits line s) (fresh : replied.IsNewId s.0 A) (said : r ≡ ok s (length A + 1)) where
  added_once : (C : List Submission) → Reply cap A line r C → C ≡ A ++ s ∷ []
  added_once C (replied.new t other room e f) = f ∙ ap (λ (x : Submission). A ++ x ∷ []) (one_submission line t s other.0 law)
  added_once C (replied.full t other many e f) = absurd (ok_is_no_refusal s (length A + 1) (t.0 ++ codes " full") (sym said ∙ e))
  added_once C (replied.memory t other room e f) = absurd (ok_is_no_refusal s (length A + 1) (t.0 ++ codes " memory") (sym said ∙ e))
  added_once C (replied.repeat t n lawful at e f) = absurd (held_not_new A at.0 s (at.2 ∙ ap (λ (x : Submission). Some x) (one_submission line t s lawful law)) fresh)
  added_once C (replied.conflict t g n lawful at differs e f) = absurd (ok_is_no_refusal s (length A + 1) _ (sym said ∙ e))
  added_once C (replied.refused_alone why is e f) = absurd (ok_is_no_refusal s (length A + 1) why (sym said ∙ e))

-- a reply leaves the list, or says that a game is new
stays_or_new : (cap : ℕ) (A : List Submission) (line r : List ℕ) (B : List Submission) → Reply cap A line r B → (B ≡ A) ⊎ ((s : Submission) × replied.IsNew A line s × (r ≡ ok s (length A + 1)))
stays_or_new cap A line r B (replied.new s fresh room e f) = inr (s, fresh, e)
stays_or_new cap A line r B (replied.full s fresh many e f) = inl f
stays_or_new cap A line r B (replied.memory s fresh room e f) = inl f
stays_or_new cap A line r B (replied.repeat s n law at e f) = inl f
stays_or_new cap A line r B (replied.conflict s g n law at differs e f) = inl f
stays_or_new cap A line r B (replied.refused_alone why is e f) = inl f

-- one reply leaves one list
one_left : (cap : ℕ) (A : List Submission) (line r : List ℕ) (B C : List Submission) → Reply cap A line r B → Reply cap A line r C → B ≡ C
one_left cap A line r B C h k = elim (stays_or_new cap A line r B h) [
  | inr new ↦ let once = added_once cap A line r new.0 new.1.0 new.1.1 new.2 in once B h ∙ sym (once C k)
  | inl same ↦ elim (stays_or_new cap A line r C k) [
    | inr new ↦ let once = added_once cap A line r new.0 new.1.0 new.1.1 new.2 in once B h ∙ sym (once C k)
    | inl other ↦ same ∙ sym other
  ]
]

-- a refusal leaves the list
refusal_leaves : (cap : ℕ) (A : List Submission) (line why : List ℕ) (B : List Submission) → Reply cap A line (refused why) B → B ≡ A
refusal_leaves cap A line why B (replied.new s fresh room e f) = absurd (ok_is_no_refusal s (length A + 1) why (sym e))
refusal_leaves cap A line why B (replied.full s fresh many e f) = f
refusal_leaves cap A line why B (replied.memory s fresh room e f) = f
refusal_leaves cap A line why B (replied.repeat s n law at e f) = f
refusal_leaves cap A line why B (replied.conflict s g n law at differs e f) = f
refusal_leaves cap A line why B (replied.refused_alone w is e f) = f

-- ---- replies in a row

all_stay : (cap : ℕ) (A : List Submission) (L R : List (List ℕ)) (B : List Submission) → Replies cap A L R B → (s : Submission) → Contains A s → Contains B s
all_stay cap A [] [] B h s here = subst (λ X. Contains X s) (sym h) here
all_stay cap A [] (r ∷ R) B h s here = absurd h
all_stay cap A (line ∷ L) [] B h s here = absurd h
all_stay cap A (line ∷ L) (r ∷ R) B h s here = all_stay cap h.0 L R B h.2 s (stays cap A line r h.0 h.1 s here)

-- a line of them is replied to after those before it, and what was held then is held in the end
replied_at : (cap : ℕ) (A : List Submission) (L R : List (List ℕ)) (B : List Submission) → Replies cap A L R B → (i : ℕ) (line : List ℕ) → slice_get L i ≡ Some line
    → (r : List ℕ) × (M N : List Submission) × (slice_get R i ≡ Some r) × Reply cap M line r N × ((s : Submission) → Contains M s → Contains B s) × Replies cap A (take i L) (take i R) M
replied_at cap A [] R B h i line here = absurd (let none : None ≡ Some line = here in cc)
replied_at cap A (l ∷ L) [] B h i line here = absurd h
replied_at cap A (l ∷ L) (r ∷ R) B h zero line here =
    let is : l ≡ line = (let e : Some l ≡ Some line = here in cc) in
    (r, A, h.0, refl, subst (λ x. Reply cap A x r h.0) is h.1, (λ s here. all_stay cap h.0 L R B h.2 s (stays cap A l r h.0 h.1 s here)), refl)
replied_at cap A (l ∷ L) (r ∷ R) B h (suc i) line here =
    let at = replied_at cap h.0 L R B h.2 i line here in (at.0, at.1, at.2, at.3, at.4, at.5, (h.0, h.1, at.6))

-- replies leave one list
one_list : (cap : ℕ) (A : List Submission) (L R : List (List ℕ)) (B C : List Submission) → Replies cap A L R B → Replies cap A L R C → B ≡ C
one_list cap A [] [] B C h k = h ∙ sym k
one_list cap A [] (r ∷ R) B C h k = absurd h
one_list cap A (line ∷ L) [] B C h k = absurd h
one_list cap A (line ∷ L) (r ∷ R) B C h k =
    one_list cap k.0 L R B C (subst (λ M. Replies cap M L R B) (one_left cap A line r h.0 k.0 h.1 k.1) h.2) k.2

held_after : (L R : List (List ℕ)) (i : ℕ) (held : List Submission) → Replies 1000000 [] (take i L) (take i R) held → HeldAfter L R i held
held_after L R i held h others = (λ k. one_list 1000000 [] (take i L) (take i R) others held k h, λ e. subst (λ B. Replies 1000000 [] (take i L) (take i R) B) (sym e) h)

-- a list that is held before a refusal is held after it
refused_at : (cap : ℕ) (A : List Submission) (L R : List (List ℕ)) (B : List Submission) → Replies cap A L R B → (i : ℕ) (why : List ℕ) → slice_get R i ≡ Some (refused why)
    → (M : List Submission) × Replies cap A (take i L) (take i R) M × Replies cap A (take (suc i) L) (take (suc i) R) M
refused_at cap A L [] B h i why said = let none : None ≡ Some (refused why) = said in absurd (cc)
refused_at cap A [] (r ∷ R) B h i why said = absurd h
refused_at cap A (line ∷ L) (r ∷ R) B h zero why said =
    let f : Some r ≡ Some (refused why) = said in
    let is : r ≡ refused why = cc in
    (A, refl, (h.0, h.1, sym (refusal_leaves cap A line why h.0 (subst (λ x. Reply cap A line x h.0) is h.1))))
refused_at cap A (line ∷ L) (r ∷ R) B h (suc i) why said =
    let at = refused_at cap h.0 L R B h.2 i why said in (at.0, (h.0, h.1, at.1), (h.0, h.1, at.2))

-- ---- what was accepted

at_index : (A : List Submission) (s : Submission) → Contains A s → (k : ℕ) × (slice_get A k ≡ Some s)
at_index A s h = (h.0, slice_get_read A (length A) h.0 s refl h.1 (sym h.2))

contains_at : {X : Type 0} (xs : List X) (k : ℕ) (x : X) → slice_get xs k ≡ Some x → Contains xs x
contains_at xs k x at = (k, slice_get_within xs k x at, get_or_from_slice_get xs k x x at)

module _ (L R : List (List ℕ)) (games : List Submission) (numbered : AreNumbered ok L R games) where
  accepted_to : (s : Submission) → Contains games s → WasAccepted L R s
  accepted_to s h = let at = at_index games s h in let was = (numbered.are (at.0 + 1) s).0 (at.0, refl, at.1) in (was.0, at.0 + 1, was.1)

  accepted_from : (s : Submission) → WasAccepted L R s → Contains games s
  accepted_from s h = let at = (numbered.are h.1 s).1 (h.0, h.2) in contains_at games at.0 s at.2

  once : NoRepeats games
  once i j d lt within same = numbered.ids i j d lt within (ap id_of same)

module _ (T : Basis) (L R : List (List ℕ)) (games : List Submission) (entries : List Entry) (book : List ℕ) (one : OneGame L) (effect : Effect T L R games entries book) where
  -- no legal game conflicts
  agrees : (i : ℕ) (s : Submission) (g : Game) → Arrives L i s → Contains games (s.0, g) → g ≡ s.1
  agrees i s g here held =
      let was = accepted_to L R games effect.numbered (s.0, g) held in
      let there = was.2.0 in
      ap game_of (one there.0 here.0 (s.0, g) s (contains_at L was.0 there.0 there.1) (contains_at L i here.0 here.1) there.2 here.2 refl)

  -- what an arrival comes to that isn't accepted
  abbrev Refuses : ℕ → Submission → Type 0
  Refuses i s = (held : List Submission) × HeldAfter L R i held × IsNewId s.0 held
      × (((1000000 ≤ length held) × (slice_get R i ≡ Some (refused (s.0 ++ codes " full"))))
      ⊎ ((length held < 1000000) × (slice_get R i ≡ Some (refused (s.0 ++ codes " memory")))))

  arrived : (i : ℕ) (s : Submission) (here : Arrives L i s) (r : List ℕ) (M N : List Submission) → slice_get R i ≡ Some r → Reply 1000000 M here.0 r N → ((t : Submission) → Contains M t → Contains games t)
      → Replies 1000000 [] (take i L) (take i R) M → ((n : ℕ) × IsAccepted ok L R i s n) ⊎ Refuses i s
  arrived i s here r M N said (replied.new t fresh room e f) kept before =
      inl (length M + 1, (here, said ∙ ap (λ (x : List ℕ). Some x) (e ∙ ap (λ (x : Submission). ok x (length M + 1)) (one_submission here.0 t s fresh.0 here.2))))
  arrived i s here r M N said (replied.full t fresh many e f) kept before =
      let same = one_submission here.0 t s fresh.0 here.2 in
      inr (M, held_after L R i M before, subst (λ (x : Submission). IsNewId x.0 M) same fresh.1, inl (many, said ∙ ap (λ (x : List ℕ). Some x) (e ∙ ap (λ (x : Submission). refused (x.0 ++ codes " full")) same)))
  arrived i s here r M N said (replied.memory t fresh room e f) kept before =
      let same = one_submission here.0 t s fresh.0 here.2 in
      inr (M, held_after L R i M before, subst (λ (x : Submission). IsNewId x.0 M) same fresh.1, inr (room, said ∙ ap (λ (x : List ℕ). Some x) (e ∙ ap (λ (x : Submission). refused (x.0 ++ codes " memory")) same)))
  arrived i s here r M N said (replied.repeat t n law at e f) kept before =
      inl (n, (here, said ∙ ap (λ (x : List ℕ). Some x) (e ∙ ap (λ (x : Submission). ok x n) (one_submission here.0 t s law here.2))))
  arrived i s here r M N said (replied.conflict t g n law at differs e f) kept before =
      let same = one_submission here.0 t s law here.2 in
      let held : Contains M (t.0, g) = contains_at M at.0 (t.0, g) at.2 in
      absurd (differs (agrees i s g here (subst (λ (x : Submission). Contains games (x.0, g)) same (kept (t.0, g) held)) ∙ ap game_of (sym same)))
  arrived i s here r M N said (replied.refused_alone why is e f) kept before = absurd (lawful_is_not_refused here.0 why s here.2 is)

  arrivals : (i : ℕ) (s : Submission) → Arrives L i s → ((n : ℕ) × IsAccepted ok L R i s n) ⊎ Refuses i s
  arrivals i s here = let at = replied_at 1000000 [] L R games effect.run i here.0 here.1 in arrived i s here at.0 at.1 at.2 at.3 at.4 at.5 at.6

  any_order : (K Q : List (List ℕ)) (others_games : List Submission) (others : List Entry) (bytes : List ℕ) → Effect T K Q others_games others bytes
      → ((s : Submission) → (WasAccepted K Q s → WasAccepted L R s) × (WasAccepted L R s → WasAccepted K Q s)) → bytes ≡ book
  any_order K Q theirs others bytes h same =
      let members : SameMembers theirs games = λ s. (
        (λ here. accepted_from L R games effect.numbered s ((same s).0 (accepted_to K Q theirs h.numbered s here))),
        (λ here. accepted_from K Q theirs h.numbered s ((same s).1 (accepted_to L R games effect.numbered s here))),
      ) in
      let own = (h.is_book others).1 refl in
      let ours = same_book T theirs games (once K Q theirs h.numbered) (once L R games effect.numbered) members T.rules.least others own in
      let equal : others ≡ entries = (effect.is_book others).0 ours in
      let their_bytes : BookBytes others bytes = (h.bytes others).1 refl in
      let our_bytes : BookBytes entries book = (effect.bytes entries).1 refl in
      their_bytes.are ∙ ap (flat_map entry_bytes) equal ∙ sym our_bytes.are

pub holds_of_runs : (T : Basis) (L R : List (List ℕ)) (games : List Submission) (entries : List Entry) (book : List ℕ) → OneGame L → Effect T L R games entries book → Sentence T L R entries book
holds_of_runs T L R games entries book one effect = record {
  distinct = games;
  once = once L R games effect.numbered;
  accepted = λ s. (accepted_to L R games effect.numbered s, accepted_from L R games effect.numbered s);
  is_book = (effect.is_book entries).1 refl;
  decodes = effect.bytes;
  any_order = any_order T L R games entries book one effect;
  arrivals = arrivals T L R games entries book one effect;
  repeats = effect.numbered.repeats;
  refusals = λ i why said.
      let at = refused_at 1000000 [] L R games effect.run i why said in
      (at.0, held_after L R i at.0 at.1, held_after L R (i + 1) at.0 (subst (λ n. Replies 1000000 [] (take n L) (take n R) at.0) (sym (add-one i)) at.2));
}
