-- How a journal gains the lines of new games.
use Rattle.std.proofs.Common.{◌≡◌, ◌≢◌, ℕ, ◌<◌, List, [], ◌∷◌, ◌++◌, length, map, Ok, Err, refl, sym, ap, subst, ◌∙◌, append_assoc, arith, inl, inr}
use Rattle.std.specs.List.{flat_map}
use Rattle.std.proofs.KnownBytes.{Appends-nil, Appends-trans}
use Rattle.std.proofs.lemmas.Grind.{flat_map-append}
use Rattle.std.proofs.lemmas.List.{append-nil, length-append, length_push, map-append}
use Rattle.std.specs.Str.Lines.{strip_carriage_return}
use Rattle.pb_board.specs.LineEnd.{with_end}
use Rattle.pb_io.specs.Sink.{HandedOn, SinkState, Writes}
use Rattle.pb_games.specs.Submissions.{Submission, submission_text}
use Rattle.pb_accepted.specs.Accepting.{Answer, Step}
use Rattle.pb_accepted.proofs.Steps.{refusal_step, step_to}
use Rattle.pb_ledger.specs.Journal.{GameLines}
use Rattle.pb_accepted.specs.Ledger.{LedgerState}
use Rattle.pb_ledger.specs.Collecting.{Gains}
use Rattle.pb_ledger.specs.Change.{from_to}

-- ---- the lines of games

GameLines-append : (F G : List Submission) (a b : List ℕ) → GameLines F a → GameLines G b → GameLines (F ++ G) (a ++ b)
GameLines-append F G a b h k =
    ap (λ xs. xs ++ b) h ∙ ap (λ xs. flat_map with_end (map submission_text F) ++ xs) k ∙ sym (flat_map-append with_end (map submission_text F) (map submission_text G))
    ∙ ap (flat_map with_end) (sym (map-append submission_text F G))

-- ---- the game that a line brings

-- a line that made the list longer was answered with a number, and is the text of the game that it
-- brought, a final CR aside
pub record Brings (A : List Submission) (line : List ℕ) (r : Answer) (B : List Submission) : Type 0 where
  pub number : ℕ
  pub answered : r ≡ Ok number
  pub game : Submission
  pub games : B ≡ A ++ game ∷ []
  pub spells : strip_carriage_return line ≡ submission_text game

pub brought : (cap : ℕ) (A : List Submission) (line : List ℕ) (r : Answer) (B : List Submission) → Step cap A line r B → length A < length B → Brings A line r B
brought most A line (Ok n) B step more = elim (step_to most A line (Ok n) B step).1 [
  | inl adds ↦ record { number = n; answered = refl; game = adds.0; games = adds.4; spells = adds.1.text }
  | inr keeps ↦ absurd (omega (arith, more, ap length keeps.1))
]
brought most A line (Err e) B step more = absurd (omega (arith, more, ap length (refusal_step most A line e B step)))

-- a line that didn't make it longer left it as it was
pub unchanged : (cap : ℕ) (A : List Submission) (line : List ℕ) (r : Answer) (B : List Submission) → Step cap A line r B → (length A < length B → ⊥) → B ≡ A
unchanged most A line r B step no_more = elim (step_to most A line r B step).1 [
  | inl adds ↦ absurd (no_more (omega (arith, ap length adds.4 ∙ length_push A adds.0)))
  | inr keeps ↦ keeps.1
]

-- ---- gains

-- no game has come
pub Gains-kept : (journal : SinkState) (ledger ledger' : LedgerState) → ledger'.accepted ≡ ledger.accepted → Gains (from_to journal journal) (from_to ledger ledger')
Gains-kept journal ledger ledger' same = record {
  new = [];
  are = same ∙ sym (append-nil ledger.accepted);
  text = [];
  lines = refl;
  put = Appends-nil journal.bytes;
  untouched = λ none. refl;
  handed_on = λ some. absurd (some refl);
  all_lasts = λ before. before;
  each = λ below. omega arith;
}

pub Gains-none : (journal : SinkState) (ledger : LedgerState) → Gains (from_to journal journal) (from_to ledger ledger)
Gains-none journal ledger = Gains-kept journal ledger ledger refl

-- the line of a game was written
pub Gains-one : {E : Type 0} (journal journal' : SinkState) (ledger ledger' : LedgerState) (game : Submission) (text : List ℕ) (u : Unit {0}) → ledger'.accepted ≡ ledger.accepted ++ game ∷ []
    → text ≡ submission_text game → Writes {E = E} journal journal' (Ok u) (with_end text) → Gains (from_to journal journal') (from_to ledger ledger')
Gains-one journal journal' ledger ledger' game text u are spells writes = record {
  new = game ∷ [];
  are = are;
  text = with_end text;
  lines = ap with_end spells ∙ sym (append-nil (with_end (submission_text game)));
  put = writes.all;
  untouched = λ none. cc;
  handed_on = λ some. (writes.failed, writes.flushed);
  all_lasts = λ before. writes.all_lasts;
  each = λ below. omega (arith, below, writes.flushes);
}

both_none : (F G : List Submission) → F ++ G ≡ [] → (F ≡ []) × (G ≡ [])
both_none [] G none = (refl, none)
both_none (g ∷ F) G none = cc

handed_on_last : (journal journal' : SinkState) (F G : List Submission) → F ++ G ≢ [] → (F ≢ [] → HandedOn journal) → (G ≡ [] → journal' ≡ journal)
    → (G ≢ [] → HandedOn journal') → HandedOn journal'
handed_on_last journal journal' F [] some before untouched after =
    subst HandedOn (sym (untouched refl)) (before (λ none. some (append-nil F ∙ none)))
handed_on_last journal journal' F (g ∷ G) some before untouched after = after (λ none. (cc))

pub Gains-trans : (a b c : SinkState) (A B C : LedgerState) → Gains (from_to a b) (from_to A B) → Gains (from_to b c) (from_to B C) → Gains (from_to a c) (from_to A C)
Gains-trans a b c A B C first next = record {
  new = first.new ++ next.new;
  are = next.are ∙ ap (λ (G : List Submission). G ++ next.new) first.are ∙ append_assoc A.accepted first.new next.new;
  text = first.text ++ next.text;
  lines = GameLines-append first.new next.new first.text next.text first.lines next.lines;
  put = Appends-trans _ _ _ _ _ first.put next.put;
  untouched = λ none. let each = both_none first.new next.new none in next.untouched each.1 ∙ first.untouched each.0;
  handed_on = λ some. handed_on_last b c first.new next.new some first.handed_on next.untouched next.handed_on;
  all_lasts = λ before. next.all_lasts (first.all_lasts before);
  each = λ below.
      let later = next.each below in
      let earlier = first.each (omega (arith, below, later)) in
      omega (arith, later, earlier, length-append first.new next.new);
}
