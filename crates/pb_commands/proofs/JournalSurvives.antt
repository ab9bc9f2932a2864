-- However a run with a journal ends, no acknowledged game is lost.
use Rattle.std.proofs.Common.{◌≡◌, ◌∙◌, ℕ, ◌+◌, ◌⊎◌, List, ◌∷◌, [], ◌++◌, Some, Ok, append_assoc}
use Rattle.std.proofs.Common.{ap, inl, inr, length, refl, slice_get, subst, sym, take, Option, None}
use Rattle.std.proofs.Common.{append-nil}
use Rattle.std.specs.Io.KnownBytes.{Appends}
use Rattle.std.proofs.KnownBytes.{Appends-trans}
use Rattle.std.proofs.Math.Seq.{take-append-add, take-length}
use Rattle.pb_board.specs.LineEnd.{with_end}
use Rattle.pb_io.specs.Source.{SourceState}
use Rattle.pb_io.specs.Sink.{AllLasts, Lasts, LastsFirst, SinkState}
use Rattle.pb_io.specs.LineTask.{AtLine}
use Rattle.pb_io.specs.Lines.{ended_lines, lines}
use Rattle.pb_io.specs.Source.{Reads, ReadsAll, ReadsFront, chunk_len}
use Rattle.pb_io.proofs.LineLemmas.{lines-begin}
use Rattle.pb_games.specs.Submissions.{Submission, submission_text}
use Rattle.pb_accepted.specs.Accepting.{Answer, Run}
use Rattle.pb_accepted.specs.Replying.{Arrives, IsNumber, most_games}
use Rattle.pb_accepted.specs.Ledger.{LedgerState, new_ledger}
use Rattle.pb_accepted.specs.Accepting.{replies, reply_line}
use Rattle.pb_accepted.specs.Rules.{CountingRules}
use Rattle.pb_ledger.specs.Journal.{GameLines, Journals, mending}
use Rattle.pb_ledger.specs.Collecting.{Collects, CollectsButOne, CollectsStream, CollectsUntil}
use Rattle.pb_ledger.specs.Collecting.{Leads}
use Rattle.pb_ledger.specs.Collecting.{CollectsUnkept, Gains, JournalsUntil}
use Rattle.pb_ledger.specs.Change.{from_to, across}
use Rattle.pb_ledger.proofs.Lasting.{lasts_first}
use Rattle.pb_ledger.specs.Change.{AtLast, Puts}
use Rattle.pb_accepted.proofs.Steps.{runs_join}
use Rattle.pb_io.specs.declared.fault.Fault.{Fault}
use Rattle.pb_io.specs.declared.fault.Fault.TheVariants as fault
use Rattle.pb_ledger.specs.declared.collecting.Totals.{Totals}
use Rattle.pb_commands.specs.Runs.{Change, EndStates, IsSame, JournalStates}
use Rattle.pb_commands.specs.JournalHeadline.{HoldsAnswered}
use Rattle.pb_commands.proofs.JournalGains.{IsNumber-front, Replayed, gains_all, gains_torn}
use Rattle.pb_commands.proofs.JournalGains.{has_numbers, replies-push}

-- ---- the first lines of the submissions

-- these are the first lines of what the source handed out
abbrev AreFirst : List (List ℕ) → Change SourceState → Type 0
AreFirst first source = (bytes : List ℕ) × (later : List (List ℕ)) × (source.new.handed ≡ source.old.handed ++ bytes) × (lines bytes ≡ first ++ later)

module _ (fills : ℕ) (source : Change SourceState) where
  -- those that an LF ended in the bytes that came first
  first_read : (came : List ℕ) → Reads chunk_len fills source.old source.new came → AreFirst (ended_lines came) source
  first_read came h =
      let begins = lines-begin came [] in
      (came, begins.0, h.handed, ap lines (sym (append-nil came)) ∙ begins.1)

  front_read : (came : List ℕ) → ReadsFront chunk_len fills source.old source.new came → AreFirst (ended_lines came) source
  front_read came h = let begins = lines-begin came h.0 in (came ++ h.0, begins.0, h.1.reads.handed, begins.1)

  -- all of them
  all_read : (came : List ℕ) → ReadsAll chunk_len fills source.old source.new came → AreFirst (lines came) source
  all_read came h = (came, [], h.some.reads.handed, sym (append-nil (lines came)))

  first_but_one : (before : List (List ℕ)) (line : List ℕ) → AreFirst (before ++ line ∷ []) source → AreFirst before source
  first_but_one before line h = (h.0, line ∷ h.1, h.2, h.3 ∙ append_assoc before (line ∷ []) h.1)

-- ---- from the journal that was replayed on

lasts_same : (known : Option (List ℕ)) → Lasts known known
lasts_same None = refl
lasts_same (Some bytes) = ([], sym (append-nil bytes))

-- what was gained so behind these bytes holds all that was acknowledged
abbrev pub HoldsBy : EndStates → List ℕ → (List ℕ → Type 0) → Type 0
HoldsBy e kept gains = (gained : List ℕ) × gains gained × HoldsAnswered (kept ++ gained) e

-- the new games are on the journal as far as they were acknowledged, and last there
abbrev pub Safe : EndStates → JournalStates → List ℕ → Type 0
Safe e j kept = HoldsBy e kept (Puts j.journal) × (AllLasts j.journal.old → HoldsBy e kept (across LastsFirst j.journal))

module _ (rules : CountingRules) (fills : ℕ) (e : EndStates) (j : JournalStates) (randoms : List ℕ) (mended : SinkState) (held : LedgerState)
    (replays : Replayed fills j.kept (from_to j.journal.old mended) (from_to (new_ledger rules randoms most_games) held)) (like : held ≡ record (new_ledger rules randoms most_games) { accepted = held.accepted }) where
  abbrev kept : List ℕ
  kept = replays.came

  -- the ledger of the journal's games
  abbrev from : LedgerState
  from = record (new_ledger rules randoms most_games) { accepted = held.accepted }

  holds : Journals most_games kept held.accepted
  holds = replays.holds

  leads_on : (left : LedgerState) (L : List (List ℕ)) (R : List Answer) → Leads held left L R → Leads from left L R
  leads_on left L R h = subst (λ (m : LedgerState). Leads m left L R) like h

  gained : (text : List ℕ) (end : SinkState) → Appends mended.bytes end.bytes text → Appends j.journal.old.bytes end.bytes (mending kept ++ text)
  gained text end put = Appends-trans _ _ _ _ _ replays.put put

  -- the journal with the lines of new games
  holds_all : (left : LedgerState) (L : List (List ℕ)) (R : List Answer) (on : Leads from left L R)
      (new : List Submission) (text : List ℕ) → left.accepted ≡ held.accepted ++ new → GameLines new text → Journals most_games (kept ++ (mending kept ++ text)) (held.accepted ++ new)
  holds_all left L R on new text are lines_of =
      subst (λ (bytes : List ℕ). Journals most_games bytes (held.accepted ++ new)) (append_assoc kept (mending kept) text)
      (gains_all most_games kept held.accepted left.accepted L R holds on.run new text are lines_of)

  -- a front of the replies was put, and the new games are on the journal
  survives : (left : LedgerState) (L : List (List ℕ)) (R : List Answer) (n : ℕ) → AreFirst L e.lines → Leads held left L R → Gains (from_to mended j.journal.new) (from_to held left)
      → Appends e.replies.old.bytes e.replies.new.bytes (take n (replies L R)) → Safe e j kept
  survives left L R n front leads gains replied =
      let on = leads_on left L R leads in
      let holds_answered : HoldsAnswered (kept ++ (mending kept ++ gains.text)) e = record {
        bytes = front.0;
        handed = front.2;
        first = L;
        later = front.1;
        are = front.3;
        answers = R;
        count = n;
        replied = replied;
        games = held.accepted ++ gains.new;
        holds = holds_all left L R on gains.new gains.text gains.are gains.lines;
        has = has_numbers most_games held.accepted L R (held.accepted ++ gains.new) (subst (λ (X : List Submission). Run most_games held.accepted L R X) gains.are on.run);
      } in (
        (mending kept ++ gains.text, gained gains.text j.journal.new gains.put, holds_answered),
        λ before. (
          mending kept ++ gains.text,
          lasts_first j.journal.old j.journal.new j.journal.new (mending kept ++ gains.text) (gained gains.text j.journal.new gains.put) (gains.all_lasts (replays.all_lasts before))
              (lasts_same j.journal.new.lasting),
          holds_answered,
        ),
      )

  -- all replies were put
  collected : (left : LedgerState) (L : List (List ℕ)) → AreFirst L e.lines → Collects e.replies (from_to held left) L → Gains (from_to mended j.journal.new) (from_to held left) → Safe e j kept
  collected left L front h gains =
      survives left L h.answers (length (replies L h.answers)) front h.leads gains (subst (Appends e.replies.old.bytes e.replies.new.bytes) (sym (take-length (replies L h.answers))) h.put)

  -- of the last reply a front was put
  collected_but_one : (left : LedgerState) (L : List (List ℕ)) → AreFirst L e.lines → CollectsButOne e.replies (from_to held left) L → Gains (from_to mended j.journal.new) (from_to held left) → Safe e j kept
  collected_but_one left L front at gains =
      let before = at.before in
      let line = at.line in
      let answers = at.done.0 in
      let answer = at.done.1 in
      let count = at.done.3 in
      let R : List Answer = answers ++ answer ∷ [] in
      let leads : Leads held left (before ++ line ∷ []) R = at.done.2 in
      let all = replies-push held.cap held.accepted left.accepted before line answers answer leads.run in
      let cut : take (length (replies before answers) + count) (replies (before ++ line ∷ []) R) ≡ replies before answers ++ take count (reply_line line answer) =
      ap (take (length (replies before answers) + count)) all ∙ take-append-add (replies before answers) (reply_line line answer) count in
      survives left (before ++ line ∷ []) R (length (replies before answers) + count)
      (subst (λ (X : List (List ℕ)). AreFirst X e.lines) at.are front) leads gains (subst (Appends e.replies.old.bytes e.replies.new.bytes) (sym cut) at.done.4)

  -- the last line's game is on the journal as a whole or not at all, and wasn't answered
  module _ (left : LedgerState) (before : List (List ℕ)) (line : List ℕ) (front : AreFirst (before ++ line ∷ []) e.lines)
      (h : CollectsUnkept e.replies (from_to mended j.journal.new) (from_to held left) before line) where
    abbrev answers : List Answer
    answers = h.collects.answers

    abbrev new : List Submission
    new = h.gains.new

    abbrev text : List ℕ
    text = h.gains.text

    on : Leads from h.middle before answers
    on = leads_on h.middle before answers h.collects.leads

    run : Run most_games held.accepted (before ++ line ∷ []) (answers ++ Ok h.unkept.number ∷ []) left.accepted
    run = runs_join most_games held.accepted h.middle.accepted left.accepted before (line ∷ []) answers (Ok h.unkept.number ∷ []) on.run
        (subst (λ cap. Run cap h.middle.accepted (line ∷ []) (Ok h.unkept.number ∷ []) left.accepted) on.cap h.unkept.leads.run)

    games : left.accepted ≡ held.accepted ++ new ++ h.unkept.game ∷ []
    games = h.unkept.brings ∙ ap (λ (A : List Submission). A ++ h.unkept.game ∷ []) h.gains.are

    abbrev Has : List Submission → Type 0
    Has G = (i n : ℕ) → slice_get answers i ≡ Some (Ok n) → (s : Submission) × Arrives before i s × IsNumber G n s

    has_before : Has (held.accepted ++ new)
    has_before = has_numbers most_games held.accepted before answers (held.accepted ++ new) (subst (λ (X : List Submission). Run most_games held.accepted before answers X) h.gains.are on.run)

    has_after : Has (held.accepted ++ new ++ h.unkept.game ∷ [])
    has_after i n told = let has = has_before i n told in (has.0, has.1, IsNumber-front (held.accepted ++ new) (h.unkept.game ∷ []) n has.0 has.2)

    answered : (gains : List ℕ) (G : List Submission) → Journals most_games (kept ++ gains) G → Has G → HoldsAnswered (kept ++ gains) e
    answered gains G journals has =
        let begins = first_but_one fills e.lines before line front in
        record {
          bytes = begins.0;
          handed = begins.2;
          first = before;
          later = begins.1;
          are = begins.3;
          answers = answers;
          count = length (replies before answers);
          replied = subst (Appends e.replies.old.bytes e.replies.new.bytes) (sym (take-length (replies before answers))) h.collects.put;
          games = G;
          holds = journals;
          has = has;
        }

    abbrev torn : List ℕ
    torn = take h.unkept.breaks.front.0 (with_end (submission_text h.unkept.game))

    survives_so : (G : List Submission) → Journals most_games (kept ++ mending kept ++ text ++ torn) G → Has G → HoldsBy e kept (Puts j.journal)
    survives_so G journals has = (
      mending kept ++ (text ++ torn),
      gained (text ++ torn) j.journal.new (Appends-trans _ _ _ _ _ h.gains.put h.unkept.breaks.front.1),
      answered (mending kept ++ (text ++ torn)) G
          (subst (λ (bytes : List ℕ). Journals most_games bytes G) (append_assoc (kept ++ mending kept) text torn ∙ append_assoc kept (mending kept) (text ++ torn)) journals) has,
    )

    unkept : Safe e j kept
    unkept = (
      elim (gains_torn most_games kept held.accepted left.accepted (before ++ line ∷ []) (answers ++ Ok h.unkept.number ∷ []) holds run new h.unkept.game text h.unkept.breaks.front.0 games h.gains.lines) [
        | inl lost ↦ survives_so (held.accepted ++ new) lost has_before
        | inr whole ↦ survives_so (held.accepted ++ new ++ h.unkept.game ∷ []) whole has_after
      ],
      λ all. (
        mending kept ++ text,
        lasts_first j.journal.old h.kept j.journal.new (mending kept ++ text) (gained text h.kept h.gains.put) (h.gains.all_lasts (replays.all_lasts all)) h.unkept.breaks.lasts,
        answered (mending kept ++ text) (held.accepted ++ new) (holds_all h.middle before answers on new text h.gains.are h.gains.lines) has_before,
      ),
    )

  -- ---- how the lines ended

  module _ (left : LedgerState) where
    at_line : (P : List (List ℕ) → Type 0) → ((L : List (List ℕ)) → AreFirst L e.lines → P L → Safe e j kept) → AtLine fills e.lines.old e.lines.new P → Safe e j kept
    at_line P follows (inl h) = follows (ended_lines h.came) (front_read fills e.lines h.came h.reads) h.done
    at_line P follows (inr h) = follows (lines h.came) (all_read fills e.lines h.came h.reads) h.done

    pub stream_survives : (totals : Totals) → CollectsStream fills e.lines e.replies (from_to held left) totals → Gains (from_to mended j.journal.new) (from_to held left) → IsSame e.lines ⊎ Safe e j kept
    stream_survives totals takes gains = inr (collected left (lines takes.0.came) (all_read fills e.lines takes.0.came takes.0.reads) takes.0.done.collects gains)

    kept_survives : (why : Fault) → CollectsUntil fills e.lines e.replies (from_to held left) why → Gains (from_to mended j.journal.new) (from_to held left) → IsSame e.lines ⊎ Safe e j kept
    kept_survives fault.Read h gains = inr (collected left (ended_lines h.0.came) (first_read fills e.lines h.0.came h.0.reads.reads) h.0.done gains)
    kept_survives fault.Endless h gains = inr (collected left (ended_lines h.0.came) (first_read fills e.lines h.0.came h.0.reads.reads) h.0.done gains)
    kept_survives fault.Memory h gains = inl h.0
    kept_survives fault.Write h gains = elim h.0 [
      | inl at ↦ inr (at_line (CollectsButOne e.replies (from_to held left)) (λ L front but_one. collected_but_one left L front but_one gains) at)
      | inr at ↦ inr (collected left (lines at.came) (all_read fills e.lines at.came at.reads) at.done gains)
    ]

    pub until_survives : (why : Fault) → JournalsUntil fills e.lines e.replies (from_to mended j.journal.new) (from_to held left) why → IsSame e.lines ⊎ Safe e j kept
    until_survives why (inl h) = kept_survives why h.0 h.1
    until_survives why (inr h) = inr (at_line (AtLast (CollectsUnkept e.replies (from_to mended j.journal.new) (from_to held left)))
        (λ L front last. unkept left last.before last.line (subst (λ (X : List (List ℕ)). AreFirst X e.lines) last.are front) last.done) h.1)
