-- From the lines that the picker took to what was put.
use Rattle.std.proofs.Common.{◌≡◌, ◌∙◌, ℕ, true, false, cond, List, [], ◌∷◌, ◌++◌, map, MutBor, Result, Ok, Err, refl, sym, ap, subst, inl, inr}
use Rattle.std.specs.List.{filter, flat_map}
use Rattle.std.specs.Io.KnownBytes.{Appends}
use Rattle.std.specs.Str.Lines.{strip_carriage_return}
use Rattle.std.proofs.KnownBytes.{Appends-kept, Appends-nil, Appends-trans}
use Rattle.pb_board.specs.LineEnd.{with_end}
use Rattle.pb_io.specs.Count.{next_count}
use Rattle.pb_io.specs.Fault.{fault_of_read}
use Rattle.pb_io.specs.LineTask.{ReadUntil, TakesAll, TakesStream, TakesUntil, ended}
use Rattle.pb_io.specs.Lines.{ended_lines, is_torn, last_piece}
use Rattle.pb_io.specs.Sink.{AwaitsFlush, Flush, SinkState}
use Rattle.pb_io.specs.Source.{SourceState}
use Rattle.pb_io.specs.declared.fault.Fault.{Fault}
use Rattle.pb_io.specs.declared.fault.Fault.TheVariants as fault
use Rattle.pb_io.specs.declared.fault.ReadFault.{ReadFault}
use Rattle.pb_io.specs.declared.fault.ReadFault.TheVariants as read
use Rattle.pb_io.specs.declared.source.Failed.{Failed}
use Rattle.pb_io.proofs.FlushLemmas.{AwaitsFlush-put, AwaitsFlush-trans, not_flushed}
use Rattle.pb_ledger.specs.Change.{AllCame, Puts, from_to}
use Rattle.pb_ledger.specs.Journal.{PicksAll, PicksButOne, PicksUntil, games_text, has_shape, text_of_games, PicksLine, passed, put, unfinished}
use Rattle.pb_ledger.specs.declared.journal.Picker.{Picker}
use Rattle.pb_ledger.proofs.Torn.{noted}

-- ---- the text of lines

pub text_with : (line : List ℕ) (ls : List (List ℕ)) → has_shape line ≡ true → with_end (strip_carriage_return line) ++ text_of_games ls ≡ text_of_games (line ∷ ls)
text_with line ls is = ap (λ b. flat_map with_end (map strip_carriage_return (cond b (line ∷ filter has_shape ls) (filter has_shape ls)))) (sym is)

pub text_without : (line : List ℕ) (ls : List (List ℕ)) → has_shape line ≡ false → text_of_games ls ≡ text_of_games (line ∷ ls)
text_without line ls is = ap (λ b. flat_map with_end (map strip_carriage_return (cond b (line ∷ filter has_shape ls) (filter has_shape ls)))) (sym is)

module _ {K W : Type 0} (state : K → SinkState) where
  abbrev Sink : Picker K W → SinkState
  Sink s = state s.sink.now

  abbrev takes : Picker K W → List ℕ → Result (Unit {0}) Fault → Picker K W → Type 0
  takes = ended (PicksLine state)

  -- lines that LFs ended were taken
  pub record Taken (s t : Picker K W) (ls : List (List ℕ)) : Type 0 where
    pub picks : Puts (from_to (Sink s) (Sink t)) (text_of_games ls)
    pub awaits : AwaitsFlush (Sink s) (Sink t)
    pub lent : t.sink.ghost_name ≡ s.sink.ghost_name
    pub whole : t.left_out ≡ s.left_out

  Taken-none : (s : Picker K W) → Taken s s []
  Taken-none s = record { picks = Appends-nil (Sink s).bytes; awaits = inl refl; lent = refl; whole = refl }

  Taken-more : (s m t : Picker K W) (line : List ℕ) (ls : List (List ℕ)) → PicksLine state s line true (Ok tt) m → Taken m t ls → Taken s t (line ∷ ls)
  Taken-more s m t line ls (put is shape one stops lent whole) rest = record {
    picks = subst (Appends (Sink s).bytes (Sink t).bytes) (text_with line ls shape) (Appends-trans _ _ _ _ _ one.all rest.picks);
    awaits = AwaitsFlush-trans (Sink s) (Sink m) (Sink t) (AwaitsFlush-put (Sink s) (Sink m) tt (with_end (strip_carriage_return line)) one) rest.awaits;
    lent = rest.lent ∙ lent;
    whole = rest.whole ∙ whole;
  }
  Taken-more s m t line ls (passed is shape ok same whole) rest = record {
    picks = subst (λ (x : MutBor K). Appends (state x.now).bytes (Sink t).bytes (text_of_games (line ∷ ls))) same (subst (Appends (Sink m).bytes (Sink t).bytes) (text_without line ls shape) rest.picks);
    awaits = subst (λ (x : MutBor K). AwaitsFlush (state x.now) (Sink t)) same rest.awaits;
    lent = rest.lent ∙ ap (λ (x : MutBor K). x.ghost_name) same;
    whole = rest.whole ∙ whole;
  }
  Taken-more s m t line ls (unfinished bad ok same is) rest = cc

  taken : (s t : Picker K W) (ls : List (List ℕ)) → TakesAll takes s ls t → Taken s t ls
  taken s t [] h = subst (λ (x : Picker K W). Taken s x []) (sym h) (Taken-none s)
  taken s t (line ∷ ls) h = Taken-more s h.0 t line ls h.1 (taken h.0 t ls h.2)

  -- bytes after the last LF are noted
  notes : (s t : Picker K W) (piece : List ℕ) (answer : Result (Unit {0}) Fault) → PicksLine state s piece false answer t
      → (answer ≡ Ok tt) × (t.left_out ≡ true) × (t.sink ≡ s.sink)
  notes s t piece answer (put bad shape one stops lent is) = cc
  notes s t piece answer (passed bad shape ok same is) = cc
  notes s t piece answer (unfinished bad ok same is) = (ok, is, same)

  -- ---- the whole of a stream

  module _ (fills : ℕ) (old new : SourceState) (s t : Picker K W) where
    abbrev Ends : Fault → Type 0
    Ends e = PicksUntil fills (from_to old new) (from_to (Sink s) (Sink t)) e × (t.sink.ghost_name ≡ s.sink.ghost_name)

    -- by a fault of reading
    unread : (e : ReadFault) → ReadUntil takes fills old new s t e → Ends (fault_of_read e)
    unread read.Read h =
        let all = taken s t (ended_lines h.came) h.done in
        ((record { came = h.came; reads = h.reads; done = all.picks }, all.awaits), all.lent)
    unread read.Endless h =
        let all = taken s t (ended_lines h.came) h.done in
        ((record { came = h.came; reads = h.reads; done = all.picks }, all.awaits), all.lent)
    unread read.Memory h =
        ((h.0, ap (λ (x : Picker K W). Sink x) h.1), ap (λ (x : Picker K W). x.sink.ghost_name) h.1)

    -- at a line that stopped the picker
    record Stopped (ls : List (List ℕ)) (e : Fault) : Type 0 where
      is : e ≡ fault.Write
      picks : PicksButOne (from_to (Sink s) (Sink t)) ls
      fails : (Sink t).failed ≡ true
      flushes : (Sink t).flushes ≡ (Sink s).flushes
      lent : t.sink.ghost_name ≡ s.sink.ghost_name

    stopped : (ls before : List (List ℕ)) (line : List ℕ) (m : Picker K W) (e : Fault) → ls ≡ before ++ line ∷ [] → Taken s m before
        → PicksLine state m line true (Err e) t → Stopped ls e
    stopped ls before line m e are first (put is shape one stops lent whole) = record {
      is = stops;
      picks = record { before = before; line = line; are = are; done = (shape, one.front.0, Appends-trans _ _ _ _ _ first.picks one.front.1) };
      fails = one.failed;
      flushes = one.flushes ∙ not_flushed (Sink s) (Sink m) first.awaits;
      lent = lent ∙ first.lent;
    }
    stopped ls before line m e are first (passed is shape ok same whole) = let no : Err e ≡ Ok tt = ok in cc
    stopped ls before line m e are first (unfinished is ok same whole) = let no : Err e ≡ Ok tt = ok in cc

    module _ (whole : s.left_out ≡ false) where
      -- all bytes came, the games that they hold were put and await a flush, and this is whether
      -- bytes were left behind the last LF
      pub record PutsAll (answer : Result (Unit {0}) Fault) : Type 0 where
        pub ok : answer ≡ Ok tt
        pub all : AllCame fills (from_to old new) (λ bytes. Puts (from_to (Sink s) (Sink t)) (games_text bytes) × (t.left_out ≡ is_torn bytes))
        pub awaits : AwaitsFlush (Sink s) (Sink t)
        pub lent : t.sink.ghost_name ≡ s.sink.ghost_name

      pub puts_all : (answer : Result (Unit {0}) Fault) → TakesStream (PicksLine state) fills old new s answer t → PutsAll answer
      puts_all answer h =
          let m = h.taken.middle in let all = taken s m (ended_lines h.came) h.taken.lines in
          let end = noted (PicksLine state) (λ (x : Picker K W). x.left_out) (λ (x : Picker K W). x.sink) notes m t (last_piece h.came) answer (all.whole ∙ whole) h.taken.torn in record {
            ok = end.ok;
            all = record {
              came = h.came;
              reads = h.reads;
              done = (subst (λ (x : MutBor K). Puts (from_to (Sink s) (state x.now)) (games_text h.came)) (sym end.same) all.picks, end.is);
            };
            awaits = subst (λ (x : MutBor K). AwaitsFlush (Sink s) (state x.now)) (sym end.same) all.awaits;
            lent = ap (λ (x : MutBor K). x.ghost_name) end.same ∙ all.lent;
          }

      pub until : (e : Fault) → TakesUntil (λ read gives. gives ≡ fault_of_read read) (PicksLine state) fills old new s t e → Ends e
      until e (inl (inl k)) = subst Ends (sym k.1) (unread k.0 k.2)
      until e (inl (inr k)) =
          let h = k.done in let last = stopped (ended_lines k.came) h.0 h.1 h.2 e h.3 (taken s h.2 h.0 h.4) h.5 in
          subst Ends (sym last.is) ((inl (record { came = k.came; reads = k.reads; done = last.picks }), (last.fails, last.flushes)), last.lent)
      until e (inr k) = let no : Err e ≡ Ok tt = (puts_all (Err e) k).ok in cc

      -- and then a flush
      module _ (sink' : SinkState) (h : PutsAll (Ok tt)) where
        pub picked : (u : Unit {0}) → Flush {E = Failed} (Sink t) sink' (Ok u) → PicksAll fills (from_to old new) (from_to (Sink s) sink') t.left_out
        picked u flush = (
          record { came = h.all.came; reads = h.all.reads; done = (Appends-kept _ _ _ _ h.all.done.0 flush.bytes, h.all.done.1) },
          ((flush.failed, flush.flushed), flush.flushes ∙ ap next_count (not_flushed (Sink s) (Sink t) h.awaits)),
        )

        pub unflushed : (e : Failed) → Flush {E = Failed} (Sink t) sink' (Err e) → PicksUntil fills (from_to old new) (from_to (Sink s) sink') fault.Write
        unflushed e flush = (
          inr (record { came = h.all.came; reads = h.all.reads; done = Appends-kept _ _ _ _ h.all.done.0 flush.bytes }),
          (flush.failed, flush.flushes ∙ not_flushed (Sink s) (Sink t) h.awaits),
        )
