-- Trees of moves, which are put line by line.
use Rattle.std.proofs.Common.{◌≡◌, ◌∙◌, Bool, true, false, ℕ, zero, suc, ◌+◌, ◌-◌, ◌<◌, ◌≤◌, All, List, [], ◌∷◌, ◌++◌, Option, None, Some, Result, Ok, Err, codes, ap, append-nil, append_assoc, arith, drop, get_or, inl, inr, length, refl, subst, sym}
use Rattle.std.specs.Io.KnownBytes.{Appends}
use Rattle.std.specs.List.{repeat}
use Rattle.std.specs.Option.{IsSome, SomeIff}
use Rattle.std.specs.Prelude.{MatchResult, nat_le}
use Rattle.std.specs.Result.{IsErrAnd}
use Rattle.std.proofs.KnownBytes.{Appends-kept, Appends-nil, Appends-trans}
use Rattle.std.proofs.Math.ListN.{drop_of_length-le}
use Rattle.std.proofs.lemmas.List.{drop_more}
use Rattle.std.proofs.lemmas.List.Elements.{All-cons, All-filter, All-head, All-nil, All-tail}
use Rattle.pb_board.specs.LineEnd.{with_end}
use Rattle.pb_board.specs.Position.{IsSetup, Position}
use Rattle.pb_io.specs.Count.{next_count}
use Rattle.pb_io.specs.Sink.{Flush, Put, SinkState}
use Rattle.pb_io.specs.declared.fault.Fault.{Fault}
use Rattle.pb_io.specs.declared.fault.Fault.TheVariants.{Write}
use Rattle.pb_io.specs.declared.source.Failed.{Failed}
use Rattle.pb_io.proofs.PutLemmas.{front_all, front_more}
use Rattle.pb_moves.specs.Legal.{Legal}
use Rattle.pb_moves.specs.Moved.{Moved}
use Rattle.pb_moves.specs.Successor.{after}
use Rattle.pb_moves.proofs.Kept.{after_is_setup}
use Rattle.pb_poly.specs.declared.book.Entry.{Entry}
use Rattle.pb_poly.specs.Found.{Found}
use Rattle.pb_poly.proofs.Finding.{found_is_one}
use Rattle.pb_commands.specs.Tree.{Branches, FailsOrWants, PutsFrontOf, PutsTree, ShowsTree, Tree, branch_line, branch_text, heavy, sum_of_weights}

-- what is found is legal
abbrev AreLegal : Position → List (Moved × ℕ) → Type 0
AreLegal s pairs = All (λ (p : Moved × ℕ). Legal s p.0) pairs

found_legal : (words : List ℕ) (s : Position) (entries : List Entry) (pairs : List (Moved × ℕ)) → Found entries words s pairs → AreLegal s pairs
found_legal words s [] pairs h = subst (AreLegal s) (sym h) (All-nil (λ (p : Moved × ℕ). Legal s p.0))
found_legal words s (e ∷ entries) pairs (inl x) =
    subst (AreLegal s) (sym x.3) (All-cons (λ (p : Moved × ℕ). Legal s p.0) (x.0, e.weight) x.1 x.2.has_code.legal (found_legal words s entries x.1 x.4))
found_legal words s (e ∷ entries) pairs (inr x) = found_legal words s entries pairs x.1

heavy_legal : (words : List ℕ) (s : Position) (entries : List Entry) (least : ℕ) (all : List (Moved × ℕ)) → Found entries words s all → AreLegal s (heavy least all)
heavy_legal words s entries least all h = All-filter (λ (p : Moved × ℕ). nat_le least p.1) (λ (p : Moved × ℕ). Legal s p.0) all (found_legal words s entries all h)

-- at most one text is so
abbrev pub IsOne : (List ℕ → Type 0) → Type 0
IsOne is = (text other : List ℕ) → is text → is other → text ≡ other

branches_are_one : (line : Moved × ℕ → List ℕ) (below : Moved → List ℕ → Type 0) (pairs : List (Moved × ℕ)) → All (λ (p : Moved × ℕ). IsOne (below p.0)) pairs
    → IsOne (Branches line below pairs)
branches_are_one line below [] one text other h k = h ∙ sym k
branches_are_one line below (p ∷ pairs) one text other (under, rest, u, r, is) (under', rest', u', r', is') =
    is ∙ ap (λ x. line p ++ (x ++ rest)) (All-head (λ (q : Moved × ℕ). IsOne (below q.0)) p pairs one under under' u u')
    ∙ ap (λ x. line p ++ (under' ++ x)) (branches_are_one line below pairs (All-tail (λ (q : Moved × ℕ). IsOne (below q.0)) p pairs one) rest rest' r r') ∙ sym is'

-- a book has one tree of a position
pub tree_is_one : (words : List ℕ) (entries : List Entry) (least plies depth : ℕ) (s : Position) → IsSetup s → IsOne (Tree words entries least plies depth s)
tree_is_one words entries least zero depth s setup text other h k = h ∙ sym k
tree_is_one words entries least (suc plies) depth s setup text other (found, is, h) (others, is', k) =
    let below : Moved → List ℕ → Type 0 = λ m. Tree words entries least plies (depth + 1) (after s m) in
    let same : others ≡ found = found_is_one entries words s others found setup is' is in
    let legal = heavy_legal words s entries least found is in
    let kept = heavy least found in
    branches_are_one (branch_line depth (sum_of_weights found)) below kept
    (λ i d within. tree_is_one words entries least plies (depth + 1) (after s (get_or kept i d).0) (after_is_setup s (get_or kept i d).0 setup (legal i d within).moves)) text other h
    (subst (λ (ps : List (Moved × ℕ)). Branches (branch_line depth (sum_of_weights ps)) below (heavy least ps) other) same k)

-- the branches before one have been put, and nothing was handed on: what may follow them is what may
-- follow them in each text of all
pub record PutsBranches (line : Moved × ℕ → List ℕ) (below : Moved → List ℕ → Type 0) (pairs : List (Moved × ℕ)) (i : ℕ) (old now : SinkState) : Type 0 where
  pub done : List ℕ
  pub put : Appends old.bytes now.bytes done
  pub whole : (rest : List ℕ) → Branches line below (drop i pairs) rest → Branches line below pairs (done ++ rest)
  pub cut : (text : List ℕ) → Branches line below pairs text → (rest : List ℕ) × Branches line below (drop i pairs) rest × (done ++ rest ≡ text)
  pub works : now.failed ≡ old.failed
  pub flushes : now.flushes ≡ old.flushes

works_by : (was now : Bool) → now ≡ false → (was ≡ true → false ≡ true) → now ≡ was
works_by true now works never = absurd (cc (never refl))
works_by false now works never = works

-- a put that succeeds leaves a sink that works, as it was
still_works : (old new : SinkState) (v : Unit {0}) (bytes : List ℕ) → Put {E = Failed} old new (Ok v) bytes → new.failed ≡ old.failed
still_works old new v bytes put = works_by old.failed new.failed put.failed put.stays_failed

-- want of memory behind a sink that works
wants_behind : (old mid new : SinkState) (fault : Fault) → mid.failed ≡ old.failed → FailsOrWants mid new fault → FailsOrWants old new fault
wants_behind old mid new fault works (inl fails) = inl fails
wants_behind old mid new fault works (inr wants) = inr (wants.0, wants.1 ∙ works)

module _ (line : Moved × ℕ → List ℕ) (below : Moved → List ℕ → Type 0) (pairs : List (Moved × ℕ)) where
  pub none_put : (old : SinkState) → PutsBranches line below pairs 0 old old
  none_put old = record { done = []; put = Appends-nil _; whole = λ rest h. h; cut = λ text h. (text, h, refl); works = refl; flushes = refl }

  module _ (i : ℕ) (old mid : SinkState) (before : PutsBranches line below pairs i old mid) where
    -- a text of all, cut behind the line of one move and the text below it
    cut_at : (d : Moved × ℕ) → i < length pairs → (text : List ℕ) → Branches line below pairs text
        → (under rest : List ℕ) × below (get_or pairs i d).0 under × Branches line below (drop (i + 1) pairs) rest
        × (before.done ++ (line (get_or pairs i d) ++ (under ++ rest)) ≡ text)
    cut_at d within text h =
        let x = before.cut text h in
        let y = subst (λ (ps : List (Moved × ℕ)). Branches line below ps x.0) (drop_more pairs i d within) x.1 in
        (y.0, y.1, y.2, y.3, ap (λ xs. before.done ++ xs) (sym y.4) ∙ x.2)

    -- one line, and what is below it
    pub branch_more : (line_put new : SinkState) (d : Moved × ℕ) (v w : Unit {0}) → i < length pairs → IsOne (below (get_or pairs i d).0)
        → Put {E = Failed} mid line_put (Ok v) (line (get_or pairs i d)) → PutsTree (below (get_or pairs i d).0) line_put new (Ok w)
        → PutsBranches line below pairs (i + 1) old new
    branch_more line_put new d v w within one put tree =
        let here = line (get_or pairs i d) in
        let under = tree.all.0 in
        let done = before.done ++ (here ++ under) in
        let joined : (rest : List ℕ) → done ++ rest ≡ before.done ++ (here ++ (under ++ rest))
        = λ rest. append_assoc before.done (here ++ under) rest ∙ ap (λ xs. before.done ++ xs) (append_assoc here under rest) in
        record {
          done = done;
          put = Appends-trans _ _ _ before.done (here ++ under) before.put (Appends-trans _ _ _ here under put.all tree.all.2);
          whole = λ rest h. subst (Branches line below pairs) (sym (joined rest))
              (before.whole (here ++ (under ++ rest)) (subst (λ (ps : List (Moved × ℕ)). Branches line below ps (here ++ (under ++ rest))) (sym (drop_more pairs i d within)) (under, rest, tree.all.1, h, refl)));
          cut = λ text h. let x = cut_at d within text h in
              (x.1, x.3, joined x.1 ∙ ap (λ xs. before.done ++ (here ++ (xs ++ x.1))) (one under x.0 tree.all.1 x.2) ∙ x.4);
          works = tree.works ∙ still_works _ _ _ _ put ∙ before.works;
          flushes = tree.flushes ∙ put.flushes ∙ before.flushes;
        }

    -- a line that couldn't be put
    pub line_cut : (new : SinkState) (d : Moved × ℕ) (e : Failed) → i < length pairs → Put {E = Failed} mid new (Err e) (line (get_or pairs i d))
        → PutsFrontOf (Branches line below pairs) old new
    line_cut new d e within put text h =
        let x = cut_at d within text h in
        front_more _ _ _ before.done _ (x.0 ++ x.1) _ before.put x.4 put.front.0 put.front.1

    -- what is below one, a front of which was put
    pub tree_cut : (line_put new : SinkState) (d : Moved × ℕ) (v : Unit {0}) (fault : Fault) → i < length pairs
        → Put {E = Failed} mid line_put (Ok v) (line (get_or pairs i d)) → PutsTree (below (get_or pairs i d).0) line_put new (Err fault)
        → PutsFrontOf (Branches line below pairs) old new
    tree_cut line_put new d v fault within put tree text h =
        let here = line (get_or pairs i d) in
        let x = cut_at d within text h in
        let front = tree.front x.0 x.2 in
        front_more _ _ _ (before.done ++ here) x.0 x.1 _ (Appends-trans _ _ _ before.done here before.put put.all) (append_assoc before.done here (x.0 ++ x.1) ∙ x.4) front.0 front.1

    -- all of them
    pub all_branches : length pairs ≤ i → (text : List ℕ) × Branches line below pairs text × Appends old.bytes mid.bytes text
    all_branches past = (
      before.done ++ [],
      before.whole [] (subst (λ (ps : List (Moved × ℕ)). Branches line below ps []) (sym (drop_of_length-le pairs past)) refl),
      subst (Appends old.bytes mid.bytes) (sym (append-nil before.done)) before.put,
    )

-- the line of a move behind an indent that was made
pub indented : (old new : SinkState) (answer : Result (Unit {0}) Failed) (depth sum : ℕ) (indent : List ℕ) (x : Moved × ℕ) → indent ≡ repeat depth (codes "  ")
    → Put old new answer (with_end (indent ++ branch_text sum x)) → Put old new answer (branch_line depth sum x)
indented old new answer depth sum indent x is put = subst (λ bytes. Put old new answer (with_end (bytes ++ branch_text sum x))) is put

-- the book has moves for the position of which these are shown, and that is the sum of all weights
pub record HasMoves (words : List ℕ) (entries : List Entry) (least : ℕ) (s : Position) (sum : ℕ) (pairs : List (Moved × ℕ)) : Type 0 where
  pub all : List (Moved × ℕ)
  pub found : Found entries words s all
  pub sum_is : sum ≡ sum_of_weights all
  pub kept : pairs ≡ heavy least all

-- the moves of a position below which there are some plies
module _ (words : List ℕ) (entries : List Entry) (least plies depth : ℕ) (s : Position) (setup : IsSetup s) (some : 0 < plies) (sum : ℕ) (pairs : List (Moved × ℕ))
    (has : HasMoves words entries least s sum pairs) where
  abbrev line : Moved × ℕ → List ℕ
  line x = branch_line depth sum x

  abbrev below : Moved → List ℕ → Type 0
  below m = Tree words entries least (plies - 1) (depth + 1) (after s m)

  abbrev tree : List ℕ → Type 0
  tree = Tree words entries least plies depth s

  one_deeper : plies ≡ suc (plies - 1)
  one_deeper = omega (arith, some)

  tree_of : (text : List ℕ) → Branches line below pairs text → tree text
  tree_of text h = subst (λ n. Tree words entries least n depth s text) (sym one_deeper)
      (has.all, has.found, subst (λ n. Branches (branch_line depth n) below (heavy least has.all) text) has.sum_is (subst (λ (ps : List (Moved × ℕ)). Branches line below ps text) has.kept h))

  branches_of : (text : List ℕ) → tree text → Branches line below pairs text
  branches_of text h =
      let x = subst (λ n. Tree words entries least n depth s text) one_deeper h in
      let here = subst (λ (ps : List (Moved × ℕ)). Branches (branch_line depth (sum_of_weights ps)) below (heavy least ps) text) (found_is_one entries words s x.0 has.all setup x.1 has.found) x.2 in
      subst (λ (ps : List (Moved × ℕ)). Branches line below ps text) (sym has.kept) (subst (λ n. Branches (branch_line depth n) below (heavy least has.all) text) (sym has.sum_is) here)

  module _ (i : ℕ) (old mid : SinkState) (before : PutsBranches line below pairs i old mid) where
    -- one of them
    module _ (x : Moved × ℕ) (at : x ≡ get_or pairs i x) (within : i < length pairs) where
      legal_here : Legal s (get_or pairs i x).0
      legal_here = subst (AreLegal s) (sym has.kept) (heavy_legal words s entries least has.all has.found) i x within

      legal_at : Legal s x.0
      legal_at = subst (λ (p : Moved × ℕ). Legal s p.0) (sym at) legal_here

      pub is_played : (o : Option Position) → SomeIff o (Legal s x.0) (after s x.0) → IsSome o
      is_played None h = absurd (h legal_at)
      is_played (Some t) h = refl

      pub line_fails : (new : SinkState) (e : Failed) → Put mid new (Err e) (line x) → PutsTree tree old new (Err Write)
      line_fails new e put =
          let here = subst (λ (p : Moved × ℕ). Put {E = Failed} mid new (Err e) (line p)) at put in
          record {
            all = tt;
            front = λ text h. line_cut line below pairs i old mid before new x e within here text (branches_of text h);
            works = tt;
            fault = inl (refl, put.failed);
            flushes = put.flushes ∙ before.flushes;
          }

      -- the tree of the position after it
      module _ (line_put : SinkState) (v : Unit {0}) (put : Put {E = Failed} mid line_put (Ok v) (line x)) (o : Option Position) (next : Position)
          (played : SomeIff o (Legal s x.0) (after s x.0)) (is_next : o ≡ Some next) where
        here : Put {E = Failed} mid line_put (Ok v) (line (get_or pairs i x))
        here = subst (λ (p : Moved × ℕ). Put {E = Failed} mid line_put (Ok v) (line p)) at put

        next_is : next ≡ after s (get_or pairs i x).0
        next_is = go o played is_next ∙ ap (λ (p : Moved × ℕ). after s p.0) at
          where
            go : (o : Option Position) → SomeIff o (Legal s x.0) (after s x.0) → o ≡ Some next → next ≡ after s x.0
            go None h is = absurd (cc is)
            go (Some t) h is = let same : next ≡ t = cc is in same ∙ h.1

        below_is : (new : SinkState) (result : Result (Unit {0}) Fault) → PutsTree (Tree words entries least (plies - 1) (depth + 1) next) line_put new result
            → PutsTree (below (get_or pairs i x).0) line_put new result
        below_is new result = subst (λ (t : Position). PutsTree (Tree words entries least (plies - 1) (depth + 1) t) line_put new result) next_is

        pub tree_fails : (new : SinkState) (fault : Fault) → PutsTree (Tree words entries least (plies - 1) (depth + 1) next) line_put new (Err fault) → PutsTree tree old new (Err fault)
        tree_fails new fault h =
            let under = below_is new (Err fault) h in
            record {
              all = tt;
              front = λ text is. tree_cut line below pairs i old mid before line_put new x v fault within here under text (branches_of text is);
              works = tt;
              fault = wants_behind old line_put new fault (still_works _ _ _ _ put ∙ before.works) under.fault;
              flushes = under.flushes ∙ put.flushes ∙ before.flushes;
            }

        pub tree_more : (new : SinkState) (w : Unit {0}) → PutsTree (Tree words entries least (plies - 1) (depth + 1) next) line_put new (Ok w)
            → PutsBranches line below pairs (i + 1) old new
        tree_more new w h =
            let m = (get_or pairs i x).0 in
            let one = tree_is_one words entries least (plies - 1) (depth + 1) (after s m) (after_is_setup s m setup legal_here.moves) in
            branch_more line below pairs i old mid before line_put new x v w within one here (below_is new (Ok w) h)

    -- all of them
    pub tree_put : length pairs ≤ i → PutsTree tree old mid (Ok tt)
    tree_put past =
        let all = all_branches line below pairs i old mid before past in
        record { all = (all.0, tree_of all.0 all.1, all.2); front = tt; works = before.works; fault = tt; flushes = before.flushes }

-- the whole tree, from what was put and whether it was handed on
module _ (is : List ℕ → Type 0) (old : SinkState) where
  pub tree_unput : (new : SinkState) (fault : Fault) → PutsTree is old new (Err fault) → ShowsTree is old new (Err fault)
  tree_unput new fault tree = record { all = tt; handed_on = tt; front = tree.front; fault = tree.fault; flushes = tree.flushes }

  pub tree_flushed : (mid new : SinkState) (v : Unit {0}) → IsOne is → PutsTree is old mid (Ok v) → (flushed : Result (Unit {0}) Failed) → Flush mid new flushed
      → (answer : Result (Unit {0}) Fault) → MatchResult flushed (λ x. answer ≡ Ok x) (λ _. IsErrAnd answer (λ fault. fault ≡ Write)) → ShowsTree is old new answer
  tree_flushed mid new v one tree (Ok w) flush (Ok x) same = record {
    all = (tree.all.0, tree.all.1, Appends-kept _ _ _ _ tree.all.2 flush.bytes);
    handed_on = ((flush.failed, flush.flushed), flush.flushes ∙ ap next_count tree.flushes);
    front = tt;
    fault = tt;
    flushes = tt;
  }
  tree_flushed mid new v one tree (Ok w) flush (Err fault) same = absurd (cc same)
  tree_flushed mid new v one tree (Err e) flush (Ok x) same = absurd same
  tree_flushed mid new v one tree (Err e) flush (Err fault) same = record {
    all = tt;
    handed_on = tt;
    front = λ text h. front_all _ _ _ text (subst (Appends old.bytes mid.bytes) (one tree.all.0 text tree.all.1 h) tree.all.2) flush.bytes;
    fault = inl (same, flush.failed);
    flushes = flush.flushes ∙ tree.flushes;
  }
