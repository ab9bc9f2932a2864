-- The export of games: what was put at its end, and what at a fault.
use Rattle.std.proofs.Common.{◌≡◌, ◌≢◌, ℕ, suc, ◌-◌, Err, Ok, List, [], ◌∷◌, ◌++◌, append-nil, length, map, get_or, drop, refl, sym, ap, subst, ◌∙◌, inl, inr, arith}
use Rattle.std.specs.Prelude.{◌↔◌, All, AllPairs, Contains}
use Rattle.std.specs.Io.KnownBytes.{Appends}
use Rattle.std.proofs.KnownBytes.{Appends-kept}
use Rattle.std.proofs.lemmas.List.{length-drop, length-map, length-take}
use Rattle.std.proofs.lemmas.List.Elements.{All-contains, Contains-append_cases, Contains-append_left, Contains-append_right, Contains-get_or}
use Rattle.pb_board.specs.LineEnd.{with_end}
use Rattle.pb_board.specs.Position.{IsSetup, Position}
use Rattle.pb_board.specs.Text.{setup_text}
use Rattle.pb_epd.specs.ByteOrder.{IsBytesBelow}
use Rattle.pb_epd.specs.Epd.{epd_form}
use Rattle.pb_epd.proofs.Lists.{contains_cases, contains_head, contains_map, contains_none, contains_there, contains_unmap, pairs_cons, pairs_head, pairs_none, pairs_tail}
use Rattle.pb_games.specs.declared.game.Game.{Game}
use Rattle.pb_games.specs.Submissions.{Submission, plies}
use Rattle.pb_moves.specs.Moved.{Moved}
use Rattle.pb_moves.specs.Played.{Ply}
use Rattle.pb_io.specs.Count.{next_count}
use Rattle.pb_io.specs.Sink.{Flush, SinkState}
use Rattle.pb_io.proofs.FlushLemmas.{not_flushed}
use Rattle.pb_poly.specs.declared.book.Entry.{Entry}
use Rattle.pb_io.specs.declared.source.Failed.{Failed}
use Rattle.pb_poly.specs.Found.{Found}
use Rattle.pb_poly.proofs.Finding.{found_is_one}
use Rattle.pb_accepted.specs.Rules.{Basis}
use Rattle.pb_accepted.specs.Ledger.{LedgerState}
use Rattle.pb_export.specs.Exporting.{ExportLines, ExportText, Exports, ExportsUntil, IsListed, Listed, StandsBefore, text_of_lines, with_book_moves}
use Rattle.pb_export.specs.Setups.{PutsFront, PutsListing, book_line, lines_of, text_of, HasMoves, InFieldOrder, IsListedAs, IsListingOfLedger, ListsSetups, all_setups, moves_of, setups_before}
use Rattle.pb_export.specs.declared.exporting.ExportFault.{ExportFault}
use Rattle.pb_export.specs.declared.exporting.ExportFault.TheVariants as fault
use Rattle.pb_export.specs.declared.setups.Listing.{Listing}
use Rattle.pb_export.specs.declared.setups.ListedSetup.{ListedSetup}
use Rattle.pb_export.proofs.ExportLaws.{one_export}
use Rattle.pb_export.proofs.ListedSetups.{setup_of_text}
use Rattle.pb_export.proofs.MoveLines.{line_form}

-- ---- the setups of the games

before_ply : (g : Game) (s : Position) → Contains (setups_before g) s → (m : Moved) × Contains (plies g) (s, m)
before_ply g s h =
    let y = contains_unmap (λ (p : Ply). p.0) (plies g) s h in
    (y.0.1, subst (λ p. Contains (plies g) (p, y.0.1)) y.2 y.1)

pub stands_before : (S : List Submission) (s : Position) → Contains (all_setups S) s → StandsBefore S s
stands_before [] s h = absurd (contains_none s h)
stands_before (x ∷ S) s h = elim (Contains-append_cases (setups_before x.1) (all_setups S) s h) [
  | inl first ↦ let ply = before_ply x.1 s first in (x, ply.0, contains_head x S, ply.1)
  | inr later ↦ let r = stands_before S s later in (r.0, r.1, contains_there x S r.0 r.2, r.3)
]

pub setup_is_there : (S : List Submission) (s : Position) → StandsBefore S s → Contains (all_setups S) s
setup_is_there [] s h = absurd (contains_none h.0 h.2)
setup_is_there (x ∷ S) s h = elim (contains_cases x S h.0 h.2) [
  | inl e ↦ Contains-append_left (setups_before x.1) (all_setups S) s (contains_map (λ (p : Ply). p.0) (plies x.1) (s, h.1) (subst (λ (y : Submission). Contains (plies y.1) (s, h.1)) (sym e) h.3))
  | inr later ↦ Contains-append_right (setups_before x.1) (all_setups S) s (setup_is_there S s (h.0, h.1, later, h.3))
]

-- ---- the listing of the games

has_some : (moves : List (Moved × ℕ)) (x : ListedSetup) → HasMoves moves x → moves_of moves x ≢ []
has_some moves x has e = omega (arith, has.0, has.1, ap length e, length-take (x.end - x.first) (drop x.first moves), length-drop x.first moves)

module _ (T : Basis) (S : List Submission) (book : List Entry) (moves : List (Moved × ℕ)) where
  -- the same setup, with what its line says
  record Says (x : ListedSetup) (y : Listed) : Type 0 where
    fields : x.fields ≡ y.fields
    line : with_end y.line ≡ book_line x.fields (moves_of moves x)
    is : IsListed T S book y

  says : (s : Position) (x : ListedSetup) → Contains (all_setups S) s → IsListedAs T.randoms book moves s x → (y : Listed) × Says x y
  says s x known h =
      let found = moves_of moves x in
      let line = epd_form (with_book_moves s found) in (
        record { setup = s; fields = setup_text s; moves = found; line = line },
        record {
          fields = h.fields;
          line = sym (ap (λ w. book_line w found) h.fields ∙ line_form s found);
          is = (stands_before S s known, refl, record { found = h.found; some = has_some moves x h.has; says = refl });
        },
      )

  -- one setup has one line
  one_listed : (y z : Listed) → IsSetup y.setup → IsSetup z.setup → y.fields ≡ z.fields → IsListed T S book y → IsListed T S book z → y ≡ z
  one_listed y z rules others e h k =
      let setup : y.setup ≡ z.setup = setup_of_text y.setup z.setup y.fields rules others h.1 (e ∙ k.1) in
      let found = found_is_one book T.randoms y.setup y.moves z.moves rules h.2.found (subst (λ p. Found book T.randoms p z.moves) (sym setup) k.2.found) in
      let line : y.line ≡ z.line = h.2.says ∙ (λ i. epd_form (with_book_moves (setup i) (found i))) ∙ sym k.2.says in
      λ i. record { setup = setup i; fields = e i; moves = found i; line = line i }

  record Told (xs : List ListedSetup) : Type 0 where
    listed : List Listed
    many : length listed ≡ length xs
    lines : text_of_lines (map (λ y. y.line) listed) ≡ lines_of moves xs
    back : (y : Listed) → Contains listed y → (x : ListedSetup) × Contains xs x × Says x y
    reach : (x : ListedSetup) → Contains xs x → (y : Listed) × Contains listed y × Says x y
    ordered : AllPairs (λ y z. IsBytesBelow y.fields z.fields) listed

  told : (xs : List ListedSetup) → ((x : ListedSetup) → Contains xs x → (y : Listed) × Says x y) → InFieldOrder xs → Told xs
  told [] f order = record {
    listed = [];
    many = refl;
    lines = refl;
    back = λ y c. absurd (contains_none y c);
    reach = λ x c. absurd (contains_none x c);
    ordered = pairs_none (λ (y z : Listed). IsBytesBelow y.fields z.fields);
  }
  told (x ∷ xs) f order =
      let y = f x (contains_head x xs) in
      let r = told xs (λ z c. f z (contains_there x xs z c)) (pairs_tail Below x xs order) in
      record {
        listed = y.0 ∷ r.listed;
        many = ap suc r.many;
        lines = λ i. y.1.line i ++ r.lines i;
        back = λ z c. elim (contains_cases y.0 r.listed z c) [
          | inl e ↦ (x, contains_head x xs, subst (Says x) e y.1)
          | inr later ↦ let b = r.back z later in (b.0, contains_there x xs b.0 b.1, b.2)
        ];
        reach = λ w c. elim (contains_cases x xs w c) [
          | inl e ↦ (y.0, contains_head y.0 r.listed, subst (λ v. Says v y.0) e y.1)
          | inr later ↦ let b = r.reach w later in (b.0, contains_there y.0 r.listed b.0 b.1, b.2)
        ];
        ordered = pairs_cons (λ (y z : Listed). IsBytesBelow y.fields z.fields) y.0 r.listed (λ k d lt. above (get_or r.listed k d) (r.back (get_or r.listed k d) (Contains-get_or r.listed k d lt))) r.ordered;
      }
    where
      Below : ListedSetup → ListedSetup → Type 0
      Below x y = IsBytesBelow x.fields y.fields

      above : (z : Listed) → ((w : ListedSetup) × Contains xs w × Says w z) → IsBytesBelow (f x (contains_head x xs)).0.fields z.fields
      above z b =
          let y = f x (contains_head x xs) in
          let below = All-contains (Below x) xs b.0 (pairs_head Below x xs order) b.1 in
          subst (λ t. IsBytesBelow y.0.fields t) b.2.fields (subst (λ t. IsBytesBelow t b.0.fields) y.1.fields below)

  module _ (xs : List ListedSetup) (h : ListsSetups T.randoms book (all_setups S) moves xs) (order : InFieldOrder xs) where
    all_told : Told xs
    all_told = told xs (λ x c. let w = h.sound x c in says w.0 x w.1 w.2) order

    members : (y : Listed) → Contains all_told.listed y ↔ IsListed T S book y
    members y = (
      λ c. (all_told.back y c).2.is,
      λ is.
          let known = setup_is_there S y.setup is.0 in
          let rules = All-contains IsSetup (all_setups S) y.setup h.setups known in
          elim (h.whole y.setup known) [
            | inl none ↦ absurd (is.2.some (found_is_one book T.randoms y.setup y.moves [] rules is.2.found none))
            | inr w ↦
                let z = all_told.reach w.0 w.1 in
                let others = All-contains IsSetup (all_setups S) z.0.setup h.setups (setup_is_there S z.0.setup z.2.is.0) in
                subst (Contains all_told.listed) (one_listed z.0 y others rules (sym z.2.fields ∙ w.2.fields ∙ sym is.1) z.2.is is) z.1
          ],
    )

module _ (l : LedgerState) (listing : Listing) (h : IsListingOfLedger l listing) where
  abbrev is_told : Told l.basis l.accepted h.book listing.moves.items listing.setups.items
  is_told = all_told l.basis l.accepted h.book listing.moves.items listing.setups.items h.lists h.ordered

  pub have_moves : All (HasMoves listing.moves.items) listing.setups.items
  have_moves i x lt = (h.lists.sound (get_or listing.setups.items i x) (Contains-get_or listing.setups.items i x lt)).2.has

  its_lines : ExportLines l.basis l.accepted (map (λ (y : Listed). y.line) is_told.listed)
  its_lines = record {
    book = h.book;
    is_book = h.is_book;
    listed = is_told.listed;
    is_listing = record { ordered = is_told.ordered; members = members l.basis l.accepted h.book listing.moves.items listing.setups.items h.lists h.ordered };
    are = refl;
  }

  -- ---- what an export put

  pub exported : (sink now new : SinkState) (count : ℕ) → PutsListing listing sink now count → Flush {E = Failed} now new (Ok tt) → Exports l sink new count
  exported sink now new count puts flush = record {
    lines = map (λ (y : Listed). y.line) is_told.listed;
    are = its_lines;
    counted = puts.counted ∙ sym is_told.many ∙ sym (length-map is_told.listed (λ (y : Listed). y.line));
    put = subst (Appends sink.bytes new.bytes) (sym is_told.lines) (Appends-kept sink.bytes now.bytes new.bytes (text_of listing) puts.put flush.bytes);
    handed_on = ((flush.failed, flush.flushed), flush.flushes ∙ ap next_count (not_flushed sink now puts.awaits));
  }

  -- what was put is a front of the text
  whole : (text : List ℕ) → ExportText l.basis l.accepted text → text ≡ text_of listing
  whole text spelt = one_export l.basis l.accepted text (text_of listing) spelt (map (λ (y : Listed). y.line) is_told.listed, its_lines, sym is_told.lines)

  -- a fault at a line
  pub stopped_at : (sink new : SinkState) (x : ExportFault) → PutsFront listing sink new x → ExportsUntil l sink new x
  stopped_at sink new x puts = record {
    some = puts.some;
    put = puts.put;
    front = λ text spelt. (puts.rest, whole text spelt ∙ puts.text);
    cause = puts.cause;
  }

  -- a fault of the flush
  pub unflushed : (sink now new : SinkState) (count : ℕ) (e : Failed) → PutsListing listing sink now count → Flush {E = Failed} now new (Err e) → ExportsUntil l sink new fault.Write
  unflushed sink now new count e puts flush = record {
    some = text_of listing;
    put = Appends-kept sink.bytes now.bytes new.bytes (text_of listing) puts.put flush.bytes;
    front = λ text spelt. ([], whole text spelt ∙ sym (append-nil (text_of listing)));
    cause = (flush.failed, flush.flushed, flush.flushes ∙ not_flushed sink now puts.awaits);
  }
