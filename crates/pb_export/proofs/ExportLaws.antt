-- Laws of the export of a list of games.
use Rattle.std.proofs.Common.{◌≡◌, ◌≢◌, ℕ, List, [], map, get_or, AllPairs, sym, ap, subst, ◌∙◌, arith}
use Rattle.std.proofs.lemmas.List.Elements.{Contains-get_or}
use Rattle.pb_board.specs.Text.{setup_text}
use Rattle.pb_board.specs.Position.{Position}
use Rattle.pb_epd.specs.ByteOrder.{IsBytesBelow}
use Rattle.pb_epd.proofs.Order.{below_itself, both_below}
use Rattle.pb_games.specs.Submissions.{Submission}
use Rattle.pb_poly.specs.declared.book.Entry.{Entry}
use Rattle.pb_accepted.specs.Accepting.{Answer, Run, NoRepeats, SameMembers}
use Rattle.pb_accepted.specs.Rules.{Basis}
use Rattle.pb_accepted.specs.Counting.{counted}
use Rattle.pb_export.specs.Exporting.{StandsBefore, Listed, IsListed, IsListing, ExportLines, text_of_lines, ExportText}
use Rattle.pb_accepted.proofs.BookLaws.{one_book, same_book}
use Rattle.pb_board.proofs.InOrder.{same_in_order}
use Rattle.pb_accepted.proofs.Steps.{once}

-- ---- one export

one_listing : (T : Basis) (S : List Submission) (book : List Entry) (xs ys : List Listed) → IsListing (IsListed T S book) xs → IsListing (IsListed T S book) ys → xs ≡ ys
one_listing T S book xs ys h k =
    same_in_order (λ x y. IsBytesBelow x.fields y.fields) (λ x. below_itself x.fields) (λ x y. both_below x.fields y.fields) xs ys h.ordered k.ordered
    (λ x here. (k.members x).1 ((h.members x).0 here))
    (λ x here. (h.members x).1 ((k.members x).0 here))

one_list_of_lines : (T : Basis) (S : List Submission) (a b : List (List ℕ)) → ExportLines T S a → ExportLines T S b → a ≡ b
one_list_of_lines T S a b h k =
    let books = one_book (counted T S) T.rules.least h.book k.book h.is_book k.is_book in
    let moved : IsListing (IsListed T S k.book) h.listed = subst (λ E. IsListing (IsListed T S E) h.listed) books h.is_listing in
    h.are ∙ ap (λ xs. map (λ (x : Listed). x.line) xs) (one_listing T S k.book h.listed k.listed moved k.is_listing) ∙ sym k.are

pub one_export : (T : Basis) (S : List Submission) (a b : List ℕ) → ExportText T S a → ExportText T S b → a ≡ b
one_export T S a b h k = h.2 ∙ ap text_of_lines (one_list_of_lines T S h.0 k.0 h.1 k.1) ∙ sym k.2

-- no setup is listed twice
pub listed_once : (T : Basis) (S : List Submission) (book : List Entry) (xs : List Listed) → IsListing (IsListed T S book) xs → AllPairs (λ x y. x.setup ≢ y.setup) xs
listed_once T S book xs h i j d lt within e =
    let x = get_or xs i d in
    let y = get_or xs j d in
    let first = (h.members x).0 (Contains-get_or xs i d (omega arith)) in
    let second = (h.members y).0 (Contains-get_or xs j d within) in
    let same : x.fields ≡ y.fields = first.1 ∙ ap setup_text e ∙ sym second.1 in
    below_itself y.fields (subst (λ w. IsBytesBelow w y.fields) same (h.ordered i j d lt within))

-- ---- lists with the same members

same_stands : (S U : List Submission) (s : Position) → SameMembers S U → StandsBefore S s → StandsBefore U s
same_stands S U s same h = (h.0, h.1, (same h.0).0 h.2, h.3)

same_listed : (T : Basis) (S U : List Submission) (book : List Entry) (x : Listed) → SameMembers S U → IsListed T S book x → IsListed T U book x
same_listed T S U book x same h = (same_stands S U x.setup same h.0, h.1, h.2)

same_listing : (T : Basis) (S U : List Submission) (book : List Entry) (listed : List Listed) → SameMembers S U → IsListing (IsListed T S book) listed → IsListing (IsListed T U book) listed
same_listing T S U book listed same h = record {
  ordered = h.ordered;
  members = λ x. (
    (λ here. same_listed T S U book x same ((h.members x).0 here)),
    (λ is. (h.members x).1 (same_listed T U S book x (λ s. ((same s).1, (same s).0)) is)),
  );
}

pub same_export : (T : Basis) (S U : List Submission) → NoRepeats S → NoRepeats U → SameMembers S U → (a : List ℕ) → ExportText T S a → ExportText T U a
same_export T S U once each same a h =
    let lines : ExportLines T U h.0 = record {
      book = h.1.book;
      is_book = same_book T S U once each same T.rules.least h.1.book h.1.is_book;
      listed = h.1.listed;
      is_listing = same_listing T S U h.1.book h.1.listed same h.1.is_listing;
      are = h.1.are;
    } in
    (h.0, lines, h.2)

-- ---- whatever the order of arrival

pub same_exports : (T : Basis) (m n : ℕ) (K L : List (List ℕ)) (Q R : List Answer) (A B : List Submission) → Run m [] K Q A → Run n [] L R B → SameMembers A B
    → (a b : List ℕ) → ExportText T A a → ExportText T B b → a ≡ b
same_exports T m n K L Q R A B first second same a b export twin = one_export T B a b (same_export T A B (once m K Q A first) (once n L R B second) same a export) twin
