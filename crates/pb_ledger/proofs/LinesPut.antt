-- Lines that are put with an LF after each, and lines as they are cut: none has an LF within.
use Rattle.std.proofs.Common.{◌≡◌, ◌∙◌, ℕ, ◌-◌, false, List, [], ◌∷◌, ◌++◌, length, take, refl, sym, ap, subst, inl, inr, append-nil, append_assoc}
use Rattle.std.specs.List.{All, flat_map, onto_first}
use Rattle.std.specs.Str.Lines.{strip_carriage_return}
use Rattle.std.proofs.Math.Seq.{take-append_seam}
use Rattle.std.proofs.lemmas.Bool.{cases_Bool}
use Rattle.std.proofs.lemmas.List.Elements.{All-cons, All-head, All-nil, All-same, All-tail, All-take}
use Rattle.std.proofs.lemmas.List.Splits.{slice_split-cons_no, slice_split-cons_yes}
use Rattle.pb_board.proofs.LineEnds.{cases_return}
use Rattle.pb_board.specs.LineEnd.{with_end}
use Rattle.pb_io.specs.Lines.{ended_lines, last_piece, line_pieces}
use Rattle.pb_io.proofs.LineLemmas.{IsQuiet, is_line_feed, ended_lines-ended, last_piece-ended}

abbrev NotFeed : ℕ → Type 0
NotFeed b = is_line_feed b ≡ false

-- ---- lines as they are cut

onto_quiet : (b : ℕ) (ps : List (List ℕ)) → NotFeed b → All IsQuiet ps → All IsQuiet (onto_first b ps)
onto_quiet b [] other quiet = All-cons IsQuiet (b ∷ []) [] (All-cons NotFeed b [] other (All-nil NotFeed)) (All-nil IsQuiet)
onto_quiet b (p ∷ ps) other quiet = All-cons IsQuiet (b ∷ p) ps (All-cons NotFeed b p other (All-head IsQuiet p ps quiet)) (All-tail IsQuiet p ps quiet)

quiet_pieces : (bytes : List ℕ) → All IsQuiet (line_pieces bytes)
quiet_pieces [] = All-cons IsQuiet [] [] (All-nil NotFeed) (All-nil IsQuiet)
quiet_pieces (b ∷ bs) = elim (cases_Bool (is_line_feed b)) [
  | inl feed ↦ subst (All IsQuiet) (sym (slice_split-cons_yes is_line_feed b bs feed)) (All-cons IsQuiet [] (line_pieces bs) (All-nil NotFeed) (quiet_pieces bs))
  | inr other ↦ subst (All IsQuiet) (sym (slice_split-cons_no is_line_feed b bs other)) (onto_quiet b (line_pieces bs) other (quiet_pieces bs))
]

pub quiet_ended : (bytes : List ℕ) → All IsQuiet (ended_lines bytes)
quiet_ended bytes = All-take IsQuiet (length (line_pieces bytes) - 1) (line_pieces bytes) (quiet_pieces bytes)

quiet_front : (front : List ℕ) (b : ℕ) → IsQuiet (front ++ b ∷ []) → IsQuiet front
quiet_front front b quiet = All-same NotFeed front (take (length front) (front ++ b ∷ [])) (sym (take-append_seam front (b ∷ []))) (All-take NotFeed (length front) (front ++ b ∷ []) quiet)

pub quiet_strip : (line : List ℕ) → IsQuiet line → IsQuiet (strip_carriage_return line)
quiet_strip line quiet = elim (cases_return line) [
  | inl same ↦ subst IsQuiet same quiet
  | inr more ↦ quiet_front (strip_carriage_return line) 13 (subst IsQuiet more quiet)
]

-- ---- lines that are put

-- lines with their LFs after an LF are the next ones, and no piece is left
pub lines_put : (front : List ℕ) (ls : List (List ℕ)) → last_piece front ≡ [] → All IsQuiet ls
    → (ended_lines (front ++ flat_map with_end ls) ≡ ended_lines front ++ ls) × (last_piece (front ++ flat_map with_end ls) ≡ [])
lines_put front [] ended quiet = (ap ended_lines (append-nil front) ∙ sym (append-nil (ended_lines front)), ap last_piece (append-nil front) ∙ ended)
lines_put front (line ∷ ls) ended quiet =
    let rest = flat_map with_end ls in
    let one = All-head IsQuiet line ls quiet in
    let next = lines_put (front ++ with_end line) ls (last_piece-ended front line one) (All-tail IsQuiet line ls quiet) in
    let along = sym (append_assoc front (with_end line) rest) in (
      ap ended_lines along ∙ next.0
          ∙ ap (λ ks. ks ++ ls) (ended_lines-ended front line one ∙ ap (λ p. ended_lines front ++ (p ++ line) ∷ []) ended) ∙ append_assoc (ended_lines front) (line ∷ []) ls,
      ap last_piece along ∙ next.1,
    )

-- of these alone
pub lines_alone : (ls : List (List ℕ)) → All IsQuiet ls → (ended_lines (flat_map with_end ls) ≡ ls) × (last_piece (flat_map with_end ls) ≡ [])
lines_alone ls quiet = lines_put [] ls refl quiet
