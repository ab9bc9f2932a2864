-- The id that a reply names.
use Rattle.std.proofs.Common.{◌≡◌, ℕ, ◌<◌, ◌≤◌, List, [], length, Ok, Err, sym, ap, subst, arith, inl, inr}
use Rattle.std.specs.Prelude.{slice_index_or}
use Rattle.std.proofs.lemmas.Bool.{cases_lt}
use Rattle.pb_games.specs.declared.refusal.Refusal.{Refusal}
use Rattle.pb_games.specs.declared.refusal.Refusal.TheVariants as refusal
use Rattle.pb_board.specs.Fields.{field}
use Rattle.pb_games.specs.Cuts.{fields_of}
use Rattle.pb_games.specs.Refusing.{Refuses}
use Rattle.pb_games.specs.Submissions.{Submits, Submission}
use Rattle.pb_games.proofs.Dues.{none_before, order}
use Rattle.pb_games.proofs.Texts.{fields_back}
use Rattle.pb_accepted.specs.Accepting.{Answer, named}
use Rattle.pb_accepted.proofs.Allowing.{Allowed}

abbrev IsNamedShort : List ℕ → Answer → Type 0
IsNamedShort line r = length (named line r) ≤ 64

named_field : (line : List ℕ) (r : Answer) → length (field (fields_of line) 0) ≤ 64 → IsNamedShort line r
named_field line (Ok n) short = short
named_field line (Err refusal.Long) short = omega arith
named_field line (Err refusal.Shape) short = omega arith
named_field line (Err refusal.Id) short = omega arith
named_field line (Err e) short = short

named_lawful : (line : List ℕ) (s : Submission) (r : Answer) → Submits line s → IsNamedShort line r
named_lawful line s r h =
    let is : field (fields_of line) 0 ≡ s.0 = ap (λ (cells : List (List ℕ)). slice_index_or cells 0 []) (fields_back line s h) in
    named_field line r (omega (arith, ap length is, h.id.few))

-- a line that is refused after its id was judged has a short id
judged_id : (line : List ℕ) (e : Refusal) → 3 < order e → Refuses line e → length (field (fields_of line) 0) ≤ 64
judged_id line e after refuses =
    elim (cases_lt 64 (length (field (fields_of line) 0))) [
      | inl long ↦ absurd (none_before line e refuses refusal.Id after (λ id. omega (arith, id.few)))
      | inr short ↦ short
    ]

named_refused : (line : List ℕ) (e : Refusal) → Refuses line e → IsNamedShort line (Err e)
named_refused line refusal.Long h = omega arith
named_refused line refusal.Shape h = omega arith
named_refused line refusal.Id h = omega arith
named_refused line e h = judged_id line e (omega arith) h

pub named_short : (cap : ℕ) (A : List Submission) (line : List ℕ) (r : Answer) → Allowed cap A line r → length (named line r) ≤ 64
named_short cap A line r (inl (inl lawful)) = named_lawful line lawful.0 r lawful.1
named_short cap A line r (inl (inr h)) = subst (λ q. IsNamedShort line q) (sym h.1) (named_refused line h.0 h.2)
named_short cap A line r (inr (_, inl lawful)) = named_lawful line lawful.0 r lawful.1
named_short cap A line r (inr (_, inr h)) = absurd (cc (h.1))
