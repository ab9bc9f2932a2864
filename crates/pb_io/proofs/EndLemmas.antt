-- Lemmas on what is said of the lines of a stream, by how far it was read.
use Rattle.std.proofs.Common.{◌≡◌, ◌∙◌, ℕ, ◌*◌, ◌≤◌, List, [], ◌++◌, length, length-append, Option, Some, None, IfSome, ap, sym, subst, inl, inr, arith}
use Rattle.std.proofs.lemmas.List.{append-nil}
use Rattle.std.specs.Io.KnownBytes.{Consumes, IsAtEnd}
use Rattle.pb_io.specs.Source.{SourceState}
use Rattle.pb_io.specs.Lines.{lines}
use Rattle.pb_io.specs.LineTask.{AtEnd, AtEndedLine, AtFault, AtLine, AtNoEnd, IfKnown, chunk_len}
use Rattle.pb_io.proofs.LineLemmas.{length-ended_lines, length-lines}

-- What follows of so few lines as may have come follows of those that came.
module _ (fills : ℕ) (old new : SourceState) (P Q : List (List ℕ) → Type 0) (follows : (ls : List (List ℕ)) → length ls ≤ fills * chunk_len → P ls → Q ls) where
  pub AtEnd-weaker : AtEnd fills old new P → AtEnd fills old new Q
  AtEnd-weaker h = record {
    came = h.came;
    reads = h.reads;
    done = follows (lines h.came) (omega (arith, h.reads.some.reads.few, length-lines h.came)) h.done;
  }

  pub AtFault-weaker : AtFault fills old new P → AtFault fills old new Q
  AtFault-weaker h = record {
    came = h.came;
    reads = h.reads;
    done = follows _ (omega (arith, h.reads.reads.few, length-ended_lines h.came)) h.done;
  }

  pub AtNoEnd-weaker : AtNoEnd fills old new P → AtNoEnd fills old new Q
  AtNoEnd-weaker h = record {
    came = h.came;
    reads = h.reads;
    done = follows _ (omega (arith, h.reads.reads.few, length-ended_lines h.came)) h.done;
  }

  pub AtEndedLine-weaker : AtEndedLine fills old new P → AtEndedLine fills old new Q
  AtEndedLine-weaker h = record {
    came = h.came;
    reads = h.reads;
    done = follows _ (omega (arith, h.reads.1.reads.few, length-append h.came h.reads.0, length-ended_lines h.came)) h.done;
  }

  pub AtLine-weaker : AtLine fills old new P → AtLine fills old new Q
  AtLine-weaker (inl h) = inl (AtEndedLine-weaker h)
  AtLine-weaker (inr h) = inr (AtEnd-weaker h)

-- A source that tells its bytes and is at its end gave all of them.
known : (old new : Option (List ℕ)) (came : List ℕ) (P : List ℕ → Type 0) → Consumes old new came → IsAtEnd new → P came → IfSome old (λ bytes. (new ≡ Some []) × P bytes)
known None new came P consumes ended h = tt
known (Some bytes) None came P consumes ended h = absurd consumes
known (Some bytes) (Some rest) came P consumes ended h =
    (ap (λ (xs : List ℕ). Some xs) ended, subst P (sym (consumes ∙ ap (λ xs. came ++ xs) ended ∙ append-nil came)) h)

pub known_of : (fills : ℕ) (old new : SourceState) (P : List (List ℕ) → Type 0) → AtEnd fills old new P → IfKnown old new P
known_of fills old new P h = known old.to_come new.to_come h.came (λ bytes. P (lines bytes)) h.reads.some.reads.bytes h.reads.ended h.done
