-- How far a source was read that a call fills at most so often, into slices of at most `room`
-- bytes.
use Rattle.std.specs.Prelude.{ℕ, List}
use Rattle.pb_io.specs.Source.{ReadsAll, ReadsFront, ReadsOn, ReadsSome, ReadsToFault}
use Rattle.pb_io.specs.Source.{SourceState}

-- to its end, to a fault, until the fills were used up, just so far, or so far at least
pub data Extent : Type 0 where
  at_end : Extent
  at_fault : Extent
  at_no_end : Extent
  just_so_far : Extent
  so_far : Extent

-- these bytes came, and so the reading ended
abbrev pub ReadsTo : Extent → ℕ → ℕ → SourceState → SourceState → List ℕ → Type 0
ReadsTo at_end = ReadsAll
ReadsTo at_fault = ReadsToFault
ReadsTo at_no_end = ReadsOn
ReadsTo just_so_far = ReadsSome
ReadsTo so_far = ReadsFront
