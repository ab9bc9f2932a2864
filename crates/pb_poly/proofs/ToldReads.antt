-- What comes from a source that tells its bytes.
use Rattle.std.proofs.Common.{◌≡◌, ◌∙◌, ℕ, ◌≤◌, List, [], ◌++◌, Option, None, Some, ap, append-nil, arith, length, length-append, refl, sym}
use Rattle.std.specs.Prelude.{IfSome}
use Rattle.std.specs.Io.KnownBytes.{Consumes, IsAtEnd}
use Rattle.pb_io.specs.Source.{HandsOut, SourceState}
use Rattle.pb_io.specs.Source.{Reads, ReadsAll, ReadsOn, ReadsToFault}
use Rattle.pb_poly.specs.Reading.{Tells}

-- what came is a front of what was told
consumed : (old new : Option (List ℕ)) (bytes came : List ℕ) → old ≡ Some bytes → Consumes old new came → (rest : List ℕ) × (new ≡ Some rest) × (bytes ≡ came ++ rest)
consumed None new bytes came told h = absurd (cc)
consumed (Some xs) None bytes came told h = absurd h
consumed (Some xs) (Some ys) bytes came told h = let same : bytes ≡ xs = cc in (ys, refl, same ∙ h)

at_end : (new : Option (List ℕ)) (rest : List ℕ) → new ≡ Some rest → IsAtEnd new → rest ≡ []
at_end None rest is h = absurd (cc)
at_end (Some ys) rest is h = let same : rest ≡ ys = cc in same ∙ h

module _ (room fills : ℕ) (old new : SourceState) (bytes : List ℕ) (told : old.to_come ≡ Some bytes) where
  pub came_first : (came : List ℕ) → Reads room fills old new came → (rest : List ℕ) × (bytes ≡ came ++ rest)
  came_first came h = let c = consumed old.to_come new.to_come bytes came told h.bytes in (c.0, c.2)

  pub all_came : (came : List ℕ) → ReadsAll room fills old new came → bytes ≡ came
  all_came came h =
      let c = consumed old.to_come new.to_come bytes came told h.some.reads.bytes in
      c.2 ∙ ap (λ xs. came ++ xs) (at_end new.to_come c.0 c.1 h.ended) ∙ append-nil came

  pub long_enough : (came : List ℕ) → ReadsOn room fills old new came → fills ≤ length bytes
  long_enough came h = let c = came_first came h.reads in omega (arith, h.many, ap length c.1, length-append came c.0)

-- a stream that was read to its end was handed out whole
pub handed_out : (room fills : ℕ) (old new : SourceState) (came : List ℕ) → ReadsAll room fills old new came → HandsOut old new came
handed_out room fills old new came h = record { handed = h.some.reads.handed; ended = h.answered; told = by old.to_come refl }
  where
    by : (told : Option (List ℕ)) → old.to_come ≡ told → IfSome told (λ all. came ≡ all)
    by None is = tt
    by (Some all) is = sym (all_came room fills old new all is came h)

-- ---- a source that tells its bytes, doesn't fail and ends within the fills

module _ (room fills : ℕ) (old new : SourceState) (bytes : List ℕ) (tells : Tells fills old new bytes) where
  pub no_fault : (came : List ℕ) → ReadsToFault room fills old new came → ⊥
  no_fault came h = cc (sym h.fails ∙ tells.works)

  pub no_endless : (came : List ℕ) → ReadsOn room fills old new came → ⊥
  no_endless came h = omega (arith, long_enough room fills old new bytes tells.told came h, tells.ends)
