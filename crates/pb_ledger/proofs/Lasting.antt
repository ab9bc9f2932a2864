-- What all lasted goes on lasting.
use Rattle.std.proofs.Common.{◌≡◌, ℕ, List, ◌++◌, Option, None, Some, IfSome, sym, subst}
use Rattle.std.specs.Io.KnownBytes.{Appends}
use Rattle.std.proofs.KnownBytes.{Appends-trans}
use Rattle.pb_io.specs.Sink.{AllLasts, Lasts, LastsFirst, SinkState}

-- what all lasted goes on lasting, whatever lasts behind it
pub lasts_first : (old mid new : SinkState) (text : List ℕ) → Appends old.bytes mid.bytes text → AllLasts mid → Lasts mid.lasting new.lasting
    → LastsFirst old new text
lasts_first old mid new text put all lasts = lasting_first mid.lasting new.lasting all lasts
  where
    lasting_first : (known later : Option (List ℕ)) → IfSome known (λ bytes. mid.bytes ≡ Some bytes) → Lasts known later
        → IfSome later (λ bytes. (behind : List ℕ) × Appends old.bytes (Some bytes) (text ++ behind))
    lasting_first None None all lasts = tt
    lasting_first None (Some later) all lasts = cc
    lasting_first (Some bytes) None all lasts = absurd lasts.1
    lasting_first (Some bytes) (Some later) all lasts =
        (lasts.0, Appends-trans old.bytes mid.bytes (Some later) text lasts.0 put (subst (λ (known : Option (List ℕ)). Appends known (Some later) lasts.0) (sym all) lasts.1))
