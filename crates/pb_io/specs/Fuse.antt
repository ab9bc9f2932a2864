-- What a fuse does to a source and to a sink, and what a source gives that never ends.
use Rattle.std.specs.Prelude.{◌≡◌, ℕ, ◌-◌, ◌<◌, ◌/◌, min, Bool, false, ◌&&◌, ◌||◌, ◌==◌, nat_lt}
use Rattle.std.specs.Prelude.{if◌then◌else◌, List, [], ◌∷◌, length, take, drop, Result, Ok, is_err}
use Rattle.std.specs.Io.KnownBytes.{Appends}
use Rattle.pb_io.specs.Sink.{SinkState}
use Rattle.pb_io.specs.Source.{SourceState}

-- A fill from old on with this answer, where so many fills were to pass before it, and so many
-- after it.
pub record FuseFill {E : Type 0} (old : SourceState) (good good_after : ℕ) (answer : Result ℕ E)
    (slice : List ℕ) : Type 0 where
  -- it fails where no fill is left to pass; into an empty slice only once another has failed
  pub fails : is_err answer ≡ (old.failed || (nat_lt 0 (length slice) && (good == 0)))
  pub one_less : good_after ≡ (if nat_lt 0 (length slice) then good - 1 else good)

-- what passes of the bytes of a put, where there is memory: the first half of them where the fuse
-- blows, and none after that
abbrev pub passing : Bool → ℕ → List ℕ → List ℕ
passing failed good bytes = if failed then []
    else (if good == 0 then take (length bytes / 2) bytes else bytes)

-- A put from old to new with this answer, where so many calls were to pass before it, and so many
-- after it.
pub record FusePut {E : Type 0} (old new : SinkState) (good good_after : ℕ)
    (answer : Result (Unit {0}) E) (bytes : List ℕ) : Type 0 where
  -- whether it has found no memory
  pub starved : Bool
  pub fails : is_err answer ≡ (old.failed || ((good == 0) || starved))
  pub taken : Appends old.bytes new.bytes
      (if starved then [] else passing old.failed good bytes)
  pub one_less : good_after ≡ good - 1
  -- where nothing is to be taken, no memory is wanted
  pub asks : length (passing old.failed good bytes) ≡ 0 → starved ≡ false

-- A flush from old on with this answer, where so many calls were to pass before it, and so many
-- after it.
pub record FuseFlush {E : Type 0} (old : SinkState) (good good_after : ℕ)
    (answer : Result (Unit {0}) E) : Type 0 where
  pub fails : is_err answer ≡ (old.failed || (good == 0))
  pub one_less : good_after ≡ good - 1

-- A fill that gives this byte, once, wherever there is room. What stands behind it in the slice
-- stays.
pub record GivesOne {E : Type 0} (value : ℕ) (answer : Result ℕ E)
    (slice slice' : List ℕ) : Type 0 where
  pub one : answer ≡ Ok (min 1 (length slice))
  pub byte : 0 < length slice → take 1 slice' ≡ value ∷ []
  pub behind : drop 1 slice' ≡ drop 1 slice
