use Rattle.std.proofs.Common.{◌≡◌, ℕ, List, [], Option, Some, sym}
use Rattle.std.specs.Io.KnownBytes.{Appends}
use Rattle.std.specs.Prelude.{IfSome}
use Rattle.pb_commands.proofs.laws.in_memory.Goals as goal

of_source : (known : Option (List ℕ)) (handed all : List ℕ) → known ≡ Some all → IfSome known (λ x. handed ≡ x) → handed ≡ all
of_source known handed all is told = rw is at told

of_sink : (old new : Option (List ℕ)) (put taken : List ℕ) → old ≡ Some [] → new ≡ Some put → Appends old new taken → taken ≡ put
of_sink old new put taken was is appends = sym (rw (was, is) at appends)

pub returns : goal.returns
returns c = λ rules e file bytes put entries book table lines was is has.
    let ends = has.0 in
    rw (of_source _ _ file table ends.table.told, of_source _ _ bytes lines ends.lines.told, of_sink _ _ put _ was is ends.replies) at has.1
