use Rattle.std.proofs.Common.{◌≡◌, ℕ, List, ◌++◌, take}
use Rattle.std.specs.Prelude.{All}
use Rattle.pb_moves.specs.Moved.{Moved}
use Rattle.pb_poly.specs.Found.{Found}
use Rattle.pb_poly.specs.Key.{key}
use Rattle.pb_export.proofs.setups.add_moves.Given as goal

-- the entries before this one have been looked through
abbrev pub invariant-loop-entry : goal.invariant-loop-entry
invariant-loop-entry l =
    (words : List ℕ) → All (λ e. e.key ≡ key words l.setup) l.entries → (found : List (Moved × ℕ)) × Found (take l.entry-index l.entries) words l.setup found × (l.moves.items ≡ l.fn.moves.items ++ found)
