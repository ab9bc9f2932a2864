use Rattle.std.proofs.Common.{◌≡◌, length}
use Rattle.pb_epd.specs.Epd.{IsEpd}
use Rattle.pb_epd.specs.Lexeme.{token_of}
use Rattle.pb_epd.proofs.Groups.{InOperations}
use Rattle.pb_epd.proofs.read.read_operations.Given as goal

abbrev pub invariant-loop-taken : goal.invariant-loop-taken
invariant-loop-taken l = record {
  rules : IsEpd l.so_far.epd;
  setup : l.so_far.epd.setup ≡ l.fn.setup;
  read : InOperations (token_of l.fn.before) l.fn.text l.so_far.epd.operations (token_of l.before) l.left l.so_far.count l.so_far.repeated;
}

abbrev pub decreases-loop-taken : goal.decreases-loop-taken
decreases-loop-taken l = length l.left
