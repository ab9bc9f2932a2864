-- The record that nearly all games start from.
use Rattle.pb_board.specs.Initial.{initial}
use Rattle.pb_board.specs.Position.{Record, record_of}

-- the initial array before the first move
abbrev pub initial_record : Record
initial_record = record_of initial 0 1
