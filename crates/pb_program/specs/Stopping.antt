-- How a run ends that stops.
use Rattle.std.specs.Prelude.{ℕ}
use Rattle.pb_cli.specs.Runs.{Stop}

-- the exit status
abbrev pub stop_status : Stop → ℕ
stop_status (Stop.Refused why) = 1
stop_status stop = 3
