use Rattle.std.proofs.Common.{◌≡◌, ◌≤◌, length, take}
use Rattle.pb_io.specs.Source.{ReadsOn}
use Rattle.pb_poly.specs.Table.{table_limit}
use Rattle.pb_poly.proofs.table.fill_whole.Given as goal

-- the source reads on, and what came stands at the front of the room
abbrev pub invariant-loop-made : goal.invariant-loop-made
invariant-loop-made g l =
    let state = g.S.Source.state in
    record {
      reads : ReadsOn table_limit l._made (state l.initial.source) (state l.source) (take l.len l.room);
      few : l.len ≤ table_limit;
      room : length l.room ≡ table_limit;
    }
