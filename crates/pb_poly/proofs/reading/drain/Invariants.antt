use Rattle.std.proofs.Common.{◌≡◌, ◌<◌, ◌++◌, length, take}
use Rattle.pb_io.specs.Source.{ReadsOn, chunk_len}
use Rattle.pb_poly.specs.Book.{book_bytes}
use Rattle.pb_poly.specs.Reading.{Splits}
use Rattle.pb_poly.proofs.reading.drain.Given as goal

-- the source reads on, and what came is these entries and what stands at the front of the chunk
abbrev pub invariant-loop-made : goal.invariant-loop-made
invariant-loop-made g l =
    let state = g.S.Source.state in
    let came = book_bytes l.entries.items ++ take l.len l.chunk in
    record {
      reads : ReadsOn chunk_len l._made (state l.initial.source) (state l.source) came;
      splits : Splits came l.entries.items (take l.len l.chunk);
      few : l.len < 16;
      room : length l.chunk ≡ chunk_len;
    }
