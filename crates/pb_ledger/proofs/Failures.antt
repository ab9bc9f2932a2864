-- What a call did at a sink, told with another type of errors.
use Rattle.std.proofs.Common.{ℕ, List, Ok, Err}
use Rattle.pb_io.specs.Sink.{Put, SinkState, Writes}

module _ {E F : Type 0} (old new : SinkState) (e : E) (f : F) (bytes : List ℕ) where
  pub writes_not : Writes old new (Err e) bytes → Writes old new (Err f) bytes
  writes_not h = record {
    all = tt;
    front = h.front;
    failed = h.failed;
    stays_failed = h.stays_failed;
    lasts = h.lasts;
    all_lasts = tt;
    flushed = h.flushed;
    flushes = h.flushes;
  }

  -- nothing was handed on where a put failed
  pub puts_not : Put old new (Err e) bytes → Writes old new (Err f) bytes
  puts_not h = record {
    all = tt;
    front = h.front;
    failed = h.failed;
    stays_failed = h.stays_failed;
    lasts = h.lasts;
    all_lasts = tt;
    flushed = h.flushed;
    flushes = h.flushes;
  }

pub writes_so : {E F : Type 0} (old new : SinkState) (bytes : List ℕ) → Writes {E = E} old new (Ok tt) bytes → Writes {E = F} old new (Ok tt) bytes
writes_so old new bytes h = record {
  all = h.all;
  front = tt;
  failed = h.failed;
  stays_failed = h.stays_failed;
  lasts = h.lasts;
  all_lasts = h.all_lasts;
  flushed = h.flushed;
  flushes = h.flushes;
}
