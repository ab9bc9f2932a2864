-- What puts leave to be flushed.
use Rattle.std.proofs.Common.{◌≡◌, ◌∙◌, ℕ, false, List, Ok, ap, inl, inr, subst, sym}
use Rattle.pb_io.specs.Sink.{AwaitsFlush, Put, SinkState}

-- a put that worked
pub AwaitsFlush-put : {E : Type 0} (old new : SinkState) (v : Unit {0}) (bytes : List ℕ) → Put {E = E} old new (Ok v) bytes → AwaitsFlush old new
AwaitsFlush-put old new v bytes put = inr (put.failed, put.flushed, put.flushes)

-- puts, and more of them
pub AwaitsFlush-trans : (old mid new : SinkState) → AwaitsFlush old mid → AwaitsFlush mid new → AwaitsFlush old new
AwaitsFlush-trans old mid new before (inl same) = subst (λ (x : SinkState). AwaitsFlush old x) (sym same) before
AwaitsFlush-trans old mid new (inl same) (inr now) = inr (now.0, now.1, now.2 ∙ ap (λ (x : SinkState). x.flushes) same)
AwaitsFlush-trans old mid new (inr before) (inr now) = inr (now.0, now.1, now.2 ∙ before.2)

-- a sink that worked still works
pub still_works : (old new : SinkState) → AwaitsFlush old new → old.failed ≡ false → new.failed ≡ false
still_works old new (inl same) works = ap (λ (x : SinkState). x.failed) same ∙ works
still_works old new (inr awaits) works = awaits.0

-- what awaits a flush was not handed on
pub not_flushed : (old new : SinkState) → AwaitsFlush old new → new.flushes ≡ old.flushes
not_flushed old new (inl same) = ap (λ (x : SinkState). x.flushes) same
not_flushed old new (inr awaits) = awaits.2
