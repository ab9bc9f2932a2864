-- What `o.ok_or(e)?` answers where there is nothing.
use Rattle.std.proofs.Common.{◌≡◌, Option, Some, None, Err, ok_or}

pub err_or : {A E : Type 0} (o : Option A) (e d : E) → Err d ≡ ok_or o e → d ≡ e
err_or None e d is = cc (is)
err_or (Some y) e d is = absurd (cc (is))
