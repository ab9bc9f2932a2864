use Rattle.std.proofs.Common.{sym}
use Rattle.pb_epd.proofs.Maps.{find_none, find_some}
use Rattle.pb_epd.proofs.epd.Epd.get.Goals as goal

pub returns-in_err-get : goal.returns-in_err-get
returns-in_err-get c = rw (c.from_residual.ensures, ← c.self.view_is) (find_none _ _ (sym c.in_err-get.ensures.value))

pub returns : goal.returns
returns c = rw (← c.self.view_is, c.as_slice.ensures.value) (find_some _ _ _ (sym c.in_ok-get.ensures.value))
