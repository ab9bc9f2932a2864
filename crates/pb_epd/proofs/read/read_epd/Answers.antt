use Rattle.std.proofs.Common.{Ok, Err}
use Rattle.pb_epd.proofs.Forms.{only_record}
use Rattle.pb_epd.proofs.Texts.{token_first}
use Rattle.pb_epd.proofs.read.read_epd.Goals as goal

pub returns-in-Ok-clause-only : goal.returns-in-Ok-clause-only
returns-in-Ok-clause-only c = only_record _ (Ok c.in-Ok.epd) c.in-Ok.ensures.found tt

pub returns-in-Some-clause-only : goal.returns-in-Some-clause-only
returns-in-Some-clause-only c = only_record _ (Err _) tt (token_first _ _ c.in-Some.ensures)

pub returns-in-Some-clause-refused : goal.returns-in-Some-clause-refused
returns-in-Some-clause-refused c = token_first _ _ c.in-Some.ensures

pub returns-in-None-clause-only : goal.returns-in-None-clause-only
returns-in-None-clause-only c = only_record _ (Err c.in-Err.error) tt (c.in-Err.ensures.refused c.in-None.ensures.0 c.in-None.ensures.1)

pub returns-in-None-clause-refused : goal.returns-in-None-clause-refused
returns-in-None-clause-refused c = c.in-Err.ensures.refused c.in-None.ensures.0 c.in-None.ensures.1
