use Rattle.std.proofs.Common.{refl}
use Rattle.std.proofs.lemmas.Bool.{false≢true}
use Rattle.pb_epd.proofs.Puts.{unlawful_first, unnamed_first}
use Rattle.pb_epd.proofs.epd.Epd.put.Goals as goal

pub returns-in-Some : goal.returns-in-Some
returns-in-Some c = record {
  rules = tt;
  setup = refl;
  added = tt;
  lawful = tt;
  fresh = tt;
  same = refl;
  refused = rw (← c.as_slice.ensures.value) (unlawful_first _ _ _ _ (c.if-not-is_opcode.ensures.0 refl) c.in-Some.ensures);
}

pub returns-then-not-is_opcode : goal.returns-then-not-is_opcode
returns-then-not-is_opcode c = record {
  rules = tt;
  setup = refl;
  added = tt;
  lawful = tt;
  fresh = tt;
  same = refl;
  refused = unnamed_first _ _ _ (λ h. false≢true (c.if-not-is_opcode.ensures.1 h));
}
