use Rattle.std.proofs.Common.{◌+◌, inl, inr, arith}
use Rattle.std.proofs.lemmas.List.{take_rest}
use Rattle.pb_epd.proofs.Lexing.{quoted_begins, no_quoted_run}
use Rattle.pb_epd.proofs.token.quoted_at.Goals.{then-length-gt-LONGEST-via-then-length-gt-LONGEST, then-length-gt-LONGEST-via-else-length-gt-LONGEST+then-length-text, then-length-gt-LONGEST-via-else-length-gt-LONGEST+else-length-text+then-text-length-ne34}
use Rattle.pb_epd.proofs.token.quoted_at.Goals as goal

pub returns-then-length-gt-LONGEST : goal.returns-then-length-gt-LONGEST
returns-then-length-gt-LONGEST c =
    let h = c.quoted_run-length.ensures in
    elim c.then-length-gt-LONGEST.branch [
      | then-length-gt-LONGEST-via-then-length-gt-LONGEST w ↦ no_quoted_run _ _ h (inl w.if-length-gt-LONGEST.true)
      | then-length-gt-LONGEST-via-else-length-gt-LONGEST+then-length-text w ↦ no_quoted_run _ _ h (inr (inl (omega (arith, w.if-length-text.true))))
      | then-length-gt-LONGEST-via-else-length-gt-LONGEST+else-length-text+then-text-length-ne34 w ↦
          no_quoted_run _ _ h (inr (inr (omega (arith, h.fits, w.if-length-text.false), w.if-text-length-ne34.true)))
    ]

pub returns : goal.returns
returns c =
    let h = c.quoted_run-length.ensures in
    rw (take_rest c.args.text.now (c.quoted_run-length.result + 1)) (quoted_begins _ _ h (omega (arith, c.if-length-gt-LONGEST.false)) (omega (arith, h.fits, c.if-length-text.false)) c.if-text-length-ne34.false)
