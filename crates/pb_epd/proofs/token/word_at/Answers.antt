use Rattle.std.proofs.Common.{inl, inr, arith}
use Rattle.std.proofs.lemmas.List.{take_rest}
use Rattle.pb_epd.proofs.Lexing.{word_begins, no_word}
use Rattle.pb_epd.proofs.token.word_at.Goals.{then-length-eq0-via-then-length-eq0, then-length-eq0-via-else-length-eq0+then-length-gt-LONGEST}
use Rattle.pb_epd.proofs.token.word_at.Goals as goal

pub returns-then-length-eq0 : goal.returns-then-length-eq0
returns-then-length-eq0 c =
    elim c.then-length-eq0.branch [
      | then-length-eq0-via-then-length-eq0 w ↦ no_word _ _ c.word_run-length.ensures (inl w.if-length-eq0.true)
      | then-length-eq0-via-else-length-eq0+then-length-gt-LONGEST w ↦ no_word _ _ c.word_run-length.ensures (inr w.if-length-gt-LONGEST.true)
    ]

pub returns : goal.returns
returns c =
    rw (take_rest c.args.text.now c.word_run-length.result) (word_begins _ _ c.word_run-length.ensures c.if-length-eq0.false (omega (arith, c.if-length-gt-LONGEST.false)))
