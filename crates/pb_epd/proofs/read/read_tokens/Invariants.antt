use Rattle.std.proofs.Common.{◌≡◌, length, map, take}
use Rattle.pb_epd.specs.Lexeme.{token_of}
use Rattle.pb_epd.specs.Token.{end_mark, word}
use Rattle.pb_epd.proofs.Reader.{HasRead}
use Rattle.pb_epd.proofs.read.read_tokens.Given as goal

abbrev pub invariant-loop-n : goal.invariant-loop-n
invariant-loop-n l = record {
  size : length l.four ≡ 4;
  read : HasRead end_mark l.text (map word (map (λ w. w.now) (take l.n l.four))) (token_of l.last) l.rest;
}
