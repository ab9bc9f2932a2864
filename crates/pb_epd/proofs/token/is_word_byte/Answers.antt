use Rattle.pb_epd.proofs.WordBytes.{word_byte}
use Rattle.pb_epd.proofs.token.is_word_byte.Goals as goal

pub returns : goal.returns
returns c = word_byte c.args.byte c.ranges.byte.fits
