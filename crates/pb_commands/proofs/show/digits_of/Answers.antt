use Rattle.std.proofs.Common.{◌∙◌, ap, sym}
use Rattle.hex.specs.Hex.{encode_lower}
use Rattle.pb_commands.specs.BookShown.{hexadecimal}
use Rattle.pb_commands.proofs.Hexadecimals.{digits_of_bytes}
use Rattle.pb_commands.proofs.show.digits_of.Goals as goal

pub returns : goal.returns
returns g c number are =
    let written = rw c.unwrap.ensures at c.encode_to_slice.ensures.written in
    written ∙ ap encode_lower are ∙ digits_of_bytes _ number ∙ ap (λ width. hexadecimal width number) (sym c.requires)
