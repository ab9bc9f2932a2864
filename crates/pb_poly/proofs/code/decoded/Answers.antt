use Rattle.std.proofs.Common.{◌≡◌, ◌%◌, ◌/◌, ◌∙◌, ap}
use Rattle.pb_poly.specs.Decoding.{reached}
use Rattle.pb_poly.proofs.Codes.{made_of_fields}
use Rattle.pb_poly.proofs.code.decoded.Goals as goal

pub returns : goal.returns
returns c =
    let s = c.args.setup.now in
    let from : c.in_ok-from.from ≡ c.args.code / 64 % 64 = c.in_ok-from.ensures.1 in
    let to : c.reached.result ≡ reached s c.in_ok-from.from (c.args.code % 64) = c.reached.ensures ∙ ap (λ n. reached s c.in_ok-from.from n) c.in_ok-to.ensures.1 in
    made_of_fields s c.args.code c.in_ok-from.from c.reached.result c.promotion_of.result c.new.result from to c.promotion_of.ensures c.new.ensures.made
