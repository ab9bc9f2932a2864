use Rattle.pb_poly.proofs.Capturers.{beside_tells}
use Rattle.pb_poly.proofs.key.beside.Goals as goal

pub returns : goal.returns
returns c = λ q on. beside_tells c.args.square q c.requires on
