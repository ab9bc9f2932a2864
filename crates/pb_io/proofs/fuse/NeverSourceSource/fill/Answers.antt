use Rattle.std.proofs.Common.{◌<◌, length, Ok, ap, arith, rules}
use Rattle.std.proofs.lemmas.List.{drop-set-lt, length-set, take_more_set}
use Rattle.pb_io.proofs.fuse.NeverSourceSource.fill.Goals as goal

pub returns-clause-one : goal.returns-clause-one
returns-clause-one c =
    let into = c.args.into.now in
    let some : 0 < length into = search rules in
    record {
      one = ap Ok (omega (arith, length-set into 0 c.args.self.now.byte, some));
      byte = λ _. take_more_set into 0 c.args.self.now.byte some;
      behind = drop-set-lt 1 into 0 c.args.self.now.byte (omega arith);
    }
