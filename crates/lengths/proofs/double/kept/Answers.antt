use Rattle.std.proofs.Common.{◌^◌, lit≤}
use lib.Ieee.{binary64}
use Rattle.lengths.specs.Exact.{float_of_number}
use Rattle.lengths.proofs.double.kept.Goals as goal

pub returns : goal.returns
returns c =
    let r = float_of_number binary64 (2 ^ 40) c.args.n (lit≤ tt) c.requires.carried in
    record { whole = r.0; same_number = r.1 }
