use Rattle.std.proofs.Common.{◌^◌, lit≤}
use lib.Ieee.{binary64}
use Rattle.lengths.specs.Exact.{difference_is_exact}
use Rattle.lengths.proofs.double.difference.Goals as goal

pub returns : goal.returns
returns c =
    let r = difference_is_exact binary64 (2 ^ 40) (lit≤ tt) _ _ c.requires.whole.0 c.requires.whole.1 c.requires.no_larger in
    record { whole = r.0; exact = r.1 }
