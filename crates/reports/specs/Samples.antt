-- What the definitions give for some lines.
use Rattle.std.specs.Prelude.{◌≡◌, codes}
use Rattle.reports.specs.Output.{output}

abbrev pub Samples : Type 0
Samples =
    (output 1 (codes "S,D,45,21,4,17,6") ≡ codes "curve 1 hits 4\n3 E 0\n11 H -1\n16 G 4\n19 H -2\nclosest 0 total 7\n")
    × (output 2 (codes "S,N,46,9,4,17,6") ≡ codes "curve 2 hits 1\n7 H 2\nclosest 2 total 2\n")
    × (output 3 (codes "S,D,2,3,0,0,1") ≡ codes "curve 3 hits 0\nclosest - total 0\n")
    × (output 4 (codes "S,D,45,21,4,17,6,") ≡ codes "curve 4 refused 41\n")
    × (output 5 (codes "") ≡ codes "curve 5 refused 40\n")
    × (output 6 (codes "B,D,1000,5,3,5,-3,2") ≡ codes "curve 6 hits 3\n1 H 2\n2 H 1\n3 H 2\nclosest 1 total 5\n")
    × (output 7 (codes "L,N,46,3,4,20,22,99") ≡ codes "curve 7 hits 2\n0 H -3\n1 H -1\nclosest 1 total 4\n")
