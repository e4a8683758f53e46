use Rattle.std.proofs.Common.{◌≡◌, true, ◌&&◌, leb, sym, ◌∙◌}
use Rattle.std.proofs.lemmas.Bool.{and_parts, leb-true}
use Rattle.surveys.specs.Ledger.{blocks_of, length_fits}
use Rattle.surveys.proofs.survey.Survey.set_terms.Goals as goal

-- a length that fits is not 0
pub block_count-blocks-requires : goal.block_count-blocks-requires
block_count-blocks-requires g c =
    let m = g.C.Curve.meaning c.args.self.now.curve in
    let n = c.args.block_length in
    let fits : length_fits m n ≡ true =
    sym (c.fits_length.ensures.is_the_test_of_the_length m (sym c.count.ensures.is_the_count)) ∙ c.if-not-fits_length.false in
    record { some_length = leb-true 1 n (and_parts (leb 1 n) (leb n 65536 && leb (blocks_of m n) 256) fits).0 }
