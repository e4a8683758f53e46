-- The text that is printed for a curve.
use Rattle.std.specs.Prelude.{ℕ, ◌/◌, min, cond, List, ◌++◌, length, ℤ, Some, None, codes, decimal, fold, sum_by, Option, ◌==◌}
use Rattle.std.specs.List.{flat_map}
use Rattle.std.specs.Fmt.{signed_decimal}
use Rattle.curves.specs.Offsets.{value_offset, value_size}
use Rattle.reports.specs.Refusals.{refusal_number}
use Rattle.reports.specs.declared.hit.Hit.{Hit}
use Rattle.reports.specs.declared.refusal.LineRefusal.{LineRefusal}

-- G where the size is the largest, E where it is 0, H elsewhere: the first that fits
abbrev pub letter_of : ℕ → ℕ → List ℕ
letter_of D v = cond (value_size D v == D / 2) (codes "G") (cond (value_size D v == 0) (codes "E") (codes "H"))

-- the lesser of a size and the least one before it, if there is one
abbrev pub nearer : Option ℕ → ℕ → Option ℕ
nearer None n = Some n
nearer (Some m) n = Some (min m n)

-- the least size among the points, if there is a point
abbrev pub closest_of : ℕ → List Hit → Option ℕ
closest_of D hs = fold (λ m h. nearer m (value_size D h.value)) None hs

-- the sum of the sizes
abbrev pub total_of : ℕ → List Hit → ℕ
total_of D hs = sum_by (λ h. value_size D h.value) hs

unfoldable pub head_line : ℕ → ℕ → List ℕ
head_line number count = codes "curve " ++ (decimal number ++ (codes " hits " ++ (decimal count ++ codes "\n")))

-- an index, a letter and an offset
abbrev pub point_text : ℕ → List ℕ → ℤ → List ℕ
point_text k letter offset = decimal k ++ (codes " " ++ (letter ++ (codes " " ++ (signed_decimal offset ++ codes "\n"))))

unfoldable pub point_line : ℕ → Hit → List ℕ
point_line D h = point_text h.index (letter_of D h.value) (value_offset D h.value)

abbrev pub closest_text : Option ℕ → List ℕ
closest_text None = codes "-"
closest_text (Some n) = decimal n

unfoldable pub sum_line : Option ℕ → ℕ → List ℕ
sum_line closest total = codes "closest " ++ (closest_text closest ++ (codes " total " ++ (decimal total ++ codes "\n")))

-- the listing of a curve's close points, with the line's number and the threshold D
abbrev pub listing_of : ℕ → ℕ → List Hit → List ℕ
listing_of number D hs = (head_line number (length hs) ++ flat_map (point_line D) hs) ++ sum_line (closest_of D hs) (total_of D hs)

unfoldable pub refused_line : ℕ → LineRefusal → List ℕ
refused_line number e = codes "curve " ++ (decimal number ++ (codes " refused " ++ (decimal (refusal_number e) ++ codes "\n")))
