-- What is printed for a line: the line's number and its bytes give the bytes of the answer.
use Rattle.std.specs.Prelude.{ℕ, List, Ok, Err, Result}
use Rattle.reports.specs.Close.{found}
use Rattle.reports.specs.Limits.{threshold_of}
use Rattle.reports.specs.Lines.{reading}
use Rattle.reports.specs.Listing.{listing_of, refused_line}
use Rattle.reports.specs.declared.hit.Hit.{Hit}
use Rattle.reports.specs.declared.order.Order.{Order}
use Rattle.reports.specs.declared.refusal.LineRefusal.{LineRefusal}

-- the listing of the close points, with the threshold D, or the refusal
abbrev pub points_text : ℕ → ℕ → Result (List Hit) LineRefusal → List ℕ
points_text number D (Ok hs) = listing_of number D hs
points_text number D (Err e) = refused_line number e

abbrev pub answer_text : ℕ → Result Order LineRefusal → List ℕ
answer_text number (Ok o) = points_text number (threshold_of o) (found o)
answer_text number (Err e) = refused_line number e

abbrev pub output : ℕ → List ℕ → List ℕ
output number line = answer_text number (reading line)
