use Rattle.std.specs.Prelude.{ℕ, List, Ok, Err, Result}
use Rattle.reports.specs.declared.book.Book.{Book}
use Rattle.reports.specs.declared.hit.Hit.{Hit}
use Rattle.reports.specs.declared.refusal.LineRefusal.{LineRefusal}

-- the points that a book holds, in their order
abbrev pub held : Book → List Hit
held b = b.points.items

-- the threshold that the values of its points are below
abbrev pub threshold_in : Book → ℕ
threshold_in b = b.threshold

-- the points of a book that was made, or its refusal
abbrev pub held_by : Result Book LineRefusal → Result (List Hit) LineRefusal
held_by (Ok b) = Ok (held b)
held_by (Err e) = Err e
