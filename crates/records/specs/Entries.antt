-- What records say, and the bytes that say it.
use Rattle.std.specs.Prelude.{ℕ, ◌^◌, ◌<◌, List, [], ◌∷◌, ◌++◌}
use Rattle.search.specs.declared.evidence.Evidence.{Evidence}
use Rattle.records.specs.Bytes.{bytes_of, field}
use Rattle.records.specs.declared.clean.CleanStretch.{CleanStretch}
use Rattle.records.specs.declared.heading.Heading.{Heading}
use Rattle.records.specs.declared.point.Point.{Point}

-- a head; a stretch that is called clean; a close index; one that is not close; the end, with the number of records before it
pub data Entry : Type 0 where
  head : Heading → Entry
  clean : CleanStretch → Entry
  hit : Point → Entry
  miss : Point → Entry
  end : ℕ → Entry

-- ---- from bytes: the numbers in a body, each at its place and with its width

abbrev pub heading_in : List ℕ → Heading
heading_in b = record { survey = field b 0 4; block = field b 4 4; modulus = field b 8 8; threshold = field b 16 8 }

abbrev pub evidence_in : List ℕ → Evidence
evidence_in b = record { u = field b 8 4; v = field b 12 4; r = field b 16 4; x = field b 20 8; y = field b 28 8 }

abbrev pub clean_in : List ℕ → CleanStretch
clean_in b = record { from = field b 0 4; points = field b 4 4; evidence = evidence_in b }

abbrev pub point_in : List ℕ → Point
point_in b = record { index = field b 0 4; value = field b 4 8 }

-- ---- to bytes

-- the number of a record's kind, and the length of the whole record
abbrev pub kind_of : Entry → ℕ
kind_of (head h) = 1
kind_of (clean c) = 2
kind_of (hit p) = 3
kind_of (miss p) = 4
kind_of (end n) = 5

abbrev pub size_of : Entry → ℕ
size_of (head h) = 28
size_of (clean c) = 40
size_of (hit p) = 16
size_of (miss p) = 16
size_of (end n) = 8

abbrev pub heading_bytes : Heading → List ℕ
heading_bytes h = bytes_of 4 h.survey ++ (bytes_of 4 h.block ++ (bytes_of 8 h.modulus ++ bytes_of 8 h.threshold))

abbrev pub clean_bytes : CleanStretch → List ℕ
clean_bytes c =
    bytes_of 4 c.from ++ (bytes_of 4 c.points ++ (bytes_of 4 c.evidence.u ++ (bytes_of 4 c.evidence.v ++ (bytes_of 4 c.evidence.r ++ (bytes_of 8 c.evidence.x ++ bytes_of 8 c.evidence.y)))))

abbrev pub point_bytes : Point → List ℕ
point_bytes p = bytes_of 4 p.index ++ bytes_of 8 p.value

abbrev pub body_of : Entry → List ℕ
body_of (head h) = heading_bytes h
body_of (clean c) = clean_bytes c
body_of (hit p) = point_bytes p
body_of (miss p) = point_bytes p
body_of (end n) = bytes_of 4 n

-- a record's bytes: its length, its kind and its body
abbrev pub encode : Entry → List ℕ
encode e = bytes_of 2 (size_of e) ++ (bytes_of 2 (kind_of e) ++ body_of e)

abbrev pub encode_all : List Entry → List ℕ
encode_all [] = []
encode_all (e ∷ es) = encode e ++ encode_all es

-- ---- numbers that fit their four and eight bytes

pub record HeadingFits (h : Heading) : Type 0 where
  pub survey : h.survey < 2 ^ 32
  pub block : h.block < 2 ^ 32
  pub modulus : h.modulus < 2 ^ 64
  pub threshold : h.threshold < 2 ^ 64

pub record CleanFits (c : CleanStretch) : Type 0 where
  pub from : c.from < 2 ^ 32
  pub points : c.points < 2 ^ 32
  pub u : c.evidence.u < 2 ^ 32
  pub v : c.evidence.v < 2 ^ 32
  pub r : c.evidence.r < 2 ^ 32
  pub x : c.evidence.x < 2 ^ 64
  pub y : c.evidence.y < 2 ^ 64

pub record PointFits (p : Point) : Type 0 where
  pub index : p.index < 2 ^ 32
  pub value : p.value < 2 ^ 64

abbrev pub FitsItsFields : Entry → Type 0
FitsItsFields (head h) = HeadingFits h
FitsItsFields (clean c) = CleanFits c
FitsItsFields (hit p) = PointFits p
FitsItsFields (miss p) = PointFits p
FitsItsFields (end n) = n < 2 ^ 32
