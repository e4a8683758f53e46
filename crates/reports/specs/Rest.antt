-- What is left of a line behind a comma. Only the model of a type inside the crate cites this.
use Rattle.std.specs.Prelude.{ℕ, List, [], Some, None, Option}
use Rattle.reports.specs.Lines.{fields}

-- the fields that follow a first one: none where no comma ends it
abbrev pub fields_after : Option (List ℕ) → List (List ℕ)
fields_after None = []
fields_after (Some t) = fields t
