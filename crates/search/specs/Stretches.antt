-- What making a stretch answers.
use Rattle.std.specs.Prelude.{◌≡◌, ℕ, Some, None, Ok, Err, Result}
use Rattle.search.specs.Refusals.{refused}
use Rattle.search.specs.declared.refusal.SearchRefusal.{SearchRefusal}
use Rattle.search.specs.declared.stretch.Stretch.{Stretch}

-- the stretch s has the modulus M, the slope a, the offset b, the threshold D and n points
pub record Has (M a b D n : ℕ) (s : Stretch) : Type 0 where
  pub modulus : s.modulus.value ≡ M
  pub slope : s.slope ≡ a
  pub offset : s.offset ≡ b
  pub threshold : s.threshold ≡ D
  pub points : s.points ≡ n

-- a stretch of these numbers where none of them is refused, else the first refusal that they call for
abbrev pub Made : (M a b D n : ℕ) → Result Stretch SearchRefusal → Type 0
Made M a b D n (Ok s) = (refused M a b D n ≡ None) × Has M a b D n s
Made M a b D n (Err refusal) = refused M a b D n ≡ Some refusal
