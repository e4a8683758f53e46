-- The close indices of a stretch.
use Rattle.std.specs.Prelude.{ℕ, zero, suc, ◌+◌, ◌-◌, cond, List, [], ◌∷◌, nat_lt}
use Rattle.curves.specs.Meaning.{Meaning}

-- those of the n indices from s on whose value is below the threshold D, rising
abbrev pub close_among : Meaning → (D s n : ℕ) → List ℕ
close_among m D s zero = []
close_among m D s (suc n) = cond (nat_lt (m.value s) D) (s ∷ close_among m D (s + 1) n) (close_among m D (s + 1) n)

-- those from s on and below t
abbrev pub close_between : Meaning → (D s t : ℕ) → List ℕ
close_between m D s t = close_among m D s (t - s)
