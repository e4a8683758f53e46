-- Worked figures, of the definitions that the contracts cite.
use Rattle.std.specs.Prelude.{◌≡◌, ℕ, ◌^◌, List, [], ◌∷◌, pos, negsuc, Some, None, Ok, Err}
use Rattle.curves.specs.Kinds.{bowed_meaning, straight_meaning}
use Rattle.curves.specs.Meaning.{Meaning, line_of, value_of}
use Rattle.grid.specs.declared.refusal.ModulusRefusal.TheVariants.{OutsideLimits}
use Rattle.records.specs.Entries.{Entry, head, clean, hit, miss, end, encode_all}
use Rattle.search.specs.Answers.{searched}
use Rattle.search.specs.Configurations.{config_for, gap}
use Rattle.search.specs.Refusals.{number_of}
use Rattle.search.specs.declared.answer.Answer.TheVariants.{Close, Clear}
use Rattle.search.specs.declared.evidence.Evidence.{Evidence}
use Rattle.search.specs.declared.refusal.SearchRefusal.TheVariants.{Modulus, Coefficient, Threshold, Points}
use Rattle.sheets.specs.Verdict.{verdict}
use Rattle.sheets.specs.declared.assignment.Assignment.{Assignment}
use Rattle.sheets.specs.declared.fault.Fault.TheVariants.{Closeness}
use Rattle.sheets.specs.declared.refusal.SheetRefusal.TheVariants.{Faulty}
use Rattle.surveys.specs.Ledger.{Answer, accepted, refused, start, step, terms}

abbrev pub five : (u v x y r : ℕ) → Evidence
five u v x y r = record { u = u; v = v; x = x; y = y; r = r }

-- the search at the modulus M, the slope a, the offset b, the threshold D and n points, in this order
pub record SearchFigures : Type 0 where
  pub clear_below_3 : searched 45 17 10 3 5 ≡ Ok (Clear (five 2 3 6 11 3))
  pub clear_below_4 : searched 45 17 10 4 5 ≡ Ok (Clear (five 2 3 6 11 3))
  pub three_is_close : searched 45 17 10 5 5 ≡ Ok (Close 3 4 (Some (five 2 1 17 11 0)))
  pub clear_to_19 : searched 45 17 10 3 19 ≡ Ok (Clear (five 13 8 1 4 11))
  pub nineteen_is_close : searched 45 17 10 3 21 ≡ Ok (Close 19 2 (Some (five 13 8 1 4 11)))
  pub zero_is_close : searched 45 17 10 45 1 ≡ Ok (Close 0 10 None)
  pub flat_slope : searched 45 0 7 7 4 ≡ Ok (Clear (five 3 1 0 45 3))
  pub a_tie_shortens_y : searched 4 2 1 1 5 ≡ Ok (Clear (five 2 3 2 0 0))

-- the refusals, each where those before it do not hold but all after it do
pub record RefusalFigures : Type 0 where
  pub modulus_first : searched 1 1 1 2 0 ≡ Err (Modulus OutsideLimits)
  pub modulus_too_large : searched 1099511627777 0 0 0 1 ≡ Err (Modulus OutsideLimits)
  pub coefficient_second : searched 2 2 0 3 0 ≡ Err Coefficient
  pub threshold_third : searched 2 1 1 3 0 ≡ Err Threshold
  pub points_last : searched 2 1 1 2 0 ≡ Err Points
  pub too_many_points : searched 2 1 1 2 1048577 ≡ Err Points
  pub the_numbers : number_of (Modulus OutsideLimits) ∷ number_of Coefficient ∷ number_of Threshold ∷ number_of Points ∷ [] ≡ 1 ∷ 4 ∷ 3 ∷ 2 ∷ []

-- the gaps after the points 0, 1, .. of the slope 17 on the circle of 45
pub record GapFigures : Type 0 where
  pub two_points : gap 2 (config_for 45 17 2) 0 ∷ gap 2 (config_for 45 17 2) 1 ∷ [] ≡ 17 ∷ 28 ∷ []
  pub three_points : gap 3 (config_for 45 17 3) 0 ∷ gap 3 (config_for 45 17 3) 1 ∷ gap 3 (config_for 45 17 3) 2 ∷ [] ≡ 17 ∷ 17 ∷ 11 ∷ []
  pub four_points : gap 4 (config_for 45 17 4) 0 ∷ gap 4 (config_for 45 17 4) 3 ∷ gap 4 (config_for 45 17 4) 1 ∷ gap 4 (config_for 45 17 4) 2 ∷ [] ≡ 6 ∷ 11 ∷ 17 ∷ 11 ∷ []

-- the bowed curve of the modulus 1000, the count 5, the coefficients 5, −3 and 2, and the tolerance 3
abbrev pub bowed : Meaning
bowed = bowed_meaning 1000 5 5 (negsuc 2) (pos 2) 3

pub record BowedFigures : Type 0 where
  pub values : value_of bowed 0 ∷ value_of bowed 1 ∷ value_of bowed 2 ∷ value_of bowed 3 ∷ value_of bowed 4 ∷ [] ≡ Some 5 ∷ Some 2 ∷ Some 1 ∷ Some 2 ∷ Some 5 ∷ []
  pub no_value_at_the_count : value_of bowed 5 ≡ None
  pub line : line_of bowed 0 5 ≡ Some (record { reach = 3; slope = 3; offset = 5; error = 2 })
  pub no_line_past_the_count : line_of bowed 1 5 ≡ None

-- the straight curve of the modulus 45, the count 5, the slope 17 and the offset 10, and its one block in survey 9 for the threshold 5
abbrev pub straight : Meaning
straight = straight_meaning 45 5 17 10

abbrev pub block : Assignment
block = record { survey = 9; block = 0; block_length = 5; threshold = 5 }

-- a sheet for it: the head, three points that are clean, the index 3 as this entry says it, the index 4 as a miss, and the end
abbrev pub sheet_with : Entry → List ℕ
sheet_with third =
    encode_all
    (head (record { survey = 9; block = 0; modulus = 45; threshold = 5 })
    ∷ clean (record { from = 0; points = 3; evidence = five 2 1 17 11 0 })
    ∷ third
    ∷ miss (record { index = 4; value = 32 })
    ∷ end 3
    ∷ [])

pub record SheetFigures : Type 0 where
  pub passes : verdict straight block (sheet_with (hit (record { index = 3; value = 4 }))) ≡ Ok (3 ∷ [])
  pub a_miss_that_is_close : verdict straight block (sheet_with (miss (record { index = 3; value = 4 }))) ≡ Err (Faulty Closeness 68)

-- terms for a curve of 2^20 indices and the modulus 45, on a survey that was just put together
abbrev pub long_curve : Meaning
long_curve = straight_meaning 45 (2 ^ 20) 17 10

abbrev pub terms_answered : (D n : ℕ) → Answer
terms_answered D n = (step long_curve 9 (start long_curve) (terms D n)).answer

pub record TermsFigures : Type 0 where
  pub blocks_of_4096 : terms_answered 5 4096 ≡ accepted
  pub blocks_of_4095_are_too_many : terms_answered 5 4095 ≡ refused 5
  pub threshold_at_the_modulus : terms_answered 45 4096 ≡ accepted
  pub threshold_above_the_modulus : terms_answered 46 4096 ≡ refused 3

-- all of searches and curves
pub record Figures : Type 0 where
  pub searches : SearchFigures
  pub refusals : RefusalFigures
  pub gaps : GapFigures
  pub bows : BowedFigures

-- all of sheets and terms
pub record SheetAndTermsFigures : Type 0 where
  pub sheets : SheetFigures
  pub survey_terms : TermsFigures
