-- One turn of the judge.
use Rattle.std.proofs.Common.{◌≡◌, ℕ, suc, ◌+◌, ◌-◌, ◌≤◌, true, false, List, length, Some, None, Ok, Err, Option, Result, sym, ap, ◌∙◌, add-one, arith}
use Rattle.std.proofs.lemmas.Bool.{cond-true, cond-false}
use Rattle.curves.specs.Meaning.{Meaning}
use Rattle.records.specs.Entries.{Entry, head, clean, hit, miss, end}
use Rattle.records.specs.Reading.{due}
use Rattle.records.specs.declared.fault.RecordFault.{RecordFault}
use Rattle.sheets.specs.Blocks.{stop_of}
use Rattle.sheets.specs.Inner.{Opened, Turned, turn_of}
use Rattle.sheets.specs.Tests.{Due, opening, going, points_of, first_fault, is_not_the_head}
use Rattle.sheets.specs.Verdict.{Judgement, after, with_hit, judged_entry, judged_from}
use Rattle.sheets.specs.declared.assignment.Assignment.{Assignment}
use Rattle.sheets.specs.declared.fault.Fault.{Fault}
use Rattle.sheets.specs.declared.fault.Fault.TheVariants.{Record, Head, Place}
use Rattle.sheets.specs.declared.refusal.SheetRefusal.{SheetRefusal}
use Rattle.sheets.specs.declared.refusal.SheetRefusal.TheVariants.{Faulty}
use Rattle.sheets.proofs.Passed.{none_fits, placed}

module _ (m : Meaning) (a : Assignment) (s : List ℕ) (at : ℕ) where
  -- a turn, by what is due
  abbrev by_due : (turns : ℕ) → Due → Result (Entry × ℕ) RecordFault → Judgement
  by_due turns d r =
      elim r as (λ _. Judgement) [
        | Ok x ↦ judged_entry at (first_fault m a d (length s - x.1) x.0) x.0 (judged_from turns m a s x.1 (after m a d x.0))
        | Err fault ↦ Err (Faulty (Record fault) at)
      ]

  pub one_record : (turns : ℕ) (d : Due) (e : Entry) (b : ℕ) (o : Option Fault) → Ok (e, b) ≡ due s at →
      o ≡ first_fault m a d (length s - b) e →
      judged_from (suc turns) m a s at d ≡ judged_entry at o e (judged_from turns m a s b (after m a d e))
  one_record turns d e b o is first =
      ap (by_due turns d) (sym is) ∙ ap (λ x. judged_entry at x e (judged_from turns m a s b (after m a d e))) (sym first)

  module _ (k records b : ℕ) where
    -- an entry without a fault does not pass the end of the block
    pub stays_within : (e : Entry) → None ≡ first_fault m a (going k records) (length s - b) e → k ≤ stop_of m a → k + points_of e ≤ stop_of m a
    stays_within (head h) free below = omega arith
    stays_within (clean c) free below =
        let p = placed k (stop_of m a) c.from c.points (none_fits m a (going k records) (length s - b) (clean c) (sym free) Place) in
        omega arith
    stays_within (hit p) free below =
        let q = placed k (stop_of m a) p.index 1 (none_fits m a (going k records) (length s - b) (hit p) (sym free) Place) in omega arith
    stays_within (miss p) free below =
        let q = placed k (stop_of m a) p.index 1 (none_fits m a (going k records) (length s - b) (miss p) (sym free) Place) in omega arith
    stays_within (end n) free below = omega arith

    -- what an entry without a fault leaves to be judged
    pub turned_by : (e : Entry) → Ok (e, b) ≡ due s at → None ≡ first_fault m a (going k records) (length s - b) e → k ≤ stop_of m a →
        at + 8 ≤ b → b ≤ length s → Turned m a s at k records (Ok (turn_of e k b))
    turned_by (head h) is free below later within = cc
    turned_by (clean c) is free below later within = (
      record { later = later; within = within; below = stays_within (clean c) free below },
      λ turns. one_record turns (going k records) (clean c) b None is free,
    )
    turned_by (hit p) is free below later within =
        let q = placed k (stop_of m a) p.index 1 (none_fits m a (going k records) (length s - b) (hit p) (sym free) Place) in (
          record { later = later; within = within; below = omega arith },
          λ turns. one_record turns (going k records) (hit p) b None is free
              ∙ ap (λ i. with_hit i (judged_from turns m a s b (going (k + 1) (records + 1)))) q.0,
        )
    turned_by (miss p) is free below later within = (
      record { later = later; within = within; below = stays_within (miss p) free below },
      λ turns. one_record turns (going k records) (miss p) b None is free,
    )
    turned_by (end n) is free below later within = λ turns. one_record turns (going k records) (end n) b None is free

-- ---- the head

-- an entry that opens the sheet
pub opened_by : (m : Meaning) (a : Assignment) (s : List ℕ) (e : Entry) (b : ℕ) → Ok (e, b) ≡ due s 0 → is_not_the_head m a e ≡ false →
    1 ≤ b → b ≤ length s → Opened m a s (Ok b)
opened_by m a s (head h) b is free some within = (
  rw add-one (one_record m a s 0 (length s) opening (head h) b None is (sym (cond-false _ (Some Head) None free))),
  some,
  within,
)
opened_by m a s (clean c) b is free some within = cc
opened_by m a s (hit p) b is free some within = cc
opened_by m a s (miss p) b is free some within = cc
opened_by m a s (end n) b is free some within = cc

-- and one that does not
pub not_opened_by : (m : Meaning) (a : Assignment) (s : List ℕ) (e : Entry) (b : ℕ) (r : SheetRefusal) → Ok (e, b) ≡ due s 0 →
    is_not_the_head m a e ≡ true → r ≡ Faulty Head 0 → Opened m a s (Err r)
not_opened_by m a s e b r is fits at =
    rw add-one (one_record m a s 0 (length s) opening e b (Some Head) is (sym (cond-true _ (Some Head) None fits)))
    ∙ ap Err (sym at)
