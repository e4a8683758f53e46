-- What is due at a byte, from the tests that code makes there.
use Rattle.std.proofs.Common.{◌≡◌, ℕ, ◌+◌, ◌-◌, ◌≤◌, cond, ltb, List, length, take, drop, Err, Option, sym, ap, ◌∙◌, arith, length-drop, w16, le-ltb}
use Rattle.std.proofs.lemmas.Bool.{or_from}
use Rattle.std.proofs.lemmas.List.{drop-drop}
use Rattle.std.specs.Int.{from_le_bytes}
use Rattle.records.proofs.Numbers.{two_read}
use Rattle.records.specs.Bytes.{little, field}
use Rattle.records.specs.Entries.{Entry}
use Rattle.records.specs.Reading.{entry_of, entry_at_front, ending_at, due}
use Rattle.records.specs.declared.fault.RecordFault.TheVariants.{Short}

module _ (s : List ℕ) (at : ℕ) where
  -- where the bytes suffice, by the stated length and kind
  due_whole : (size kind : ℕ) → at + 4 ≤ length s → at + size ≤ length s → size ≡ field s at 2 → kind ≡ field s (at + 2) 2 →
      due s at ≡ ending_at (at + size) (entry_of kind size (take (size - 4) (drop (at + 4) s)))
  due_whole size kind h k e f =
      let g : kind ≡ field (drop at s) 2 2 = f ∙ ap (λ t. little (take 2 t)) (sym (drop-drop 2 at s)) in
      let b : drop (at + 4) s ≡ drop 4 (drop at s) = sym (drop-drop 4 at s) in
      ap (λ x. cond x (Err Short) (ending_at (at + field (drop at s) 0 2) (entry_at_front (drop at s))))
      (or_from (ltb (length (drop at s)) 4) (ltb (length (drop at s)) (field (drop at s) 0 2))
      (le-ltb _ _ (simp length-drop (omega arith))) (le-ltb _ _ (simp length-drop (omega arith))))
      ∙ sym (ap (λ n. ending_at (at + n) (entry_of kind n (take (n - 4) (drop (at + 4) s)))) e
      ∙ ap (λ n. ending_at (at + field s at 2) (entry_of n (field s at 2) (take (field s at 2 - 4) (drop (at + 4) s)))) g
      ∙ ap (λ t. ending_at (at + field s at 2) (entry_of (field (drop at s) 2 2) (field s at 2) (take (field s at 2 - 4) t))) b)

  -- the same from the two pairs of bytes in which the length and the kind stand, and what the body there says
  pub due_read : (a b : List ℕ) (size kind : ℕ) (o : Option Entry) → at + 4 ≤ length s → at + size ≤ length s →
      length a ≡ 2 → a ≡ take 2 (drop at s) → size ≡ from_le_bytes w16 a →
      length b ≡ 2 → b ≡ take 2 (drop (at + 2) s) → kind ≡ from_le_bytes w16 b →
      o ≡ entry_of kind size (take (size - 4) (drop (at + 4) s)) → ending_at (at + size) o ≡ due s at
  due_read a b size kind o h k la a_is size_is lb b_is kind_is o_is =
      ap (ending_at (at + size)) o_is
      ∙ sym (due_whole size kind h k (two_read s a at size la a_is size_is) (two_read s b (at + 2) kind lb b_is kind_is))
