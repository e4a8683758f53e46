-- The close indices of a block, as they are entered.
use Rattle.std.proofs.Common.{◌≡◌, ℕ, ◌+◌, ◌<◌, Bool, true, false, ltb, List, [], ◌∷◌, length, refl, ap, ◌∙◌, inl, inr, arith}
use Rattle.std.proofs.lemmas.Bool.{and_from, le-leb, lt-leb, lt-ltb}
use Rattle.curves.specs.Meaning.{Meaning}
use Rattle.std.specs.List.{list_all}
use Rattle.surveys.specs.Books.{is_in_block, rises}
use Rattle.surveys.specs.Keeper.{Above, Among, Rising}
use Rattle.surveys.specs.Ledger.{Ledger, close_in, has_room}
use Rattle.surveys.proofs.Members.{close_in_bounds, close_in_rises}

-- ---- the tests that code makes of a run

all_above : (k : ℕ) (xs : List ℕ) → Above k xs → list_all (ltb k) xs ≡ true
all_above k [] above = refl
all_above k (x ∷ xs) above = and_from _ _ (lt-ltb k x above.0) (all_above k xs above.1)

rising_rises : (xs : List ℕ) → Rising xs → rises xs ≡ true
rising_rises [] r = refl
rising_rises (x ∷ xs) r = and_from _ _ (all_above x xs r.0) (rising_rises xs r.1)

members_pass : (p : ℕ → Bool) (xs : List ℕ) → ((k : ℕ) → Among k xs → p k ≡ true) → list_all p xs ≡ true
members_pass p [] all = refl
members_pass p (x ∷ xs) all = and_from _ _ (all x (inl refl)) (members_pass p xs (λ k h. all k (inr h)))

module _ (m : Meaning) (l : Ledger) (b : ℕ) (run : List ℕ) (is : run ≡ close_in m l b) where
  pub run_rises : rises run ≡ true
  run_rises = ap rises is ∙ rising_rises (close_in m l b) (close_in_rises m l b)

  pub run_lies_in_the_block : list_all (is_in_block l.block_length b) run ≡ true
  run_lies_in_the_block =
      ap (list_all (is_in_block l.block_length b)) is
      ∙ members_pass (is_in_block l.block_length b) (close_in m l b)
      (λ k h. let w = close_in_bounds m l b k h in and_from _ _ (le-leb _ _ w.0) (lt-ltb _ _ w.1))

  -- the book has no room for a run that is too long
  pub no_room_there : (booked : ℕ) → 512 < length run + booked → has_room m l booked b ≡ false
  no_room_there booked over = lt-leb _ _ (omega (arith, ap length is))
