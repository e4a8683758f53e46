-- What an answer of the search says of the distances.
use Rattle.std.proofs.Common.{◌≡◌, ℕ, zero, suc, ◌<◌, ◌≤◌, Bool, true, false, cond, ltb, Option, sym, refl, ap, ◌∙◌, subst, ⊎_elim, arith}
use Rattle.std.proofs.lemmas.Bool.{cases_lt, cases_Bool, cases_order, ltb-true, ltb-false, lt-ltb, le-ltb, true≢false, cond-true, cond-false}
use Rattle.search.specs.Points.{distance, least}
use Rattle.search.specs.Answers.{answer, close_at}
use Rattle.search.specs.declared.evidence.Evidence.{Evidence}
use Rattle.search.specs.declared.answer.Answer.{Answer}
use Rattle.search.specs.declared.answer.Answer.TheVariants.{Close, Clear}

-- below the least index nothing passes
pub least_below : (p : ℕ → Bool) (n j : ℕ) → j < least p n → p j ≡ false
least_below p zero j h = absurd (omega arith)
least_below p (suc n) j h =
    ⊎_elim
    (λ (l : least p n < n). least_below p n j (subst (λ k. j < k) (cond-true (ltb (least p n) n) _ _ (lt-ltb _ _ l)) h))
    (λ (l : n ≤ least p n).
    let s : j < cond (p n) n (suc n) = subst (λ k. j < k) (cond-false (ltb (least p n) n) _ _ (le-ltb _ _ l)) h in
    ⊎_elim
    (λ (t : p n ≡ true). let u : j < n = subst (λ k. j < k) (cond-true (p n) n (suc n) t) s in least_below p n j (omega arith))
    (λ (t : p n ≡ false).
    let u : j < suc n = subst (λ k. j < k) (cond-false (p n) n (suc n) t) s in
    ⊎_elim
    (λ (e : j ≡ n). ap p e ∙ t)
    (λ o. least_below p n j (⊎_elim (λ (z : j < n). omega arith) (λ (z : n < j). absurd (omega arith)) o))
    (cases_order j n))
    (cases_Bool (p n)))
    (cases_lt (least p n) n)

-- where it is below n, the least index passes
pub least_passes : (p : ℕ → Bool) (n : ℕ) → least p n < n → p (least p n) ≡ true
least_passes p zero h = absurd (omega arith)
least_passes p (suc n) h =
    ⊎_elim
    (λ (l : least p n < n).
    let e : least p (suc n) ≡ least p n = cond-true (ltb (least p n) n) _ _ (lt-ltb _ _ l) in
    ap p e ∙ least_passes p n l)
    (λ (l : n ≤ least p n).
    let e : least p (suc n) ≡ cond (p n) n (suc n) = cond-false (ltb (least p n) n) _ _ (le-ltb _ _ l) in
    ⊎_elim
    (λ (t : p n ≡ true). let f : least p (suc n) ≡ n = e ∙ cond-true (p n) n (suc n) t in ap p f ∙ t)
    (λ (t : p n ≡ false). let f : least p (suc n) ≡ suc n = e ∙ cond-false (p n) n (suc n) t in absurd (omega arith))
    (cases_Bool (p n)))
    (cases_lt (least p n) n)

abbrev is_close : Answer → Bool
is_close (Close k v e) = true
is_close (Clear e) = false

abbrev index_in : Answer → ℕ
index_in (Close k v e) = k
index_in (Clear e) = 0

abbrev value_in : Answer → ℕ
value_in (Close k v e) = v
value_in (Clear e) = 0

index_at : (M a b k : ℕ) → index_in (close_at M a b k) ≡ k
index_at M a b zero = refl
index_at M a b (suc k) = refl

value_at : (M a b k : ℕ) → value_in (close_at M a b k) ≡ distance M a b k
value_at M a b zero = refl
value_at M a b (suc k) = refl

is_close_at : (M a b k : ℕ) → is_close (close_at M a b k) ≡ true
is_close_at M a b zero = refl
is_close_at M a b (suc k) = refl

abbrev near : (M a b D : ℕ) → ℕ → Bool
near M a b D k = ltb (distance M a b k) D

-- k is the first close index below n, and v its value
pub record First (M a b D n k v : ℕ) : Type 0 where
  pub below : k < n
  pub value : v ≡ distance M a b k
  pub close : v < D
  pub far : (j : ℕ) → j < k → D ≤ distance M a b j

first_at : (M a b D n m k v : ℕ) (e : Option Evidence) → m ≡ least (near M a b D) n → m < n → Close k v e ≡ close_at M a b m → First M a b D n k v
first_at M a b D n m k v e l h c =
    let i : k ≡ m = ap index_in c ∙ index_at M a b m in
    let w : v ≡ distance M a b k = ap value_in c ∙ value_at M a b m ∙ ap (distance M a b) (sym i) in
    let t : near M a b D m ≡ true = subst (λ z. near M a b D z ≡ true) (sym l) (least_passes (near M a b D) n (subst (λ z. z < n) l h)) in
    let d : distance M a b k < D = subst (λ z. distance M a b z < D) (sym i) (ltb-true _ _ t) in
    record {
      below = omega arith;
      value = w;
      close = omega arith;
      far = λ j z. ltb-false _ _ (least_below (near M a b D) n j (subst (λ q. j < q) (i ∙ l) z));
    }

pub close_answer : (M a b D n k v : ℕ) (e : Option Evidence) → Close k v e ≡ answer M a b D n → First M a b D n k v
close_answer M a b D n k v e c =
    let m = least (near M a b D) n in
    ⊎_elim
    (λ (l : m < n). first_at M a b D n m k v e refl l (c ∙ cond-true (ltb m n) _ _ (lt-ltb m n l)))
    (λ (l : n ≤ m). absurd (true≢false (ap is_close (c ∙ cond-false (ltb m n) _ _ (le-ltb m n l)))))
    (cases_lt m n)

pub clear_answer : (M a b D n : ℕ) (e : Evidence) → Clear e ≡ answer M a b D n → (j : ℕ) → j < n → D ≤ distance M a b j
clear_answer M a b D n e c j h =
    let m = least (near M a b D) n in
    ⊎_elim
    (λ (l : m < n). absurd (true≢false (sym (is_close_at M a b m) ∙ sym (ap is_close (c ∙ cond-true (ltb m n) _ _ (lt-ltb m n l))))))
    (λ (l : n ≤ m). ltb-false _ _ (least_below (near M a b D) n j (omega arith)))
    (cases_lt m n)
