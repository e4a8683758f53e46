-- The close indices below n, as they pass a test one after the other.
use Rattle.std.proofs.Common.{◌≡◌, ℕ, zero, suc, ◌+◌, ◌-◌, Bool, true, false, cond, List, [], ◌∷◌, ◌++◌, refl, sym, ap, ◌∙◌, arith}
use Rattle.curves.specs.Closes.{close_among, close_between}
use Rattle.curves.specs.Meaning.{Meaning}
use Rattle.reports.specs.Close.{close, passing}

joined : (b : Bool) (k : ℕ) (xs ys : List ℕ) → cond b (k ∷ (xs ++ ys)) (xs ++ ys) ≡ cond b (k ∷ xs) xs ++ ys
joined true k xs ys = refl
joined false k xs ys = refl

-- one index more comes behind the others
one_more : (m : Meaning) (D n s k : ℕ) → k ≡ s + n → close_among m D s (suc n) ≡ close_among m D s n ++ cond (close m D k) (k ∷ []) []
one_more m D zero s k is =
    let e : k ≡ s = omega (arith, is) in
    ap (λ i. cond (close m D i) (i ∷ []) []) (sym e)
one_more m D (suc n) s k is =
    ap (λ xs. cond (close m D s) (s ∷ xs) xs) (one_more m D n (s + 1) k (omega (arith, is)))
    ∙ joined (close m D s) s (close_among m D (s + 1) n) (cond (close m D k) (k ∷ []) [])

among_pass : (m : Meaning) (D n : ℕ) → close_among m D 0 n ≡ passing (close m D) n
among_pass m D zero = refl
among_pass m D (suc n) =
    one_more m D n 0 n (omega arith) ∙ ap (λ xs. xs ++ cond (close m D n) (n ∷ []) []) (among_pass m D n)

pub close_pass : (m : Meaning) (D n : ℕ) → close_between m D 0 n ≡ passing (close m D) n
close_pass m D n = let z : n - 0 ≡ n = omega arith in ap (close_among m D 0) z ∙ among_pass m D n
