-- A run put into a list, and a stretch taken out of it.
use Rattle.std.proofs.Common.{◌≡◌, ℕ, ◌+◌, ◌-◌, ◌≤◌, List, ◌++◌, length, take, drop, sym, ap, ◌∙◌, append_assoc, arith, rules}
use borrow.Rule.Slice.PartMut.{put_mid}
use Rattle.std.proofs.lemmas.List.{same_lists, places, take_at, drop_at, drop-drop, length-take-le, length-append, length-drop, take-take, drop-take}

-- four parts in a row: the second and third
middle : (p q r o : List ℕ) (a n : ℕ) → length p ≡ a → length q + length r ≡ n → take n (drop a (p ++ (q ++ (r ++ o)))) ≡ q ++ r
middle p q r o a n e f =
    let l : length (q ++ r) ≡ n = length-append q r ∙ f in
    ap (take n) (drop_at p (q ++ (r ++ o)) a e ∙ sym (append_assoc q r o)) ∙ take_at (q ++ r) o n l

-- the same, with another list in their place
middle_put : (p q r o s : List ℕ) (a n : ℕ) → length p ≡ a → length q + length r ≡ n →
    put_mid a n (p ++ (q ++ (r ++ o))) s ≡ p ++ (s ++ o)
middle_put p q r o s a n e f =
    let l : length (q ++ r) ≡ n = length-append q r ∙ f in
    let d : drop n (drop a (p ++ (q ++ (r ++ o)))) ≡ o =
    ap (drop n) (drop_at p (q ++ (r ++ o)) a e ∙ sym (append_assoc q r o)) ∙ drop_at (q ++ r) o n l in
    let t = take_at p (q ++ (r ++ o)) a e in
    cc

front_in_two : (b : List ℕ) (a u : ℕ) → a ≤ u → u ≤ length b → take u b ≡ take a b ++ take (u - a) (drop a b)
front_in_two b a u h k = same_lists _ _ (search (rules, places)) (λ k d h. grind (arith, places))

rest_of_front : (b : List ℕ) (a u : ℕ) → a ≤ u → drop a (take u b) ≡ take (u - a) (drop a b)
rest_of_front b a u h =
    let e : u ≡ a + (u - a) = omega arith in
    ap (λ (v : ℕ). drop a (take v b)) e ∙ drop-take a (u - a) b

-- the run r is written behind the first u, and what stands from a to its end is turned by its length
pub run_stands_between : (b r c s part : List ℕ) (u a e : ℕ) → a ≤ u → e ≡ u + length r → e ≤ length b → c ≡ r →
    part ≡ take (e - a) (drop a (put_mid u (e - u) b c)) →
    s ≡ drop (length part - length r) part ++ take (length part - length r) part →
    put_mid a (e - a) (put_mid u (e - u) b c) s ≡ take a b ++ (r ++ (take (u - a) (drop a b) ++ drop e b))
run_stands_between b r c s part u a e h i j k l m =
    let p = take a b in
    let q = take (u - a) (drop a b) in
    let o = drop (e - u) (drop u b) in
    let lp : length p ≡ a = length-take-le a b (omega arith) in
    let lq : length q ≡ u - a = length-take-le (u - a) (drop a b) (omega (arith, length-drop a b)) in
    let n : length q + length r ≡ e - a = omega arith in
    let w : put_mid u (e - u) b c ≡ p ++ (q ++ (r ++ o)) =
    ap (λ (z : List ℕ). take u b ++ (z ++ o)) k
    ∙ ap (λ (z : List ℕ). z ++ (r ++ o)) (front_in_two b a u h (omega arith))
    ∙ append_assoc p q (r ++ o) in
    let x : part ≡ q ++ r = l ∙ ap (λ (z : List ℕ). take (e - a) (drop a z)) w ∙ middle p q r o a (e - a) lp n in
    let y : length part - length r ≡ u - a = omega (arith, ap length x, length-append q r) in
    let z : s ≡ r ++ q =
    m ∙ ap (λ (v : ℕ). drop v part ++ take v part) y
    ∙ ap (λ (v : List ℕ). drop (u - a) v ++ take (u - a) v) x
    ∙ ap (λ (v : List ℕ). v ++ take (u - a) (q ++ r)) (drop_at q r (u - a) lq)
    ∙ ap (λ (v : List ℕ). r ++ v) (take_at q r (u - a) lq) in
    let od : o ≡ drop e b = drop-drop (e - u) u b ∙ ap (λ (v : ℕ). drop v b) (omega arith) in
    ap (λ (v : List ℕ). put_mid a (e - a) v s) w
    ∙ middle_put p q r o s a (e - a) lp n
    ∙ ap (λ (v : List ℕ). p ++ (v ++ o)) z
    ∙ ap (λ (v : List ℕ). p ++ v) (append_assoc r q o)
    ∙ ap (λ (v : List ℕ). p ++ (r ++ (q ++ v))) od

-- the used places after a run was put in
pub front_with_run : (b r x : List ℕ) (u a : ℕ) → a ≤ u → u + length r ≤ length b →
    x ≡ take a b ++ (r ++ (take (u - a) (drop a b) ++ drop (u + length r) b)) →
    take (u + length r) x ≡ take a (take u b) ++ (r ++ drop a (take u b))
front_with_run b r x u a h k e =
    let p = take a b in
    let q = take (u - a) (drop a b) in
    let o = drop (u + length r) b in
    let lp : length p ≡ a = length-take-le a b (omega arith) in
    let lq : length q ≡ u - a = length-take-le (u - a) (drop a b) (omega (arith, length-drop a b)) in
    let w : p ++ (r ++ (q ++ o)) ≡ (p ++ (r ++ q)) ++ o = simp append_assoc in
    let l : length (p ++ (r ++ q)) ≡ u + length r = simp length-append (omega arith) in
    ap (take (u + length r)) (e ∙ w) ∙ take_at (p ++ (r ++ q)) o (u + length r) l
    ∙ ap (λ (z : List ℕ). z ++ (r ++ q)) (sym (take-take a u b h))
    ∙ ap (λ (z : List ℕ). take a (take u b) ++ (r ++ z)) (sym (rest_of_front b a u h))

-- the used places after the stretch from f to t was taken out
pub front_without : (b x : List ℕ) (u f t : ℕ) → f ≤ t → t ≤ u →
    take (u - (t - f)) x ≡ take f b ++ take (u - t) (drop t b) → take (u - (t - f)) x ≡ take f (take u b) ++ drop t (take u b)
front_without b x u f t h k e =
    e ∙ ap (λ (z : List ℕ). z ++ take (u - t) (drop t b)) (sym (take-take f u b (omega arith)))
    ∙ ap (λ (z : List ℕ). take f (take u b) ++ z) (sym (rest_of_front b t u k))
