-- Vouching with the window's threshold, which is cut at the modulus, is vouching with the threshold uncut.
use Rattle.std.proofs.Common.{◌≡◌, ℕ, ◌*◌, ◌<◌, ◌≤◌, min, ◌&&◌, ltb, leb, pos, ◌-ℤ◌, sym, ap, ◌∙◌, ⊎_elim, arith, le-leb}
use borrow.Author.Tests.{lt-leb}
use Rattle.std.proofs.lemmas.Bool.{cases_lt}
use Rattle.grid.proofs.Congruence.{residue_below}
use Rattle.search.specs.Points.{distance}
use Rattle.search.specs.Configurations.{gap}
use Rattle.search.specs.Vouching.{config_of, is_within, is_filling, vouching}
use Rattle.search.specs.declared.evidence.Evidence.{Evidence}

-- a number below M is at least T exactly when it is at least T cut at M
cut_test : (M T w : ℕ) → w < M → leb (min T M) w ≡ leb T w
cut_test M T w below =
    ⊎_elim
    (λ (h : w < T). lt-leb _ _ (omega arith) ∙ sym (lt-leb _ _ h))
    (λ (h : T ≤ w). le-leb _ _ (omega arith) ∙ sym (le-leb _ _ h))
    (cases_lt w T)

pub vouching_uncut : (M a b T n : ℕ) (e : Evidence) → 0 < M → vouching M a b (min T M) n e ≡ vouching M a b T n e
vouching_uncut M a b T n e some =
    let w = distance M a b e.r in
    ap (λ t. is_within M n e && (is_filling M a e && (t && ltb w (gap n (config_of e) e.r))))
    (cut_test M T w (residue_below M (pos b -ℤ pos (e.r * a)) some))
