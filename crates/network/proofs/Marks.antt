-- One mark more.
use Rattle.std.proofs.Common.{◌≡◌, ℕ, zero, suc, ◌+◌, ◌<◌, Bool, true, false, cond, not, ◌⊎◌, List, [], ◌∷◌, length, set, replicate, sym, refl, ap, ◌∙◌, subst, inl, inr, ⊎_elim, arith}
use Rattle.std.proofs.lemmas.List.{get_or-set_same, get_or-set_other}
use Rattle.std.proofs.lemmas.List.Sums.{sum_by-cons, sum_by-set, count_by-le-length}
use Rattle.std.proofs.lemmas.Bool.{cases_eq}
use Rattle.network.specs.Search.{marked, unmarked}

-- what a cell adds to the count of those without a mark
abbrev blank : Bool → ℕ
blank b = cond (not b) 1 0

-- where every cell adds to it, none has a mark
pub all_blank : (marks : List Bool) → unmarked marks ≡ length marks → (s : ℕ) → marked marks s ≡ false
all_blank [] e s = refl
all_blank (true ∷ ms) e s = absurd (omega (arith, sum_by-cons blank true ms, count_by-le-length not ms))
all_blank (false ∷ ms) e zero = refl
all_blank (false ∷ ms) e (suc s) = all_blank ms (omega (arith, sum_by-cons blank false ms)) s

pub unmarked_blank : (n : ℕ) → unmarked (replicate n false) ≡ n
unmarked_blank zero = refl
unmarked_blank (suc n) = omega (arith, unmarked_blank n, sum_by-cons blank false (replicate n false))

pub one_fewer : (marks : List Bool) (v : ℕ) → v < length marks → marked marks v ≡ false → unmarked (set marks v true) + 1 ≡ unmarked marks
one_fewer marks v l none =
    let one : blank (marked marks v) ≡ 1 = ap blank none in
    let both = sum_by-set blank marks v true false l in
    omega arith

pub marks_kept : (marks : List Bool) (v u : ℕ) → v < length marks → marked marks u ≡ true → marked (set marks v true) u ≡ true
marks_kept marks v u l m =
    ⊎_elim
    (λ e. subst (λ x. marked (set marks v true) x ≡ true) (sym e) (get_or-set_same marks v true false l))
    (λ ne. get_or-set_other marks v u true false ne ∙ m)
    (cases_eq u v)

pub marks_cases : (marks : List Bool) (v u : ℕ) → marked (set marks v true) u ≡ true → (u ≡ v) ⊎ (marked marks u ≡ true)
marks_cases marks v u m = ⊎_elim inl (λ ne. inr (sym (get_or-set_other marks v u true false ne) ∙ m)) (cases_eq u v)
