-- What the cells hold once an edit has settled, and how many signals it works again.
use Rattle.std.specs.Prelude.{◌≡◌, ℕ, zero, suc, ◌+◌, ◌<◌, Bool, false, cond, not, ◌&&◌, ◌||◌, List, [], ◌∷◌, ◌==◌}
use Rattle.gauge.specs.Semirings.{Ops}
use Rattle.paths.specs.Web.{Web}
use Rattle.paths.specs.Sums.{worked}

-- some element passes the test
abbrev pub any : {A : Type 0} → (A → Bool) → List A → Bool
any test [] = false
any test (x ∷ xs) = test x || any test xs

-- how many numbers below n pass the test
abbrev pub count_below : ℕ → (ℕ → Bool) → ℕ
count_below zero test = 0
count_below (suc n) test = cond (test n) 1 0 + count_below n test

-- e alone
abbrev pub only : ℕ → ℕ → Bool
only e s = s == e

module _ {V : Type 0} (r : Ops V) where
  -- some wire into s comes from a changed cell
  unfoldable pub fed : Web V → (before after : ℕ → V) → ℕ → Bool
  fed web before after s = any (λ x. not (r.same (before x.from) (after x.from))) (web.into s)

  -- a signal that is edited or fed by a changed cell is worked again, and every other cell is as before
  abbrev pub Settled : (edited : ℕ → Bool) → Web V → (before after : ℕ → V) → Type 0
  Settled edited web before after =
      (s : ℕ) → s < web.size → after s ≡ cond (edited s || fed web before after s) (worked r web after s) (before s)

  -- the count of an edit at e: 1, and 1 more for each other signal that is fed by a changed cell
  unfoldable pub edit_count : ℕ → Web V → (before after : ℕ → V) → ℕ
  edit_count e web before after = 1 + count_below web.size (λ s. not (only e s) && fed web before after s)
