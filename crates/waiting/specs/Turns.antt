-- Sets of turns, as tests on numbers. Assumes nothing.
use Rattle.std.specs.Prelude.{◌≡◌, ℕ, ◌<◌, ◌≤◌, Bool, true, false, ◌||◌, List, [], ◌∷◌, Some, None, Option, ◌==◌}
use Rattle.std.specs.List.{AllByRecursion}

-- no turn waits
abbrev pub Empty : (ℕ → Bool) → Type 0
Empty waits = (t : ℕ) → waits t ≡ false

-- t waits, and every turn that waits is at least t
abbrev pub Least : (ℕ → Bool) → ℕ → Type 0
Least waits t = (waits t ≡ true) × ((u : ℕ) → waits u ≡ true → t ≤ u)

-- the answer is the turn t
abbrev pub gives : Option ℕ → ℕ → Bool
gives None t = false
gives (Some u) t = t == u

-- t stands in the list
abbrev pub stands : List ℕ → ℕ → Bool
stands [] t = false
stands (x ∷ xs) t = t == x || stands xs t

-- each number is less than all after it
abbrev pub Rising : List ℕ → Type 0
Rising [] = Unit {0}
Rising (x ∷ xs) = AllByRecursion (λ y. x < y) xs × Rising xs

-- of the turns that waited, some are given and the others wait still
pub record Drained (waited : ℕ → Bool) (given : List ℕ) (waits : ℕ → Bool) : Type 0 where
  -- those given rise strictly
  pub rising : Rising given
  -- a turn waited exactly if it is given or waits still
  pub either : (t : ℕ) → waited t ≡ (stands given t || waits t)
  -- those given are less than each that waits still
  pub lesser : (t : ℕ) → waits t ≡ true → AllByRecursion (λ x. x < t) given
