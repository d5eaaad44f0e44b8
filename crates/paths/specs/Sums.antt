-- Path sums, and values that agree with the wires.
use Rattle.std.specs.Prelude.{◌≡◌, ℕ, ◌<◌, List, [], ◌∷◌, map}
use Rattle.gauge.specs.Semirings.{Ops}
use Rattle.paths.specs.Web.{Web, Incoming, weight}
use Rattle.paths.specs.Listing.{paths}

-- ⊕ over a list
abbrev pub total : {V : Type 0} → Ops V → List V → V
total r [] = r.zero
total r (x ∷ xs) = r.plus x (total r xs)

-- ⊕ over the weights of all paths that end at s
unfoldable pub path_sum : {V : Type 0} → Ops V → Web V → ℕ → V
path_sum r web s = total r (map (weight r web) (paths web s))

-- what the wire brings: the value where it comes from ⊗ its weight
abbrev pub brought : {V : Type 0} → Ops V → (ℕ → V) → Incoming V → V
brought r v x = r.times (v x.from) x.weight

-- the start of s ⊕ what the wires into s bring
unfoldable pub worked : {V : Type 0} → Ops V → Web V → (ℕ → V) → ℕ → V
worked r web v s = r.plus (web.start s) (total r (map (brought r v) (web.into s)))

-- the same as a loop works it, which begins with y and adds what each of the wires xs brings
abbrev pub gathered : {V : Type 0} → Ops V → (ℕ → V) → V → List (Incoming V) → V
gathered r v y [] = y
gathered r v y (x ∷ xs) = gathered r v (r.plus y (brought r v x)) xs

module _ {V : Type 0} (r : Ops V) (web : Web V) (v : ℕ → V) where
  -- every value is what its wires make of the others
  abbrev pub Consistent : Type 0
  Consistent = (s : ℕ) → s < web.size → v s ≡ worked r web v s

  -- every value is the signal's path sum
  abbrev pub AreSums : Type 0
  AreSums = (s : ℕ) → s < web.size → v s ≡ path_sum r web s

-- the same values, with the arguments of ⊗ swapped
abbrev pub mirror : {V : Type 0} → Ops V → Ops V
mirror r = record { zero = r.zero; one = r.one; plus = r.plus; times = λ x y. r.times y x; same = r.same }
