-- All paths that end at a signal, as a list.
use Rattle.std.specs.Prelude.{◌≡◌, ℕ, zero, suc, ◌⊎◌, List, [], ◌∷◌, ◌++◌, map}
use Rattle.std.specs.List.{flat_map}
use Rattle.paths.specs.Web.{Web, Incoming, Wire, Path}

-- the wires into s that stand in the slots from i on
abbrev pub numbered : {V : Type 0} → ℕ → ℕ → List (Incoming V) → List (Wire V)
numbered s i [] = []
numbered s i (x ∷ xs) = record { from = x.from; to = s; slot = i; weight = x.weight } ∷ numbered s (suc i) xs

-- the wires into s
abbrev pub wires_into : {V : Type 0} → Web V → ℕ → List (Wire V)
wires_into web s = numbered s 0 (web.into s)

-- the path without wires at s
abbrev pub empty_at : {V : Type 0} → ℕ → Path V
empty_at s = record { first = s; wires = [] }

-- the path p, and then the wire w
abbrev pub extended : {V : Type 0} → Wire V → Path V → Path V
extended w p = record { first = p.first; wires = p.wires ++ (w ∷ []) }

-- the paths of fewer than n wires that end at s
abbrev pub paths_under : {V : Type 0} → Web V → ℕ → ℕ → List (Path V)
paths_under web zero s = []
paths_under web (suc n) s = empty_at s ∷ flat_map (λ w. map (extended w) (paths_under web n w.from)) (wires_into web s)

-- the paths that end at s: in a ranked web each has fewer wires than there are signals
unfoldable pub paths : {V : Type 0} → Web V → ℕ → List (Path V)
paths web s = paths_under web web.size s

-- x stands in the list
abbrev pub In : {A : Type 0} → A → List A → Type 0
In x [] = ⊥
In x (y ∷ ys) = (x ≡ y) ⊎ In x ys

-- nothing stands there twice
abbrev pub Distinct : {A : Type 0} → List A → Type 0
Distinct [] = Unit {0}
Distinct (x ∷ xs) = ¬ In x xs × Distinct xs
