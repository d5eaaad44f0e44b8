-- Whether one signal leads to another.
use Rattle.std.specs.Prelude.{ℕ, Bool, nat_eq}
use Rattle.paths.specs.Web.{Web, Path}
use Rattle.paths.specs.Listing.{paths}
use Rattle.paths.specs.Edits.{any}

-- some path that ends at s begins at a: s is a, or is reached from it by wires
abbrev pub reached : {V : Type 0} → Web V → (a s : ℕ) → Bool
reached {V} web a s = any (λ (p : Path V). nat_eq p.first a) (paths web s)
