-- A web over the natural numbers: two wires from 0 to 2, a diamond from 0 through 1 and 2 to 3, and no wires at 4.
use Rattle.std.specs.Prelude.{◌≡◌, ℕ, ◌+◌, ◌*◌, List, [], ◌∷◌, map, length, nat_eq, slice_index, slice_index_or}
use Rattle.gauge.specs.Semirings.{Ops}
use Rattle.paths.specs.Web.{Web, Incoming, Ranked, weight, edited_at}
use Rattle.paths.specs.Listing.{paths}
use Rattle.paths.specs.Sums.{path_sum}
use Rattle.paths.specs.Edits.{edit_count}

-- the numbers with + and ×
abbrev pub numbers : Ops ℕ
numbers = record { zero = 0; one = 1; plus = ◌+◌; times = ◌*◌; same = nat_eq }

-- a wire that comes from u with weight w
abbrev pub wire : ℕ → ℕ → Incoming ℕ
wire u w = record { from = u; weight = w }

-- the starts and the wires, signal by signal
abbrev pub diamond : Web ℕ
diamond = record {
  size = 5;
  start = λ s. slice_index (1 ∷ 0 ∷ 10 ∷ 0 ∷ 13 ∷ []) s;
  into = λ s. slice_index_or ([] ∷ (wire 0 2 ∷ []) ∷ (wire 0 4 ∷ wire 0 4 ∷ []) ∷ (wire 1 7 ∷ wire 2 11 ∷ []) ∷ []) s [];
}

-- the same web with start 4 at 1
abbrev pub raised : Web ℕ
raised = edited_at 1 4 (wire 0 2 ∷ []) diamond

-- its signals
abbrev pub signals : List ℕ
signals = 0 ∷ 1 ∷ 2 ∷ 3 ∷ 4 ∷ []

-- how many paths end at each signal, the weights of those at 3, the sums, and what raising 1 changes: itself and 3
pub record AddsUp : Type 0 where
  pub ranked : Ranked diamond (λ s. s)
  pub counts : map (λ s. length (paths diamond s)) signals ≡ 1 ∷ 2 ∷ 3 ∷ 6 ∷ 1 ∷ []
  pub weights : map (weight numbers diamond) (paths diamond 3) ≡ 0 ∷ 0 ∷ 14 ∷ 110 ∷ 44 ∷ 44 ∷ []
  pub sums : map (path_sum numbers diamond) signals ≡ 1 ∷ 2 ∷ 18 ∷ 212 ∷ 13 ∷ []
  pub raises : map (path_sum numbers raised) signals ≡ 1 ∷ 6 ∷ 18 ∷ 240 ∷ 13 ∷ []
  pub edit : edit_count numbers 1 raised (path_sum numbers diamond) (path_sum numbers raised) ≡ 2
