-- How signals are numbered anew: those that are marked go last.
use Rattle.std.specs.Prelude.{◌≡◌, ℕ, ◌+◌, ◌<◌, Bool, true, false, cond, not, List, length, slice_index}
use Rattle.network.specs.Marks.{marked}
use Rattle.network.specs.Tally.{many}

-- the numbers of the list are below n, and no two are the same
pub record Distinct (xs : List ℕ) (n : ℕ) : Type 0 where
  pub within : (i : ℕ) → i < length xs → slice_index xs i < n
  pub once : (i j : ℕ) → i < length xs → j < length xs → slice_index xs i ≡ slice_index xs j → i ≡ j

-- a mark is wanted and s has one, or none is wanted and it has none
abbrev pub picks : List ℕ → Bool → ℕ → Bool
picks marks wanted s = cond wanted (marked marks s) (not (marked marks s))

-- the signals picked of the first t turns have the turns from `first` up to `next`, in their order, and the others are as before
pub record Numbered (pick : ℕ → Bool) (order : List ℕ) (first t : ℕ) (before after : List ℕ) (next : ℕ) : Type 0 where
  pub counted : next ≡ first + many (λ u. pick (slice_index order u)) t
  pub picked : (u : ℕ) → u < t → pick (slice_index order u) ≡ true → slice_index after (slice_index order u) ≡ first + many (λ v. pick (slice_index order v)) u
  pub others : (s : ℕ) → pick s ≡ false → slice_index after s ≡ slice_index before s

-- where t of n goes when those that the test holds of go last, and the order stays else
abbrev pub place : (ℕ → Bool) → ℕ → ℕ → ℕ
place test n t = cond (test t) (many (λ u. not (test u)) n + many test t) (many (λ u. not (test u)) t)

-- the turns are those of the order with the marked signals moved last
abbrev pub Renumbered : (marks order turns : List ℕ) → Type 0
Renumbered marks order turns = (t : ℕ) → t < length order → slice_index turns (slice_index order t) ≡ place (λ u. marked marks (slice_index order u)) (length order) t
