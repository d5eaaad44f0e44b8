-- Signals that get their turns one by one.
use Rattle.std.specs.Prelude.{◌≡◌, ℕ, ◌<◌, ◌≤◌, Bool, true, false, List, length, Some, None, Option, nat_le, slice_index}
use Rattle.std.specs.List.{list_any}
use Rattle.network.specs.Turns.{count_of, turn_in}
use Rattle.network.specs.Wiring.{wires, feeder, feeders}
use Rattle.network.specs.declared.signal.Signal.{Signal}
use Rattle.network.specs.declared.turns.Turns.{Turns}

-- each signal has a turn, and every wire climbs that ends at one of the first turns
pub record Ranked (xs : List Signal) (turns : Turns) (placed : ℕ) : Type 0 where
  pub counted : count_of turns ≡ length xs
  pub climbs : (s k : ℕ) → k < wires xs s → turn_in turns s < placed → turn_in turns (feeder xs s k) < turn_in turns s

-- a pin of s reads a signal that has none of the first turns
abbrev pub waits : List Signal → List ℕ → ℕ → ℕ → Bool
waits xs turns placed s = list_any (λ u. nat_le placed (slice_index turns u)) (feeders xs s)

-- past the placed turns every signal waits, or the one of the turn t doesn't
abbrev pub Ready : List Signal → List ℕ → List ℕ → ℕ → Option ℕ → Type 0
Ready xs turns order placed None = (t : ℕ) → placed ≤ t → t < length xs → waits xs turns placed (slice_index order t) ≡ true
Ready xs turns order placed (Some t) = (placed ≤ t) × (t < length xs) × (waits xs turns placed (slice_index order t) ≡ false)
