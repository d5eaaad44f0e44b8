-- Which signals a signal reaches, and cycles.
use Rattle.std.specs.Prelude.{◌≡◌, ℕ, ◌<◌, List}
use Rattle.network.specs.Wiring.{wires, feeder}
use Rattle.network.specs.declared.signal.Signal.{Signal}

-- a wire from u to s: some pin of s reads u
abbrev pub Wire : List Signal → ℕ → ℕ → Type 0
Wire xs u s = (k : ℕ) × (k < wires xs s) × (feeder xs s k ≡ u)

-- s is reached from u by one or more wires, W saying from where to where there is one
pub data Reaches (W : ℕ → ℕ → Type 0) : ℕ → ℕ → Type 0 where
  wire : {u s : ℕ} → W u s → Reaches W u s
  further : {u v s : ℕ} → Reaches W u v → W v s → Reaches W u s

-- a signal on a cycle is reached from itself
abbrev pub OnCycle : List Signal → ℕ → Type 0
OnCycle xs s = Reaches (Wire xs) s s

-- no signal is on a cycle
abbrev pub Acyclic : List Signal → Type 0
Acyclic xs = (s : ℕ) → OnCycle xs s → ⊥

-- s is on a cycle, and no lower signal is
pub record LowestOnCycle (xs : List Signal) (s : ℕ) : Type 0 where
  pub cyclic : OnCycle xs s
  pub lowest : (c : ℕ) → c < s → OnCycle xs c → ⊥
