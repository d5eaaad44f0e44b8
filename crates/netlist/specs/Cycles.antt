-- Cycles among the signals that a text describes, and what the whole text means.
use Rattle.std.specs.Prelude.{◌≡◌, ℕ, ◌<◌, List, [], length, Ok, Err, Result, slice_index, slice_index_or}
use Rattle.fault.specs.declared.cause.Cause.TheVariants.{Cycle}
use Rattle.network.specs.Net.{signals}
use Rattle.network.specs.Reach.{Reaches}
use Rattle.network.specs.declared.network.Network.{Network}
use Rattle.netlist.specs.declared.netlist_fault.NetlistFault.{NetlistFault}
use Rattle.netlist.specs.Outcomes.{refusal_of}
use Rattle.netlist.specs.Signals.{Driver, undriven, input, latched, gates, Signal, no_signal}
use Rattle.netlist.specs.Faults.{fault}
use Rattle.netlist.specs.Reading.{Verdict, refuses, netlist, read}
use Rattle.netlist.specs.Views.{signals_on}

-- the signals at a driver's pins
abbrev pub pins_of : Driver → List ℕ
pins_of undriven = []
pins_of input = []
pins_of (latched d ws) = []
pins_of (gates ps c) = ps

module _ (ss : List Signal) where
  abbrev pub pins_at : ℕ → List ℕ
  pins_at s = pins_of (slice_index_or ss s no_signal).driver

  -- a wire from u to s: some pin of s reads u
  abbrev pub Wire : ℕ → ℕ → Type 0
  Wire u s = (k : ℕ) × (k < length (pins_at s)) × (slice_index (pins_at s) k ≡ u)

  -- a signal on a cycle is reached from itself by one or more wires
  abbrev pub OnCycle : ℕ → Type 0
  OnCycle s = Reaches Wire s s

  abbrev pub Acyclic : Type 0
  Acyclic = (s : ℕ) → OnCycle s → ⊥

  -- s is on a cycle, and no lower signal is
  pub record LowestOnCycle (s : ℕ) : Type 0 where
    pub cyclic : OnCycle s
    pub lowest : (c : ℕ) → c < s → OnCycle c → ⊥

-- signals without a cycle stand; else the lowest signal on one is refused at its first mention
abbrev pub Closes : Verdict → Verdict → Type 0
Closes (refuses f) v = v ≡ refuses f
Closes (netlist ss) (netlist ts) = (ts ≡ ss) × Acyclic ss
Closes (netlist ss) (refuses f) = (s : ℕ) × LowestOnCycle ss s × (f ≡ fault Cycle (slice_index_or ss s no_signal).name.place)

-- what a text means: line by line, then the missing .end, then signals without a driver, then cycles
abbrev pub Means : List ℕ → Verdict → Type 0
Means text v = Closes (read text) v

-- a text means one thing
abbrev pub MeansOne : Type 0
MeansOne = (text : List ℕ) (v w : Verdict) → Means text v → Means text w → v ≡ w

-- what an answer of the reader says of the text
abbrev pub network_on : List ℕ → Result Network NetlistFault → Verdict
network_on text (Ok net) = netlist (signals_on text (signals net))
network_on text (Err f) = refuses (refusal_of f)
