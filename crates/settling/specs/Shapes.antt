-- Signals, the taps into them, and turns by which every tap climbs.
use Rattle.std.specs.Prelude.{◌≡◌, ℕ, ◌<◌, ◌≤◌, Bool, true, false, ◌&&◌, ◌||◌, List, nat_eq, nat_lt, slice_index_or}
use Rattle.std.specs.List.{AllByRecursion}
use Rattle.paths.specs.Edits.{any}
use Rattle.settling.specs.declared.tap.Tap.{Tap}

-- the signals are the numbers below size; each has a list of the taps into it and a turn, and each turn has a signal
pub record Shape : Type 0 where
  pub size : ℕ
  pub taps : ℕ → List Tap
  pub turn : ℕ → ℕ
  pub signal_at : ℕ → ℕ

-- turns number the signals from 0 without gaps, and every tap comes from a signal of a smaller turn
pub record Sound (shape : Shape) : Type 0 where
  pub turn_below : (s : ℕ) → s < shape.size → shape.turn s < shape.size
  pub turn_back : (s : ℕ) → s < shape.size → shape.signal_at (shape.turn s) ≡ s
  pub signal_below : (t : ℕ) → t < shape.size → shape.signal_at t < shape.size
  pub signal_back : (t : ℕ) → t < shape.size → shape.turn (shape.signal_at t) ≡ t
  pub climbs : (s : ℕ) → s < shape.size → AllByRecursion (λ x. (x.from < shape.size) × (shape.turn x.from < shape.turn s)) (shape.taps s)

-- the tap in place k of the list of s
abbrev pub tap_at : Shape → ℕ → ℕ → Tap
tap_at shape s k = slice_index_or (shape.taps s) k (record { from = 0; cell = 0 })

-- s has a tap from u
abbrev pub feeds : Shape → ℕ → ℕ → Bool
feeds shape u s = any (λ x. nat_eq x.from u) (shape.taps s)

-- the turns that wait, and those of the signals that pass the test
abbrev pub with_turns_of : Shape → (test waits : ℕ → Bool) → ℕ → Bool
with_turns_of shape test waits t = (nat_lt t shape.size && test (shape.signal_at t)) || waits t

-- s is the least signal from a on that u feeds
abbrev pub FirstFed : Shape → (u a : ℕ) → ℕ → Type 0
FirstFed shape u a s = (a ≤ s) × (s < shape.size) × (feeds shape u s ≡ true) × ((k : ℕ) → a ≤ k → k < s → feeds shape u k ≡ false)

-- u feeds no signal from a on
abbrev pub NoneFed : Shape → (u a : ℕ) → Type 0
NoneFed shape u a = (k : ℕ) → a ≤ k → k < shape.size → feeds shape u k ≡ false
