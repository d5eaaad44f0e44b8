-- Turns that number signals from 0 without gaps.
use Rattle.std.specs.Prelude.{ℕ, ◌≤◌, List, length, vec_items, vec_capacity, slice_index}
use Rattle.network.specs.declared.turns.Turns.{Turns}

-- the turn of each signal, and the signal at each turn
abbrev pub turns_of : Turns → List ℕ
turns_of t = vec_items t.turn_of

abbrev pub order_of : Turns → List ℕ
order_of t = vec_items t.order

-- how many signals there are
abbrev pub count_of : Turns → ℕ
count_of t = length (turns_of t)

-- room for so many signals
abbrev pub HasRoom : ℕ → Turns → Type 0
HasRoom n t = (n ≤ vec_capacity t.turn_of) × (n ≤ vec_capacity t.order)

-- the turn of a signal, and the signal at a turn
abbrev pub turn_in : Turns → ℕ → ℕ
turn_in t s = slice_index (turns_of t) s

abbrev pub signal_in : Turns → ℕ → ℕ
signal_in t i = slice_index (order_of t) i
