-- How many signals a network may have.
use Rattle.std.specs.Prelude.{ℕ}

abbrev pub max_signals : ℕ
max_signals = 255
