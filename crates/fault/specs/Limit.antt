-- How many bytes a file may have: a netlist, a delay table or a script.
use Rattle.std.specs.Prelude.{ℕ}

abbrev pub max_bytes : ℕ
max_bytes = 32768
