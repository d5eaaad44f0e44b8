-- Spans past the end, and drivers of the code. Assumes nothing.
use Rattle.std.proofs.Common.{◌≡◌, ℕ, not, List, refl}
use Rattle.network.specs.declared.span.Span.{Span}
use Rattle.network.specs.Wiring.{is_driven_of}
use Rattle.network.specs.declared.signal.Driver.{Driver}
use Rattle.network.specs.declared.signal.Driver.TheVariants.{Undriven, Input, Latched, Gated}
use Rattle.netlist.specs.Signals.{is_undriven}
use Rattle.netlist.specs.Views.{driver_on}

-- what the checker reads past the end
abbrev pub no_span : Span
no_span = record { at = 0; len = 0 }

pub undriven_is : (t : List ℕ) (d : Driver) → is_undriven (driver_on t d) ≡ not (is_driven_of d)
undriven_is t Undriven = refl
undriven_is t Input = refl
undriven_is t (Latched l) = refl
undriven_is t (Gated g) = refl
