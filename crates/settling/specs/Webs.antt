-- What a web's wires and tables mean.
use Rattle.gauge.specs.Semirings.{Ops}
use Rattle.paths.specs.Web.{Web}
use Rattle.settling.specs.declared.web.Web as rust
use Rattle.settling.specs.declared.wiring.Wiring as wiring
use Rattle.settling.specs.Shapes.{Shape}
use Rattle.settling.specs.Tables.{web_on}

module _ {V N : Type 0} {read : wiring.Ghosts N} where
  -- the shape of the wires
  abbrev pub shape_of : rust.Web V N read → Shape
  shape_of web = read.shape web.wiring.now

  -- the signals and wires with the starts and the weights
  abbrev pub web_of : Ops V → rust.Web V N read → Web V
  web_of r web = web_on r (shape_of web) web.starts.now web.weights.now
