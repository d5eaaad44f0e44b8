-- What is written for an edit that has passed the checks.
use Rattle.std.specs.Prelude.{◌≡◌, ℕ, List, Ok, Err, Result}
use Rattle.gauge.specs.Semirings.{Ops}
use Rattle.gauge.specs.declared.matrix.EdgeMatrix.{EdgeMatrix}
use Rattle.network.specs.Net.{signals as signals_of}
use Rattle.network.specs.Rewiring.{Downstream}
use Rattle.network.specs.declared.network.Network.{Network}
use Rattle.fields.specs.declared.edit.Edit.{Edit}
use Rattle.fields.specs.declared.edit.Edit.TheVariants.{SetDelay, SetStart, Rewire, Cut}
use Rattle.book.specs.declared.edit_fault.EditFault.{EditFault}
use Rattle.book.specs.declared.edit_fault.EditFault.TheVariants.{ClosesCycle}
use Rattle.board.specs.Steps.{signals_after, starts_after, weights_after}

-- the edit would close a cycle
abbrev pub Closing : Network → Edit → Type 0
Closing net (SetDelay g k t) = ⊥
Closing net (SetStart s t) = ⊥
Closing net (Rewire g k u) = Downstream (signals_of net) g u
Closing net (Cut g k) = ⊥

module _ {G : Type 0} (r : Ops G) (delays : ℕ → ℕ → G) (e : Edit) (at : ℕ) where
  pub record Wrote (net net' : Network) (starts starts' weights weights' : List (EdgeMatrix G)) : Type 0 where
    pub apart : Closing net e → ⊥
    pub signals : signals_of net' ≡ signals_after e (signals_of net)
    pub starts_are : starts' ≡ starts_after r delays e starts
    pub weights_are : weights' ≡ weights_after r delays (signals_of net) e weights

  pub record Left (net net' : Network) (starts starts' weights weights' : List (EdgeMatrix G)) (d : EditFault) : Type 0 where
    pub closing : Closing net e
    pub fault : d ≡ ClosesCycle at
    pub network : net' ≡ net
    pub starts_are : starts' ≡ starts
    pub weights_are : weights' ≡ weights

  -- the network and the tables are as the accepted edit says; or it would close a cycle, and they are as they were
  abbrev pub Written : (net net' : Network) (starts starts' weights weights' : List (EdgeMatrix G)) → Result (Unit {0}) EditFault → Type 0
  Written net net' starts starts' weights weights' (Ok u) = Wrote net net' starts starts' weights weights'
  Written net net' starts starts' weights weights' (Err d) = Left net net' starts starts' weights weights' d
