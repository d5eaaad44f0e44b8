-- The driver of a signal, by the list of signals and by the network's answer.
use Rattle.std.proofs.Common.{◌≡◌, ℕ, zero, suc, List, [], ◌∷◌, refl}
use Rattle.std.specs.List.{slice_get}
use Rattle.std.specs.Option.{option_map, unwrap_or}
use Rattle.network.specs.Wiring.{driver}
use Rattle.network.specs.declared.signal.Driver.TheVariants.{Undriven}
use Rattle.network.specs.declared.signal.Signal.{Signal}

pub driver_is : (xs : List Signal) (s : ℕ) → unwrap_or (option_map (λ (x : Signal). x.driver) (slice_get xs s)) Undriven ≡ driver xs s
driver_is [] s = refl
driver_is (x ∷ xs) zero = refl
driver_is (x ∷ xs) (suc s) = driver_is xs s
