-- A network read forwards: the taps into a signal are its pins, in order.
use Rattle.std.proofs.Common.{sym, subst, arith}
use Rattle.std.specs.Prelude.{ℕ, ◌+◌, ◌*◌, ◌<◌, ◌≤◌, map}
use Rattle.std.specs.List.{range_with_len, AllByRecursion}
use Rattle.std.proofs.lemmas.List.FromFn.{length-map-range_with_len, get_or-map-range_with_len}
use Rattle.std.proofs.ByRecursion.{All-from_get_or}
use Rattle.network.specs.Laws.{turns_numbered}
use Rattle.network.specs.Net.{size, fanin, from, turn, signal_by_turn}
use Rattle.network.specs.declared.network.Network.{Network}
use Rattle.opening.specs.declared.forwards.Forwards.{Forwards}
use Rattle.settling.specs.declared.tap.Tap.{Tap}
use Rattle.settling.specs.Shapes.{Shape, Sound}

-- pin k of the signal s: it reads a signal, and its weight is in cell 4 s + k
abbrev pub tap_of : Network → ℕ → ℕ → Tap
tap_of net s k = record { from = from net s k; cell = 4 * s + k }

abbrev pub forwards : Network → Shape
forwards net = record {
  size = size net;
  taps = λ s. map (tap_of net s) (range_with_len 0 (fanin net s));
  turn = turn net;
  signal_at = signal_by_turn net;
}

-- what holds of f k for each k below n holds of all the list
pub all_counted : {X : Type 0} (P : X → Type 0) (f : ℕ → X) (n : ℕ) → ((k : ℕ) → k < n → P (f k)) → AllByRecursion P (map f (range_with_len 0 n))
all_counted P f n each =
    All-from_get_or P (map f (range_with_len 0 n)) (f 0)
    (λ i h.
    let below : i < n = omega (arith, length-map-range_with_len f 0 n) in
    subst P (sym (get_or-map-range_with_len f 0 n i i (f 0) below (omega arith))) (each i below))

pub forwards_sound : (net : Network) → Sound (forwards net)
forwards_sound net = record {
  turn_below = λ s h. ((turns_numbered net).0 s h).0;
  turn_back = λ s h. ((turns_numbered net).0 s h).1;
  signal_below = λ t h. ((turns_numbered net).1 t h).0;
  signal_back = λ t h. ((turns_numbered net).1 t h).1;
  climbs = λ s h. all_counted _ (tap_of net s) (fanin net s) (λ k there. (net.wired s k there, net.climbs s k there));
}

-- the same of a network that is lent
abbrev pub shape_of : Forwards → Shape
shape_of w = forwards w.network.now

pub sound_of : (w : Forwards) → Sound (shape_of w)
sound_of w = forwards_sound w.network.now

pub few_of : (w : Forwards) → (shape_of w).size ≤ 65535
few_of w = omega (arith, w.network.now.few)
