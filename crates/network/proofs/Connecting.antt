-- A network with a new feeder at a pin, where the feeder is not downstream of the gate.
use Rattle.std.proofs.Common.{◌≡◌, ℕ, ◌<◌, false, List, inl, refl, arith}
use Rattle.network.specs.Marks.{marked, MarksReached}
use Rattle.network.specs.Net.{signals, size, fanin}
use Rattle.network.specs.Renumbering.{Renumbered}
use Rattle.network.specs.Rewiring.{rewired_at}
use Rattle.network.specs.Turns.{turns_of, order_of, count_of}
use Rattle.network.specs.Wiring.{Climbs}
use Rattle.network.specs.declared.network.Network.{Network}
use Rattle.network.proofs.Ends.{ends_within}
use Rattle.network.proofs.Marking.{marks_closed}
use Rattle.network.proofs.Renumbered.{marked_later, still_climbs}
use Rattle.network.proofs.Rewired.{rewired_climbs}

-- wires still climb once what is marked goes last
pub climbs_anew : (net : Network) (marks turns' : List ℕ) → Renumbered marks (order_of net.turns) turns' → (gate pin feeder : ℕ) → pin < fanin net gate → feeder < size net → MarksReached net gate marks → marked marks feeder ≡ false → Climbs (rewired_at (signals net) gate pin feeder) turns'
climbs_anew net marks turns' renumbered gate pin feeder there known reached apart =
    let t = net.turns in
    let here = ends_within (signals net) gate pin there in
    let in' : (s : ℕ) → s < size net → s < count_of t = λ s l. omega (arith, l, net.counted) in
    let new = marked_later (turns_of t) (order_of t) marks turns' (count_of t) t.long t.numbered t.listed renumbered feeder gate (in' feeder known) (in' gate here) apart (reached.all gate here (inl refl)) in
    rewired_climbs (signals net) gate pin feeder there turns' new
    (λ s k l. still_climbs (turns_of t) (order_of t) marks turns' (count_of t) t.long t.numbered t.listed renumbered _ s (in' _ (net.wired s k l)) (in' s (ends_within (signals net) s k l)) (net.climbs s k l) (marks_closed net gate marks reached s k l))
