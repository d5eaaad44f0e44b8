use Rattle.std.proofs.Common.{◌≡◌, ℕ, ◌<◌, ◌≤◌, List, length, get_or, set, vec_len, sym, ap, ◌∙◌, subst, arith}
use Rattle.std.proofs.lemmas.List.{get_or_read_under}
use Rattle.network.specs.Limit.{max_signals}
use Rattle.network.specs.Net.{signals, size}
use Rattle.network.specs.Rewiring.{rewired, rewired_at}
use Rattle.network.specs.Turns.{turns_of}
use Rattle.network.specs.Wiring.{absent, number_of_pins, Driven, Wired, LatchesWired, Climbs}
use Rattle.network.specs.declared.network.Network.{Network}
use Rattle.network.specs.declared.signal.Signal.{Signal}
use Rattle.network.proofs.Connecting.{climbs_anew}
use Rattle.network.proofs.Ends.{ends_within}
use Rattle.network.proofs.Rewired.{rewired_length, rewired_driven, rewired_wired, rewired_latched}
use Rattle.network.proofs.network.Network.connect.Goals as goal

here : (net : Network) (gate pin : ℕ) → pin < number_of_pins (get_or (signals net) gate absent).driver → gate < vec_len net.signals
here net gate pin there = omega (arith, ends_within (signals net) gate pin there, net.signals.ok.0)

pub index-requires : goal.index-requires
index-requires c = here c.args.self.now c.args.gate c.args.pin c.requires.there

read : (net : Network) (gate pin : ℕ) (x : Signal) → pin < number_of_pins (get_or (signals net) gate absent).driver → x ≡ get_or (signals net) gate x → x ≡ get_or (signals net) gate absent
read net gate pin x there e = get_or_read_under (signals net) gate (vec_len net.signals) x absent e (here net gate pin there) net.signals.ok.0

pub with_feeder-requires : goal.with_feeder-requires
with_feeder-requires c =
    let is = read c.args.self.now c.args.gate c.args.pin c.index.result.now c.requires.there c.index.ensures in
    subst (λ (x : Signal). c.args.pin < number_of_pins x.driver) (sym is) c.requires.there

pub index_mut-requires : goal.index_mut-requires
index_mut-requires c = here c.args.self.now c.args.gate c.args.pin c.requires.there

pub invariant_of-self : goal.invariant_of-self
invariant_of-self c =
    let net = c.args.self.now in
    let xs = signals net in
    let gate = c.args.gate in
    let pin = c.args.pin in
    let fed = c.args.feeder in
    let moved = c.put_last.ensures in
    let is = read net gate pin c.index.result.now c.requires.there c.index.ensures in
    let written : rewired_at xs gate pin fed ≡ set xs gate c.with_feeder.result = sym (ap (set xs gate) (c.with_feeder.ensures ∙ ap (λ (x : Signal). rewired x pin fed) is)) in
    let long : length (set xs gate c.with_feeder.result) ≡ size net = ap length (sym written) ∙ rewired_length xs gate pin fed in
    let turns' = turns_of c.put_last.new.self in
    record {
      few = subst (λ n. n ≤ max_signals) (sym long) net.few;
      driven = subst Driven written (rewired_driven xs gate pin fed net.driven);
      wired = subst Wired written (rewired_wired xs gate pin fed c.requires.there c.requires.known net.wired);
      latched = subst LatchesWired written (rewired_latched xs gate pin fed net.latched);
      counted = moved.long ∙ net.counted ∙ sym long;
      climbs = subst (λ (ys : List Signal). Climbs ys turns') written (climbs_anew net c.args.marks.now turns' moved.moved gate pin fed c.requires.there c.requires.known c.requires.reached c.requires.apart);
    }

pub returns : goal.returns
returns c =
    let net = c.args.self.now in
    let is = read net c.args.gate c.args.pin c.index.result.now c.requires.there c.index.ensures in
    ap (set (signals net) c.args.gate) (c.with_feeder.ensures ∙ ap (λ (x : Signal). rewired x c.args.pin c.args.feeder) is)
