-- A feeder that is downstream of the gate closes a cycle.
use Rattle.std.proofs.Common.{◌≡◌, ℕ, ◌<◌, ◌&&◌, eqb, List, sym, refl, ◌∙◌, subst, ⊎_elim}
use Rattle.std.proofs.lemmas.Bool.{and_from, and_left, eq-eqb, ne_eqb, cond-true, cond-false}
use Rattle.network.specs.Reach.{Wire, Reaches, wire, further, OnCycle, Acyclic}
use Rattle.network.specs.Rewiring.{Downstream, rewired_at}
use Rattle.network.specs.Wiring.{wires, feeder}
use Rattle.network.specs.declared.signal.Signal.{Signal}
use Rattle.network.proofs.Rewired.{rewired_fanin, rewired_feeder}

module _ (xs : List Signal) (g k u : ℕ) (acyclic : Acyclic xs) (there : k < wires xs g) where
  abbrev after : List Signal
  after = rewired_at xs g k u

  -- a wire to another signal than the gate stays
  stays : (v s : ℕ) → (s ≡ g → ⊥) → Wire xs v s → Wire after v s
  stays v s ne w =
      let j = w.0 in
      let old = cond-false {A = ℕ} (eqb s g && eqb j k) u (feeder xs s j) (and_left (eqb s g) (eqb j k) (ne_eqb s g ne)) in
      (j, subst (λ n. j < n) (sym (rewired_fanin xs g k u s)) w.1, rewired_feeder xs g k u s j there ∙ old ∙ w.2)

  -- a way from the gate doesn't come back to it, and so stays
  still_reaches : (s : ℕ) → Reaches (Wire xs) g s → Reaches (Wire after) g s
  still_reaches s (wire w) = wire (stays g s (λ e. acyclic g (subst (λ x. Reaches (Wire xs) g x) e (wire w))) w)
  still_reaches s (further {v = v} way w) =
      further (still_reaches v way) (stays v s (λ e. acyclic g (subst (λ x. Reaches (Wire xs) g x) e (further way w))) w)

  new_wire : Wire after u g
  new_wire =
      let new = cond-true {A = ℕ} (eqb g g && eqb k k) u (feeder xs g k) (and_from (eqb g g) (eqb k k) (eq-eqb g g refl) (eq-eqb k k refl)) in
      (k, subst (λ n. k < n) (sym (rewired_fanin xs g k u g)) there, rewired_feeder xs g k u g k there ∙ new)

  pub closes : Downstream xs g u → OnCycle after g
  closes reached = ⊎_elim (λ e. wire (subst (λ x. Wire after x g) e new_wire)) (λ way. further (still_reaches u way) new_wire) reached
