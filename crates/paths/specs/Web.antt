-- A web of signals and wires, and the paths along its wires.
use Rattle.std.specs.Prelude.{◌≡◌, ℕ, ◌<◌, Bool, false, cond, List, [], ◌∷◌, ◌==◌}
use Rattle.std.proofs.Math.Option.{some}
use Rattle.std.proofs.Math.ListN.{get_elem?}
use Rattle.std.specs.List.{AllByRecursion}
use Rattle.gauge.specs.Semirings.{Ops}

-- a wire as the signal at its end has it: the signal that it comes from, and its weight
pub record Incoming (V : Type 0) : Type 0 where
  pub from : ℕ
  pub weight : V

-- the signals are the numbers below size; each has a start, and a list of the wires into it
pub record Web (V : Type 0) : Type 0 where
  pub size : ℕ
  pub start : ℕ → V
  pub into : ℕ → List (Incoming V)

-- each signal has a rank below size, and every wire comes from a signal of lower rank
pub record Ranked {V : Type 0} (web : Web V) (rank : ℕ → ℕ) : Type 0 where
  pub below : (s : ℕ) → s < web.size → rank s < web.size
  pub climbs : (s : ℕ) → s < web.size → AllByRecursion (λ x. (x.from < web.size) × (rank x.from < rank s)) (web.into s)

-- the web has such ranks, so no path goes round
abbrev pub Rankable : {V : Type 0} → Web V → Type 0
Rankable web = (rank : ℕ → ℕ) × Ranked web rank

-- a wire with both its ends; its slot is its place in the list of the wires into its end, so parallel wires differ
pub record Wire (V : Type 0) : Type 0 where
  pub from : ℕ
  pub to : ℕ
  pub slot : ℕ
  pub weight : V

-- the wire as the signal at its end has it
abbrev pub incoming_of : {V : Type 0} → Wire V → Incoming V
incoming_of w = record { from = w.from; weight = w.weight }

-- the signal at which a path begins, and its wires in order
pub record Path (V : Type 0) : Type 0 where
  pub first : ℕ
  pub wires : List (Wire V)

module _ {V : Type 0} (web : Web V) where
  -- the web has the wire: it stands in its slot at its end
  abbrev pub IsWire : Wire V → Type 0
  IsWire w = get_elem? (web.into w.to) w.slot ≡ some (incoming_of w)

  -- the wires lead from a to b, each ending where the next begins
  abbrev pub Leads : ℕ → List (Wire V) → ℕ → Type 0
  Leads a [] b = a ≡ b
  Leads a (w ∷ ws) b = IsWire w × (a ≡ w.from) × Leads w.to ws b

  -- p is a path of the web, and ends at s
  abbrev pub EndsAt : ℕ → Path V → Type 0
  EndsAt s p = Leads p.first p.wires s

-- v ⊗ the weights of the wires, in order
abbrev pub along : {V : Type 0} → Ops V → V → List (Wire V) → V
along r v [] = v
along r v (w ∷ ws) = along r (r.times v w.weight) ws

-- the start of the path's first signal ⊗ the weights of its wires, in order
abbrev pub weight : {V : Type 0} → Ops V → Web V → Path V → V
weight r web p = along r (web.start p.first) p.wires

-- the webs have the same signals, and but for the edited ones the same starts and wires
pub record SameExcept {V : Type 0} (edited : ℕ → Bool) (old new : Web V) : Type 0 where
  pub size : new.size ≡ old.size
  pub start : (s : ℕ) → s < new.size → edited s ≡ false → new.start s ≡ old.start s
  pub into : (s : ℕ) → s < new.size → edited s ≡ false → new.into s ≡ old.into s

-- the webs have the same signals, starts and wires
abbrev pub Agree : {V : Type 0} → Web V → Web V → Type 0
Agree = SameExcept (λ s. false)

-- the web with another start and other wires at e
abbrev pub edited_at : {V : Type 0} → ℕ → V → List (Incoming V) → Web V → Web V
edited_at e v xs web = record {
  size = web.size;
  start = λ s. cond (s == e) v (web.start s);
  into = λ s. cond (s == e) xs (web.into s);
}
