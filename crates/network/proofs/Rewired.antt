-- What a new feeder at a pin changes of a list of signals, and what it keeps.
use Rattle.std.proofs.Common.{◌≡◌, ℕ, ◌<◌, cond, ◌&&◌, eqb, List, length, get_or, set, sym, refl, ap, ◌∙◌, subst, ⊎_elim, arith, length-set}
use Rattle.std.proofs.lemmas.List.{get_or-set_same, get_or-set_other, set_past}
use Rattle.std.proofs.lemmas.Bool.{cases_eq, cases_lt, cases_Bool, and_parts, and_left, eqb-true, eq-eqb, ne_eqb, cond-true, cond-false}
use Rattle.network.specs.Rewiring.{rewired_driver, rewired, rewired_at}
use Rattle.network.specs.Senses.{raises_in, lowers_in}
use Rattle.network.specs.Wiring.{is_driven_of, is_source, number_of_pins, signal_at_pin, Captures, absent, driver, wires, feeder, Driven, Wired, LatchesWired, Climbs}
use Rattle.network.specs.declared.signal.Driver.{Driver}
use Rattle.network.specs.declared.signal.Driver.TheVariants.{Undriven, Input, Latched, Gated}
use Rattle.network.specs.declared.signal.Signal.{Signal}
use Rattle.network.proofs.Ends.{ends_within}

-- all else of a signal stays
pub rewired_else : (x : Signal) (k u : ℕ) → ((rewired x k u).name ≡ x.name) × ((rewired x k u).output ≡ x.output) × ((rewired x k u).captured ≡ x.captured)
rewired_else x k u = (refl, refl, refl)

pub rewired_length : (xs : List Signal) (g k u : ℕ) → length (rewired_at xs g k u) ≡ length xs
rewired_length xs g k u = length-set xs g (rewired (get_or xs g absent) k u)

-- of a driver: what stays
same_driven : (d : Driver) (k u : ℕ) → is_driven_of (rewired_driver d k u) ≡ is_driven_of d
same_driven Undriven k u = refl
same_driven Input k u = refl
same_driven (Latched l) k u = refl
same_driven (Gated g) k u = refl

same_source : (d : Driver) (k u : ℕ) → is_source (rewired_driver d k u) ≡ is_source d
same_source Undriven k u = refl
same_source Input k u = refl
same_source (Latched l) k u = refl
same_source (Gated g) k u = refl

same_pins : (d : Driver) (k u : ℕ) → number_of_pins (rewired_driver d k u) ≡ number_of_pins d
same_pins Undriven k u = refl
same_pins Input k u = refl
same_pins (Latched l) k u = refl
same_pins (Gated g) k u = refl

same_captures : (d : Driver) (k u x : ℕ) → Captures (rewired_driver d k u) x ≡ Captures d x
same_captures Undriven k u x = refl
same_captures Input k u x = refl
same_captures (Latched l) k u x = refl
same_captures (Gated g) k u x = refl

same_raises : (d : Driver) (k u j : ℕ) → raises_in (rewired_driver d k u) j ≡ raises_in d j
same_raises Undriven k u j = refl
same_raises Input k u j = refl
same_raises (Latched l) k u j = refl
same_raises (Gated g) k u j = refl

same_lowers : (d : Driver) (k u j : ℕ) → lowers_in (rewired_driver d k u) j ≡ lowers_in d j
same_lowers Undriven k u j = refl
same_lowers Input k u j = refl
same_lowers (Latched l) k u j = refl
same_lowers (Gated g) k u j = refl

-- and what is new
new_pin : (d : Driver) (k u j : ℕ) → k < number_of_pins d → signal_at_pin (rewired_driver d k u) j ≡ cond (eqb j k) u (signal_at_pin d j)
new_pin Undriven k u j l = absurd (omega arith)
new_pin Input k u j l = absurd (omega arith)
new_pin (Latched x) k u j l = absurd (omega arith)
new_pin (Gated g) k u j l =
    ⊎_elim
    (λ e. ap (λ i. get_or (set g.pins k u) i 0) e ∙ get_or-set_same g.pins k u 0 (omega (arith, l, g.few, g.wide)) ∙ sym (cond-true {A = ℕ} (eqb j k) u (get_or g.pins j 0) (eq-eqb j k e)))
    (λ ne. get_or-set_other g.pins k j u 0 ne ∙ sym (cond-false {A = ℕ} (eqb j k) u (get_or g.pins j 0) (ne_eqb j k ne)))
    (cases_eq j k)

module _ (xs : List Signal) (g k u : ℕ) where
  abbrev after : List Signal
  after = rewired_at xs g k u

  driver_there : g < length xs → driver after g ≡ rewired_driver (driver xs g) k u
  driver_there l = ap (λ (x : Signal). x.driver) (get_or-set_same xs g (rewired (get_or xs g absent) k u) absent l)

  driver_other : (s : ℕ) → (s ≡ g → ⊥) → driver after s ≡ driver xs s
  driver_other s ne = ap (λ (x : Signal). x.driver) (get_or-set_other xs g s (rewired (get_or xs g absent) k u) absent ne)

  -- what stays of every driver stays of every signal
  stays {ℓ} : {A : Type ℓ} (f : Driver → A) → ((d : Driver) → f (rewired_driver d k u) ≡ f d) → (s : ℕ) → f (driver after s) ≡ f (driver xs s)
  stays f same s =
      ⊎_elim
      (λ e.
      subst (λ x. f (driver after x) ≡ f (driver xs x)) (sym e)
      (⊎_elim
      (λ l. ap f (driver_there l) ∙ same (driver xs g))
      (λ past. ap (λ (ys : List Signal). f (driver ys g)) (set_past xs g (rewired (get_or xs g absent) k u) past))
      (cases_lt g (length xs))))
      (λ ne. ap f (driver_other s ne))
      (cases_eq s g)

  pub rewired_fanin : (s : ℕ) → wires (rewired_at xs g k u) s ≡ wires xs s
  rewired_fanin = stays number_of_pins (λ d. same_pins d k u)

  pub rewired_source : (s : ℕ) → is_source (driver (rewired_at xs g k u) s) ≡ is_source (driver xs s)
  rewired_source = stays is_source (λ d. same_source d k u)

  pub rewired_senses : (s j : ℕ) → (raises_in (driver (rewired_at xs g k u) s) j ≡ raises_in (driver xs s) j) × (lowers_in (driver (rewired_at xs g k u) s) j ≡ lowers_in (driver xs s) j)
  rewired_senses s j = (stays (λ d. raises_in d j) (λ d. same_raises d k u j) s, stays (λ d. lowers_in d j) (λ d. same_lowers d k u j) s)

  pub rewired_driven : Driven xs → Driven (rewired_at xs g k u)
  rewired_driven driven s l = stays is_driven_of (λ d. same_driven d k u) s ∙ driven s (omega (arith, l, rewired_length xs g k u))

  pub rewired_latched : LatchesWired xs → LatchesWired (rewired_at xs g k u)
  rewired_latched latched s d captures =
      omega (arith, rewired_length xs g k u, latched s d (subst (λ (C : Type 0). C) (stays (λ x. Captures x d) (λ x. same_captures x k u d) s) captures))

  -- every pin but one reads what it read
  pub rewired_feeder : (s j : ℕ) → k < wires xs g → feeder (rewired_at xs g k u) s j ≡ cond (eqb s g && eqb j k) u (feeder xs s j)
  rewired_feeder s j there =
      ⊎_elim
      (λ e.
      subst (λ x. feeder after x j ≡ cond (eqb x g && eqb j k) u (feeder xs x j)) (sym e)
      (ap (λ d. signal_at_pin d j) (driver_there (ends_within xs g k there)) ∙ new_pin (driver xs g) k u j there ∙ ap (λ b. cond (b && eqb j k) u (feeder xs g j)) (sym (eq-eqb g g refl))))
      (λ ne.
      ap (λ d. signal_at_pin d j) (driver_other s ne)
      ∙ sym (cond-false {A = ℕ} (eqb s g && eqb j k) u (feeder xs s j) (and_left (eqb s g) (eqb j k) (ne_eqb s g ne))))
      (cases_eq s g)

  module _ (there : k < wires xs g) where
    -- what holds of the new wire and of the old ones holds of all
    every_wire : (P : ℕ → ℕ → Type 0) → P g u → ((s j : ℕ) → j < wires xs s → P s (feeder xs s j)) → (s j : ℕ) → j < wires after s → P s (feeder after s j)
    every_wire P new old s j l =
        subst (P s) (sym (rewired_feeder s j there))
        (⊎_elim
        (λ yes'.
        subst (P s) (sym (cond-true {A = ℕ} (eqb s g && eqb j k) u (feeder xs s j) yes'))
        (subst (λ x. P x u) (sym (eqb-true s g (and_parts (eqb s g) (eqb j k) yes').0)) new))
        (λ no'.
        subst (P s) (sym (cond-false {A = ℕ} (eqb s g && eqb j k) u (feeder xs s j) no'))
        (old s j (subst (λ n. j < n) (rewired_fanin s) l)))
        (cases_Bool (eqb s g && eqb j k)))

    pub rewired_wired : u < length xs → Wired xs → Wired (rewired_at xs g k u)
    rewired_wired known wired =
        every_wire (λ s v. v < length after) (omega (arith, known, rewired_length xs g k u)) (λ s j l. omega (arith, wired s j l, rewired_length xs g k u))

    pub rewired_climbs : (turns : List ℕ) → get_or turns u 0 < get_or turns g 0 → Climbs xs turns → Climbs (rewired_at xs g k u) turns
    rewired_climbs turns new old = every_wire (λ s v. get_or turns v 0 < get_or turns s 0) new old
