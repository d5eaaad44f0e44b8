-- What holds line after line holds of an accepted text. Assumes nothing.
use Rattle.std.proofs.Common.{◌≡◌, ℕ, ◌<◌, ◌≤◌, Bool, true, false, cond, ltb, List, [], ◌∷◌, ◌++◌, map, length, get_or, take, fold, filter, sym, refl, ap, ◌∙◌, subst, ⊎_elim, arith}
use Rattle.std.specs.List.{AllByRecursion}
use Rattle.std.proofs.ByRecursion.{All-get_or}
use Rattle.std.proofs.lemmas.List.{append_assoc, append-nil, get_or-map, get_or_past, get_or-take, length-map, length-take-le}
use Rattle.network.specs.declared.gate.Gate.{Gate}
use Rattle.std.proofs.lemmas.Bool.{cases_Bool, cases_lt, cond-true, cond-false, not-false}
use Rattle.fault.specs.declared.refusal.Refusal.{Refusal}
use Rattle.network.specs.Wiring.{Driven, Wired, LatchesWired, absent, is_driven_of, number_of_pins, signal_at_pin, Captures}
use Rattle.network.specs.declared.signal.Driver as code
use Rattle.network.specs.declared.signal.Driver.TheVariants.{Undriven, Input, Latched, Gated}
use Rattle.network.specs.declared.signal.Signal as codes
use Rattle.text.specs.Text.{Piece, words, lines}
use Rattle.text.specs.Words.{lexeme_of}
use Rattle.netlist.specs.declared.stage.Stage.{Stage}
use Rattle.netlist.specs.declared.stage.Stage.TheVariants.{Before, Body, Rows, After}
use Rattle.netlist.specs.Effects.{state, words_effect}
use Rattle.netlist.specs.Faults.{State, faults_of, least_of}
use Rattle.fault.specs.Limit.{max_bytes}
use Rattle.netlist.specs.Reading.{Reading, refused, ongoing, judged, step, step_on, read_lines, undriven_at, Verdict, refuses, netlist, all_driven, closing, finished, read}
use Rattle.netlist.specs.Signals.{Signal, is_undriven, no_signal}
use Rattle.netlist.specs.Statements.{statement_of}
use Rattle.netlist.specs.Views.{driver_on, signal_on, signals_on}
use Rattle.netlist.proofs.Passes.{undriven_is}
use Rattle.netlist.proofs.Stepwise.{refused_stays}
use Rattle.netlist.proofs.Within.{Within, DriverWithin, effect_within}

-- ---- readings and verdicts apart

abbrev state_or : State → Reading → State
state_or d (refused f) = d
state_or d (ongoing s) = s

abbrev signals_or : List Signal → Verdict → List Signal
signals_or d (refuses f) = d
signals_or d (netlist ss) = ss

refused_ongoing : {f : Refusal} {s : State} → refused f ≡ ongoing s → ⊥
refused_ongoing e = cc

refuses_netlist : {f : Refusal} {ss : List Signal} → refuses f ≡ netlist ss → ⊥
refuses_netlist e = cc

-- ---- a line that is taken has no fault

judged_ongoing : (fs : List Refusal) (s now : State) → judged (least_of fs) s ≡ ongoing now → (fs ≡ []) × (s ≡ now)
judged_ongoing [] s now e = (refl, ap (state_or s) e)
judged_ongoing (f ∷ fs) s now e = absurd (refused_ongoing e)

pub step_ongoing : (s : State) (line : Piece) (now : State) → step s line ≡ ongoing now → (faults_of s line ≡ []) × (words_effect s (words line.place line.bytes) ≡ now)
step_ongoing s line now e = judged_ongoing (faults_of s line) (words_effect s (words line.place line.bytes)) now e

taken : (ls : List Piece) (r : Reading) (now : State) → fold step_on r ls ≡ ongoing now → (mid : State) × (r ≡ ongoing mid)
taken ls (refused f) now e = absurd (refused_ongoing (refused_stays f ls ∙ e))
taken ls (ongoing mid) now e = (mid, refl)

-- P of the lines so far and of the state after them
module _ (P : List Piece → State → Type 0) (again : (past : List Piece) (line : Piece) (s now : State) → step s line ≡ ongoing now → P past s → P (past ++ line ∷ []) now) where
  pub all_lines : (ls past : List Piece) (s now : State) → fold step_on (ongoing s) ls ≡ ongoing now → P past s → P (past ++ ls) now
  all_lines [] past s now e p = subst (λ (ls : List Piece). P ls now) (sym (append-nil past)) (subst (P past) (ap (state_or s) e) p)
  all_lines (l ∷ ls) past s now e p =
      let m = taken ls (step s l) now e in
      subst (λ (xs : List Piece). P xs now) (append_assoc past (l ∷ []) ls)
      (all_lines ls (past ++ l ∷ []) m.0 now (ap (λ (r : Reading). fold step_on r ls) (sym m.1) ∙ e) (again past l s m.0 m.1 p))

-- ---- the end of the text

all_driven_netlist : (ps : List ℕ) (xs ss : List Signal) → all_driven ps xs ≡ netlist ss → (ps ≡ []) × (xs ≡ ss)
all_driven_netlist [] xs ss e = (refl, ap (signals_or xs) e)
all_driven_netlist (p ∷ ps) xs ss e = absurd (refuses_netlist e)

closing_netlist : (n : ℕ) (g : Stage) (xs ss : List Signal) → closing n g xs ≡ netlist ss → (undriven_at xs ≡ []) × (xs ≡ ss)
closing_netlist n Before xs ss e = absurd (refuses_netlist e)
closing_netlist n Body xs ss e = absurd (refuses_netlist e)
closing_netlist n (Rows g) xs ss e = absurd (refuses_netlist e)
closing_netlist n After xs ss e = all_driven_netlist (undriven_at xs) xs ss e

-- the state that the lines of an accepted text leave
abbrev pub Left : List ℕ → List Signal → Type 0
Left text ss = (s : State) × ((read_lines (lines 0 text) ≡ ongoing s) × ((s.signals ≡ ss) × (undriven_at ss ≡ [])))

finished_netlist : (n : ℕ) (r : Reading) (ss : List Signal) → finished n r ≡ netlist ss → (s : State) × ((r ≡ ongoing s) × ((s.signals ≡ ss) × (undriven_at ss ≡ [])))
finished_netlist n (refused f) ss e = absurd (refuses_netlist e)
finished_netlist n (ongoing s) ss e =
    let q = closing_netlist n s.stage s.signals ss e in
    (s, (refl, (q.1, sym (ap undriven_at q.1) ∙ q.0)))

pub accepted : (text : List ℕ) (ss : List Signal) → read text ≡ netlist ss → Left text ss
accepted text ss e =
    ⊎_elim
    (λ t. absurd (refuses_netlist (sym (cond-true (ltb max_bytes (length text)) _ _ t) ∙ e)))
    (λ f. finished_netlist (length text) (read_lines (lines 0 text)) ss (sym (cond-false (ltb max_bytes (length text)) _ _ f) ∙ e))
    (cases_Bool (ltb max_bytes (length text)))

-- ---- wires

pin_count_is : (g : Gate) → length (take g.pin_count g.pins) ≡ g.pin_count
pin_count_is g = length-take-le g.pin_count g.pins (omega (arith, g.few, g.wide))

words_within : (s : State) (ws : List Piece) → Within s.signals → Within (words_effect s ws).signals
words_within s [] x = x
words_within s (w ∷ ws) x = effect_within s (statement_of (lexeme_of w) ws) x

accepted_within : (text : List ℕ) (ss : List Signal) → read text ≡ netlist ss → Within ss
accepted_within text ss e =
    let a = accepted text ss e in
    subst Within a.1.1.0
    (all_lines (λ _ s. Within s.signals) (λ past line s now q x. subst (λ (z : State). Within z.signals) (step_ongoing s line now q).1 (words_within s (words line.place line.bytes) x)) (lines 0 text) [] (state Before []) a.0 a.1.0 tt)

-- ---- drivers

pub cons_nil : {A : Type 0} {x : A} {xs : List A} → x ∷ xs ≡ [] → ⊥
cons_nil e = cc

none_here : (b : Bool) (s : Signal) (ss : List Signal) → map (λ (z : Signal). z.name.place) (cond b (s ∷ ss) ss) ≡ [] → (b ≡ false) × (map (λ (z : Signal). z.name.place) ss ≡ [])
none_here true s ss e = absurd (cons_nil e)
none_here false s ss e = (refl, e)

pub none_undriven : (ss : List Signal) → undriven_at ss ≡ [] → AllByRecursion (λ (s : Signal). is_undriven s.driver ≡ false) ss
none_undriven [] e = tt
none_undriven (s ∷ ss) e =
    let q = none_here (is_undriven s.driver) s (filter (λ (z : Signal). is_undriven z.driver) ss) e in
    (q.0, none_undriven ss q.1)

-- ---- what the network to come asks of the code's signals

module _ (text : List ℕ) (cs : List codes.Signal) where
  abbrev At : ℕ → code.Driver
  At s = (get_or cs s absent).driver

  driver_at : (s : ℕ) → Within (signals_on text cs) → s < length cs → DriverWithin (length cs) (driver_on text (At s))
  driver_at s x h =
      let n = length-map cs (signal_on text) in
      subst (λ (z : Signal). DriverWithin (length cs) z.driver) (get_or-map (signal_on text) cs s absent no_signal h)
      (subst (λ (m : ℕ). DriverWithin m (get_or (signals_on text cs) s no_signal).driver) n
      (All-get_or (λ (z : Signal). DriverWithin (length (signals_on text cs)) z.driver) (signals_on text cs) s no_signal (omega (arith, n)) x))

  pins_within : (n k : ℕ) (d : code.Driver) → DriverWithin n (driver_on text d) → k < number_of_pins d → signal_at_pin d k < n
  pins_within n k Undriven x h = absurd (omega arith)
  pins_within n k Input x h = absurd (omega arith)
  pins_within n k (Latched l) x h = absurd (omega arith)
  pins_within n k (Gated g) x h =
      subst (λ (p : ℕ). p < n) (get_or-take g.pin_count g.pins k 0 h)
      (All-get_or (λ (p : ℕ). p < n) (take g.pin_count g.pins) k 0 (omega (arith, h, pin_count_is g)) x)

  data_within : (n k : ℕ) (d : code.Driver) → DriverWithin n (driver_on text d) → Captures d k → k < n
  data_within n k Undriven x h = absurd h
  data_within n k Input x h = absurd h
  data_within n k (Latched l) x h = subst (λ (p : ℕ). p < n) h x
  data_within n k (Gated g) x h = absurd h

  past_none : (s : ℕ) → length cs ≤ s → At s ≡ Undriven
  past_none s h = ap (λ (z : codes.Signal). z.driver) (get_or_past cs s absent h)

  wired : Within (signals_on text cs) → Wired cs
  wired x s k h =
      ⊎_elim (λ l. pins_within (length cs) k (At s) (driver_at s x l) h) (λ l. absurd (omega (arith, h, ap number_of_pins (past_none s l)))) (cases_lt s (length cs))

  latches_wired : Within (signals_on text cs) → LatchesWired cs
  latches_wired x s k h =
      ⊎_elim (λ l. data_within (length cs) k (At s) (driver_at s x l) h) (λ l. absurd (subst (λ (d : code.Driver). Captures d k) (past_none s l) h)) (cases_lt s (length cs))

  driven : undriven_at (signals_on text cs) ≡ [] → Driven cs
  driven e s h =
      let u = All-get_or (λ (z : Signal). is_undriven z.driver ≡ false) (signals_on text cs) s no_signal (omega (arith, length-map cs (signal_on text))) (none_undriven (signals_on text cs) e) in
      not-false (is_driven_of (At s)) (sym (undriven_is text (At s)) ∙ (ap (λ (z : Signal). is_undriven z.driver) (sym (get_or-map (signal_on text) cs s absent no_signal h)) ∙ u))

  pub accepted_driven : netlist (signals_on text cs) ≡ read text → Driven cs
  accepted_driven e = driven (accepted text (signals_on text cs) (sym e)).1.1.1

  pub accepted_wired : netlist (signals_on text cs) ≡ read text → Wired cs
  accepted_wired e = wired (accepted_within text (signals_on text cs) (sym e))

  pub accepted_latched : netlist (signals_on text cs) ≡ read text → LatchesWired cs
  accepted_latched e = latches_wired (accepted_within text (signals_on text cs) (sym e))
