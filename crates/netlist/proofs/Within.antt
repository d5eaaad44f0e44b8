-- What drives a signal names signals that are there. Assumes nothing.
use Rattle.std.proofs.Common.{◌≡◌, ℕ, suc, ◌<◌, ◌≤◌, true, false, cond, ◌⊎◌, List, [], ◌∷◌, ◌++◌, length, get_or, Some, None, Option, sym, refl, ap, ◌∙◌, subst, inl, inr, ⊎_elim, arith, length-append, length-set}
use Rattle.std.specs.List.{AllByRecursion}
use Rattle.std.specs.Str.{bytes_eq}
use Rattle.std.proofs.ByRecursion.{All-get_or, All-append, All-set, All-weaker, All-map}
use Rattle.std.proofs.lemmas.Slice.Eq.{bytes_eq-Decides}
use Rattle.std.proofs.lemmas.List.{set_past}
use Rattle.std.proofs.lemmas.Bool.{cases_Bool, cases_lt, cond-true, cond-false}
use Rattle.rows.specs.Rows.{Row}
use Rattle.text.specs.Text.{Piece}
use Rattle.netlist.specs.declared.stage.Stage.{Stage}
use Rattle.netlist.specs.declared.stage.Stage.TheVariants.{Before, Body, Rows, After}
use Rattle.netlist.specs.Effects.{rowed, add_row, row_at, row_done, done, effect}
use Rattle.netlist.specs.Faults.{State}
use Rattle.netlist.specs.Signals.{Signal, Driver, undriven, input, latched, gates, number_of, Known, Mentioned, fresh, mention, mention_all, changed, on_named, on_each, no_signal, driven, as_output, as_captured, numbers}
use Rattle.netlist.specs.Statements.{Statement, model, inputs, outputs, gate, latch, row, ending, wrong, mentions_of}
use Rattle.netlist.proofs.Mentions.{mention_ways}

-- ---- names that are there

pub same_self : (n : List ℕ) → bytes_eq n n ≡ true
same_self n = (bytes_eq-Decides n n).1 refl

-- the number of a name that is there stays, whatever is mentioned
known_cons : (s : Signal) (ss : List Signal) (n : List ℕ) → Known (s ∷ ss) n → (bytes_eq s.name.bytes n ≡ true) ⊎ ((bytes_eq s.name.bytes n ≡ false) × Known ss n)
known_cons s ss n h =
    ⊎_elim inl (λ f. inr (f, omega (arith, cond-false (bytes_eq s.name.bytes n) 0 (suc (number_of ss n)) f))) (cases_Bool (bytes_eq s.name.bytes n))

known_append : (ss more : List Signal) (n : List ℕ) → Known ss n → number_of (ss ++ more) n ≡ number_of ss n
known_append [] more n h = absurd (omega arith)
known_append (s ∷ ss) more n h =
    ⊎_elim
    (λ t. cond-true (bytes_eq s.name.bytes n) 0 (suc (number_of (ss ++ more) n)) t ∙ sym (cond-true (bytes_eq s.name.bytes n) 0 (suc (number_of ss n)) t))
    (λ f. ap (λ (k : ℕ). cond (bytes_eq s.name.bytes n) 0 (suc k)) (known_append ss more n f.1))
    (known_cons s ss n h)

number_mention : (ss : List Signal) (w : Piece) (n : List ℕ) → Known ss n → number_of (mention ss w) n ≡ number_of ss n
number_mention ss w n h = ⊎_elim (λ e. ap (λ (xs : List Signal). number_of xs n) e) (λ e. ap (λ (xs : List Signal). number_of xs n) e ∙ known_append ss (fresh w ∷ []) n h) (mention_ways ss w)

longer : (ss : List Signal) (w : Piece) → length ss ≤ length (mention ss w)
longer ss w = ⊎_elim (λ e. omega (arith, ap length e)) (λ e. omega (arith, ap length e, length-append ss (fresh w ∷ []))) (mention_ways ss w)

known_more : (ss : List Signal) (w : Piece) (n : List ℕ) → Known ss n → Known (mention ss w) n
known_more ss w n h = omega (arith, number_mention ss w n h, longer ss w)

known_here : (ss : List Signal) (w : Piece) → Known (mention ss w) w.bytes
known_here [] w = omega (arith, cond-true {A = ℕ} (bytes_eq w.bytes w.bytes) 0 1 (same_self w.bytes))
known_here (s ∷ ss) w =
    ⊎_elim
    (λ t. subst (λ (xs : List Signal). Known xs w.bytes) (sym (cond-true (bytes_eq s.name.bytes w.bytes) (s ∷ ss) (s ∷ mention ss w) t)) (omega (arith, cond-true (bytes_eq s.name.bytes w.bytes) 0 (suc (number_of ss w.bytes)) t)))
    (λ f. subst (λ (xs : List Signal). Known xs w.bytes) (sym (cond-false (bytes_eq s.name.bytes w.bytes) (s ∷ ss) (s ∷ mention ss w) f)) (omega (arith, known_here ss w, cond-false (bytes_eq s.name.bytes w.bytes) 0 (suc (number_of (mention ss w) w.bytes)) f)))
    (cases_Bool (bytes_eq s.name.bytes w.bytes))

known_all : (ws : List Piece) (ss : List Signal) (n : List ℕ) → Known ss n → Known (mention_all ss ws) n
known_all [] ss n h = h
known_all (w ∷ ws) ss n h = known_all ws (mention ss w) n (known_more ss w n h)

pub mentioned_all : (ws : List Piece) (ss : List Signal) → Mentioned (mention_all ss ws) ws
mentioned_all [] ss = tt
mentioned_all (w ∷ ws) ss = (known_all ws (mention ss w) w.bytes (known_here ss w), mentioned_all ws (mention ss w))

pub mentioned_parts : (ss : List Signal) (ps qs : List Piece) → Mentioned ss (ps ++ qs) → Mentioned ss ps × Mentioned ss qs
mentioned_parts ss [] qs x = (tt, x)
mentioned_parts ss (p ∷ ps) qs x = let r = mentioned_parts ss ps qs x.1 in ((x.0, r.0), r.1)

-- ---- drivers whose signals are below n

abbrev pub DriverWithin : ℕ → Driver → Type 0
DriverWithin n undriven = Unit {0}
DriverWithin n input = Unit {0}
DriverWithin n (latched d ws) = d < n
DriverWithin n (gates ps c) = AllByRecursion (λ (p : ℕ). p < n) ps

abbrev SignalWithin : ℕ → Signal → Type 0
SignalWithin n s = DriverWithin n s.driver

abbrev pub Within : List Signal → Type 0
Within ss = AllByRecursion (SignalWithin (length ss)) ss

driver_more : (m n : ℕ) → m ≤ n → (d : Driver) → DriverWithin m d → DriverWithin n d
driver_more m n h undriven x = tt
driver_more m n h input x = tt
driver_more m n h (latched d ws) x = omega (arith, x)
driver_more m n h (gates ps c) x = All-weaker (λ (p : ℕ). p < m) (λ (p : ℕ). p < n) (λ p l. omega (arith, l)) ps x

mention_within : (ss : List Signal) (w : Piece) → Within ss → Within (mention ss w)
mention_within ss w x =
    ⊎_elim (λ e. subst Within (sym e) x)
    (λ e. subst Within (sym e)
    (All-append (SignalWithin (length (ss ++ fresh w ∷ []))) ss (fresh w ∷ []) (All-weaker (SignalWithin (length ss)) (SignalWithin (length (ss ++ fresh w ∷ []))) (λ s. driver_more (length ss) (length (ss ++ fresh w ∷ [])) (omega (arith, length-append ss (fresh w ∷ []))) s.driver) ss x) (tt, tt)))
    (mention_ways ss w)

mentions_within : (ws : List Piece) (ss : List Signal) → Within ss → Within (mention_all ss ws)
mentions_within [] ss x = x
mentions_within (w ∷ ws) ss x = mentions_within ws (mention ss w) (mention_within ss w x)

-- a change that keeps signals within keeps them all
abbrev Keeps : ℕ → (Signal → Signal) → Type 0
Keeps n f = (s : Signal) → SignalWithin n s → SignalWithin n (f s)

changed_within : (f : Signal → Signal) (ss : List Signal) (k : ℕ) → Keeps (length ss) f → Within ss → Within (changed f ss k)
changed_within f ss k h x =
    ⊎_elim
    (λ l. subst (λ (n : ℕ). AllByRecursion (SignalWithin n) (changed f ss k)) (sym (length-set ss k (f (get_or ss k no_signal)))) (All-set (SignalWithin (length ss)) ss k (f (get_or ss k no_signal)) (h (get_or ss k no_signal) (All-get_or (SignalWithin (length ss)) ss k no_signal l x)) x))
    (λ l. subst Within (sym (set_past ss k (f (get_or ss k no_signal)) l)) x)
    (cases_lt k (length ss))

each_within : (f : Signal → Signal) (ws : List Piece) (ss : List Signal) → ((n : ℕ) → Keeps n f) → Within ss → Within (on_each f ss ws)
each_within f [] ss h x = x
each_within f (w ∷ ws) ss h x = each_within f ws (on_named f ss w) h (changed_within f ss (number_of ss w.bytes) (h (length ss)) x)

rowed_within : (n : ℕ) (d : Driver) (r : Row) → DriverWithin n d → DriverWithin n (rowed d r)
rowed_within n undriven r x = tt
rowed_within n input r x = tt
rowed_within n (latched d ws) r x = x
rowed_within n (gates ps c) r x = x

row_within : (r : Row) (n : ℕ) → Keeps n (add_row r)
row_within r n s x = rowed_within n s.driver r x

row_at_within : (g : Stage) (ss : List Signal) (r : Row) → Within ss → Within (row_at g ss r)
row_at_within Before ss r x = x
row_at_within Body ss r x = x
row_at_within (Rows k) ss r x = changed_within (add_row r) ss k (row_within r (length ss)) x
row_at_within After ss r x = x

row_done_within : (g : Stage) (ss : List Signal) (r : Option Row) → Within ss → Within (row_done g ss r)
row_done_within g ss None x = x
row_done_within g ss (Some r) x = row_at_within g ss r x

done_within : (g : Stage) (ss : List Signal) (st : Statement) → Mentioned ss (mentions_of st) → Within ss → Within (done g ss st).signals
done_within g ss (model n) m x = x
done_within g ss (inputs ns) m x = each_within (driven input) ns ss (λ n s y. tt) x
done_within g ss (outputs ns) m x = each_within as_output ns ss (λ n s y. y) x
done_within g ss (gate ps q) m x = changed_within (driven (gates (numbers ss ps) _)) ss (number_of ss q.bytes) (λ s y. All-map (λ (p : ℕ). p < length ss) (λ (w : Piece). number_of ss w.bytes) ps (mentioned_parts ss ps (q ∷ []) m).0) x
done_within g ss (latch d q ws) m x =
    let mid = on_named (driven (latched (number_of ss d.bytes) ws)) ss q in
    changed_within as_captured mid (number_of mid d.bytes) (λ s y. y) (changed_within (driven (latched (number_of ss d.bytes) ws)) ss (number_of ss q.bytes) (λ s y. m.0) x)
done_within g ss (row r) m x = row_done_within g ss r x
done_within g ss ending m x = x
done_within g ss wrong m x = x

pub effect_within : (s : State) (st : Statement) → Within s.signals → Within (effect s st).signals
effect_within s st x = done_within s.stage (mention_all s.signals (mentions_of st)) st (mentioned_all (mentions_of st) s.signals) (mentions_within (mentions_of st) s.signals x)
