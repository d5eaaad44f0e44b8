-- Signals by mention, and their changes. Assumes nothing.
use Rattle.std.proofs.Common.{◌≡◌, ℕ, zero, suc, ◌+◌, ◌<◌, ◌≤◌, false, List, [], ◌∷◌, ◌++◌, map, length, get_or, drop, set, Some, sym, refl, ap, ◌∙◌, ◌⊎◌, inl, inr, ⊎_elim, arith, length-append}
use Rattle.std.specs.Str.{bytes_eq}
use Rattle.std.proofs.lemmas.List.{at_drop_more, at_drop_all, map_push, map-append, append_assoc, append-nil, map-set, get_or-map, length-map, drop_at, drop_all}
use Rattle.std.proofs.lemmas.Bool.{cases_Bool, cases_lt, cond-true, cond-false}
use Rattle.fault.specs.declared.cause.Cause.TheVariants.{TooManySignals}
use Rattle.fault.specs.declared.refusal.Refusal.{Refusal}
use Rattle.network.specs.declared.span.Span.{Span}
use Rattle.network.specs.declared.signal.Signal as code
use Rattle.network.specs.declared.signal.Driver.TheVariants.{Undriven}
use Rattle.network.specs.Limit.{max_signals}
use Rattle.text.specs.Text.{Piece}
use Rattle.netlist.specs.Signals.{Signal, number_of, Known, mention, mention_all, fresh, changed, on_named, no_signal}
use Rattle.netlist.specs.Faults.{fault, too_many}
use Rattle.netlist.specs.Outcomes.{first_of}
use Rattle.netlist.specs.Views.{piece_on, pieces, signal_on, signals_on}
use Rattle.netlist.proofs.Firsts.{first_stops}

-- a name that is known, and one that is new
pub mention_old : (ss : List Signal) (w : Piece) → number_of ss w.bytes < length ss → ss ≡ mention ss w
mention_old [] w h = absurd (omega arith)
mention_old (s ∷ ss) w h =
    ⊎_elim
    (λ t. sym (cond-true (bytes_eq s.name.bytes w.bytes) _ _ t))
    (λ f. ap {B = List Signal} (λ xs. s ∷ xs) (mention_old ss w (omega (arith, cond-false (bytes_eq s.name.bytes w.bytes) 0 (suc (number_of ss w.bytes)) f)))
    ∙ sym (cond-false (bytes_eq s.name.bytes w.bytes) _ _ f))
    (cases_Bool (bytes_eq s.name.bytes w.bytes))

pub mention_new : (ss : List Signal) (w : Piece) → length ss ≤ number_of ss w.bytes → mention ss w ≡ ss ++ fresh w ∷ []
mention_new [] w h = refl
mention_new (s ∷ ss) w h =
    ⊎_elim
    (λ t. absurd (omega (arith, cond-true (bytes_eq s.name.bytes w.bytes) 0 (suc (number_of ss w.bytes)) t)))
    (λ f. cond-false (bytes_eq s.name.bytes w.bytes) _ _ f
    ∙ ap {B = List Signal} (λ xs. s ∷ xs) (mention_new ss w (omega (arith, cond-false (bytes_eq s.name.bytes w.bytes) 0 (suc (number_of ss w.bytes)) f))))
    (cases_Bool (bytes_eq s.name.bytes w.bytes))

pub mention_ways : (ss : List Signal) (w : Piece) → (mention ss w ≡ ss) ⊎ (mention ss w ≡ ss ++ fresh w ∷ [])
mention_ways ss w = ⊎_elim (λ l. inl (sym (mention_old ss w l))) (λ l. inr (mention_new ss w l)) (cases_lt (number_of ss w.bytes) (length ss))

-- a signal changed, and a signal more
pub changed_at : (t : List ℕ) (cs : List code.Signal) (k : ℕ) (f : Signal → Signal) (x d : code.Signal) → k < length cs → signal_on t x ≡ f (signal_on t (get_or cs k d)) → signals_on t (set cs k x) ≡ changed f (signals_on t cs) k
changed_at t cs k f x d h q = map-set (signal_on t) cs k x ∙ ap (set (signals_on t cs) k) (q ∙ ap f (sym (get_or-map (signal_on t) cs k d no_signal h)))

module _ (t : List ℕ) (cs : List code.Signal) (w : Span) where
  pub code_pushed : (more : List code.Signal) → more ≡ cs ++ record { name = w; driver = Undriven; output = false; captured = false } ∷ [] → length (signals_on t cs) ≤ number_of (signals_on t cs) (piece_on t w).bytes → signals_on t more ≡ mention (signals_on t cs) (piece_on t w)
  code_pushed more q h = ap (signals_on t) q ∙ (map_push (signal_on t) cs _ ∙ sym (mention_new (signals_on t cs) (piece_on t w) h))

  pub change_here : (f : Signal → Signal) (k : ℕ) (x d : code.Signal) → Known (signals_on t cs) (piece_on t w).bytes × (k ≡ number_of (signals_on t cs) (piece_on t w).bytes) → signal_on t x ≡ f (signal_on t (get_or cs k d)) → signals_on t (set cs k x) ≡ on_named f (signals_on t cs) (piece_on t w)
  change_here f k x d h q = changed_at t cs k f x d (omega (arith, h.0, h.1, length-map cs (signal_on t))) q ∙ ap (changed f (signals_on t cs)) h.1

-- ---- one too many

mention_grows : (ss : List Signal) (w : Piece) → (more : List Signal) × (mention ss w ≡ ss ++ more)
mention_grows ss w = ⊎_elim (λ e. ([], e ∙ sym (append-nil ss))) (λ e. (fresh w ∷ [], e)) (mention_ways ss w)

all_grow : (ws : List Piece) (ss : List Signal) → (more : List Signal) × (mention_all ss ws ≡ ss ++ more)
all_grow [] ss = ([], sym (append-nil ss))
all_grow (w ∷ ws) ss = (
  (mention_grows ss w).0 ++ (all_grow ws (mention ss w)).0,
  (all_grow ws (mention ss w)).1
      ∙ (ap (λ (xs : List Signal). xs ++ (all_grow ws (mention ss w)).0) (mention_grows ss w).1
      ∙ append_assoc ss (mention_grows ss w).0 (all_grow ws (mention ss w)).0),
)

abbrev pub Place : Signal → ℕ
Place s = s.name.place

-- the signal that is one too many
pub one_many : (ss : List Signal) (w : Piece) → length ss ≡ max_signals → length ss ≤ number_of ss w.bytes → too_many (mention ss w) ≡ w.place ∷ []
one_many ss w h n = ap too_many (mention_new ss w n) ∙ ap (map Place) (drop_at ss (fresh w ∷ []) max_signals h)

pub few_none : (ss r : List Signal) → length ss ≤ max_signals → ss ≡ r → too_many r ≡ []
few_none ss r h e = ap too_many (sym e) ∙ ap (map Place) (drop_all max_signals ss h)

pub few_new : (ss : List Signal) (w : Piece) → length ss < max_signals → length ss ≤ number_of ss w.bytes → too_many (mention ss w) ≡ []
few_new ss w h n = few_none (ss ++ fresh w ∷ []) (mention ss w) (omega (arith, length-append ss (fresh w ∷ []))) (sym (mention_new ss w n))

abbrev pub Many : List ℕ → List Refusal
Many ps = map (fault TooManySignals) ps

drop_grows : (n : ℕ) (xs ys : List Signal) → (zs : List Signal) × (drop n (xs ++ ys) ≡ drop n xs ++ zs)
drop_grows zero xs ys = (ys, refl)
drop_grows (suc n) [] ys = (drop (suc n) ys, refl)
drop_grows (suc n) (x ∷ xs) ys = drop_grows n xs ys

module _ (t : List ℕ) (ss : List Signal) (xs : List Span) (i : ℕ) (r : List Signal) where
  abbrev All : List Span → List Signal
  All ys = mention_all ss (pieces t ys)

  -- what is too many stays so
  pub full_here : (d : Span) (f : Refusal) → i < length xs → Some f ≡ first_of (Many (too_many (mention ss (piece_on t (get_or xs i d))))) → All (drop i xs) ≡ r → Some f ≡ first_of (Many (too_many r))
  full_here d f h e inv =
      let w : Piece = piece_on t (get_or xs i d) in
      let ws : List Piece = pieces t (drop (i + 1) xs) in
      let more : List Signal = (all_grow ws (mention ss w)).0 in
      let z = drop_grows max_signals (mention ss w) more in
      let many : List Signal = drop max_signals (mention ss w) in
      first_stops (Many (map Place many)) (Many (map Place z.0)) e
      ∙ sym (ap (λ (ys : List Signal). first_of (Many (too_many ys))) (sym inv ∙ (at_drop_more All xs i d h ∙ (all_grow ws (mention ss w)).1))
      ∙ (ap (λ (ys : List Signal). first_of (Many (map Place ys))) z.1
      ∙ ap first_of (ap Many (map-append Place many z.0) ∙ map-append (fault TooManySignals) (map Place many) (map Place z.0))))

  pub fold_none : length xs ≤ i → All (drop i xs) ≡ r → ss ≡ r
  fold_none h inv = sym (at_drop_all All xs i h) ∙ inv
