-- Lines that name signals, judged fault by fault. Assumes nothing.
use Rattle.std.proofs.Common.{◌≡◌, ℕ, Bool, true, cond, not, ◌||◌, List, [], ◌∷◌, ◌++◌, map, is_err, IsErrAnd, Some, None, Option, Result, refl, ap, ◌∙◌}
use Rattle.std.proofs.lemmas.List.{append_assoc}
use Rattle.fault.specs.declared.cause.Cause.TheVariants.{BadLine, LongName, TooManyPins, TooManySignals, SecondDriver}
use Rattle.fault.specs.declared.refusal.Refusal.{Refusal}
use Rattle.text.specs.Text.{Piece}
use Rattle.text.specs.Words.{one_of, long_names}
use Rattle.netlist.specs.declared.netlist_fault.NetlistFault.{NetlistFault}
use Rattle.netlist.specs.declared.state.State as code
use Rattle.netlist.specs.Signals.{Signal, is_undriven, mention_all}
use Rattle.netlist.specs.Faults.{State, fault, only_if, in_body, has_dotted, too_many, has_driver, driven_twice}
use Rattle.netlist.specs.Reading.{refused, ongoing, judged}
use Rattle.netlist.specs.Outcomes.{first_of, refusal_of, reading_on, name_faults}
use Rattle.netlist.proofs.Firsts.{err_is, first_on, first_stops}
use Rattle.netlist.proofs.Looking.{mentions_look}

-- a refusal that `?` carried on
pub carried : (t : List ℕ) (s : code.State) (r : Result (Unit {0}) NetlistFault) (f : NetlistFault) → is_err r ≡ true → IsErrAnd r (λ e. e ≡ f) → reading_on t s r ≡ refused (refusal_of f)
carried t s r f e b = ap (reading_on t s) (err_is r f e b)

-- ---- a mention gives no driver

mentions_driver : (ws : List Piece) (ss : List Signal) (n : List ℕ) → has_driver (mention_all ss ws) n ≡ has_driver ss n
mentions_driver = mentions_look (λ (s : Signal). not (is_undriven s.driver)) (λ w. refl)

twice_same : (xs ys : List Signal) → ((n : List ℕ) → has_driver xs n ≡ has_driver ys n) → (done : List (List ℕ)) (ws : List Piece) → driven_twice xs done ws ≡ driven_twice ys done ws
twice_same xs ys h done [] = refl
twice_same xs ys h done (w ∷ ws) =
    ap (λ (b : Bool). cond (b || one_of done w.bytes) (w.place ∷ driven_twice xs (done ++ w.bytes ∷ []) ws) (driven_twice xs (done ++ w.bytes ∷ []) ws)) (h w.bytes)
    ∙ ap (λ (ps : List ℕ). cond (has_driver ys w.bytes || one_of done w.bytes) (w.place ∷ ps) ps) (twice_same xs ys h (done ++ w.bytes ∷ []) ws)

-- ---- the faults: `ms` are the mentions, `ds` the words that drive

abbrev pub Twice : List Signal → List Piece → List Refusal
Twice ss ds = map (fault SecondDriver) (driven_twice ss [] ds)

module _ (s : State) (at : ℕ) (ms : List Piece) (many : Bool) (ds : List Piece) (after : State) where
  abbrev A : List Refusal
  A = map (fault BadLine) (only_if (not (in_body s.stage) || has_dotted ms) at)

  abbrev B : List Refusal
  B = map (fault LongName) (long_names ms)

  abbrev C : List Refusal
  C = map (fault TooManyPins) (only_if many at)

  abbrev D : List Refusal
  D = map (fault TooManySignals) (too_many (mention_all s.signals ms))

  abbrev All : List Refusal
  All = A ++ (B ++ (C ++ (D ++ Twice s.signals ds)))

  regroup : (fs : List Refusal) → (A ++ (B ++ (C ++ D))) ++ fs ≡ A ++ (B ++ (C ++ (D ++ fs)))
  regroup fs =
      append_assoc A (B ++ (C ++ D)) fs
      ∙ ap (λ (xs : List Refusal). A ++ xs) (append_assoc B (C ++ D) fs ∙ ap (λ (xs : List Refusal). B ++ xs) (append_assoc C D fs))

  pub stop_names : (f : Refusal) → Some f ≡ first_of (name_faults s at ms many) → refused f ≡ judged (first_of All) after
  stop_names f e = ap (λ (o : Option Refusal). judged o after) (first_stops (name_faults s at ms many) (Twice s.signals ds) e ∙ ap first_of (regroup (Twice s.signals ds)))

  module _ (none : None ≡ first_of (name_faults s at ms many)) (now : List Signal) (is : now ≡ mention_all s.signals ms) where
    past_names : {r : Option Refusal} → r ≡ first_of (Twice now ds) → r ≡ first_of All
    past_names e =
        first_on (name_faults s at ms many) (Twice s.signals ds) none
        (e ∙ (ap (λ (xs : List Signal). first_of (Twice xs ds)) is
        ∙ ap (λ (ps : List ℕ). first_of (map (fault SecondDriver) ps)) (twice_same (mention_all s.signals ms) s.signals (mentions_driver ms s.signals) [] ds)))
        ∙ ap first_of (regroup (Twice s.signals ds))

    pub stop_twice : (f : Refusal) → Some f ≡ first_of (Twice now ds) → refused f ≡ judged (first_of All) after
    stop_twice f e = ap (λ (o : Option Refusal). judged o after) (past_names e)

    pub no_fault : (last : State) → None ≡ first_of (Twice now ds) → last ≡ after → ongoing last ≡ judged (first_of All) after
    no_fault last e q = ap ongoing q ∙ ap (λ (o : Option Refusal). judged o after) (past_names e)
