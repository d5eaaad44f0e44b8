-- Gates and latches, judged and then done. Assumes nothing.
use Rattle.std.proofs.Common.{◌≡◌, ℕ, ◌-◌, ◌<◌, ◌≤◌, Bool, true, false, ltb, List, [], ◌∷◌, ◌++◌, length, get_or, take, drop, Some, None, sym, ap, ◌∙◌}
use Rattle.std.proofs.lemmas.List.{length-map}
use Rattle.fault.specs.declared.refusal.Refusal.{Refusal}
use Rattle.network.specs.declared.span.Span.{Span}
use Rattle.rows.specs.Rows.{no_rows}
use Rattle.text.specs.Text.{Piece}
use Rattle.netlist.specs.declared.stage.Stage.TheVariants.{Body, Rows}
use Rattle.netlist.specs.Outcomes.{first_of, name_faults, first_judged}
use Rattle.netlist.specs.Effects.{state, effect}
use Rattle.netlist.specs.Faults.{State}
use Rattle.netlist.specs.Reading.{refused, ongoing}
use Rattle.netlist.specs.Signals.{Signal, gates, latched, driven, as_captured, number_of, numbers, mention_all, on_named}
use Rattle.netlist.specs.Statements.{gate, latch, gate_of, latch_rest, latch_of}
use Rattle.netlist.specs.Views.{piece_on, pieces}
use Rattle.netlist.proofs.Bodies.{Twice, stop_names, stop_twice, no_fault}
use Rattle.netlist.proofs.Shapes.{gate_is, gate_names, latch_yes, latch_names}

-- ---- a gate with the pins ps: its output is the last of xs

module _ (t : List ℕ) (s : State) (at : ℕ) (xs ps : List Span) (d : Span) (h : 0 < length xs) (e : ps ≡ take (length xs - 1) xs) where
  abbrev Pins : List Piece
  Pins = pieces t ps

  abbrev Output : Piece
  Output = piece_on t (get_or xs (length xs - 1) d)

  abbrev Many : Bool
  Many = ltb 4 (length Pins)

  same_faults : first_of (name_faults s at (pieces t xs) (ltb 4 (length ps))) ≡ first_of (name_faults s at (Pins ++ Output ∷ []) Many)
  same_faults =
      ap (λ (ms : List Piece). first_of (name_faults s at ms (ltb 4 (length ps)))) (gate_names t xs ps d h e)
      ∙ ap (λ (k : ℕ). first_of (name_faults s at (Pins ++ Output ∷ []) (ltb 4 k))) (sym (length-map ps (piece_on t)))

  same_statement : first_judged s at (gate Pins Output) ≡ first_judged s at (gate_of (pieces t xs))
  same_statement = ap (first_judged s at) (gate_is t xs ps d h e)

  pub gate_stops : (f : Refusal) → Some f ≡ first_of (name_faults s at (pieces t xs) (ltb 4 (length ps))) → refused f ≡ first_judged s at (gate_of (pieces t xs))
  gate_stops f q = stop_names s at (Pins ++ Output ∷ []) Many (Output ∷ []) (effect s (gate Pins Output)) f (q ∙ same_faults) ∙ same_statement

  module _ (none : None ≡ first_of (name_faults s at (pieces t xs) (ltb 4 (length ps)))) (now : List Signal) (is : now ≡ mention_all s.signals (pieces t xs)) where
    mentioned : now ≡ mention_all s.signals (Pins ++ Output ∷ [])
    mentioned = is ∙ ap (mention_all s.signals) (gate_names t xs ps d h e)

    pub gate_twice : (f : Refusal) → Some f ≡ first_of (Twice now (Output ∷ [])) → refused f ≡ first_judged s at (gate_of (pieces t xs))
    gate_twice f q = stop_twice s at (Pins ++ Output ∷ []) Many (Output ∷ []) (effect s (gate Pins Output)) (none ∙ same_faults) now mentioned f q ∙ same_statement

    pub gate_done : (k : ℕ) (fs : List ℕ) (last : List Signal) → None ≡ first_of (Twice now (Output ∷ [])) → k ≡ number_of now Output.bytes → fs ≡ numbers now Pins → last ≡ on_named (driven (gates fs no_rows)) now Output → ongoing (state (Rows k) last) ≡ first_judged s at (gate_of (pieces t xs))
    gate_done k fs last q n p l =
        no_fault s at (Pins ++ Output ∷ []) Many (Output ∷ []) (effect s (gate Pins Output)) (none ∙ same_faults) now mentioned (state (Rows k) last) q
        (ap (λ (ys : List Signal). state (Rows k) ys) (l ∙ ap (λ (ks : List ℕ). on_named (driven (gates ks no_rows)) now Output) p)
        ∙ (ap (λ (j : ℕ). state (Rows j) (on_named (driven (gates (numbers now Pins) no_rows)) now Output)) n
        ∙ ap (λ (ys : List Signal). state (Rows (number_of ys Output.bytes)) (on_named (driven (gates (numbers ys Pins) no_rows)) ys Output)) mentioned))
        ∙ same_statement

-- ---- a latch with the words ws after its output

module _ (t : List ℕ) (s : State) (at : ℕ) (xs ws : List Span) (d : Span) (h : 2 ≤ length xs) (e : ws ≡ drop 2 xs) (rest : true ≡ latch_rest (pieces t ws)) where
  abbrev In : Piece
  In = piece_on t (get_or xs 0 d)

  abbrev Out : Piece
  Out = piece_on t (get_or xs 1 d)

  same_names : (ys : List Span) → ys ≡ take 2 xs → first_of (name_faults s at (pieces t ys) false) ≡ first_of (name_faults s at (In ∷ Out ∷ []) false)
  same_names ys q = ap (λ (ms : List Piece). first_of (name_faults s at ms false)) (ap (pieces t) q ∙ latch_names t xs d h)

  same_latch : first_judged s at (latch In Out (pieces t ws)) ≡ first_judged s at (latch_of (pieces t xs))
  same_latch = ap (first_judged s at) (latch_yes t xs ws d h e rest)

  module _ (ys : List Span) (two : ys ≡ take 2 xs) where
    pub latch_stops : (f : Refusal) → Some f ≡ first_of (name_faults s at (pieces t ys) false) → refused f ≡ first_judged s at (latch_of (pieces t xs))
    latch_stops f q = stop_names s at (In ∷ Out ∷ []) false (Out ∷ []) (effect s (latch In Out (pieces t ws))) f (q ∙ same_names ys two) ∙ same_latch

    module _ (none : None ≡ first_of (name_faults s at (pieces t ys) false)) (now : List Signal) (is : now ≡ mention_all s.signals (pieces t ys)) where
      both : now ≡ mention_all s.signals (In ∷ Out ∷ [])
      both = is ∙ ap (mention_all s.signals) (ap (pieces t) two ∙ latch_names t xs d h)

      pub latch_twice : (f : Refusal) → Some f ≡ first_of (Twice now (Out ∷ [])) → refused f ≡ first_judged s at (latch_of (pieces t xs))
      latch_twice f q = stop_twice s at (In ∷ Out ∷ []) false (Out ∷ []) (effect s (latch In Out (pieces t ws))) (none ∙ same_names ys two) now both f q ∙ same_latch

      pub latch_done : (k : ℕ) (os : List Span) (mid last : List Signal) → None ≡ first_of (Twice now (Out ∷ [])) → k ≡ number_of now In.bytes → os ≡ ws → mid ≡ on_named (driven (latched k (pieces t os))) now Out → last ≡ on_named as_captured mid In → ongoing (state Body last) ≡ first_judged s at (latch_of (pieces t xs))
      latch_done k os mid last q n o m l =
          no_fault s at (In ∷ Out ∷ []) false (Out ∷ []) (effect s (latch In Out (pieces t ws))) (none ∙ same_names ys two) now both (state Body last) q
          (ap (state Body)
          (l ∙ (ap (λ (zs : List Signal). on_named as_captured zs In) m
          ∙ (ap (λ (vs : List Span). on_named as_captured (on_named (driven (latched k (pieces t vs))) now Out) In) o
          ∙ (ap (λ (j : ℕ). on_named as_captured (on_named (driven (latched j (pieces t ws))) now Out) In) n
          ∙ ap (λ (zs : List Signal). on_named as_captured (on_named (driven (latched (number_of zs In.bytes) (pieces t ws))) zs Out) In) both)))))
          ∙ same_latch
