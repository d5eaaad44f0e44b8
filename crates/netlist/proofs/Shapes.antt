-- The words after a command, by their number. Assumes nothing.
use Rattle.std.proofs.Common.{◌≡◌, ℕ, ◌-◌, ◌<◌, ◌≤◌, true, List, [], ◌∷◌, ◌++◌, length, get_or, take, drop, sym, refl, ap, ◌∙◌, arith}
use Rattle.network.specs.declared.span.Span.{Span}
use Rattle.text.specs.Text.{Piece}
use Rattle.netlist.specs.Statements.{gate, latch, wrong, model, ending, front_of, last_of, model_of, gate_of, latch_rest, latch_of, end_of}
use Rattle.netlist.specs.Views.{piece_on, pieces}

-- ---- lists of a known length

pub list_none : (xs : List Span) → length xs ≡ 0 → [] ≡ xs
list_none [] h = refl
list_none (a ∷ xs) h = absurd (omega arith)

pub list_one : (xs : List Span) (d : Span) → length xs ≡ 1 → get_or xs 0 d ∷ [] ≡ xs
list_one [] d h = absurd (omega arith)
list_one (a ∷ []) d h = refl
list_one (a ∷ b ∷ xs) d h = absurd (omega arith)

-- ---- the words after .model and after .end

pub model_is : (t : List ℕ) (xs : List Span) (d : Span) → length xs ≡ 1 → model (piece_on t (get_or xs 0 d)) ≡ model_of (pieces t xs)
model_is t xs d h = ap (λ (ys : List Span). model_of (pieces t ys)) (list_one xs d h)

pub end_is : (t : List ℕ) (xs : List Span) → length xs ≡ 0 → ending ≡ end_of (pieces t xs)
end_is t xs h = ap (λ (ys : List Span). end_of (pieces t ys)) (list_none xs h)

pub front_last : (w : Piece) (ws : List Piece) → w ∷ ws ≡ front_of w ws ++ last_of w ws ∷ []
front_last w [] = refl
front_last w (v ∷ ws) = ap {B = List Piece} (λ ys. w ∷ ys) (front_last v ws)

-- ---- a latch

module _ (t : List ℕ) where
  pub latch_short : (xs : List Span) → length xs < 2 → wrong ≡ latch_of (pieces t xs)
  latch_short [] h = refl
  latch_short (a ∷ []) h = refl
  latch_short (a ∷ b ∷ xs) h = absurd (omega arith)

  pub latch_yes : (xs ws : List Span) (d : Span) → 2 ≤ length xs → ws ≡ drop 2 xs → true ≡ latch_rest (pieces t ws) → latch (piece_on t (get_or xs 0 d)) (piece_on t (get_or xs 1 d)) (pieces t ws) ≡ latch_of (pieces t xs)
  latch_yes [] ws d h q e = absurd (omega arith)
  latch_yes (a ∷ []) ws d h q e = absurd (omega arith)
  latch_yes (a ∷ b ∷ xs) ws d h q e = grind arith

  pub latch_names : (xs : List Span) (d : Span) → 2 ≤ length xs → pieces t (take 2 xs) ≡ piece_on t (get_or xs 0 d) ∷ piece_on t (get_or xs 1 d) ∷ []
  latch_names [] d h = absurd (omega arith)
  latch_names (a ∷ []) d h = absurd (omega arith)
  latch_names (a ∷ b ∷ xs) d h = refl

  -- ---- a gate: the words before the last are its pins

  front_is : (a : Span) (xs : List Span) → front_of (piece_on t a) (pieces t xs) ≡ pieces t (take (length xs) (a ∷ xs))
  front_is a [] = refl
  front_is a (b ∷ xs) = ap {B = List Piece} (λ ys. piece_on t a ∷ ys) (front_is b xs)

  last_is : (a : Span) (xs : List Span) (d : Span) → last_of (piece_on t a) (pieces t xs) ≡ piece_on t (get_or (a ∷ xs) (length xs) d)
  last_is a [] d = refl
  last_is a (b ∷ xs) d = last_is b xs d

  pub gate_is : (xs ps : List Span) (d : Span) → 0 < length xs → ps ≡ take (length xs - 1) xs → gate (pieces t ps) (piece_on t (get_or xs (length xs - 1) d)) ≡ gate_of (pieces t xs)
  gate_is [] ps d h e = absurd (omega arith)
  gate_is (a ∷ xs) ps d h e =
      let n : length (a ∷ xs) - 1 ≡ length xs = omega arith in
      ap (λ (ys : List Span). gate (pieces t ys) (piece_on t (get_or (a ∷ xs) (length (a ∷ xs) - 1) d))) e
      ∙ (ap (λ (k : ℕ). gate (pieces t (take k (a ∷ xs))) (piece_on t (get_or (a ∷ xs) k d))) n
      ∙ (ap (λ (ys : List Piece). gate ys (piece_on t (get_or (a ∷ xs) (length xs) d))) (sym (front_is a xs))
      ∙ ap (gate (front_of (piece_on t a) (pieces t xs))) (sym (last_is a xs d))))

  pub gate_names : (xs ps : List Span) (d : Span) → 0 < length xs → ps ≡ take (length xs - 1) xs → pieces t xs ≡ pieces t ps ++ piece_on t (get_or xs (length xs - 1) d) ∷ []
  gate_names [] ps d h e = absurd (omega arith)
  gate_names (a ∷ xs) ps d h e =
      let n : length xs ≡ length (a ∷ xs) - 1 = omega arith in
      front_last (piece_on t a) (pieces t xs)
      ∙ (ap (λ (ys : List Piece). ys ++ last_of (piece_on t a) (pieces t xs) ∷ []) (front_is a xs)
      ∙ (ap (λ (y : Piece). pieces t (take (length xs) (a ∷ xs)) ++ y ∷ []) (last_is a xs d)
      ∙ (ap (λ (k : ℕ). pieces t (take k (a ∷ xs)) ++ piece_on t (get_or (a ∷ xs) k d) ∷ []) n
      ∙ ap (λ (ys : List Span). pieces t ys ++ piece_on t (get_or (a ∷ xs) (length (a ∷ xs) - 1) d) ∷ []) (sym e))))
