-- The names of a line that is admitted are signals' names. Assumes nothing.
use Rattle.std.proofs.Common.{◌≡◌, ℕ, zero, suc, ◌-◌, ◌<◌, ◌≤◌, List, [], ◌∷◌, ◌++◌, length, get_or, take, sym, ◌∙◌, ap, subst, arith}
use Rattle.network.specs.declared.span.Span.{Span}
use Rattle.text.specs.Text.{Piece}
use Rattle.netlist.specs.Signals.{Signal, Known, Mentioned, mention_all}
use Rattle.netlist.specs.Views.{piece_on, pieces}
use Rattle.netlist.proofs.Shapes.{latch_names, gate_names}
use Rattle.netlist.proofs.Within.{mentioned_all, mentioned_parts}

module _ (ss now : List Signal) where
  all_named : (ws vs : List Piece) → now ≡ mention_all ss ws → ws ≡ vs → Mentioned now vs
  all_named ws vs e q = subst (λ (xs : List Signal). Mentioned xs vs) (sym (e ∙ ap (mention_all ss) q)) (mentioned_all vs ss)

  module _ (t : List ℕ) (xs : List Span) (d : Span) where
    pub gate_known : (ps : List Span) → 0 < length xs → ps ≡ take (length xs - 1) xs → now ≡ mention_all ss (pieces t xs) → Mentioned now (pieces t ps) × Mentioned now (piece_on t (get_or xs (length xs - 1) d) ∷ [])
    gate_known ps h e q = mentioned_parts now (pieces t ps) (piece_on t (get_or xs (length xs - 1) d) ∷ []) (all_named (pieces t xs) (pieces t ps ++ piece_on t (get_or xs (length xs - 1) d) ∷ []) q (gate_names t xs ps d h e))

    pub latch_known : (ys : List Span) → 2 ≤ length xs → ys ≡ take 2 xs → now ≡ mention_all ss (pieces t ys) → Known now (piece_on t (get_or xs 0 d)).bytes
    latch_known ys h e q = (all_named (pieces t ys) (piece_on t (get_or xs 0 d) ∷ piece_on t (get_or xs 1 d) ∷ []) q (ap (pieces t) e ∙ latch_names t xs d h)).0

pub known_at : (ss : List Signal) (t : List ℕ) (xs : List Span) (i : ℕ) (d : Span) → i < length xs → Mentioned ss (pieces t xs) → Known ss (piece_on t (get_or xs i d)).bytes
known_at ss t [] i d h x = absurd (omega arith)
known_at ss t (a ∷ xs) zero d h x = x.0
known_at ss t (a ∷ xs) (suc i) d h x = known_at ss t xs i d (omega arith) x.1
