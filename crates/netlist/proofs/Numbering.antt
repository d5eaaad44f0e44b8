-- The number of a name among the signals that the code holds. Assumes nothing.
use Rattle.std.proofs.Common.{◌≡◌, ℕ, suc, ◌+◌, ◌≤◌, Bool, true, false, cond, not, ltb, ◌||◌, List, [], ◌∷◌, map, length, Some, None, vec_items, is_some, Option, sym, refl, ap, ◌∙◌, subst, true≢false, arith}
use mathlib.Core.Bool.{false≢true}
use Rattle.std.specs.List.{list_any, list_any, position_or_len}
use Rattle.std.specs.Str.{bytes_eq}
use Rattle.std.proofs.lemmas.Bool.Decides.{same_from_decides}
use Rattle.std.proofs.lemmas.Slice.Eq.{bytes_eq-Decides}
use Rattle.std.proofs.lemmas.List.{length-map}
use Rattle.network.specs.Limit.{max_signals}
use Rattle.network.specs.declared.signal.Signal as code
use Rattle.network.specs.declared.span.Span.{Span}
use Rattle.text.specs.Words.{one_of}
use Rattle.netlist.specs.declared.signals.Signals.{Signals}
use Rattle.netlist.specs.Outcomes.{Numbered}
use Rattle.netlist.specs.Faults.{too_many}
use Rattle.netlist.specs.Signals.{Signal, number_of, Known}
use Rattle.netlist.specs.Views.{piece_on, bytes_of, signal_on, signals_on, signals_in}
use Rattle.netlist.proofs.Mentions.{few_none}

pub few_in : (t : List ℕ) (s : Signals) → length (signals_in t s) ≤ max_signals
few_in t s = omega (arith, length-map (vec_items s.items) (signal_on t), s.items.ok.0, s.few)

pub none_many : (t : List ℕ) (s : Signals) → too_many (signals_in t s) ≡ []
none_many t s = few_none (signals_in t s) (signals_in t s) (few_in t s) refl

-- a test over the words of a text
pub any_over : {A B : Type 0} (p : B → Bool) (f : A → B) (xs : List A) → list_any (λ x. p (f x)) xs ≡ list_any p (map f xs)
any_over p f [] = refl
any_over p f (x ∷ xs) = ap (λ (b : Bool). p (f x) || b) (any_over p f xs)

bytes_eq-sym : (xs ys : List ℕ) → bytes_eq xs ys ≡ bytes_eq ys xs
bytes_eq-sym xs ys = let d = bytes_eq-Decides ys xs in same_from_decides (bytes_eq xs ys) (bytes_eq ys xs) (bytes_eq-Decides xs ys) ((λ e. sym (d.0 e)), (λ e. d.1 (sym e)))

-- a name among the words of a text
pub any_named : (t n : List ℕ) (ws : List Span) → list_any (λ w. bytes_eq (piece_on t w).bytes n) ws ≡ one_of (bytes_of t ws) n
any_named t n [] = refl
any_named t n (w ∷ ws) = ap (λ (b : Bool). b || list_any (λ (v : Span). bytes_eq (piece_on t v).bytes n) ws) (bytes_eq-sym (piece_on t w).bytes n) ∙ ap (λ (b : Bool). bytes_eq n (piece_on t w).bytes || b) (any_named t n ws)

-- ---- the first signal of a name

module _ (t n : List ℕ) where
  abbrev pub called : code.Signal → Bool
  called s = bytes_eq (piece_on t s.name).bytes n

  first_called : (ss : List code.Signal) → position_or_len called ss ≡ number_of (signals_on t ss) n
  first_called [] = refl
  first_called (s ∷ ss) = flip (called s) (first_called ss)
    where
      flip : (b : Bool) {j k : ℕ} → j ≡ k → cond (not b) (1 + j) 0 ≡ cond b 0 (suc k)
      flip true e = refl
      flip false e = omega (arith, e)

  numbers_of : (ss : List Signal) (k : ℕ) → k ≡ number_of ss n → Numbered ss n (cond (ltb k (length ss)) (Some k) None)
  numbers_of ss k e = grind arith

  pub position_is : (ss : List code.Signal) {r : Option ℕ} → r ≡ cond (ltb (position_or_len called ss) (length ss)) (Some (position_or_len called ss)) None → Numbered (signals_on t ss) n r
  position_is ss e =
      let xs : List Signal = signals_on t ss in
      subst (Numbered xs n)
      (ap (λ (m : ℕ). cond (ltb (position_or_len called ss) m) (Some (position_or_len called ss)) None) (length-map ss (signal_on t)) ∙ sym e)
      (numbers_of xs (position_or_len called ss) (first_called ss))

-- ---- a number, or none

pub is_known : (ss : List Signal) (n : List ℕ) (o : Option ℕ) → true ≡ is_some o → Numbered ss n o → Known ss n
is_known ss n None e h = absurd (true≢false e)
is_known ss n (Some k) e h = h.0

pub is_new : (ss : List Signal) (n : List ℕ) (o : Option ℕ) → false ≡ is_some o → Numbered ss n o → length ss ≤ number_of ss n
is_new ss n None e h = h
is_new ss n (Some k) e h = absurd (false≢true e)
