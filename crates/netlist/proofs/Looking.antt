-- A test on the signal of a name, and what changes it. Assumes nothing.
use Rattle.std.proofs.Common.{◌≡◌, ℕ, zero, suc, ◌<◌, Bool, true, false, cond, ◌||◌, List, [], ◌∷◌, length, get_or, sym, refl, ap, ◌∙◌, ⊎_elim, arith}
use mathlib.Core.Bool.{false≢true}
use Rattle.std.specs.Str.{bytes_eq}
use Rattle.std.proofs.lemmas.Slice.Eq.{bytes_eq-Decides}
use Rattle.std.proofs.lemmas.Bool.{cases_Bool, cond-true, cond-false}
use Rattle.text.specs.Text.{Piece}
use Rattle.netlist.specs.Signals.{Signal, no_signal, number_of, fresh, mention, mention_all, changed, on_named, on_each}

abbrev Name : Signal → List ℕ
Name s = s.name.bytes

same_name : (a b : List ℕ) → bytes_eq a b ≡ true → a ≡ b
same_name a b = (bytes_eq-Decides a b).0

module _ (f : Signal → Bool) where
  -- the test on the signal of the name n, or on what stands past the last
  abbrev pub look : List Signal → List ℕ → Bool
  look ss n = f (get_or ss (number_of ss n) no_signal)

  pub look_cons : (s : Signal) (ss : List Signal) (n : List ℕ) → look (s ∷ ss) n ≡ cond (bytes_eq (Name s) n) (f s) (look ss n)
  look_cons s ss n = at (bytes_eq (Name s) n)
    where
      at : (b : Bool) → f (get_or (s ∷ ss) (cond b 0 (suc (number_of ss n))) no_signal) ≡ cond b (f s) (look ss n)
      at true = refl
      at false = refl

  -- ---- mentions

  module _ (new : (w : Piece) → f (fresh w) ≡ false) where
    mention_look : (ss : List Signal) (w : Piece) (n : List ℕ) → look (mention ss w) n ≡ look ss n
    mention_look [] w n = look_cons (fresh w) [] n ∙ (at (bytes_eq w.bytes n) ∙ sym (new _))
      where
        at : (b : Bool) → cond b (f (fresh w)) (look [] n) ≡ false
        at true = new w
        at false = new _
    mention_look (s ∷ ss) w n =
        ⊎_elim
        (λ t. ap (λ (xs : List Signal). look xs n) (cond-true (bytes_eq (Name s) w.bytes) (s ∷ ss) (s ∷ mention ss w) t))
        (λ e. ap (λ (xs : List Signal). look xs n) (cond-false (bytes_eq (Name s) w.bytes) (s ∷ ss) (s ∷ mention ss w) e)
        ∙ (look_cons s (mention ss w) n ∙ (ap (cond (bytes_eq (Name s) n) (f s)) (mention_look ss w n) ∙ sym (look_cons s ss n))))
        (cases_Bool (bytes_eq (Name s) w.bytes))

    pub mentions_look : (ws : List Piece) (ss : List Signal) (n : List ℕ) → look (mention_all ss ws) n ≡ look ss n
    mentions_look [] ss n = refl
    mentions_look (w ∷ ws) ss n = mentions_look ws (mention ss w) n ∙ mention_look ss w n

  -- ---- changes that keep names

  module _ (g : Signal → Signal) (names : (s : Signal) → (g s).name ≡ s.name) where
    head_is : (s : Signal) (ss : List Signal) (n : List ℕ) → look (g s ∷ ss) n ≡ cond (bytes_eq (Name s) n) (f (g s)) (look ss n)
    head_is s ss n = look_cons (g s) ss n ∙ ap (λ (w : Piece). cond (bytes_eq w.bytes n) (f (g s)) (look ss n)) (names s)

    -- a change that the test does not see
    pub look_kept : ((s : Signal) → f (g s) ≡ f s) → (ss : List Signal) (k : ℕ) (n : List ℕ) → look (changed g ss k) n ≡ look ss n
    look_kept keep [] k n = refl
    look_kept keep (s ∷ ss) zero n = head_is s ss n ∙ (ap (λ (b : Bool). cond (bytes_eq (Name s) n) b (look ss n)) (keep s) ∙ sym (look_cons s ss n))
    look_kept keep (s ∷ ss) (suc k) n = look_cons s (changed g ss k) n ∙ (ap (cond (bytes_eq (Name s) n) (f s)) (look_kept keep ss k n) ∙ sym (look_cons s ss n))

    pub each_kept : ((s : Signal) → f (g s) ≡ f s) → (ws : List Piece) (ss : List Signal) (n : List ℕ) → look (on_each g ss ws) n ≡ look ss n
    each_kept keep [] ss n = refl
    each_kept keep (w ∷ ws) ss n = each_kept keep ws (on_named g ss w) n ∙ look_kept keep ss (number_of ss w.bytes) n

    -- a change after which the test holds
    module _ (holds : (s : Signal) → f (g s) ≡ true) where
      here : (m : List ℕ) (s : Signal) (ss : List Signal) (n : List ℕ) → bytes_eq (Name s) m ≡ true → look (g s ∷ ss) n ≡ (bytes_eq m n || look (s ∷ ss) n)
      here m s ss n t =
          head_is s ss n
          ∙ (ap (λ (b : Bool). cond (bytes_eq (Name s) n) b (look ss n)) (holds s)
          ∙ (by (bytes_eq (Name s) n)
          ∙ (ap (λ (b : Bool). bytes_eq (Name s) n || b) (sym (look_cons s ss n)) ∙ ap (λ (x : List ℕ). bytes_eq x n || look (s ∷ ss) n) (same_name (Name s) m t))))
        where
          by : (b : Bool) → cond b true (look ss n) ≡ (b || cond b (f s) (look ss n))
          by true = refl
          by false = refl

      there : (m : List ℕ) (s : Signal) (ss xs : List Signal) (n : List ℕ) → bytes_eq (Name s) m ≡ false → look xs n ≡ (bytes_eq m n || look ss n) → look (s ∷ xs) n ≡ (bytes_eq m n || look (s ∷ ss) n)
      there m s ss xs n t ih =
          look_cons s xs n
          ∙ (ap (cond (bytes_eq (Name s) n) (f s)) ih
          ∙ (by (bytes_eq (Name s) n) (bytes_eq m n) apart ∙ ap (λ (b : Bool). bytes_eq m n || b) (sym (look_cons s ss n))))
        where
          apart : bytes_eq (Name s) n ≡ true → bytes_eq m n ≡ true → ⊥
          apart p q = false≢true (sym t ∙ (bytes_eq-Decides (Name s) m).1 (same_name (Name s) n p ∙ sym (same_name m n q)))

          by : (a b : Bool) → (a ≡ true → b ≡ true → ⊥) → cond a (f s) (b || look ss n) ≡ (b || cond a (f s) (look ss n))
          by true true h = absurd (h refl refl)
          by true false h = refl
          by false b h = refl

      pub look_set : (m : List ℕ) (ss : List Signal) (n : List ℕ) → number_of ss m < length ss → look (changed g ss (number_of ss m)) n ≡ (bytes_eq m n || look ss n)
      look_set m [] n h = absurd (omega arith)
      look_set m (s ∷ ss) n h =
          ⊎_elim
          (λ t. ap (λ (k : ℕ). look (changed g (s ∷ ss) k) n) (cond-true (bytes_eq (Name s) m) 0 (suc (number_of ss m)) t) ∙ here m s ss n t)
          (λ e. ap (λ (k : ℕ). look (changed g (s ∷ ss) k) n) (cond-false (bytes_eq (Name s) m) 0 (suc (number_of ss m)) e)
          ∙ there m s ss (changed g ss (number_of ss m)) n e (look_set m ss n (omega (arith, cond-false (bytes_eq (Name s) m) 0 (suc (number_of ss m)) e))))
          (cases_Bool (bytes_eq (Name s) m))

-- ---- numbers stay

pub number_kept : (g : Signal → Signal) → ((s : Signal) → (g s).name ≡ s.name) → (ss : List Signal) (k : ℕ) (n : List ℕ) → number_of (changed g ss k) n ≡ number_of ss n
number_kept g names [] k n = refl
number_kept g names (s ∷ ss) zero n = ap (λ (w : Piece). cond (bytes_eq w.bytes n) 0 (suc (number_of ss n))) (names s)
number_kept g names (s ∷ ss) (suc k) n = ap (λ (j : ℕ). cond (bytes_eq (Name s) n) 0 (suc j)) (number_kept g names ss k n)
