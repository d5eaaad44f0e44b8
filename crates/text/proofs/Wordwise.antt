-- The first word of a line and what follows it. Assumes nothing.
use Rattle.std.proofs.Common.{◌≡◌, ℕ, suc, ◌+◌, ◌-◌, ◌<◌, Bool, true, false, cond, not, ◌||◌, List, [], ◌∷◌, length, take, drop, sym, refl, ap, subst, ◌∙◌, ⊎_elim, one-add, arith}
use mathlib.Core.Bool.{false≢true}
use Rattle.std.specs.List.{prefix_len}
use Rattle.std.proofs.lemmas.List.{drop-drop, length-take-le}
use Rattle.std.proofs.lemmas.List.Sums.{prefix_len-le-length}
use Rattle.std.proofs.lemmas.Bool.Decides.{nat_tests}
use Rattle.std.proofs.lemmas.Bool.{cases_Bool, cond-true, cond-false}
use Rattle.std.specs.Prelude.{Option, Some, None, nat_lt, IfSome, MatchOption}
use Rattle.std.specs.Option.{is_some}
use Rattle.text.specs.Views.{piece_of}
use Rattle.text.specs.declared.word.Word.{Word}
use Rattle.text.specs.Text.{Piece, piece, blank, solid, closes, solid_first, widened, begun, words}

-- ---- how many bytes of a kind stand in front

leading_yes : (p : ℕ → Bool) (b : ℕ) (bs : List ℕ) → p b ≡ true → prefix_len p (b ∷ bs) ≡ suc (prefix_len p bs)
leading_yes p b bs t = cond-true (p b) _ _ t ∙ one-add _

leading_no : (p : ℕ → Bool) (b : ℕ) (bs : List ℕ) → p b ≡ false → prefix_len p (b ∷ bs) ≡ 0
leading_no p b bs t = cond-false (p b) _ _ t

-- nothing of the kind is left after them
leading_after : (p : ℕ → Bool) (xs : List ℕ) → prefix_len p (drop (prefix_len p xs) xs) ≡ 0
leading_after p [] = refl
leading_after p (b ∷ bs) =
    ⊎_elim (λ t. ap (λ (k : ℕ). prefix_len p (drop k (b ∷ bs))) (leading_yes p b bs t) ∙ leading_after p bs)
    (λ f. ap (λ (k : ℕ). prefix_len p (drop k (b ∷ bs))) (leading_no p b bs f) ∙ leading_no p b bs f) (cases_Bool (p b))

solid_first_lem : (xs : List ℕ) → 0 < prefix_len solid xs → solid_first xs ≡ true
solid_first_lem [] h = absurd (omega arith)
solid_first_lem (b ∷ bs) h = ⊎_elim (λ t. t) (λ f. absurd (omega (arith, leading_no solid b bs f))) (cases_Bool (solid b))

none_solid : (xs : List ℕ) → solid_first xs ≡ false → prefix_len solid xs ≡ 0
none_solid [] h = refl
none_solid (b ∷ bs) h = leading_no solid b bs h

-- ---- the words behind the first byte

by_blank : {A : Type 0} (x y : Bool) (u v w : A) → x ≡ true → cond (not (x || y)) u (cond x v w) ≡ v
by_blank true y u v w t = refl
by_blank false y u v w t = absurd (false≢true t)

words_blank : (at b : ℕ) (bs : List ℕ) → blank b ≡ true → words at (b ∷ bs) ≡ words (suc at) bs
words_blank at b bs t = by_blank (blank b) (closes b) _ _ _ t

skip_more : (at b : ℕ) (bs : List ℕ) → blank b ≡ true → words (suc at) bs ≡ words (suc at + prefix_len blank bs) (drop (prefix_len blank bs) bs) → words at (b ∷ bs) ≡ words (at + prefix_len blank (b ∷ bs)) (drop (prefix_len blank (b ∷ bs)) (b ∷ bs))
skip_more at b bs t ih =
    words_blank at b bs t ∙ (ih
    ∙ (ap (λ (k : ℕ). words k (drop (prefix_len blank bs) bs)) (omega arith)
    ∙ sym (ap (λ (k : ℕ). words (at + k) (drop k (b ∷ bs))) (leading_yes blank b bs t))))

skip_none : (at b : ℕ) (bs : List ℕ) → blank b ≡ false → words at (b ∷ bs) ≡ words (at + prefix_len blank (b ∷ bs)) (drop (prefix_len blank (b ∷ bs)) (b ∷ bs))
skip_none at b bs f =
    ap (λ (k : ℕ). words k (b ∷ bs)) (omega arith)
    ∙ sym (ap (λ (k : ℕ). words (at + k) (drop k (b ∷ bs))) (leading_no blank b bs f))

-- blanks in front of a word do not matter
blanks_skip : (at : ℕ) (xs : List ℕ) → words at xs ≡ words (at + prefix_len blank xs) (drop (prefix_len blank xs) xs)
blanks_skip at [] = refl
blanks_skip at (b ∷ bs) = ⊎_elim (λ t. skip_more at b bs t (blanks_skip (suc at) bs)) (skip_none at b bs) (cases_Bool (blank b))

-- neither a blank nor a word in front: no word is left
no_word : (at : ℕ) (xs : List ℕ) → prefix_len blank xs ≡ 0 → prefix_len solid xs ≡ 0 → words at xs ≡ []
no_word at [] e f = refl
no_word at (b ∷ bs) e f =
    ⊎_elim (λ t. absurd (omega (arith, leading_yes solid b bs t)))
    (λ n. ⊎_elim (λ t. absurd (omega (arith, leading_yes blank b bs t))) (λ m. cond-false (solid b) _ _ n ∙ cond-false (blank b) _ _ m) (cases_Bool (blank b)))
    (cases_Bool (solid b))

-- a word in front: it is the longest run of solid bytes, and the others follow it
first_more : (at b : ℕ) (bs : List ℕ) (n : ℕ) → solid b ≡ true → solid_first bs ≡ true → words (suc at) bs ≡ piece (suc at) (take n bs) ∷ words (suc at + n) (drop n bs) → words at (b ∷ bs) ≡ piece at (b ∷ take n bs) ∷ words (at + suc n) (drop n bs)
first_more at b bs n t u ih =
    cond-true (solid b) _ _ t
    ∙ (ap (λ (x : Bool). begun at b x (words (suc at) bs)) u
    ∙ (ap (widened at b) ih
    ∙ ap (λ (k : ℕ). piece at (b ∷ take n bs) ∷ words k (drop n bs)) (omega arith)))

first_only : (at b : ℕ) (bs : List ℕ) → solid b ≡ true → solid_first bs ≡ false → words at (b ∷ bs) ≡ piece at (b ∷ []) ∷ words (at + 1) bs
first_only at b bs t u =
    cond-true (solid b) _ _ t
    ∙ (ap (λ (x : Bool). begun at b x (words (suc at) bs)) u
    ∙ ap (λ (k : ℕ). piece at (b ∷ []) ∷ words k bs) (omega arith))

first_word : (at : ℕ) (xs : List ℕ) → solid_first xs ≡ true → words at xs ≡ piece at (take (prefix_len solid xs) xs) ∷ words (at + prefix_len solid xs) (drop (prefix_len solid xs) xs)
first_word at [] t = absurd (false≢true t)
first_word at (b ∷ bs) t =
    ⊎_elim
    (λ u. first_more at b bs (prefix_len solid bs) t u (first_word (suc at) bs u)
    ∙ sym (ap (λ (k : ℕ). piece at (take k (b ∷ bs)) ∷ words (at + k) (drop k (b ∷ bs))) (leading_yes solid b bs t)))
    (λ u. first_only at b bs t u
    ∙ sym (ap (λ (k : ℕ). piece at (take k (b ∷ bs)) ∷ words (at + k) (drop k (b ∷ bs))) (leading_yes solid b bs t ∙ ap suc (none_solid bs u))))
    (cases_Bool (solid_first bs))

-- ---- what `next_word` answers

-- a count over the rest of a text is one over what it drops
pub reaches : (p : ℕ → Bool) (xs ys : List ℕ) (i n : ℕ) → ys ≡ drop i xs → n ≡ prefix_len p ys → i + n ≡ i + prefix_len p (drop i xs)
reaches p xs ys i n d e = ap (λ (k : ℕ). i + k) (e ∙ ap (prefix_len p) d)

module _ (xs : List ℕ) (from s e : ℕ) (hs : s ≡ from + prefix_len blank (drop from xs)) (he : e ≡ s + prefix_len solid (drop s xs)) where
  at_start_lem : drop (prefix_len blank (drop from xs)) (drop from xs) ≡ drop s xs
  at_start_lem = drop-drop _ from xs ∙ ap (λ (k : ℕ). drop k xs) (sym hs)

  from_start : words from (drop from xs) ≡ words s (drop s xs)
  from_start =
      blanks_skip from (drop from xs)
      ∙ (ap (λ (k : ℕ). words k (drop (prefix_len blank (drop from xs)) (drop from xs))) (sym hs) ∙ ap (words s) at_start_lem)

  next_none : s ≡ e → words from (drop from xs) ≡ []
  next_none h =
      from_start
      ∙ no_word s (drop s xs) (sym (ap (prefix_len blank) at_start_lem) ∙ leading_after blank (drop from xs)) (omega arith)

  next_some : (s ≡ e → ⊥) → words from (drop from xs) ≡ piece s (take (e - s) (drop s xs)) ∷ words (s + length (take (e - s) (drop s xs))) (drop (s + length (take (e - s) (drop s xs))) xs)
  next_some h =
      let l : 0 < prefix_len solid (drop s xs) = omega arith in
      let n : prefix_len solid (drop s xs) ≡ e - s = omega arith in
      let k : length (take (e - s) (drop s xs)) ≡ e - s = length-take-le (e - s) (drop s xs) (omega (arith, prefix_len-le-length solid (drop s xs))) in
      from_start
      ∙ (first_word s (drop s xs) (solid_first_lem (drop s xs) l)
      ∙ (ap (λ (m : ℕ). piece s (take m (drop s xs)) ∷ words (s + m) (drop m (drop s xs))) n
      ∙ (ap (λ (ys : List ℕ). piece s (take (e - s) (drop s xs)) ∷ words (s + (e - s)) ys) (drop-drop (e - s) s xs)
      ∙ sym (ap (λ (m : ℕ). piece s (take (e - s) (drop s xs)) ∷ words (s + m) (drop (s + m) xs)) k))))

  -- the word from s up to e, where there is one
  pub next_found : (P : Word → Type 0) (o : Option Word) → is_some o ≡ nat_lt s e → IfSome o P → ((w : Word) → P w → piece_of w ≡ piece s (take (e - s) (drop s xs))) → MatchOption o (words from (drop from xs) ≡ []) (λ w. words from (drop from xs) ≡ piece_of w ∷ words (w.at + length w.text.now) (drop (w.at + length w.text.now) xs))
  next_found P None t _ _ =
      let past : nat_lt s e ≡ false = sym t in
      next_none (grind (arith, nat_tests))
  next_found P (Some w) t p is =
      let below : nat_lt s e ≡ true = sym t in
      subst (λ (q : Piece). words from (drop from xs) ≡ q ∷ words (q.place + length q.bytes) (drop (q.place + length q.bytes) xs)) (sym (is w p)) (next_some (λ h. grind (arith, nat_tests)))
