-- Lines of a text one by one. Assumes nothing.
use Rattle.std.proofs.Common.{◌≡◌, ℕ, suc, ◌+◌, ◌-◌, ◌<◌, ◌≤◌, Bool, true, false, cond, not, ltb, leb, List, [], ◌∷◌, length, take, drop, sym, refl, ap, ◌∙◌, subst, ⊎_elim, one-add, arith, length-drop}
use lib.Dec.{leb-suc-suc}
use Rattle.std.specs.List.{prefix_len}
use Rattle.std.proofs.lemmas.List.{drop-drop}
use Rattle.std.proofs.lemmas.List.Sums.{prefix_len-le-length}
use Rattle.std.proofs.lemmas.Bool.{cases_Bool, cases_lt, cond-true, cond-false, eqb-true, not_from_true, not_from_false, lt-ltb, le-ltb, le-leb, lt-leb}
use Rattle.text.specs.Text.{Piece, piece, newline, blank, solid, solid_first, widened, begun, words, lines}

-- the lines from a place on, none past the end
abbrev pub lines_from : ℕ → List ℕ → List Piece
lines_from from text = cond (leb from (length text)) (lines from (drop from text)) []

-- ---- lines

abbrev pub in_line : ℕ → Bool
in_line b = not (newline b)

in_yes : (b : ℕ) (bs : List ℕ) → newline b ≡ false → prefix_len in_line (b ∷ bs) ≡ suc (prefix_len in_line bs)
in_yes b bs f = cond-true (in_line b) _ _ (not_from_false _ f) ∙ one-add _

in_no : (b : ℕ) (bs : List ℕ) → newline b ≡ true → prefix_len in_line (b ∷ bs) ≡ 0
in_no b bs t = cond-false (in_line b) _ _ (not_from_true _ t)

-- the lines after the first, which has n bytes
abbrev After : ℕ → List ℕ → ℕ → List Piece
After at xs n = cond (ltb n (length xs)) (lines (at + n + 1) (drop (n + 1) xs)) []

lines_newline : (at b : ℕ) (bs : List ℕ) → newline b ≡ true → lines at (b ∷ bs) ≡ piece at [] ∷ After at (b ∷ bs) 0
lines_newline at b bs t =
    cond-true (newline b) _ _ t
    ∙ (ap (λ (k : ℕ). piece at [] ∷ lines k bs) (omega arith)
    ∙ ap {B = List Piece} (λ r. piece at [] ∷ r) (sym (cond-true (ltb 0 (length (b ∷ bs))) (lines (at + 0 + 1) bs) [] (lt-ltb 0 (length (b ∷ bs)) (omega arith)))))

after_more : (at b m : ℕ) (bs : List ℕ) → After (suc at) bs m ≡ After at (b ∷ bs) (suc m)
after_more at b m bs =
    ap (λ (t : Bool). cond t (lines (suc at + m + 1) (drop (m + 1) bs)) []) (sym (leb-suc-suc (suc m) (length bs)))
    ∙ (ap (λ (k : ℕ). cond (ltb (suc m) (length (b ∷ bs))) (lines k (drop (m + 1) bs)) []) (omega arith)
    ∙ ap (λ (xs : List ℕ). cond (ltb (suc m) (length (b ∷ bs))) (lines (at + suc m + 1) xs) []) (sym (ap (λ (k : ℕ). drop k (b ∷ bs)) (dropped m))))
  where
    dropped : (m : ℕ) → suc m + 1 ≡ suc (m + 1)
    dropped m = omega arith

lines_more : (at b m : ℕ) (bs : List ℕ) → newline b ≡ false → lines (suc at) bs ≡ piece (suc at) (take m bs) ∷ After (suc at) bs m → lines at (b ∷ bs) ≡ piece at (take (suc m) (b ∷ bs)) ∷ After at (b ∷ bs) (suc m)
lines_more at b m bs f ih =
    cond-false (newline b) _ _ f
    ∙ (ap (widened at b) ih ∙ ap {B = List Piece} (λ r. piece at (b ∷ take m bs) ∷ r) (after_more at b m bs))

lines_step : (at : ℕ) (xs : List ℕ) → lines at xs ≡ piece at (take (prefix_len in_line xs) xs) ∷ After at xs (prefix_len in_line xs)
lines_step at [] = refl
lines_step at (b ∷ bs) =
    ⊎_elim
    (λ t. lines_newline at b bs t ∙ sym (ap (λ (k : ℕ). piece at (take k (b ∷ bs)) ∷ After at (b ∷ bs) k) (in_no b bs t)))
    (λ f. lines_more at b (prefix_len in_line bs) bs f (lines_step (suc at) bs) ∙ sym (ap (λ (k : ℕ). piece at (take k (b ∷ bs)) ∷ After at (b ∷ bs) k) (in_yes b bs f)))
    (cases_Bool (newline b))

-- ---- the words of a line end with it

ten_solid : (b : ℕ) → newline b ≡ true → solid b ≡ false
ten_solid b t = let P : ℕ → Type 0 = λ n. solid n ≡ false in subst P (sym (eqb-true b 10 t)) refl

ten_blank : (b : ℕ) → newline b ≡ true → blank b ≡ false
ten_blank b t = let P : ℕ → Type 0 = λ n. blank n ≡ false in subst P (sym (eqb-true b 10 t)) refl

first_in_line : (xs : List ℕ) → solid_first xs ≡ solid_first (take (prefix_len in_line xs) xs)
first_in_line [] = refl
first_in_line (b ∷ bs) =
    ⊎_elim (λ t. ten_solid b t ∙ sym (ap (λ (k : ℕ). solid_first (take k (b ∷ bs))) (in_no b bs t)))
    (λ f. sym (ap (λ (k : ℕ). solid_first (take k (b ∷ bs))) (in_yes b bs f))) (cases_Bool (newline b))

abbrev Here : ℕ → ℕ → Bool → List Piece → List Piece
Here at b s ws = cond (solid b) (begun at b s ws) (cond (blank b) ws [])

words_line : (at : ℕ) (xs : List ℕ) → words at xs ≡ words at (take (prefix_len in_line xs) xs)
words_line at [] = refl
words_line at (b ∷ bs) =
    ⊎_elim
    (λ t. cond-false (solid b) _ _ (ten_solid b t) ∙ (cond-false (blank b) _ _ (ten_blank b t) ∙ sym (ap (λ (k : ℕ). words at (take k (b ∷ bs))) (in_no b bs t))))
    (λ f. ap (λ (s : Bool). Here at b s (words (suc at) bs)) (first_in_line bs)
    ∙ (ap (λ (ws : List Piece). Here at b (solid_first (take (prefix_len in_line bs) bs)) ws) (words_line (suc at) bs)
    ∙ sym (ap (λ (k : ℕ). words at (take k (b ∷ bs))) (in_yes b bs f))))
    (cases_Bool (newline b))

-- ---- one line more

module _ (text : List ℕ) (from e : ℕ) (h : from ≤ length text) (he : e ≡ from + prefix_len in_line (drop from text)) where
  pub end_within : e ≤ length text
  end_within = omega (arith, prefix_len-le-length in_line (drop from text), length-drop from text)

  after_here : After from (drop from text) (prefix_len in_line (drop from text)) ≡ lines_from (e + 1) text
  after_here =
      ap (λ (k : ℕ). cond (ltb (prefix_len in_line (drop from text)) (length (drop from text))) (lines (k + 1) (drop (prefix_len in_line (drop from text) + 1) (drop from text))) []) (sym he)
      ∙ (ap (λ (xs : List ℕ). cond (ltb (prefix_len in_line (drop from text)) (length (drop from text))) (lines (e + 1) xs) []) (drop-drop _ from text ∙ ap (λ (k : ℕ). drop k text) (omega arith))
      ∙ ap (λ (t : Bool). cond t (lines (e + 1) (drop (e + 1) text)) []) same)
    where
      same : ltb (prefix_len in_line (drop from text)) (length (drop from text)) ≡ leb (e + 1) (length text)
      same =
          ⊎_elim (λ l. lt-ltb _ _ (omega (arith, length-drop from text)) ∙ sym (le-leb (e + 1) (length text) (omega arith)))
          (λ l. le-ltb _ _ (omega (arith, length-drop from text)) ∙ sym (lt-leb (e + 1) (length text) (omega arith))) (cases_lt e (length text))

  pub line_next : lines_from from text ≡ piece from (take (e - from) (drop from text)) ∷ lines_from (e + 1) text
  line_next =
      let q : prefix_len in_line (drop from text) ≡ e - from = omega arith in
      cond-true (leb from (length text)) _ _ (le-leb from (length text) h)
      ∙ (lines_step from (drop from text)
      ∙ (ap {B = List Piece} (λ r. piece from (take (prefix_len in_line (drop from text)) (drop from text)) ∷ r) after_here
      ∙ ap (λ (k : ℕ). piece from (take k (drop from text)) ∷ lines_from (e + 1) text) q))

pub lines_end : (text : List ℕ) (from : ℕ) → length text < from → lines_from from text ≡ []
lines_end text from h = cond-false (leb from (length text)) _ _ (lt-leb from (length text) h)

pub lines_start : (text : List ℕ) → lines_from 0 text ≡ lines 0 text
lines_start text = cond-true (leb 0 (length text)) _ _ (le-leb 0 (length text) (omega arith))

pub line_words_is : (text : List ℕ) (from e : ℕ) (ps : List Piece) → e ≡ from + prefix_len in_line (drop from text) → ps ≡ words from (drop from text) → words from (take (e - from) (drop from text)) ≡ ps
line_words_is text from e ps he w =
    let q : prefix_len in_line (drop from text) ≡ e - from = omega arith in
    sym (w ∙ (words_line from (drop from text) ∙ ap (λ (k : ℕ). words from (take k (drop from text))) q))
