-- Settings that some row matches. Assumes nothing.
use Rattle.std.proofs.Common.{◌≡◌, ℕ, zero, suc, ◌<◌, max, Bool, true, false, ◌||◌, eqb, List, [], ◌∷◌, map, get_or, Some, fold, sym, refl, ap, ◌∙◌, arith}
use mathlib.Core.Bool.{or-false, or_assoc}
use Rattle.std.specs.List.{list_any, range_with_len}
use Rattle.std.proofs.lemmas.Nat.{mod_below}
use Rattle.std.proofs.lemmas.List.FromFn.{length-map-range_with_len, get_or-map-range_with_len}
use Rattle.std.proofs.lemmas.List.{same_lists}
use Rattle.rows.specs.Rows.{Row, Cover, with_row, no_rows, is_one, matches, settings}
use Rattle.std.specs.Int.{bit_at}
use Rattle.rows.specs.Settings.{one}
use Rattle.rows.specs.Cover.{RowsCover}

same_map : (f g : ℕ → Bool) → ((s : ℕ) → s < 16 → f s ≡ g s) → map f (range_with_len 0 16) ≡ map g (range_with_len 0 16)
same_map f g h =
    same_lists (map f (range_with_len 0 16)) (map g (range_with_len 0 16)) (length-map-range_with_len f 0 16 ∙ sym (length-map-range_with_len g 0 16))
    (λ k d l.
    let m : k < 16 = omega (arith, length-map-range_with_len f 0 16) in
    get_or-map-range_with_len f 0 16 k k d m (omega arith) ∙ (h k m ∙ sym (get_or-map-range_with_len g 0 16 k k d m (omega arith))))

-- ---- one row more, as bits

bit_one : (u t : ℕ) (m : Bool) → u ≡ max t (one m) → t < 2 → eqb u 1 ≡ (eqb t 1 || m)
bit_one u zero true e h = ap (λ (x : ℕ). eqb x 1) e
bit_one u zero false e h = ap (λ (x : ℕ). eqb x 1) e
bit_one u (suc zero) true e h = ap (λ (x : ℕ). eqb x 1) e
bit_one u (suc zero) false e h = ap (λ (x : ℕ). eqb x 1) e
bit_one u (suc (suc t)) m e h = absurd (omega arith)

pub matched_more : (t u : ℕ) (marks : List ℕ) → ((s : ℕ) → s < 16 → bit_at u s ≡ max (bit_at t s) (one (matches marks s))) → map (λ s. eqb (bit_at u s) 1) settings ≡ map (λ s. get_or (map (λ k. eqb (bit_at t k) 1) settings) s false || matches marks s) settings
matched_more t u marks h =
    same_map (λ s. eqb (bit_at u s) 1) (λ s. get_or (map (λ k. eqb (bit_at t k) 1) settings) s false || matches marks s)
    (λ s l.
    bit_one (bit_at u s) (bit_at t s) (matches marks s) (h s l) (mod_below _ 2 (omega arith))
    ∙ ap (λ (b : Bool). b || matches marks s) (sym (get_or-map-range_with_len (λ k. eqb (bit_at t k) 1) 0 16 s s false l (omega arith))))

pub cover_more : (c : Cover) (r : Row) (v : Bool) (hits : List Bool) → v ≡ is_one r.value → hits ≡ (with_row r c).matched → record { value = Some v; matched = hits } ≡ with_row r c
cover_more c r v hits e h =
    ap (λ (xs : List Bool). record { value = Some v; matched = xs }) h ∙ ap (λ (b : Bool). record { value = Some b; matched = (with_row r c).matched }) e

-- ---- a list of rows

abbrev some_row : List Row → ℕ → Bool
some_row rs s = list_any (λ (r : Row). matches r.marks s) rs

step_cover : (h : ℕ → Bool) (c : Cover) (r : Row) → c.matched ≡ map h settings → (with_row r c).matched ≡ map (λ s. h s || matches r.marks s) settings
step_cover h c r e =
    ap (λ (xs : List Bool). map (λ s. get_or xs s false || matches r.marks s) settings) e
    ∙ same_map (λ s. get_or (map h settings) s false || matches r.marks s) (λ s. h s || matches r.marks s)
    (λ s l. ap (λ (b : Bool). b || matches r.marks s) (get_or-map-range_with_len h 0 16 s s false l (omega arith)))

all_rows : (rs : List Row) (h : ℕ → Bool) (c : Cover) → c.matched ≡ map h settings → (fold (λ (d : Cover) (r : Row). with_row r d) c rs).matched ≡ map (λ s. h s || some_row rs s) settings
all_rows [] h c e = e ∙ same_map h (λ s. h s || false) (λ s l. sym (or-false (h s)))
all_rows (r ∷ rs) h c e =
    all_rows rs (λ s. h s || matches r.marks s) (with_row r c) (step_cover h c r e)
    ∙ same_map (λ s. (h s || matches r.marks s) || some_row rs s) (λ s. h s || some_row (r ∷ rs) s) (λ s l. or_assoc (h s) (matches r.marks s) (some_row rs s))

pub rows_cover : RowsCover
rows_cover rs = all_rows rs (λ _. false) no_rows refl
