-- Tables whose first cells are by a function.
use Rattle.std.proofs.Common.{◌≡◌, ℕ, ◌<◌, ◌≤◌, List, ◌++◌, map, length, get_or, take, drop, sym, ap, ◌∙◌, arith}
use Rattle.std.specs.List.{range_with_len}
use Rattle.std.proofs.lemmas.List.FromFn.{length-map-range_with_len, get_or-map-range_with_len, fill_by_all}
use Rattle.std.proofs.lemmas.List.{drop_at, length-append, length-drop, get_or_append_left, take-append-drop, length-take-le, get_or-take}
use Rattle.opening.specs.Cells.{table}

module _ {V : Type 0} (f : ℕ → V) where
  -- cells that are by the function, in front of the others
  pub table_by : (n m : ℕ) (old new : List V) (d : V) → m ≡ n → n ≤ length old → length new ≡ length (take m old)
      → ((i : ℕ) → i < length (take m old) → get_or new i d ≡ f i) → new ++ drop m old ≡ table f n old
  table_by n m old new d is fits long each =
      let enough : m ≤ length old = omega arith in
      let all : length (take m old) ≡ m = length-take-le m old enough in
      ap (λ (ys : List V). ys ++ drop m old) (fill_by_all f new m d (long ∙ all) (λ k h. each k (omega (arith, all))))
      ∙ ap (λ (k : ℕ). table f k old) is

  pub table_cell : (n : ℕ) (old : List V) (i : ℕ) (d : V) → i < n → get_or (table f n old) i d ≡ f i
  table_cell n old i d h =
      let within : i < length (map f (range_with_len 0 n)) = omega (arith, length-map-range_with_len f 0 n) in
      get_or_append_left (map f (range_with_len 0 n)) (drop n old) d i within ∙ get_or-map-range_with_len f 0 n i i d h (omega arith)

  pub table_past : (n : ℕ) (old : List V) → drop n (table f n old) ≡ drop n old
  table_past n old = drop_at (map f (range_with_len 0 n)) (drop n old) n (length-map-range_with_len f 0 n)

  pub table_long : (n : ℕ) (old : List V) → n ≤ length old → length (table f n old) ≡ length old
  table_long n old h =
      omega (arith, length-append (map f (range_with_len 0 n)) (drop n old), length-map-range_with_len f 0 n, length-drop n old)

  -- a table is known by its length, its first cells and the others
  pub table_is : (n : ℕ) (old new : List V) (d : V) → length new ≡ length old → n ≤ length old
      → ((i : ℕ) → i < n → get_or new i d ≡ f i) → drop n new ≡ drop n old → new ≡ table f n old
  table_is n old new d long fits cells past =
      let within : n ≤ length new = omega arith in
      sym (take-append-drop n new)
      ∙ (ap (λ (ys : List V). ys ++ drop n new) (fill_by_all f (take n new) n d (length-take-le n new within) (λ k h. get_or-take n new k d h ∙ cells k h))
      ∙ ap (λ (ys : List V). map f (range_with_len 0 n) ++ ys) past)
