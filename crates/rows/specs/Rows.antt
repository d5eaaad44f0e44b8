-- The rows of a gate: which words are a row, and which settings it matches.
use Rattle.std.specs.Prelude.{ℕ, ◌+◌, ◌/◌, ◌%◌, Bool, true, false, not, ◌&&◌, ◌||◌, List, [], ◌∷◌, map, length, Some, None, codes, Option, ◌==◌, slice_index_or}
use Rattle.std.specs.List.{list_all, range_with_len}
use Rattle.std.specs.Str.{bytes_eq}

-- the marks, one for each pin, and the last word
pub record Row : Type 0 where
  pub marks : List ℕ
  pub value : List ℕ

-- the rows of a gate so far: their last word (1 is true), and for each setting of four pins whether one of them matches it
pub record Cover : Type 0 where
  pub value : Option Bool
  pub matched : List Bool

-- 0, 1 or -
abbrev pub is_mark : ℕ → Bool
is_mark b = b == 48 || (b == 49 || b == 45)

abbrev pub is_one : List ℕ → Bool
is_one w = bytes_eq w (codes "1")

-- 0 or 1
abbrev pub is_bit : List ℕ → Bool
is_bit w = bytes_eq w (codes "0") || is_one w

abbrev pub alike : Bool → Bool → Bool
alike true b = b
alike false b = not b

-- all rows end alike
abbrev pub agrees : Option Bool → Bool → Bool
agrees None b = true
agrees (Some a) b = alike a b

-- a row of a gate with n pins
abbrev pub row_fits : ℕ → Cover → Row → Bool
row_fits n c r = length r.marks == n && (list_all is_mark r.marks && (is_bit r.value && agrees c.value (is_one r.value)))

-- a - fits 0 and 1, and a 0 or 1 itself
abbrev pub fits : ℕ → ℕ → Bool
fits mark bit = mark == 45 || mark == 48 + bit

-- pin j, from 0, weighs 2^j in a setting's number
abbrev pub matches : List ℕ → ℕ → Bool
matches [] n = true
matches (m ∷ ms) n = fits m (n % 2) && matches ms (n / 2)

abbrev pub settings : List ℕ
settings = range_with_len 0 16

abbrev pub no_rows : Cover
no_rows = record { value = None; matched = map (λ _. false) settings }

abbrev pub with_row : Row → Cover → Cover
with_row r c = record { value = Some (is_one r.value); matched = map (λ s. slice_index_or c.matched s false || matches r.marks s) settings }
