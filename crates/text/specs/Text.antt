-- Bytes, lines and words of a netlist's text.
use Rattle.std.specs.Prelude.{ℕ, suc, Bool, true, false, cond, not, ◌&&◌, ◌||◌, List, [], ◌∷◌, ◌==◌, nat_le}

-- space, tab and byte 13
abbrev pub blank : ℕ → Bool
blank b = b == 32 || (b == 9 || b == 13)

abbrev pub newline : ℕ → Bool
newline b = b == 10

-- byte 10 closes the line, and # the part of it that holds words
abbrev pub closes : ℕ → Bool
closes b = newline b || b == 35

-- part of a word
abbrev pub solid : ℕ → Bool
solid b = not (blank b || closes b)

-- a backslash, or a byte other than 9, 10, 13 and 32 to 126
abbrev pub bad : ℕ → Bool
bad b = b == 92 || not (b == 9 || (b == 10 || (b == 13 || (nat_le 32 b && nat_le b 126))))

-- a part of the text with the place of its first byte
pub record Piece : Type 0 where
  pub place : ℕ
  pub bytes : List ℕ

abbrev pub piece : ℕ → List ℕ → Piece
piece at bs = record { place = at; bytes = bs }

abbrev pub solid_first : List ℕ → Bool
solid_first [] = false
solid_first (b ∷ bs) = solid b

-- byte b, at the place `at`, in front of the first piece
abbrev pub widened : ℕ → ℕ → List Piece → List Piece
widened at b [] = piece at (b ∷ []) ∷ []
widened at b (w ∷ ws) = piece at (b ∷ w.bytes) ∷ ws

-- the same, where the byte after it is not solid: a piece of its own
abbrev pub begun : ℕ → ℕ → Bool → List Piece → List Piece
begun at b true ws = widened at b ws
begun at b false ws = piece at (b ∷ []) ∷ ws

-- the words up to a # or the end of the line: the longest runs of solid bytes. `at` is the place of the first byte
abbrev pub words : ℕ → List ℕ → List Piece
words at [] = []
words at (b ∷ bs) =
    cond (solid b) (begun at b (solid_first bs) (words (suc at) bs)) (cond (blank b) (words (suc at) bs) [])

-- the lines, without the byte 10 that closes each but the last
abbrev pub lines : ℕ → List ℕ → List Piece
lines at [] = piece at [] ∷ []
lines at (b ∷ bs) = cond (newline b) (piece at [] ∷ lines (suc at) bs) (widened at b (lines (suc at) bs))

-- the places of the bytes that a netlist may not hold
abbrev pub bad_places : ℕ → List ℕ → List ℕ
bad_places at [] = []
bad_places at (b ∷ bs) = cond (bad b) (at ∷ bad_places (suc at) bs) (bad_places (suc at) bs)
