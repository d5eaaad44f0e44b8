-- Words that stand for themselves, and words by their beginning.
use Rattle.std.specs.Prelude.{ℕ, Bool, false, cond, List, [], ◌∷◌, map, length, Some, None, codes, filter, Option, ◌==◌, nat_lt}
use Rattle.std.specs.List.{list_any}
use Rattle.std.specs.Str.{bytes_eq}
use Rattle.text.specs.Text.{Piece}
use Rattle.text.specs.declared.word.Command.{Command}
use Rattle.text.specs.declared.word.Command.TheVariants.{Model, Inputs, Outputs, Names, Latch, End}

abbrev pub one_of : List (List ℕ) → List ℕ → Bool
one_of ws w = list_any (bytes_eq w) ws

abbrev pub latch_types : List (List ℕ)
latch_types = codes "fe" ∷ codes "re" ∷ codes "ah" ∷ codes "al" ∷ codes "as" ∷ []

abbrev pub initial_values : List (List ℕ)
initial_values = codes "0" ∷ codes "1" ∷ codes "2" ∷ codes "3" ∷ []

abbrev pub command_named : List ℕ → Option Command
command_named w =
    cond (bytes_eq w (codes ".model")) (Some Model)
    (cond (bytes_eq w (codes ".inputs")) (Some Inputs)
    (cond (bytes_eq w (codes ".outputs")) (Some Outputs)
    (cond (bytes_eq w (codes ".names")) (Some Names)
    (cond (bytes_eq w (codes ".latch")) (Some Latch)
    (cond (bytes_eq w (codes ".end")) (Some End) None)))))

-- begins with a dot
abbrev pub dotted : List ℕ → Bool
dotted [] = false
dotted (b ∷ bs) = b == 46

-- a command word, another word with a dot in front, or a word without one
pub data Lexeme : Type 0 where
  keyword : Command → Piece → Lexeme
  unknown : Piece → Lexeme
  plain : Piece → Lexeme

abbrev pub known : Option Command → Piece → Lexeme
known None w = unknown w
known (Some c) w = keyword c w

abbrev pub lexeme_of : Piece → Lexeme
lexeme_of w = cond (dotted w.bytes) (known (command_named w.bytes) w) (plain w)

-- a name has at most 32 bytes
abbrev pub is_long : Piece → Bool
is_long w = nat_lt 32 (length w.bytes)

abbrev pub places_of : List Piece → List ℕ
places_of ws = map (λ (w : Piece). w.place) ws

abbrev pub long_names : List Piece → List ℕ
long_names ns = places_of (filter is_long ns)
