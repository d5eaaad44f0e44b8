-- Places that climb. Assumes nothing.
use Rattle.std.proofs.Common.{◌≡◌, ℕ, suc, ◌+◌, ◌≤◌, Bool, true, false, List, [], ◌∷◌, length, subst, arith}
use Rattle.std.proofs.lemmas.Bool.{cond_both}
use Rattle.text.specs.Text.{Piece, solid, blank, solid_first, begun, words}
use Rattle.text.specs.Words.{places_of}

abbrev pub Asc : ℕ → List ℕ → Type 0
Asc lo [] = Unit {0}
Asc lo (p ∷ ps) = (lo ≤ p) × Asc (suc p) ps

-- from lo up to below hi
abbrev pub Climb : ℕ → ℕ → List ℕ → Type 0
Climb lo hi [] = lo ≤ hi
Climb lo hi (p ∷ ps) = (lo ≤ p) × Climb (suc p) hi ps

pub climb_le : (lo hi : ℕ) (ps : List ℕ) → Climb lo hi ps → lo ≤ hi
climb_le lo hi [] x = x
climb_le lo hi (p ∷ ps) x = let a = x.0 in let b = climb_le (suc p) hi ps x.1 in omega (arith, a, b)

pub climb_wide : (a b lo hi : ℕ) (ps : List ℕ) → a ≤ lo → hi ≤ b → Climb lo hi ps → Climb a b ps
climb_wide a b lo hi [] h k x = omega (arith, x)
climb_wide a b lo hi (p ∷ ps) h k x = let l = x.0 in (omega (arith, l), climb_wide (suc p) b (suc p) hi ps (omega arith) k x.1)

pub climb_asc : (lo hi : ℕ) (ps : List ℕ) → Climb lo hi ps → Asc lo ps
climb_asc lo hi [] x = tt
climb_asc lo hi (p ∷ ps) x = (x.0, climb_asc (suc p) hi ps x.1)

-- ---- the words of a text

begun_climb : (at b hi : ℕ) (t : Bool) (ws : List Piece) → Climb (suc at) hi (places_of ws) → Climb at hi (places_of (begun at b t ws))
begun_climb at b hi true [] x = (omega arith, x)
begun_climb at b hi true (w ∷ ws) x = let q = x.0 in (omega arith, climb_wide (suc at) hi (suc w.place) hi (places_of ws) (omega (arith, q)) (omega arith) x.1)
begun_climb at b hi false ws x = (omega arith, x)

pub words_climb : (at : ℕ) (xs : List ℕ) → Climb at (at + length xs) (places_of (words at xs))
words_climb at [] = omega arith
words_climb at (b ∷ bs) =
    let q : suc at + length bs ≡ at + length (b ∷ bs) = omega arith in
    let rest : Climb (suc at) (at + length (b ∷ bs)) (places_of (words (suc at) bs)) = subst (λ (hi : ℕ). Climb (suc at) hi (places_of (words (suc at) bs))) q (words_climb (suc at) bs) in
    cond_both (solid b) _ _ (λ (ws : List Piece). Climb at (at + length (b ∷ bs)) (places_of ws)) (λ _. begun_climb at b (at + length (b ∷ bs)) (solid_first bs) (words (suc at) bs) rest)
    (λ _. cond_both (blank b) (words (suc at) bs) [] (λ (ws : List Piece). Climb at (at + length (b ∷ bs)) (places_of ws)) (λ _. climb_wide at (at + length (b ∷ bs)) (suc at) (at + length (b ∷ bs)) (places_of (words (suc at) bs)) (omega arith) (omega arith) rest) (λ _. omega arith))
