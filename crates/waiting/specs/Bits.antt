-- Sets of turns in the bits of words. Assumes nothing.
use Rattle.std.specs.Prelude.{◌≡◌, ℕ, ◌*◌, ◌/◌, ◌%◌, ◌^◌, ◌<◌, Bool, true, ◌&&◌, List, length, ◌==◌, nat_lt, slice_index}
use Rattle.std.proofs.lemmas.Bool.{ltb-true, and_parts}

-- bit k of w, which weighs 2 ^ k, is set
abbrev pub bit : ℕ → ℕ → Bool
bit w k = w / 2 ^ k % 2 == 1

-- the turns of a strip of n words of 32 bits: turn t is bit t % 32 of word t / 32
abbrev pub in_strip : ℕ → List ℕ → ℕ → Bool
in_strip n words t = nat_lt t (32 * n) && bit (slice_index words (t / 32)) (t % 32)

-- the words before word i are 0
abbrev pub ZerosBefore : List ℕ → ℕ → Type 0
ZerosBefore words i = (k : ℕ) → k < i → slice_index words k ≡ 0

-- word i is the first that is not 0
abbrev pub FirstSet : List ℕ → ℕ → Type 0
FirstSet words i = (i < length words) × (0 < slice_index words i) × ZerosBefore words i

-- what waits on a strip is below its limit
pub strip_below : (n : ℕ) (words : List ℕ) (t : ℕ) → in_strip n words t ≡ true → t < 32 * n
strip_below n words t h = ltb-true t (32 * n) (and_parts (nat_lt t (32 * n)) _ h).0
