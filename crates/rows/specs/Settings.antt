-- Settings as the bits of a number.
use Rattle.std.specs.Prelude.{◌≡◌, ℕ, ◌<◌, Bool, cond, List}
use Rattle.std.specs.Int.{bit_at}
use Rattle.rows.specs.Rows.{matches}

abbrev pub one : Bool → ℕ
one b = cond b 1 0

-- t has bit s in exactly the settings s, below 16, that the marks fit
abbrev pub Covers : List ℕ → ℕ → Type 0
Covers marks t = (s : ℕ) → s < 16 → bit_at t s ≡ one (matches marks s)
