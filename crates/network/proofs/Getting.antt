-- A signal that may not be there.
use Rattle.std.proofs.Common.{◌≡◌, ℕ, zero, suc, Bool, false, List, [], ◌∷◌, Option, None, get_or, sym, refl, subst}
use Rattle.std.specs.List.{slice_get}
use Rattle.std.specs.Option.{MatchOption, option_map}
use Rattle.network.specs.Wiring.{absent, is_source, driver}
use Rattle.network.specs.declared.signal.Signal.{Signal}

got : (f : Signal → Bool) (Post : Signal → Type 0) (r : Bool) → f absent ≡ false → ((x : Signal) → Post x → r ≡ f x) → (xs : List Signal) (s : ℕ) → MatchOption (slice_get xs s) (r ≡ false) Post → r ≡ f (get_or xs s absent)
got f Post r none each [] s e = subst (λ b. r ≡ b) (sym none) e
got f Post r none each (x ∷ xs) zero post = each x post
got f Post r none each (x ∷ xs) (suc s) e = got f Post r none each xs s e

-- what `is_some_and` answers of a test that a blank signal fails
pub tested : (f : Signal → Bool) (Post : Signal → Type 0) (r : Bool) → f absent ≡ false → ((x : Signal) → Post x → r ≡ f x) → (xs : List Signal) (s : ℕ) (o : Option Signal) → o ≡ slice_get xs s → MatchOption o (r ≡ false) Post → r ≡ f (get_or xs s absent)
tested f Post r none each xs s o is e = got f Post r none each xs s (subst (λ p. MatchOption p (r ≡ false) Post) is e)

-- what is not there is no source
pub no_source : (xs : List Signal) (s : ℕ) → option_map (λ (x : Signal). x.driver) (slice_get xs s) ≡ None → false ≡ is_source (driver xs s)
no_source [] s e = refl
no_source (x ∷ xs) zero e = absurd cc
no_source (x ∷ xs) (suc s) e = no_source xs s e
