-- The first of some faults. Assumes nothing.
use Rattle.std.proofs.Common.{◌≡◌, true, List, [], ◌∷◌, ◌++◌, is_err, IsErrAnd, Some, None, Ok, Err, Option, Result, sym, ap}
use mathlib.Core.Bool.{false≢true}
use Rattle.netlist.specs.Outcomes.{first_of}

pub some_none : {A : Type 0} {x : A} → Some x ≡ None → ⊥
some_none e = cc

pub ok_err : {A F : Type 0} {x : A} {f : F} → Ok x ≡ Err f → ⊥
ok_err e = cc

-- an error that `?` carried on
pub err_is : {X F : Type 0} (r : Result X F) (f : F) → is_err r ≡ true → IsErrAnd r (λ e. e ≡ f) → r ≡ Err f
err_is (Ok x) f i b = absurd (false≢true i)
err_is (Err e) f i b = ap Err b

-- ---- faults one list after another

pub first_on : {A : Type 0} (xs ys : List A) {r : Option A} → None ≡ first_of xs → r ≡ first_of ys → r ≡ first_of (xs ++ ys)
first_on [] ys e q = q
first_on (x ∷ xs) ys e q = absurd (some_none (sym e))

pub first_stops : {A : Type 0} (xs ys : List A) {x : A} → Some x ≡ first_of xs → Some x ≡ first_of (xs ++ ys)
first_stops [] ys e = absurd (some_none e)
first_stops (y ∷ xs) ys e = e
