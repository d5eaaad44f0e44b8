-- Arrivals are a selective semiring under any rule that keeps one of two times.
use Rattle.std.specs.Prelude.{◌≡◌, true, ◌↔◌, Some, None, Option, refl}
use Rattle.std.proofs.Common.{ap, inl, inr, ⊎_elim, eq-eqb, eqb-true, arith}
use Rattle.gauge.specs.declared.time.Time.{Time}
use Rattle.gauge.specs.Arrivals.{chosen, passed, alike, arrivals}
use Rattle.gauge.specs.Semirings.{Laws, Selects}
use Rattle.gauge.specs.Times.{time}
use Rattle.gauge.specs.TimesLemmas.{Keeps, time_same}

passed_assoc : (x y z : Option Time) → passed (passed x y) z ≡ passed x (passed y z)
passed_assoc None y z = refl
passed_assoc (Some a) None z = refl
passed_assoc (Some a) (Some b) None = refl
passed_assoc (Some a) (Some b) (Some c) = ap Some (time_same (omega arith))

at_once_passed : (x : Option Time) → passed (Some (time 0)) x ≡ x
at_once_passed None = refl
at_once_passed (Some a) = ap Some (time_same (omega arith))

passed_at_once : (x : Option Time) → passed x (Some (time 0)) ≡ x
passed_at_once None = refl
passed_at_once (Some a) = ap Some (time_same (omega arith))

passed_none : (x : Option Time) → passed x None ≡ None
passed_none None = refl
passed_none (Some a) = refl

alike_tells : (x y : Option Time) → (alike x y ≡ true) ↔ (x ≡ y)
alike_tells None None = (λ t. refl, λ e. refl)
alike_tells None (Some b) = (λ t. cc, λ e. cc)
alike_tells (Some a) None = (λ t. cc, λ e. cc)
alike_tells (Some a) (Some b) = (
  λ t. ap Some (time_same (eqb-true _ _ t)),
  λ e. eq-eqb _ _ (cc),
)

module _ {keep : Time → Time → Time} (k : Keeps keep) where
  chosen_assoc : (x y z : Option Time) → chosen keep (chosen keep x y) z ≡ chosen keep x (chosen keep y z)
  chosen_assoc None y z = refl
  chosen_assoc (Some a) None z = refl
  chosen_assoc (Some a) (Some b) None = refl
  chosen_assoc (Some a) (Some b) (Some c) = ap Some (k.assoc a b c)

  chosen_comm : (x y : Option Time) → chosen keep x y ≡ chosen keep y x
  chosen_comm None None = refl
  chosen_comm None (Some b) = refl
  chosen_comm (Some a) None = refl
  chosen_comm (Some a) (Some b) = ap Some (k.comm a b)

  passed_chosen : (x y z : Option Time) → passed x (chosen keep y z) ≡ chosen keep (passed x y) (passed x z)
  passed_chosen None y z = refl
  passed_chosen (Some a) None z = refl
  passed_chosen (Some a) (Some b) None = refl
  passed_chosen (Some a) (Some b) (Some c) = ap Some (k.sum_left a b c)

  chosen_passed : (x y z : Option Time) → passed (chosen keep x y) z ≡ chosen keep (passed x z) (passed y z)
  chosen_passed None y z = refl
  chosen_passed (Some a) None None = refl
  chosen_passed (Some a) None (Some c) = refl
  chosen_passed (Some a) (Some b) None = refl
  chosen_passed (Some a) (Some b) (Some c) = ap Some (k.sum_right a b c)

  pub arrivals_laws : Laws (arrivals keep)
  arrivals_laws = record {
    plus_assoc = chosen_assoc;
    plus_comm = chosen_comm;
    zero_plus = λ x. refl;
    times_assoc = passed_assoc;
    one_times = at_once_passed;
    times_one = passed_at_once;
    times_plus = passed_chosen;
    plus_times = chosen_passed;
    zero_times = λ x. refl;
    times_zero = passed_none;
    tells = alike_tells;
  }

  pub arrivals_select : Selects (arrivals keep)
  arrivals_select None y = inr refl
  arrivals_select (Some a) None = inl refl
  arrivals_select (Some a) (Some b) = ⊎_elim (λ e. inl (ap Some e)) (λ e. inr (ap Some e)) (k.one_of a b)
