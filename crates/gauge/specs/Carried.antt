-- A semiring's laws, for the same operations on values that stand in a wrapper.
use Rattle.std.specs.Prelude.{◌≡◌}
use Rattle.std.proofs.Common.{sym, ap, ◌∙◌, inl, inr, ⊎_elim}
use Rattle.gauge.specs.Semirings.{Ops, Laws, Selects, carried}

module _ {V W : Type 0} (wrap : V → W) (inside : W → V) (r : Ops V) (whole : (x : W) → wrap (inside x) ≡ x) (held : (v : V) → inside (wrap v) ≡ v) where
  pub carried_laws : Laws r → Laws (carried wrap inside r)
  carried_laws l = record {
    plus_assoc = λ x y z. simp held (ap wrap (l.plus_assoc (inside x) (inside y) (inside z)));
    plus_comm = λ x y. ap wrap (l.plus_comm (inside x) (inside y));
    zero_plus = λ x. simp held (ap wrap (l.zero_plus (inside x)) ∙ whole x);
    times_assoc = λ x y z. simp held (ap wrap (l.times_assoc (inside x) (inside y) (inside z)));
    one_times = λ x. simp held (ap wrap (l.one_times (inside x)) ∙ whole x);
    times_one = λ x. simp held (ap wrap (l.times_one (inside x)) ∙ whole x);
    times_plus = λ x y z. simp held (ap wrap (l.times_plus (inside x) (inside y) (inside z)));
    plus_times = λ x y z. simp held (ap wrap (l.plus_times (inside x) (inside y) (inside z)));
    zero_times = λ x. simp held (ap wrap (l.zero_times (inside x)));
    times_zero = λ x. simp held (ap wrap (l.times_zero (inside x)));
    tells = λ x y. (
      λ t. sym (whole x) ∙ ap wrap ((l.tells (inside x) (inside y)).0 t) ∙ whole y,
      λ e. (l.tells (inside x) (inside y)).1 (ap inside e),
    );
  }

  pub carried_selects : Selects r → Selects (carried wrap inside r)
  carried_selects s x y =
      ⊎_elim (λ e. inl (ap wrap e ∙ whole x)) (λ e. inr (ap wrap e ∙ whole y)) (s (inside x) (inside y))
