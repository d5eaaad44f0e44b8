-- Edge matrices over a semiring are a semiring.
use Rattle.std.specs.Prelude.{◌≡◌, true, ◌↔◌}
use Rattle.std.proofs.Common.{sym, ap, ◌∙◌, rules}
use Rattle.std.proofs.lemmas.Bool.{and_parts, and_from}
use Rattle.gauge.specs.declared.matrix.EdgeMatrix.{EdgeMatrix}
use Rattle.gauge.specs.Matrix.{edge_ops}
use Rattle.gauge.specs.Semirings.{Ops, Laws}

matrix_same : {S : Type 0} {x y : EdgeMatrix S} → x.rise_rise ≡ y.rise_rise → x.rise_fall ≡ y.rise_fall
    → x.fall_rise ≡ y.fall_rise → x.fall_fall ≡ y.fall_fall → x ≡ y
matrix_same e f g h = λ i. record { rise_rise = e i; rise_fall = f i; fall_rise = g i; fall_fall = h i }

module _ {S : Type 0} {r : Ops S} (l : Laws r) where
  swapped : (a b c d : S) → r.plus (r.plus a b) (r.plus c d) ≡ r.plus (r.plus a c) (r.plus b d)
  swapped a b c d =
      l.plus_assoc a b (r.plus c d)
      ∙ ap (r.plus a) (sym (l.plus_assoc b c d) ∙ ap (λ t. r.plus t d) (l.plus_comm b c) ∙ l.plus_assoc c b d)
      ∙ sym (l.plus_assoc a c (r.plus b d))

  -- one entry of each law: two ways, by a rise and by a fall
  ways_assoc : (a b p q s t u v : S)
      → r.plus (r.times (r.plus (r.times a p) (r.times b q)) u) (r.times (r.plus (r.times a s) (r.times b t)) v)
      ≡ r.plus (r.times a (r.plus (r.times p u) (r.times s v))) (r.times b (r.plus (r.times q u) (r.times t v)))
  ways_assoc a b p q s t u v =
      simp (l.plus_times, l.times_plus, l.times_assoc)
      (swapped (r.times a (r.times p u)) (r.times b (r.times q u)) (r.times a (r.times s v)) (r.times b (r.times t v)))

  ways_plus : (a p q b s t : S) → r.plus (r.times a (r.plus p q)) (r.times b (r.plus s t))
      ≡ r.plus (r.plus (r.times a p) (r.times b s)) (r.plus (r.times a q) (r.times b t))
  ways_plus a p q b s t = simp l.times_plus (swapped (r.times a p) (r.times a q) (r.times b s) (r.times b t))

  plus_ways : (a b p c d q : S) → r.plus (r.times (r.plus a b) p) (r.times (r.plus c d) q)
      ≡ r.plus (r.plus (r.times a p) (r.times c q)) (r.plus (r.times b p) (r.times d q))
  plus_ways a b p c d q = simp l.plus_times (swapped (r.times a p) (r.times b p) (r.times c q) (r.times d q))

  pub plus_zero : (x : S) → r.plus x r.zero ≡ x
  plus_zero x = l.plus_comm x r.zero ∙ l.zero_plus x

  same_tells : (x y : EdgeMatrix S) → ((edge_ops r).same x y ≡ true) ↔ (x ≡ y)
  same_tells x y = (
    λ t.
        let h = and_parts _ _ t in
        let h' = and_parts _ _ h.1 in
        let h'' = and_parts _ _ h'.1 in
        matrix_same ((l.tells _ _).0 h.0) ((l.tells _ _).0 h'.0) ((l.tells _ _).0 h''.0) ((l.tells _ _).0 h''.1),
    λ e. search (rules, and_from, λ (a b : S). (l.tells a b).1),
  )

  pub edge_laws : Laws (edge_ops r)
  edge_laws = record {
    plus_assoc = λ x y z. simp l.plus_assoc;
    plus_comm = λ x y. search (rules, l.plus_comm);
    zero_plus = λ x. simp l.zero_plus;
    times_assoc = λ x y z. simp ways_assoc;
    one_times = λ x. simp (l.one_times, l.zero_times, l.zero_plus, plus_zero);
    times_one = λ x. simp (l.times_one, l.times_zero, l.zero_plus, plus_zero);
    times_plus = λ x y z. simp ways_plus;
    plus_times = λ x y z. simp plus_ways;
    zero_times = λ x. simp (l.zero_times, l.zero_plus);
    times_zero = λ x. simp (l.times_zero, l.zero_plus);
    tells = same_tells;
  }
