-- A text means one thing.
use Rattle.std.proofs.Common.{◌≡◌, ℕ, List, get_or, sym, ap, ◌∙◌, ⊎_elim, arith}
use Rattle.std.proofs.lemmas.Bool.{cases_lt}
use Rattle.fault.specs.declared.cause.Cause.TheVariants.{Cycle}
use Rattle.netlist.specs.Cycles.{LowestOnCycle, Closes, MeansOne}
use Rattle.netlist.specs.Faults.{fault}
use Rattle.netlist.specs.Reading.{Verdict, refuses, netlist, read}
use Rattle.netlist.specs.Signals.{Signal, no_signal}

-- only one signal is the lowest on a cycle
one_lowest : (ss : List Signal) (s t : ℕ) → LowestOnCycle ss s → LowestOnCycle ss t → s ≡ t
one_lowest ss s t l m =
    ⊎_elim
    (λ h. absurd (m.lowest s h l.cyclic))
    (λ h. ⊎_elim (λ k. absurd (l.lowest t k m.cyclic)) (λ k. omega arith) (cases_lt t s))
    (cases_lt s t)

-- what is read to the end has one verdict
closes_one : (r v w : Verdict) → Closes r v → Closes r w → v ≡ w
closes_one (refuses f) v w p q = p ∙ sym q
closes_one (netlist ss) (netlist ts) (netlist us) p q = ap netlist (p.0 ∙ sym q.0)
closes_one (netlist ss) (netlist ts) (refuses g) p q = absurd (p.1 q.0 q.1.cyclic)
closes_one (netlist ss) (refuses f) (netlist us) p q = absurd (q.1 p.0 p.1.cyclic)
closes_one (netlist ss) (refuses f) (refuses g) p q =
    ap refuses (p.2 ∙ ap (λ s. fault Cycle (get_or ss s no_signal).name.place) (one_lowest ss p.0 q.0 p.1 q.1) ∙ sym q.2)

pub means_one : MeansOne
means_one text = closes_one (read text)
