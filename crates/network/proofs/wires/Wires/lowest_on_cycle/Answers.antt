use Rattle.std.proofs.Common.{◌≡◌, ℕ, ◌<◌, ◌≤◌, List, length, Option, Some, None, subst, arith, rules}
use Rattle.std.specs.Option.{MatchOption, IsSome}
use Rattle.std.proofs.lemmas.Iterator.{first_from_Range}
use Rattle.network.specs.Reach.{OnCycle, Acyclic, LowestOnCycle}
use Rattle.network.specs.declared.signal.Signal.{Signal}
use Rattle.network.proofs.Ends.{reached_within}
use Rattle.network.proofs.wires.Wires.lowest_on_cycle.Goals as goal

-- what a search upwards finds
abbrev Found : List Signal → Option ℕ → Type 0
Found xs r =
    MatchOption r ((k : ℕ) → 0 ≤ k → k < length xs → OnCycle xs k → ⊥) (λ i. (0 ≤ i) × (i < length xs) × OnCycle xs i × ((k : ℕ) → 0 ≤ k → k < i → OnCycle xs k → ⊥))

one_found : (xs : List Signal) (r : Option ℕ) → Found xs r → (Acyclic xs → ⊥) → IsSome r
one_found xs (Some i) found cyclic = search rules
one_found xs None none cyclic = absurd (cyclic (λ s on. none s (omega arith) (reached_within xs s s on) on))

lowest : (xs : List Signal) (r : Option ℕ) (i : ℕ) → Found xs r → r ≡ Some i → LowestOnCycle xs i
lowest xs r i found is =
    let f = subst (Found xs) is found in
    record { cyclic = f.2; lowest = λ k l. f.3 k (omega arith) l }

pub unwrap-requires : goal.unwrap-requires
unwrap-requires c =
    let xs = c.args.self.signals.now in
    one_found xs c.find.result (first_from_Range _ _ _ c.find.result (OnCycle xs) (λ s. OnCycle xs s → ⊥) c.find.ensures.ran (λ x q k. search rules) (λ x q k. search rules)) c.requires

pub returns-clause-is : goal.returns-clause-is
returns-clause-is c =
    let xs = c.args.self.signals.now in
    lowest xs c.find.result _ (first_from_Range _ _ _ c.find.result (OnCycle xs) (λ s. OnCycle xs s → ⊥) c.find.ensures.ran (λ x q k. search rules) (λ x q k. search rules)) c.unwrap.ensures
