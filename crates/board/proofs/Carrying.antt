-- What every edit carries over, every call and every chain of calls carries over.
use Rattle.std.proofs.Common.{◌≡◌, ℕ, ◌+◌, List, [], ◌∷◌, Some, None, Ok, Err, Option, Result, sym, subst}
use Rattle.gauge.specs.Semirings.{Ops}
use Rattle.gauge.specs.declared.matrix.EdgeMatrix.{EdgeMatrix}
use Rattle.fields.specs.declared.edit.Edit.{Edit}
use Rattle.fields.specs.declared.faults.FieldFault.{FieldFault}
use Rattle.fields.specs.Lists.{fields}
use Rattle.fields.specs.declared.read.Placed.{Placed}
use Rattle.fields.specs.Says.{edit_of}
use Rattle.opening.specs.Boards.{View}
use Rattle.book.specs.declared.edit_fault.EditFault.{EditFault}
use Rattle.book.specs.declared.script_fault.ScriptFault.{ScriptFault}
use Rattle.book.specs.Answers.{Call, edit, script}
use Rattle.board.specs.Steps.{Stepped}
use Rattle.board.specs.Runs.{Made, FieldTaken, Taken, ScriptedBy, Called, Chained}

module _ {G : Type 0} (r : Ops G) (delays : ℕ → ℕ → G) (R : View (EdgeMatrix G) → View (EdgeMatrix G) → Type 0)
    (none : (x : View (EdgeMatrix G)) → R x x) (more : (x y z : View (EdgeMatrix G)) → R x y → R y z → R x z)
    (step : (strip limit at : ℕ) (e : Edit) (x y : View (EdgeMatrix G)) (a : Result ℕ EditFault) → Stepped r delays strip limit at e x y a → R x y) where
  unmoved : (x y : View (EdgeMatrix G)) → y ≡ x → R x y
  unmoved x y e = subst (R x) (sym e) (none x)

  module _ (strip limit : ℕ) where
    pub field_carries : (at : ℕ) (said : Result Edit FieldFault) (x z : View (EdgeMatrix G)) (a : Result ℕ ScriptFault)
        → FieldTaken r delays strip limit at said x z a → R x z
    field_carries at (Ok e) x z a (b, stepped, is) = step strip limit at e x z b stepped
    field_carries at (Err d) x z a (still, is) = unmoved x z still

    fields_carry : (fs : List (Placed Edit)) (total : ℕ) (x y : View (EdgeMatrix G)) (a : Result ℕ ScriptFault)
        → Taken r delays strip limit fs total x y a → R x y
    fields_carry [] total x y a (still, is) = unmoved x y still
    fields_carry (f ∷ fs) total x y a (z, Ok n, taken, rest) =
        more x z y (field_carries f.at f.said x z (Ok n) taken) (fields_carry fs (total + n) z y a rest)
    fields_carry (f ∷ fs) total x y a (z, Err d, taken, rest) =
        more x z y (field_carries f.at f.said x z (Err d) taken) (unmoved z y rest.0)

    script_carries : (o : Option ScriptFault) (file : List ℕ) (x y : View (EdgeMatrix G)) (a : Result ℕ ScriptFault)
        → ScriptedBy r delays strip limit o file x y a → R x y
    script_carries (Some d) file x y a h = unmoved x y h.0
    script_carries None file x y a h = fields_carry (fields edit_of file) 0 x y a h

    pub call_carries : (c : Call) (x y : View (EdgeMatrix G)) (a : Result ℕ ScriptFault) → Called r delays strip limit c x y a → R x y
    call_carries (edit e) x y a h = field_carries 0 (Ok e) x y a h
    call_carries (script file) x y a h = script_carries _ file x y a h

  pub chain_carries : (ms : List Made) (x y : View (EdgeMatrix G)) → Chained r delays ms x y → R x y
  chain_carries [] x y h = unmoved x y h
  chain_carries (m ∷ ms) x y (z, called, rest) = more x z y (call_carries m.strip m.limit m.call x z m.said called) (chain_carries ms z y rest)
