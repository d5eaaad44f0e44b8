-- The tables as the entries are written into them, one after another.
use Rattle.std.specs.Prelude.{ℕ, ◌+◌, ◌*◌, List, [], ◌∷◌, Ok, Err, Result, slice_set}
use Rattle.gauge.specs.Semirings.{Ops}
use Rattle.gauge.specs.declared.matrix.EdgeMatrix.{EdgeMatrix}
use Rattle.network.specs.declared.network.Network.{Network}
use Rattle.fields.specs.declared.read.Placed.{Placed}
use Rattle.fields.specs.declared.entry.Entry.{Entry}
use Rattle.fields.specs.declared.entry.Entry.TheVariants as entry
use Rattle.fields.specs.declared.faults.FieldFault.{FieldFault}
use Rattle.opening.specs.Cells.{start_at, weight_at}

module _ {G : Type 0} (r : Ops G) (delays : ℕ → ℕ → G) (net : Network) where
  -- the starts with a field's start in its cell
  abbrev pub starts_with : Result Entry FieldFault → List (EdgeMatrix G) → List (EdgeMatrix G)
  starts_with (Ok (entry.Clock c)) cells = cells
  starts_with (Ok (entry.Delay g p t)) cells = cells
  starts_with (Ok (entry.Start s t)) cells = slice_set cells s (start_at r delays net s t)
  starts_with (Err d) cells = cells

  -- the weights with a field's weight in its cell
  abbrev pub weights_with : Result Entry FieldFault → List (EdgeMatrix G) → List (EdgeMatrix G)
  weights_with (Ok (entry.Clock c)) cells = cells
  weights_with (Ok (entry.Delay g p t)) cells = slice_set cells (4 * g + p) (weight_at r delays net g p t)
  weights_with (Ok (entry.Start s t)) cells = cells
  weights_with (Err d) cells = cells

-- the cells after all fields, one after another
abbrev pub after_all : {V : Type 0} → (Result Entry FieldFault → List V → List V) → List V → List (Placed Entry) → List V
after_all writes cells [] = cells
after_all writes cells (f ∷ fs) = after_all writes (writes f.said cells) fs
