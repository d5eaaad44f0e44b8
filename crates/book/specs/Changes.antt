-- How an accepted edit changes the book.
use Rattle.std.specs.Prelude.{ℕ, zero, suc, List, [], ◌∷◌}
use Rattle.gauge.specs.Matrix.{edge_ops}
use Rattle.gauge.specs.Semirings.{Ops}
use Rattle.gauge.specs.declared.matrix.EdgeMatrix.{EdgeMatrix}
use Rattle.weights.specs.Weights.{weight_of, start_of}
use Rattle.fields.specs.declared.edit.Edit.{Edit}
use Rattle.fields.specs.declared.edit.Edit.TheVariants.{SetDelay, SetStart, Rewire, Cut}
use Rattle.book.specs.Books.{Pin, Entry, Book}

-- the list with f done to the element at i
abbrev pub update : {A : Type 0} → ℕ → (A → A) → List A → List A
update i f [] = []
update zero f (x ∷ xs) = f x ∷ xs
update (suc i) f (x ∷ xs) = x ∷ update i f xs

module _ {V : Type 0} where
  abbrev pub reweighed : (Pin V → V) → Pin V → Pin V
  reweighed w p = record { from = p.from; raises = p.raises; lowers = p.lowers; weight = w p }

  abbrev pub refed : ℕ → Pin V → Pin V
  refed u p = record { from = u; raises = p.raises; lowers = p.lowers; weight = p.weight }

  abbrev pub restarted : V → Entry V → Entry V
  restarted v e = record { source = e.source; start = v; pins = e.pins }

  abbrev pub repinned : ℕ → (Pin V → Pin V) → Entry V → Entry V
  repinned k f e = record { source = e.source; start = e.start; pins = update k f e.pins }

-- the edited signal: the gate's output or the source
abbrev pub edited_by : Edit → ℕ
edited_by (SetDelay g k t) = g
edited_by (SetStart s t) = s
edited_by (Rewire g k u) = g
edited_by (Cut g k) = g

module _ {G : Type 0} (r : Ops G) (delays : ℕ → ℕ → G) where
  -- what an edit does to the entry of the edited signal: a delay renews one weight, a start the start;
  -- a rewiring changes a pin's signal and keeps its weight; a cut makes a weight zero
  abbrev pub edited : Edit → Entry (EdgeMatrix G) → Entry (EdgeMatrix G)
  edited (SetDelay g k t) = repinned k (reweighed (λ p. weight_of r delays p.raises p.lowers t))
  edited (SetStart s t) = restarted (start_of r delays t)
  edited (Rewire g k u) = repinned k (refed u)
  edited (Cut g k) = repinned k (reweighed (λ p. (edge_ops r).zero))

  -- the book after an accepted edit
  abbrev pub changed : Edit → Book (EdgeMatrix G) → Book (EdgeMatrix G)
  changed e = update (edited_by e) (edited e)
