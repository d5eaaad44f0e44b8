-- The web of the filled tables is that of the network and the delay table.
use Rattle.std.proofs.Common.{◌≡◌, ℕ, zero, suc, ◌+◌, ◌*◌, ◌/◌, ◌%◌, ◌<◌, ◌≤◌, List, [], ◌∷◌, map, length, get_or, drop, sym, refl, ap, ◌∙◌, ap₂, arith}
use Rattle.std.specs.List.{range_with_len}
use Rattle.gauge.specs.Matrix.{edge_ops}
use Rattle.gauge.specs.Semirings.{Ops, Laws}
use Rattle.gauge.specs.declared.matrix.EdgeMatrix.{EdgeMatrix}
use Rattle.gauge.specs.Matrices.{edge_laws}
use Rattle.paths.specs.Sums.{path_sum, AreSums}
use Rattle.paths.specs.Web.{Agree}
use Rattle.paths.proofs.Sums.{agree_in_sums}
use Rattle.network.specs.Net.{size, fanin, from}
use Rattle.network.specs.declared.network.Network.{Network}
use Rattle.settling.specs.Tables.{cells, wire_of, web_on, WebFits}
use Rattle.settling.proofs.Shapes.{ranks}
use Rattle.delays.specs.Tables.{pin_times}
use Rattle.delays.proofs.Marking.{small}
use Rattle.opening.specs.Cells.{weight_at, starts_by, weights_by}
use Rattle.opening.specs.Forwards.{tap_of, forwards, all_counted, forwards_sound}
use Rattle.opening.specs.Opens.{file_web, opened_view}
use Rattle.opening.proofs.Tabling.{table_cell, table_is}

-- lists by functions that agree below n
pub counted_same : {X : Type 0} (f h : ℕ → X) (a n : ℕ) → ((k : ℕ) → k < a + n → f k ≡ h k) → map f (range_with_len a n) ≡ map h (range_with_len a n)
counted_same f h a zero each = refl
counted_same f h a (suc n) each = ap₂ ◌∷◌ (each a (omega arith)) (counted_same f h (a + 1) n (λ k l. each k (omega arith)))

pub map_map : {X Y Z : Type 0} (f : Y → Z) (h : X → Y) (xs : List X) → map f (map h xs) ≡ map (λ x. f (h x)) xs
map_map f h [] = refl
map_map f h (x ∷ xs) = ap (λ ys. f (h x) ∷ ys) (map_map f h xs)

-- tables that are long enough
pub fits : {V : Type 0} (net : Network) (starts weights : List V) → size net ≤ length starts → 4 * size net ≤ length weights → WebFits (forwards net) starts weights
fits net starts weights s w = record {
  starts_long = s;
  weights_long = λ u h. all_counted _ (tap_of net u) (fanin net u) (λ k l. omega (arith, (small net).pins u));
}

module _ {G : Type 0} (r : Ops G) (delays : ℕ → ℕ → G) (net : Network) (file : List ℕ) (starts weights : List (EdgeMatrix G)) where
  pub weight_cell : (s k : ℕ) → s < size net → k < 4
      → get_or (weights_by r delays net file weights) (4 * s + k) (edge_ops r).zero ≡ weight_at r delays net s k (pin_times file s k)
  weight_cell s k h low =
      let es : (4 * s + k) / 4 ≡ s = omega arith in
      let ek : (4 * s + k) % 4 ≡ k = omega arith in
      table_cell _ (4 * size net) weights (4 * s + k) (edge_ops r).zero (omega arith)
      ∙ ap₂ (λ (x y : ℕ). weight_at r delays net x y (pin_times file x y)) es ek

  agree : Agree (web_on (edge_ops r) (forwards net) (starts_by r delays net file starts) (weights_by r delays net file weights)) (file_web r delays net file)
  agree = record {
    size = refl;
    start = λ s h e. sym (table_cell _ (size net) starts s (edge_ops r).zero h);
    into = λ s h e.
        counted_same _ _ 0 (fanin net s)
        (λ k l. ap (λ (w : EdgeMatrix G). record { from = from net s k; weight = w }) (sym (weight_cell s k h (omega (arith, (small net).pins s)))))
        ∙ sym (map_map (wire_of (edge_ops r) (weights_by r delays net file weights)) (tap_of net s) (range_with_len 0 (fanin net s)));
  }

  pub file_sums : Laws r → (s : ℕ) → s < size net
      → path_sum (edge_ops r) (web_on (edge_ops r) (forwards net) (starts_by r delays net file starts) (weights_by r delays net file weights)) s
      ≡ path_sum (edge_ops r) (file_web r delays net file) s
  file_sums laws = agree_in_sums (edge_ops r) (edge_laws laws) _ _ (ranks (EdgeMatrix G) (edge_ops r) (forwards net) (forwards_sound net) _ _) agree

  -- the board with tables filled by the delay table, and with values that are the path sums of those tables
  pub opened : Laws r → (values starts' weights' values' : List (EdgeMatrix G))
      → starts' ≡ starts_by r delays net file starts → weights' ≡ weights_by r delays net file weights
      → size net ≤ length values → length values' ≡ length values → drop (size net) values' ≡ drop (size net) values
      → AreSums (edge_ops r) (web_on (edge_ops r) (forwards net) starts' weights') (cells (edge_ops r) values')
      → record { network = net; starts = starts'; weights = weights'; values = values' }
      ≡ opened_view r delays file (record { network = net; starts = starts; weights = weights; values = values })
  opened laws values starts' weights' values' es ew enough long past sums =
      let are : (s : ℕ) → s < size net → get_or values' s (edge_ops r).zero ≡ path_sum (edge_ops r) (file_web r delays net file) s =
      λ s h. sums s h ∙ ap₂ (λ (ss ws : List (EdgeMatrix G)). path_sum (edge_ops r) (web_on (edge_ops r) (forwards net) ss ws) s) es ew ∙ file_sums laws s h in
      let ev = table_is (path_sum (edge_ops r) (file_web r delays net file)) (size net) values values' (edge_ops r).zero long enough are past in
      ap₂ (λ (ss ws : List (EdgeMatrix G)). record { network = net; starts = ss; weights = ws; values = values' }) es ew
      ∙ ap (λ (vs : List (EdgeMatrix G)). record { network = net; starts = starts_by r delays net file starts; weights = weights_by r delays net file weights; values = vs }) ev
