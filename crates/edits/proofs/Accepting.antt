-- What writing and settling leave is a step of the board.
use Rattle.std.proofs.Common.{◌≡◌, ℕ, ◌<◌, Bool, true, false, cond, ltb, length, drop, Some, None, Ok, Err, sym, refl, ap, ◌∙◌, subst, arith}
use Rattle.std.proofs.lemmas.Bool.{ltb-true, and_parts}
use Rattle.gauge.specs.Matrix.{edge_ops}
use Rattle.gauge.specs.Semirings.{Ops}
use Rattle.gauge.specs.declared.matrix.EdgeMatrix.{EdgeMatrix}
use Rattle.paths.specs.Edits.{only, Settled, edit_count}
use Rattle.network.specs.Net.{signals as signals_of, size, is_source_of}
use Rattle.network.specs.declared.network.Network.{Network}
use Rattle.settling.specs.Tables.{cells, web_on, WebFits}
use Rattle.fields.specs.declared.edit.Edit.{Edit}
use Rattle.fields.specs.declared.edit.Edit.TheVariants.{SetDelay, SetStart, Rewire, Cut}
use Rattle.delays.specs.Outlines.{Pin, outline_of, has}
use Rattle.opening.specs.Boards.{View}
use Rattle.opening.specs.Forwards.{forwards}
use Rattle.opening.proofs.Agreeing.{fits}
use Rattle.book.specs.declared.edit_fault.EditFault.{EditFault}
use Rattle.book.specs.declared.edit_fault.EditFault.TheVariants.{ClosesCycle}
use Rattle.book.specs.Changes.{edited_by}
use Rattle.book.specs.Judging.{closes}
use Rattle.board.specs.Books.{book_of}
use Rattle.board.specs.Steps.{Stepped}
use Rattle.board.proofs.Lasting.{signals_long, starts_long, weights_long}
use Rattle.board.proofs.Reaching.{downstream_reached, apart_reached}
use Rattle.board.proofs.Webs.{webs_agree, settled_over, count_over}
use Rattle.edits.specs.Checks.{has_parts}
use Rattle.edits.specs.Writes.{Closing, Wrote, Left}
use Rattle.edits.proofs.Passing.{pinned, Passed}

-- the edited signal is there
pub edited_there : (net : Network) (e : Edit) → has_parts net e ≡ true → edited_by e < size net
edited_there net (SetDelay g k t) h = (pinned net g k h).0
edited_there net (SetStart s t) h = ltb-true s (size net) (and_parts (ltb s (size net)) (is_source_of net s) h).0
edited_there net (Rewire g k u) h = (pinned net g k (and_parts (has (outline_of net) (Pin g k)) (ltb u (size net)) h).0).0
edited_there net (Cut g k) h = (pinned net g k h).0

feeder_there : (net : Network) (g k u : ℕ) → has_parts net (Rewire g k u) ≡ true → u < size net
feeder_there net g k u h = ltb-true u (size net) (and_parts (has (outline_of net) (Pin g k)) (ltb u (size net)) h).1

module _ {V : Type 0} (r : Ops V) (x : View V) where
  -- the book tells the edits that would close a cycle
  closing_told : (e : Edit) → has_parts x.network e ≡ true → Closing x.network e → closes r (book_of r x) e ≡ true
  closing_told (SetDelay g k t) h c = absurd c
  closing_told (SetStart s t) h c = absurd c
  closing_told (Rewire g k u) h c = downstream_reached r x g u (feeder_there x.network g k u h) c
  closing_told (Cut g k) h c = absurd c

  apart_told : (e : Edit) → has_parts x.network e ≡ true → (Closing x.network e → ⊥) → closes r (book_of r x) e ≡ false
  apart_told (SetDelay g k t) h c = refl
  apart_told (SetStart s t) h c = refl
  apart_told (Rewire g k u) h c = apart_reached r x g u (feeder_there x.network g k u h) c
  apart_told (Cut g k) h c = refl

module _ {G : Type 0} (r : Ops G) (delays : ℕ → ℕ → G) (x y : View (EdgeMatrix G)) (strip limit at : ℕ) (e : Edit)
    (ok : Passed (edge_ops r) x strip limit at e) where
  -- a rewiring that would close a cycle
  pub step_left : (d : EditFault) → Left r delays e at x.network y.network x.starts y.starts x.weights y.weights d
      → y.values ≡ x.values → Stepped r delays strip limit at e x y (Err d)
  step_left d left values = (
    ok.decided ∙ (ap (λ (b : Bool). cond b (Some (ClosesCycle at)) None) (closing_told (edge_ops r) x e ok.parts left.closing) ∙ ap Some (sym left.fault)),
    (λ i. record { network = left.network i; starts = left.starts_are i; weights = left.weights_are i; values = values i }),
  )

  module _ (wrote : Wrote r delays e at x.network y.network x.starts y.starts x.weights y.weights) where
    pub as_many : size y.network ≡ size x.network
    as_many = ap length wrote.signals ∙ signals_long e (signals_of x.network)

    -- the tables still fit
    pub still_fits : WebFits (forwards y.network) y.starts y.weights
    still_fits =
        let starts = ap length wrote.starts_are ∙ starts_long r delays e x.starts in
        let weights = ap length wrote.weights_are ∙ weights_long r delays (signals_of x.network) e x.weights in
        fits y.network y.starts y.weights (omega (arith, as_many, starts, ok.starts)) (omega (arith, as_many, weights, ok.weights))

    pub edited_still_there : edited_by e < size y.network
    edited_still_there = omega (arith, as_many, edited_there x.network e ok.parts)

    pub step_wrote : (n : ℕ) → length y.values ≡ length x.values
        → drop (size y.network) y.values ≡ drop (size y.network) x.values
        → Settled (edge_ops r) (only (edited_by e)) (web_on (edge_ops r) (forwards y.network) y.starts y.weights) (cells (edge_ops r) x.values) (cells (edge_ops r) y.values)
        → n ≡ edit_count (edge_ops r) (edited_by e) (web_on (edge_ops r) (forwards y.network) y.starts y.weights) (cells (edge_ops r) x.values) (cells (edge_ops r) y.values)
        → Stepped r delays strip limit at e x y (Ok n)
    step_wrote n long past settled count = (
      ok.decided ∙ ap (λ (b : Bool). cond b (Some (ClosesCycle at)) None) (apart_told (edge_ops r) x e ok.parts wrote.apart),
      record {
        signals = wrote.signals;
        starts = wrote.starts_are;
        weights = wrote.weights_are;
        long = long;
        past = subst (λ (m : ℕ). drop m y.values ≡ drop m x.values) as_many past;
        settled = settled_over (edge_ops r) (webs_agree (edge_ops r) y) (cells (edge_ops r) x.values) (cells (edge_ops r) y.values) (only (edited_by e)) settled;
        count = count ∙ count_over (edge_ops r) (webs_agree (edge_ops r) y) (cells (edge_ops r) x.values) (cells (edge_ops r) y.values) (edited_by e);
      },
    )
