-- What is downstream of a signal in a board's network, and what the signal leads to in the web of the book.
use Rattle.std.proofs.Common.{◌≡◌, ℕ, zero, suc, ◌+◌, ◌*◌, ◌<◌, true, false, List, [], ◌∷◌, map, length, sym, refl, ap, ◌∙◌, subst, inl, inr, ⊎_elim, arith}
use mathlib.Core.Option.{Option, some, some-injective, none-ne-some}
use lib.ListN.{length-map, get_elem?}
use Rattle.std.specs.List.{range_with_len}
use Rattle.std.proofs.lemmas.Bool.{cases_Bool, cases_lt}
use Rattle.gauge.specs.Semirings.{Ops}
use Rattle.paths.specs.Reach.{reached}
use Rattle.paths.specs.Web.{Incoming, Wire as WebWire, incoming_of, IsWire, Leads}
use Rattle.paths.proofs.Reaching.{tells_reach}
use Rattle.network.specs.Net.{signals, size, fanin, from}
use Rattle.network.specs.Reach.{Wire, Reaches, wire, further}
use Rattle.network.specs.Rewiring.{Downstream}
use Rattle.settling.specs.Tables.{cells}
use Rattle.opening.specs.Boards.{View}
use Rattle.opening.proofs.Agreeing.{map_map}
use Rattle.book.specs.Books.{Entry, entry, wire_of, web, pin_by}
use Rattle.board.specs.Books.{book_of}
use Rattle.board.proofs.Webs.{book_long, entry_is, entry_past, pins_are, book_ranks}

module _ {A : Type 0} where
  -- what is found in a list stands before its end
  found_within : (xs : List A) (i : ℕ) (y : A) → get_elem? xs i ≡ some y → i < length xs
  found_within [] i y e = absurd (none-ne-some y e)
  found_within (x ∷ xs) zero y e = omega arith
  found_within (x ∷ xs) (suc i) y e = let h = found_within xs i y e in omega arith

  -- what is found in a list made from a function of the index
  found_counted : (f : ℕ → A) (a n i j : ℕ) → i < n → a + i ≡ j → get_elem? (map f (range_with_len a n)) i ≡ some (f j)
  found_counted f a zero i j l e = absurd (omega arith)
  found_counted f a (suc n) zero j l e = let h : a ≡ j = omega arith in ap {B = Option A} (λ k. some (f k)) h
  found_counted f a (suc n) (suc i) j l e = found_counted f (a + 1) n i j (omega arith) (omega arith)

module _ {V : Type 0} (r : Ops V) (x : View V) where
  -- the wire of pin k of the signal s, as s has it
  abbrev incoming : ℕ → ℕ → Incoming V
  incoming s k = record { from = from x.network s k; weight = cells r x.weights (4 * s + k) }

  -- it is found in slot k
  pin_found : (s k : ℕ) → s < size x.network → k < fanin x.network s → get_elem? ((web r (book_of r x)).into s) k ≡ some (incoming s k)
  pin_found s k here l =
      let pin = pin_by (signals x.network) (cells r x.starts) (λ s k. cells r x.weights (4 * s + k)) s in
      ap (λ (e : Entry V). get_elem? (map wire_of e.pins) k) (entry_is r x s here)
      ∙ ap (λ (ys : List (Incoming V)). get_elem? ys k) (map_map wire_of pin (range_with_len 0 (fanin x.network s)))
      ∙ found_counted (incoming s) 0 (fanin x.network s) k k l (omega arith)

  -- the wires of the web end at signals of the network
  found_here : (s k : ℕ) (y : Incoming V) → get_elem? ((web r (book_of r x)).into s) k ≡ some y → s < size x.network
  found_here s k y e =
      ⊎_elim
      (λ here. here)
      (λ past. absurd (none-ne-some y (sym (ap (λ (n : Entry V). get_elem? (map wire_of n.pins) k) (entry_past r x s past)) ∙ e)))
      (cases_lt s (size x.network))

  -- a wire of the web is one of the network
  network_wire : (w : WebWire V) → IsWire (web r (book_of r x)) w → Wire (signals x.network) w.from w.to
  network_wire w is =
      let pins = (entry r (book_of r x) w.to).pins in
      let within = found_within (map wire_of pins) w.slot (incoming_of w) is in
      let l : w.slot < fanin x.network w.to = omega (arith, length-map pins wire_of, pins_are r x w.to) in
      let found = pin_found w.to w.slot (found_here w.to w.slot (incoming_of w) is) l in
      (w.slot, l, ap (λ (y : Incoming V). y.from) (some-injective (incoming w.to w.slot) (incoming_of w) (sym found ∙ is)))

  -- a signal that is reached from g, and what is led to from there
  reaches_on : (g a s : ℕ) (ws : List (WebWire V)) → Reaches (Wire (signals x.network)) g a → Leads (web r (book_of r x)) a ws s
      → Reaches (Wire (signals x.network)) g s
  reaches_on g a s [] way e = subst (Reaches (Wire (signals x.network)) g) e way
  reaches_on g a s (w ∷ ws) way (is, e, led) =
      reaches_on g w.to s ws (further (subst (Reaches (Wire (signals x.network)) g) e way) (network_wire w is)) led

  led_downstream : (g s : ℕ) (ws : List (WebWire V)) → Leads (web r (book_of r x)) g ws s → Downstream (signals x.network) g s
  led_downstream g s [] e = inl (sym e)
  led_downstream g s (w ∷ ws) (is, e, led) =
      inr (reaches_on g w.to s ws (wire (subst (λ u. Wire (signals x.network) u w.to) (sym e) (network_wire w is))) led)

  -- the wire of pin k of the signal s, with both its ends
  abbrev pin_wire : ℕ → ℕ → WebWire V
  pin_wire s k = record { from = from x.network s k; to = s; slot = k; weight = cells r x.weights (4 * s + k) }

  -- wires that lead from v to s, after those by which v is reached
  led_from : (g v s : ℕ) (ws : List (WebWire V)) → v < size x.network → Reaches (Wire (signals x.network)) g v → Leads (web r (book_of r x)) v ws s
      → (all : List (WebWire V)) × Leads (web r (book_of r x)) g all s
  led_from g v s ws here (wire (k, l, e)) led = (pin_wire v k ∷ ws, (pin_found v k here l, sym e, led))
  led_from g v s ws here (further {v = u} way (k, l, e)) led =
      led_from g u s (pin_wire v k ∷ ws) (subst (λ n. n < size x.network) e (x.network.wired v k l)) way (pin_found v k here l, sym e, led)

module _ {V : Type 0} (r : Ops V) (x : View V) (g u : ℕ) where
  -- the test of the web holds of the signal and of what is downstream of it
  pub downstream_reached : u < size x.network → Downstream (signals x.network) g u → reached (web r (book_of r x)) g u ≡ true
  downstream_reached here down =
      (tells_reach V (web r (book_of r x)) (book_ranks r x) g u (omega (arith, book_long r x))).1
      (⊎_elim (λ e. ([], sym e)) (λ way. led_from r x g u u [] here way refl) down)

  -- and of nothing else
  pub reached_downstream : u < size x.network → reached (web r (book_of r x)) g u ≡ true → Downstream (signals x.network) g u
  reached_downstream here yes' =
      let led = (tells_reach V (web r (book_of r x)) (book_ranks r x) g u (omega (arith, book_long r x))).0 yes' in
      led_downstream r x g u led.0 led.1

  pub apart_reached : u < size x.network → (Downstream (signals x.network) g u → ⊥) → reached (web r (book_of r x)) g u ≡ false
  apart_reached here apart = ⊎_elim (λ yes'. absurd (apart (reached_downstream here yes'))) (λ no'. no') (cases_Bool (reached (web r (book_of r x)) g u))
