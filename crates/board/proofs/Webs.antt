-- A board's network and tables, read as its book.
use Rattle.std.proofs.Common.{◌≡◌, ℕ, ◌+◌, ◌*◌, ◌<◌, ◌≤◌, Bool, true, cond, not, ◌&&◌, ◌||◌, ltb, map, length, get_or, sym, refl, ap, ◌∙◌, ap₂, ⊎_elim, arith}
use Rattle.std.specs.List.{range_with_len}
use Rattle.std.proofs.lemmas.List.FromFn.{length-map-range_with_len, get_or-map-range_with_len}
use Rattle.std.proofs.lemmas.List.{get_or_past}
use Rattle.std.proofs.lemmas.Bool.{cases_lt, ltb-true, lt-ltb, le-ltb, and_parts}
use Rattle.gauge.specs.Semirings.{Ops}
use Rattle.paths.specs.Edits.{any, only, fed, Settled, edit_count, count_below}
use Rattle.paths.specs.Web.{Web, Incoming, Ranked, Rankable, Agree}
use Rattle.paths.proofs.Sums.{worked_unedited, agree_ranked}
use Rattle.network.specs.Net.{signals, size, fanin, turn, is_source_of}
use Rattle.network.specs.Wiring.{absent, number_of_pins}
use Rattle.network.specs.declared.signal.Signal.{Signal}
use Rattle.settling.specs.Tables as tables
use Rattle.settling.specs.Tables.{cells, web_on}
use Rattle.settling.proofs.Folds.{count_same}
use Rattle.settling.proofs.Shapes.{ranked}
use Rattle.opening.specs.Boards.{View}
use Rattle.opening.specs.Forwards.{tap_of, forwards, forwards_sound}
use Rattle.opening.proofs.Agreeing.{map_map}
use Rattle.book.specs.Books.{Entry, none, entry, wire_of, web, pin_by, entry_by}
use Rattle.book.specs.Judging.{has_pin}
use Rattle.board.specs.Books.{book_of}

-- what is settled over a web, and counted over it, is so over a web that agrees
module _ {V : Type 0} (r : Ops V) {old new : Web V} (agree : Agree old new) (before after : ℕ → V) where
  fed_over : (s : ℕ) → s < new.size → fed r old before after s ≡ fed r new before after s
  unfolding fed
  fed_over s in' = ap (any (λ (w : Incoming V). not (r.same (before w.from) (after w.from)))) (sym (agree.into s in' refl))

  pub settled_over : (edited : ℕ → Bool) → Settled r edited old before after → Settled r edited new before after
  settled_over edited settled s in' =
      settled s (omega (arith, agree.size))
      ∙ ap₂ (λ (b : Bool) (v : V). cond (edited s || b) v (before s)) (fed_over s in') (worked_unedited r _ old new agree after s in' refl)

  pub count_over : (e : ℕ) → edit_count r e old before after ≡ edit_count r e new before after
  unfolding edit_count
  count_over e =
      ap (λ n. 1 + n)
      (ap (λ n. count_below n (λ s. not (only e s) && fed r old before after s)) (sym agree.size)
      ∙ count_same new.size _ _ (λ s in'. ap (λ b. not (only e s) && b) (fed_over s in')))

module _ {V : Type 0} (r : Ops V) (x : View V) where
  -- what the book has of a signal of the network
  abbrev pub entry_of : ℕ → Entry V
  entry_of = entry_by (signals x.network) (cells r x.starts) (λ s k. cells r x.weights (4 * s + k))

  pub book_long : length (book_of r x) ≡ size x.network
  book_long = length-map-range_with_len entry_of 0 (size x.network)

  pub entry_is : (s : ℕ) → s < size x.network → entry r (book_of r x) s ≡ entry_of s
  entry_is s l = get_or-map-range_with_len entry_of 0 (size x.network) s s (none r) l (omega arith)

  pub entry_past : (s : ℕ) → size x.network ≤ s → entry r (book_of r x) s ≡ none r
  entry_past s past = get_or_past (book_of r x) s (none r) (omega (arith, book_long))

  signal_past : (s : ℕ) → size x.network ≤ s → get_or (signals x.network) s absent ≡ absent
  signal_past s past = get_or_past (signals x.network) s absent past

  pub pins_are : (s : ℕ) → length (entry r (book_of r x) s).pins ≡ fanin x.network s
  pins_are s =
      ⊎_elim
      (λ l. ap (λ (e : Entry V). length e.pins) (entry_is s l) ∙ length-map-range_with_len _ 0 (fanin x.network s))
      (λ past. ap (λ (e : Entry V). length e.pins) (entry_past s past) ∙ ap (λ (y : Signal). number_of_pins y.driver) (sym (signal_past s past)))
      (cases_lt s (size x.network))

  pub sources_are : (s : ℕ) → (entry r (book_of r x) s).source ≡ (ltb s (size x.network) && is_source_of x.network s)
  sources_are s =
      ⊎_elim
      (λ l. ap (λ (e : Entry V). e.source) (entry_is s l) ∙ ap (λ b. b && is_source_of x.network s) (sym (lt-ltb s (size x.network) l)))
      (λ past. ap (λ (e : Entry V). e.source) (entry_past s past) ∙ ap (λ b. b && is_source_of x.network s) (sym (le-ltb s (size x.network) past)))
      (cases_lt s (size x.network))

  -- a pin or a source that the book has is one of the network's
  pub pin_within : (g k : ℕ) → has_pin r (book_of r x) g k ≡ true → (g < size x.network) × (k < fanin x.network g)
  pin_within g k has =
      let there : k < fanin x.network g = omega (arith, ltb-true k _ has, pins_are g) in
      (⊎_elim (λ l. l) (λ past. absurd (omega (arith, ap (λ (y : Signal). number_of_pins y.driver) (signal_past g past)))) (cases_lt g (size x.network)), there)

  pub source_within : (s : ℕ) → (entry r (book_of r x) s).source ≡ true → s < size x.network
  source_within s is = ltb-true s (size x.network) (and_parts _ _ (sym (sources_are s) ∙ is)).0

  pub webs_agree : Agree (web_on r (forwards x.network) x.starts x.weights) (web r (book_of r x))
  webs_agree =
      let within : (s : ℕ) → s < length (book_of r x) → s < size x.network = λ s h. omega (arith, book_long) in
      record {
        size = book_long;
        start = λ s h e. ap (λ (e : Entry V). e.start) (entry_is s (within s h));
        into = λ s h e.
            let wires = range_with_len 0 (fanin x.network s) in
            ap (λ (e : Entry V). map wire_of e.pins) (entry_is s (within s h))
            ∙ map_map wire_of (pin_by (signals x.network) (cells r x.starts) (λ s k. cells r x.weights (4 * s + k)) s) wires
            ∙ sym (map_map (tables.wire_of r x.weights) (tap_of x.network s) wires);
      }

  -- the network's turns are ranks
  pub book_ranked : Ranked (web r (book_of r x)) (turn x.network)
  book_ranked = agree_ranked _ _ _ (ranked r (forwards_sound x.network) x.starts x.weights) webs_agree

  abbrev pub book_ranks : Rankable (web r (book_of r x))
  book_ranks = (turn x.network, book_ranked)
