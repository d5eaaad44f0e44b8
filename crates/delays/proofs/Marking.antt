-- The marks tell which parts the fields so far name.
use Rattle.std.proofs.Common.{◌≡◌, ℕ, ◌+◌, ◌*◌, ◌<◌, ◌≤◌, Bool, true, false, ◌&&◌, ◌||◌, eqb, ltb, ◌≢◌, List, [], ◌∷◌, length, set, None, Ok, sym, refl, ap, ◌∙◌, ⊎_elim, arith}
use Rattle.std.proofs.lemmas.List.{length-set, length-replicate, get_or-set_same, get_or-set_other, get_or-replicate}
use Rattle.std.proofs.lemmas.Bool.{ltb-true, eq-eqb, cases_eq, and_parts, and_from, or_left}
use Rattle.std.proofs.lemmas.Bool.Decides.{nat_tests}
use Rattle.network.specs.Limit.{max_signals}
use Rattle.network.specs.Net.{signals}
use Rattle.network.specs.Wiring.{number_of_pins, driver}
use Rattle.network.specs.declared.network.Network.{Network}
use Rattle.network.specs.declared.signal.Driver.{Driver}
use Rattle.network.specs.declared.signal.Driver.TheVariants.{Undriven, Input, Latched, Gated}
use Rattle.fields.specs.declared.entry.Entry.{Entry}
use Rattle.fields.specs.declared.entry.Entry.TheVariants as entry
use Rattle.fields.specs.declared.read.Placed.{Placed}
use Rattle.delays.specs.declared.marks.Named.{Named}
use Rattle.delays.specs.Outlines.{Outline, Part, Pin, Source, outline_of, has, same_part}
use Rattle.delays.specs.Tables.{too_early, named, part_fault, entry_fault}
use Rattle.delays.specs.Marks.{unmarked, is_marked, marks, marked_with}

-- few signals, and few pins each
pub record Small (outline : Outline) : Type 0 where
  pub signals : outline.signals ≤ 255
  pub pins : (s : ℕ) → outline.pins s ≤ 4

few : (d : Driver) → number_of_pins d ≤ 4
few Undriven = omega arith
few Input = omega arith
few (Latched l) = omega arith
few (Gated g) = g.few

pub small : (net : Network) → Small (outline_of net)
small net = record { signals = net.few; pins = λ s. few (driver (signals net) s) }

-- a part that is there is marked exactly if a field before names it
pub record Notes (outline : Outline) (marked : Named) (before : List (Placed Entry)) : Type 0 where
  pub pins_long : length marked.pins ≡ 4 * max_signals
  pub sources_long : length marked.sources ≡ max_signals
  pub tell : (part : Part) → has outline part ≡ true → marks marked part ≡ named before part

module _ {outline : Outline} (small : Small outline) where
  pub pin_there : (g p : ℕ) → has outline (Pin g p) ≡ true → (g < 255) × (p < 4)
  pin_there g p h =
      let both = and_parts (ltb g outline.signals) (ltb p (outline.pins g)) h in
      (omega (arith, ltb-true _ _ both.0, small.signals), omega (arith, ltb-true _ _ both.1, small.pins g))

  source_there : (s : ℕ) → has outline (Source s) ≡ true → s < 255
  source_there s h =
      let both = and_parts (ltb s outline.signals) (outline.source s) h in
      omega (arith, ltb-true _ _ both.0, small.signals)

  none_marked : (part : Part) → has outline part ≡ true → marks unmarked part ≡ false
  none_marked (Pin g p) is = let b = pin_there g p is in get_or-replicate (4 * max_signals) (4 * g + p) false false (omega (arith, b.0, b.1))
  none_marked (Source s) is = get_or-replicate max_signals s false false (source_there s is)

  pub noted_none : Notes outline unmarked []
  noted_none = record { pins_long = length-replicate {A = Bool} (4 * max_signals) false; sources_long = length-replicate {A = Bool} max_signals false; tell = none_marked }

  module _ {marked : Named} {before : List (Placed Entry)} (notes : Notes outline marked before) where
    pin_tells : (h q : ℕ) → has outline (Pin h q) ≡ true → (part : Part) → has outline part ≡ true
        → marks (record { pins = set marked.pins (4 * h + q) true; sources = marked.sources }) part ≡ (same_part part (Pin h q) || named before part)
    pin_tells h q there (Source s) is = notes.tell (Source s) is
    pin_tells h q there (Pin g p) is =
        let a = pin_there h q there in
        let b = pin_there g p is in
        ⊎_elim
        (λ (same : 4 * g + p ≡ 4 * h + q).
        let eg : g ≡ h = omega (arith, a.1, b.1) in
        let ep : p ≡ q = omega arith in
        let lt : 4 * h + q < length marked.pins = omega (arith, notes.pins_long, a.0, a.1) in
        ap (is_marked (set marked.pins (4 * h + q) true)) same ∙ get_or-set_same marked.pins (4 * h + q) true false lt
        ∙ sym (or_left _ (named before (Pin g p)) (and_from _ _ (eq-eqb g h eg) (eq-eqb p q ep))))
        (λ (ne : 4 * g + p ≢ 4 * h + q).
        let off : (eqb g h && eqb p q) ≡ false = grind (arith, nat_tests) in
        get_or-set_other marked.pins (4 * h + q) (4 * g + p) true false ne ∙ notes.tell (Pin g p) is ∙ ap (λ (b : Bool). b || named before (Pin g p)) (sym off))
        (cases_eq (4 * g + p) (4 * h + q))

    source_tells : (u : ℕ) → has outline (Source u) ≡ true → (part : Part) → has outline part ≡ true
        → marks (record { pins = marked.pins; sources = set marked.sources u true }) part ≡ (same_part part (Source u) || named before part)
    source_tells u there (Pin g p) is = notes.tell (Pin g p) is
    source_tells u there (Source s) is =
        ⊎_elim
        (λ (same : s ≡ u).
        let lt : u < length marked.sources = omega (arith, notes.sources_long, source_there u there) in
        ap (is_marked (set marked.sources u true)) same ∙ get_or-set_same marked.sources u true false lt ∙ sym (or_left _ (named before (Source s)) (eq-eqb s u same)))
        (λ (ne : s ≢ u).
        let off : eqb s u ≡ false = grind (arith, nat_tests) in
        get_or-set_other marked.sources u s true false ne ∙ notes.tell (Source s) is ∙ ap (λ (b : Bool). b || named before (Source s)) (sym off))
        (cases_eq s u)

    part_there : (there early again : Bool) (at : ℕ) → part_fault there early again at ≡ None → there ≡ true
    part_there there early again at h = grind arith

    -- an entry without fault is marked
    pub noted : (at : ℕ) (e : Entry) → entry_fault outline (marks marked) at e ≡ None
        → Notes outline (marked_with marked e) (record { at = at; said = Ok e } ∷ before)
    noted at (entry.Clock c) h = grind arith
    noted at (entry.Delay g p t) h = record {
      pins_long = length-set marked.pins (4 * g + p) true ∙ notes.pins_long;
      sources_long = notes.sources_long;
      tell = pin_tells g p (part_there (has outline (Pin g p)) (too_early t) (marks marked (Pin g p)) at h);
    }
    noted at (entry.Start s t) h = record {
      pins_long = notes.pins_long;
      sources_long = length-set marked.sources s true ∙ notes.sources_long;
      tell = source_tells s (part_there (has outline (Source s)) (too_early t) (marks marked (Source s)) at h);
    }

    part_same : (there early a b : Bool) (at : ℕ) → (there ≡ true → a ≡ b) → part_fault there early a at ≡ part_fault there early b at
    part_same there early a b at h = grind arith

    -- the fault by the marks is the fault by the fields before
    pub same_fault : (at : ℕ) (e : Entry) → entry_fault outline (marks marked) at e ≡ entry_fault outline (named before) at e
    same_fault at (entry.Clock c) = refl
    same_fault at (entry.Delay g p t) = part_same _ _ _ _ at (notes.tell (Pin g p))
    same_fault at (entry.Start s t) = part_same _ _ _ _ at (notes.tell (Source s))
