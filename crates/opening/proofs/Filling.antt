-- Fields that are written into a table one after another.
use Rattle.std.proofs.Common.{◌≡◌, ℕ, ◌+◌, ◌*◌, ◌/◌, ◌%◌, ◌<◌, ◌≤◌, true, false, eqb, ltb, ◌≢◌, List, [], ◌∷◌, length, get_or, drop, set, Ok, Err, Result, sym, refl, ap, ◌∙◌, subst, ap₂, ⊎_elim, arith}
use Rattle.std.specs.List.{AllByRecursion}
use Rattle.std.proofs.lemmas.List.{length-set, drop-set-lt, get_or-set_same, get_or-set_other, nil_from_length}
use Rattle.std.proofs.lemmas.Bool.{ltb-true, eqb-true, and_parts, cases_Bool, cond-true, cond-false}
use Rattle.std.proofs.lemmas.Bool.Decides.{nat_tests}
use Rattle.gauge.specs.Semirings.{Ops}
use Rattle.gauge.specs.declared.matrix.EdgeMatrix.{EdgeMatrix}
use Rattle.weights.specs.declared.times.Times.{Times}
use Rattle.network.specs.Net.{size, fanin, is_source_of}
use Rattle.network.specs.declared.network.Network.{Network}
use Rattle.fields.specs.declared.read.Placed.{Placed}
use Rattle.fields.specs.declared.entry.Entry.{Entry}
use Rattle.fields.specs.declared.entry.Entry.TheVariants as entry
use Rattle.fields.specs.declared.faults.FieldFault.{FieldFault}
use Rattle.delays.specs.Laws.{Fits, WellNamed}
use Rattle.delays.specs.Outlines.{Part, Pin, Source, outline_of}
use Rattle.delays.specs.Tables.{names_in, names, naming, no_times, times_in, first_times}
use Rattle.delays.proofs.Marking.{small}
use Rattle.opening.specs.Cells.{table, start_at, weight_at, weight_in}
use Rattle.opening.specs.Fills.{starts_with, weights_with, after_all}
use Rattle.opening.proofs.Tabling.{table_cell, table_past, table_long, table_is}

module _ (net : Network) {V : Type 0} (writes : Result Entry FieldFault → List V → List V) where
  -- a field that fits writes into the first n cells
  pub record Within (n : ℕ) : Type 0 where
    pub long : (said : Result Entry FieldFault) (cells : List V) → length (writes said cells) ≡ length cells
    pub past : (said : Result Entry FieldFault) (cells : List V) → Fits (outline_of net) said → drop n (writes said cells) ≡ drop n cells

  -- the cell of a part gets the value of the times of a field that names the part
  pub record Holds (n : ℕ) (part : Part) (cell : ℕ) (value : Times → V) : Type 0 where
    pub here : (said : Result Entry FieldFault) (cells : List V) (d : V) → Fits (outline_of net) said → n ≤ length cells
        → names_in said part ≡ true → get_or (writes said cells) cell d ≡ value (times_in said)
    pub other : (said : Result Entry FieldFault) (cells : List V) (d : V) → Fits (outline_of net) said
        → names_in said part ≡ false → get_or (writes said cells) cell d ≡ get_or cells cell d

  abbrev AllFit : List (Placed Entry) → Type 0
  AllFit fs = AllByRecursion (λ f. Fits (outline_of net) f.said) fs

  module _ {n : ℕ} (within : Within n) where
    after_long : (cells : List V) (fs : List (Placed Entry)) → length (after_all writes cells fs) ≡ length cells
    after_long cells [] = refl
    after_long cells (f ∷ fs) = after_long (writes f.said cells) fs ∙ within.long f.said cells

    after_past : (cells : List V) (fs : List (Placed Entry)) → AllFit fs → drop n (after_all writes cells fs) ≡ drop n cells
    after_past cells [] fit = refl
    after_past cells (f ∷ fs) fit = after_past (writes f.said cells) fs fit.1 ∙ within.past f.said cells fit.0

    module _ {part : Part} {cell : ℕ} {value : Times → V} (holds : Holds n part cell value) (d : V) where
      after_same : (cells : List V) (fs : List (Placed Entry)) → AllFit fs → naming fs part ≡ [] → get_or (after_all writes cells fs) cell d ≡ get_or cells cell d
      after_same cells [] fit none = refl
      after_same cells (f ∷ fs) fit none =
          ⊎_elim
          (λ (named : names f part ≡ true).
          let some : naming (f ∷ fs) part ≡ f ∷ naming fs part = cond-true _ _ _ named in
          grind arith)
          (λ (off : names f part ≡ false).
          after_same (writes f.said cells) fs fit.1 (sym (cond-false _ _ _ off) ∙ none) ∙ holds.other f.said cells d fit.0 off)
          (cases_Bool (names f part))

      after_cell : (cells : List V) (fs : List (Placed Entry)) → AllFit fs → n ≤ length cells → length (naming fs part) ≤ 1
          → get_or cells cell d ≡ value no_times → get_or (after_all writes cells fs) cell d ≡ value (first_times (naming fs part))
      after_cell cells [] fit enough once was = was
      after_cell cells (f ∷ fs) fit enough once was =
          ⊎_elim
          (λ (named : names f part ≡ true).
          let some : naming (f ∷ fs) part ≡ f ∷ naming fs part = cond-true _ _ _ named in
          let alone : length (naming fs part) ≡ 0 = omega (arith, ap length some) in
          after_same (writes f.said cells) fs fit.1 (nil_from_length _ alone) ∙ holds.here f.said cells d fit.0 enough named
          ∙ ap (λ (gs : List (Placed Entry)). value (first_times gs)) (sym some))
          (λ (off : names f part ≡ false).
          let rest : naming (f ∷ fs) part ≡ naming fs part = cond-false _ _ _ off in
          let enough' : n ≤ length (writes f.said cells) = omega (arith, within.long f.said cells) in
          let once' : length (naming fs part) ≤ 1 = omega (arith, ap length rest) in
          after_cell (writes f.said cells) fs fit.1 enough' once' (holds.other f.said cells d fit.0 off ∙ was)
          ∙ ap (λ (gs : List (Placed Entry)). value (first_times gs)) (sym rest))
          (cases_Bool (names f part))

    -- a table of the values of no times, after all the fields of a table that is well named
    pub filled : (part : ℕ → Part) (value : ℕ → Times → V) → ((i : ℕ) → i < n → Holds n (part i) i (value i))
        → (d : V) (fs : List (Placed Entry)) → WellNamed (outline_of net) fs → (old cells after : List V) → n ≤ length old
        → cells ≡ table (λ i. value i no_times) n old → after ≡ after_all writes cells fs
        → after ≡ table (λ i. value i (first_times (naming fs (part i)))) n old
    filled part value holds d fs well old cells after fits begun is =
        let none : ℕ → V = λ i. value i no_times in
        let long : length cells ≡ length old = ap length begun ∙ table_long none n old fits in
        let enough : n ≤ length cells = omega arith in
        table_is (λ i. value i (first_times (naming fs (part i)))) n old after d
        (ap length is ∙ after_long cells fs ∙ long) fits
        (λ i h.
        ap (λ (xs : List V). get_or xs i d) is
        ∙ after_cell (holds i h) d cells fs well.fit enough (well.once (part i)) (ap (λ (xs : List V). get_or xs i d) begun ∙ table_cell none n old i d h))
        (ap (drop n) is ∙ after_past cells fs well.fit ∙ ap (drop n) begun ∙ table_past none n old)

module _ {G : Type 0} (r : Ops G) (delays : ℕ → ℕ → G) (net : Network) where
  source_within : (s : ℕ) → Fits (outline_of net) (Ok (entry.Start s no_times)) → s < size net
  source_within s there = ltb-true s (size net) (and_parts (ltb s (size net)) (is_source_of net s) there).0

  pub record There (g p : ℕ) : Type 0 where
    pub signal : g < size net
    pub pin : p < 4

  pin_within : (g p : ℕ) → Fits (outline_of net) (Ok (entry.Delay g p no_times)) → There g p
  pin_within g p there =
      let both = and_parts (ltb g (size net)) (ltb p (fanin net g)) there in
      record { signal = ltb-true g (size net) both.0; pin = omega (arith, ltb-true p (fanin net g) both.1, (small net).pins g) }

  starts_long : (said : Result Entry FieldFault) (cells : List (EdgeMatrix G)) → length (starts_with r delays net said cells) ≡ length cells
  starts_long (Ok (entry.Clock c)) cells = refl
  starts_long (Ok (entry.Delay g p t)) cells = refl
  starts_long (Ok (entry.Start s t)) cells = length-set cells s _
  starts_long (Err d) cells = refl

  starts_past : (said : Result Entry FieldFault) (cells : List (EdgeMatrix G)) → Fits (outline_of net) said
      → drop (size net) (starts_with r delays net said cells) ≡ drop (size net) cells
  starts_past (Ok (entry.Clock c)) cells fit = refl
  starts_past (Ok (entry.Delay g p t)) cells fit = refl
  starts_past (Ok (entry.Start s t)) cells fit = drop-set-lt (size net) cells s _ (source_within s fit)
  starts_past (Err d) cells fit = refl

  weights_long : (said : Result Entry FieldFault) (cells : List (EdgeMatrix G)) → length (weights_with r delays net said cells) ≡ length cells
  weights_long (Ok (entry.Clock c)) cells = refl
  weights_long (Ok (entry.Delay g p t)) cells = length-set cells (4 * g + p) _
  weights_long (Ok (entry.Start s t)) cells = refl
  weights_long (Err d) cells = refl

  weights_past : (said : Result Entry FieldFault) (cells : List (EdgeMatrix G)) → Fits (outline_of net) said
      → drop (4 * size net) (weights_with r delays net said cells) ≡ drop (4 * size net) cells
  weights_past (Ok (entry.Clock c)) cells fit = refl
  weights_past (Ok (entry.Delay g p t)) cells fit =
      let w = pin_within g p fit in
      drop-set-lt (4 * size net) cells (4 * g + p) _ (omega (arith, w.signal, w.pin))
  weights_past (Ok (entry.Start s t)) cells fit = refl
  weights_past (Err d) cells fit = refl

  module _ (s : ℕ) where
    start_here : (said : Result Entry FieldFault) (cells : List (EdgeMatrix G)) (d : EdgeMatrix G) → Fits (outline_of net) said → size net ≤ length cells
        → names_in said (Source s) ≡ true → get_or (starts_with r delays net said cells) s d ≡ start_at r delays net s (times_in said)
    start_here (Ok (entry.Clock c)) cells d fit enough named = grind arith
    start_here (Ok (entry.Delay g p t)) cells d fit enough named = grind arith
    start_here (Ok (entry.Start u t)) cells d fit enough named =
        let same = eqb-true s u named in
        let lt : u < length cells = omega (arith, source_within u fit) in
        ap (λ (i : ℕ). get_or (set cells u (start_at r delays net u t)) i d) same
        ∙ get_or-set_same cells u _ d lt ∙ ap (λ (i : ℕ). start_at r delays net i t) (sym same)
    start_here (Err e) cells d fit enough named = absurd fit

    start_other : (said : Result Entry FieldFault) (cells : List (EdgeMatrix G)) (d : EdgeMatrix G) → Fits (outline_of net) said
        → names_in said (Source s) ≡ false → get_or (starts_with r delays net said cells) s d ≡ get_or cells s d
    start_other (Ok (entry.Clock c)) cells d fit off = refl
    start_other (Ok (entry.Delay g p t)) cells d fit off = refl
    start_other (Ok (entry.Start u t)) cells d fit off =
        let apart : s ≢ u = grind (arith, nat_tests) in
        get_or-set_other cells u s _ d apart
    start_other (Err e) cells d fit off = refl

  module _ (g p : ℕ) (low : p < 4) where
    weight_here : (said : Result Entry FieldFault) (cells : List (EdgeMatrix G)) (d : EdgeMatrix G) → Fits (outline_of net) said → 4 * size net ≤ length cells
        → names_in said (Pin g p) ≡ true → get_or (weights_with r delays net said cells) (4 * g + p) d ≡ weight_at r delays net g p (times_in said)
    weight_here (Ok (entry.Clock c)) cells d fit enough named = grind arith
    weight_here (Ok (entry.Start s t)) cells d fit enough named = grind arith
    weight_here (Ok (entry.Delay h q t)) cells d fit enough named =
        let both = and_parts (eqb g h) (eqb p q) named in
        let eg = eqb-true g h both.0 in
        let ep = eqb-true p q both.1 in
        let w = pin_within h q fit in
        let lt : 4 * h + q < length cells = omega (arith, w.signal, w.pin) in
        ap₂ (λ (x y : ℕ). get_or (set cells (4 * h + q) (weight_at r delays net h q t)) (4 * x + y) d) eg ep
        ∙ get_or-set_same cells (4 * h + q) _ d lt ∙ ap₂ (λ (x y : ℕ). weight_at r delays net x y t) (sym eg) (sym ep)
    weight_here (Err e) cells d fit enough named = absurd fit

    weight_other : (said : Result Entry FieldFault) (cells : List (EdgeMatrix G)) (d : EdgeMatrix G) → Fits (outline_of net) said
        → names_in said (Pin g p) ≡ false → get_or (weights_with r delays net said cells) (4 * g + p) d ≡ get_or cells (4 * g + p) d
    weight_other (Ok (entry.Clock c)) cells d fit off = refl
    weight_other (Ok (entry.Start s t)) cells d fit off = refl
    weight_other (Ok (entry.Delay h q t)) cells d fit off =
        let w = pin_within h q fit in
        let high : q < 4 = w.pin in
        let apart : 4 * g + p ≢ 4 * h + q = grind (arith, nat_tests) in
        get_or-set_other cells (4 * h + q) (4 * g + p) _ d apart
    weight_other (Err e) cells d fit off = refl

  -- the part of a weight's cell
  abbrev pin_in : ℕ → Part
  pin_in i = Pin (i / 4) (i % 4)

  weight_holds : (i : ℕ) → Holds net (weights_with r delays net) (4 * size net) (pin_in i) i (weight_in r delays net i)
  weight_holds i =
      let low : i % 4 < 4 = omega arith in
      let is : 4 * (i / 4) + i % 4 ≡ i = omega arith in
      let P : ℕ → Type 0 = λ c. Holds net (weights_with r delays net) (4 * size net) (pin_in i) c (weight_in r delays net i) in
      subst P is (record { here = weight_here (i / 4) (i % 4) low; other = weight_other (i / 4) (i % 4) low })

  -- the starts and the weights of a table that is well named
  module _ (d : EdgeMatrix G) (fs : List (Placed Entry)) (well : WellNamed (outline_of net) fs) (old cells after : List (EdgeMatrix G)) where
    pub starts_filled : size net ≤ length old → cells ≡ table (λ s. start_at r delays net s no_times) (size net) old
        → after ≡ after_all (starts_with r delays net) cells fs
        → after ≡ table (λ s. start_at r delays net s (first_times (naming fs (Source s)))) (size net) old
    starts_filled =
        filled net (starts_with r delays net) (record { long = starts_long; past = starts_past }) Source (start_at r delays net)
        (λ s h. record { here = start_here s; other = start_other s }) d fs well old cells after

    pub weights_filled : 4 * size net ≤ length old → cells ≡ table (λ i. weight_in r delays net i no_times) (4 * size net) old
        → after ≡ after_all (weights_with r delays net) cells fs
        → after ≡ table (λ i. weight_in r delays net i (first_times (naming fs (pin_in i)))) (4 * size net) old
    weights_filled =
        filled net (weights_with r delays net) (record { long = weights_long; past = weights_past }) pin_in (weight_in r delays net)
        (λ i h. weight_holds i) d fs well old cells after
