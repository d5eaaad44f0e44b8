-- The places of each cause rise, so the first fault of a line is the least. Assumes nothing.
use Rattle.std.proofs.Common.{◌≡◌, ℕ, zero, suc, ◌+◌, ◌-◌, ◌<◌, ◌≤◌, Bool, true, false, cond, ◌&&◌, ◌||◌, List, [], ◌∷◌, ◌++◌, map, length, drop, Some, filter, sym, refl, ap, ◌∙◌, subst, ⊎_elim, arith}
use Rattle.std.specs.List.{AllByRecursion}
use Rattle.std.proofs.ByRecursion.{All-append}
use Rattle.std.proofs.lemmas.List.{append-nil, append_assoc, drop-drop, drop_at, drop-map}
use Rattle.std.proofs.lemmas.Bool.{cond_both, cond-false, le-ltb, ne_eqb}
use Rattle.fault.specs.Causes.{number_of}
use Rattle.fault.specs.declared.cause.Cause.{Cause}
use Rattle.fault.specs.declared.cause.Cause.TheVariants.{BadByte, BadLine, LongName, TooManyPins, TooManySignals, BadRow, SecondDriver}
use Rattle.fault.specs.declared.refusal.Refusal.{Refusal}
use Rattle.network.specs.Limit.{max_signals}
use Rattle.text.specs.Text.{Piece, words, bad, bad_places}
use Rattle.text.specs.Words.{Lexeme, keyword, unknown, plain, lexeme_of, one_of, is_long, places_of, long_names}
use Rattle.text.specs.declared.word.Command.{Command}
use Rattle.text.specs.declared.word.Command.TheVariants.{Model, Inputs, Outputs, Names, Latch, End}
use Rattle.netlist.specs.Outcomes.{first_of}
use Rattle.netlist.specs.Faults.{State, fault, only_if, outside, many_pins, too_many, wrong_row, has_driver, driven_twice, rule_faults, word_faults, faults_of, number_of_fault, precedes, least, least_of}
use Rattle.netlist.specs.Signals.{Signal, mention, mention_all, fresh}
use Rattle.netlist.specs.Statements.{Statement, latch, wrong, last_of, front_of, model_of, gate_of, latch_rest, latch_of, end_of, command_of, statement_of, mentions_of, drives_of, names_of}
use Rattle.netlist.proofs.Climbing.{Asc, climb_asc, words_climb}
use Rattle.netlist.proofs.Mentions.{mention_ways, Place}
use Rattle.netlist.proofs.Shapes.{front_last}

-- ---- rising places

asc_low : (a b : ℕ) (ps : List ℕ) → a ≤ b → Asc b ps → Asc a ps
asc_low a b [] h x = tt
asc_low a b (p ∷ ps) h x = let q = x.0 in (omega (arith, q), x.1)

asc_drop : (k lo : ℕ) (ps : List ℕ) → Asc lo ps → Asc lo (drop k ps)
asc_drop zero lo ps x = x
asc_drop (suc k) lo [] x = tt
asc_drop (suc k) lo (p ∷ ps) x = let q = x.0 in asc_drop k lo ps (asc_low lo (suc p) ps (omega (arith, q)) x.1)

asc_cond : (b : Bool) (lo p : ℕ) (ps : List ℕ) → lo ≤ p → Asc (suc p) ps → Asc lo (cond b (p ∷ ps) ps)
asc_cond true lo p ps h x = (h, x)
asc_cond false lo p ps h x = asc_low lo (suc p) ps (omega arith) x

only_asc : (b : Bool) (p : ℕ) → Asc 0 (only_if b p)
only_asc true p = (omega arith, tt)
only_asc false p = tt

-- ---- the places of each cause

bad_asc : (at : ℕ) (xs : List ℕ) → Asc at (bad_places at xs)
bad_asc at [] = tt
bad_asc at (x ∷ xs) = asc_cond (bad x) at at (bad_places (suc at) xs) (omega arith) (bad_asc (suc at) xs)

long_cond : (b : Bool) (lo : ℕ) (w : Piece) (ws : List Piece) → lo ≤ w.place → Asc (suc w.place) (places_of ws) → Asc lo (places_of (cond b (w ∷ ws) ws))
long_cond true lo w ws h x = (h, x)
long_cond false lo w ws h x = asc_low lo (suc w.place) (places_of ws) (omega arith) x

long_asc : (lo : ℕ) (ws : List Piece) → Asc lo (places_of ws) → Asc lo (long_names ws)
long_asc lo [] x = tt
long_asc lo (w ∷ ws) x = long_cond (is_long w) lo w (filter is_long ws) x.0 (long_asc (suc w.place) ws x.1)

twice_asc : (ss : List Signal) (done : List (List ℕ)) (lo : ℕ) (ws : List Piece) → Asc lo (places_of ws) → Asc lo (driven_twice ss done ws)
twice_asc ss done lo [] x = tt
twice_asc ss done lo (w ∷ ws) x = asc_cond (has_driver ss w.bytes || one_of done w.bytes) lo w.place (driven_twice ss (done ++ w.bytes ∷ []) ws) x.0 (twice_asc ss (done ++ w.bytes ∷ []) (suc w.place) ws x.1)

abbrev New : List Signal → List Piece → ℕ → Type 0
New ss ws lo = (new : List Signal) × ((mention_all ss ws ≡ ss ++ new) × Asc lo (map Place new))

new_asc : (ws : List Piece) (ss : List Signal) (lo : ℕ) → Asc lo (places_of ws) → New ss ws lo
new_asc [] ss lo x = ([], (sym (append-nil ss), tt))
new_asc (w ∷ ws) ss lo x =
    let r = new_asc ws (mention ss w) (suc w.place) x.1 in
    let q = x.0 in
    ⊎_elim
    (λ e. (r.0, (r.1.0 ∙ ap (λ (xs : List Signal). xs ++ r.0) e, asc_low lo (suc w.place) (map Place r.0) (omega (arith, q)) r.1.1)))
    (λ e. (fresh w ∷ r.0, (r.1.0 ∙ (ap (λ (xs : List Signal). xs ++ r.0) e ∙ append_assoc ss (fresh w ∷ []) r.0), (x.0, r.1.1))))
    (mention_ways ss w)

drop_both : (n : ℕ) (xs ys : List Signal) → length xs ≤ n → drop n (xs ++ ys) ≡ drop (n - length xs) ys
drop_both n xs ys h =
    let q : n ≡ length xs + (n - length xs) = omega arith in
    ap (λ (k : ℕ). drop k (xs ++ ys)) q
    ∙ (sym (drop-drop (n - length xs) (length xs) (xs ++ ys)) ∙ ap (drop (n - length xs)) (drop_at xs ys (length xs) refl))

many_asc : (ss : List Signal) (lo : ℕ) (ws : List Piece) → length ss ≤ max_signals → Asc lo (places_of ws) → Asc lo (too_many (mention_all ss ws))
many_asc ss lo ws h x =
    let r = new_asc ws ss lo x in
    let e : too_many (mention_all ss ws) ≡ drop (max_signals - length ss) (map Place r.0) = ap too_many r.1.0 ∙ (ap (map Place) (drop_both max_signals ss r.0 h) ∙ sym (drop-map Place (max_signals - length ss) r.0)) in
    subst (Asc lo) (sym e) (asc_drop (max_signals - length ss) lo (map Place r.0) r.1.1)

-- ---- words, and the names among them

words_asc : (at : ℕ) (xs : List ℕ) → Asc at (places_of (words at xs))
words_asc at xs = climb_asc at (at + length xs) (places_of (words at xs)) (words_climb at xs)

-- the names, the mentions and the drives of a statement stand in rising places
abbrev Rising : ℕ → Statement → Type 0
Rising lo st = Asc lo (places_of (names_of st)) × (Asc lo (places_of (mentions_of st)) × Asc lo (places_of (drives_of st)))

last_asc : (lo : ℕ) (w : Piece) (ws : List Piece) → Asc lo (places_of (w ∷ ws)) → lo ≤ (last_of w ws).place
last_asc lo w [] x = x.0
last_asc lo w (v ∷ ws) x = let q = x.0 in let r = last_asc (suc w.place) v ws x.1 in omega (arith, q, r)

gate_asc : (lo : ℕ) (ws : List Piece) → Asc lo (places_of ws) → Rising lo (gate_of ws)
gate_asc lo [] x = (tt, (tt, tt))
gate_asc lo (w ∷ ws) x =
    let all : Asc lo (places_of (front_of w ws ++ last_of w ws ∷ [])) = subst (λ (ns : List Piece). Asc lo (places_of ns)) (front_last w ws) x in
    (all, (all, (last_asc lo w ws x, tt)))

latch_asc : (lo : ℕ) (ws : List Piece) → Asc lo (places_of ws) → Rising lo (latch_of ws)
latch_asc lo [] x = (tt, (tt, tt))
latch_asc lo (d ∷ []) x = (tt, (tt, tt))
latch_asc lo (d ∷ q ∷ ws) x =
    let two : Asc lo (places_of (d ∷ q ∷ [])) = (x.0, (x.1.0, tt)) in
    let a = x.0 in
    let b = x.1.0 in
    let out : lo ≤ q.place = omega (arith, a, b) in
    cond_both (latch_rest ws) (latch d q ws) wrong (Rising lo) (λ _. (two, (two, (out, tt)))) (λ _. (tt, (tt, tt)))

model_asc : (lo : ℕ) (ws : List Piece) → Asc lo (places_of ws) → Rising lo (model_of ws)
model_asc lo [] x = (tt, (tt, tt))
model_asc lo (n ∷ []) x = (x, (tt, tt))
model_asc lo (n ∷ m ∷ ws) x = (tt, (tt, tt))

end_asc : (lo : ℕ) (ws : List Piece) → Rising lo (end_of ws)
end_asc lo [] = (tt, (tt, tt))
end_asc lo (w ∷ ws) = (tt, (tt, tt))

command_asc : (lo : ℕ) (c : Command) (ws : List Piece) → Asc lo (places_of ws) → Rising lo (command_of c ws)
command_asc lo Model ws x = model_asc lo ws x
command_asc lo Inputs ws x = (x, (x, x))
command_asc lo Outputs ws x = (x, (x, tt))
command_asc lo Names ws x = gate_asc lo ws x
command_asc lo Latch ws x = latch_asc lo ws x
command_asc lo End ws x = end_asc lo ws

statement_asc : (lo : ℕ) (l : Lexeme) (ws : List Piece) → Asc lo (places_of ws) → Rising lo (statement_of l ws)
statement_asc lo (keyword c w) ws x = command_asc lo c ws x
statement_asc lo (unknown w) ws x = (tt, (tt, tt))
statement_asc lo (plain w) ws x = (tt, (tt, tt))

-- ---- by number

abbrev Above : ℕ → Refusal → Type 0
Above n f = n < number_of_fault f

above_map : (n : ℕ) (c : Cause) (ps : List ℕ) → n < number_of c → AllByRecursion (Above n) (map (fault c) ps)
above_map n c [] h = tt
above_map n c (p ∷ ps) h = (h, above_map n c ps h)

or_no : (a b c : Bool) → a ≡ false → c ≡ false → (a || (b && c)) ≡ false
or_no a true c e f = ap (λ (x : Bool). x || c) e ∙ f
or_no a false c e f = ap (λ (x : Bool). x || false) e

or_not : (a b c : Bool) → a ≡ false → b ≡ false → (a || (b && c)) ≡ false
or_not a b c e f = ap (λ (x : Bool). x || (b && c)) e ∙ ap (λ (x : Bool). x && c) f

abbrev Behind : Refusal → List Refusal → Type 0
Behind f gs = AllByRecursion (λ g. precedes g f ≡ false) gs

behind_above : (f : Refusal) (gs : List Refusal) → AllByRecursion (Above (number_of_fault f)) gs → Behind f gs
behind_above f [] x = tt
behind_above f (g ∷ gs) x =
    let q = x.0 in
    (or_not _ _ _ (le-ltb (number_of_fault g) (number_of_fault f) (omega (arith, q))) (ne_eqb (number_of_fault g) (number_of_fault f) (λ e. omega (arith, q, e))), behind_above f gs x.1)

behind_same : (c : Cause) (p lo : ℕ) (ps : List ℕ) (gs : List Refusal) → p ≤ lo → Asc lo ps → AllByRecursion (Above (number_of c)) gs → Behind (fault c p) (map (fault c) ps ++ gs)
behind_same c p lo [] gs h x y = behind_above (fault c p) gs y
behind_same c p lo (q ∷ ps) gs h x y =
    let l = x.0 in
    (or_no _ _ _ (le-ltb (number_of c) (number_of c) (omega arith)) (le-ltb q p (omega (arith, l))), behind_same c p (suc q) ps gs (omega (arith, l)) x.1 y)

abbrev FirstLeast : List Refusal → Type 0
FirstLeast fs = first_of fs ≡ least_of fs

least_first : (f : Refusal) (fs : List Refusal) → Behind f fs → least f fs ≡ f
least_first f [] a = refl
least_first f (g ∷ gs) a = cond-false (precedes g f) _ _ a.0 ∙ least_first f gs a.1

-- faults of one cause in front of faults of larger numbers
group : (c : Cause) (lo : ℕ) (ps : List ℕ) (gs : List Refusal) → Asc lo ps → AllByRecursion (Above (number_of c)) gs → FirstLeast gs → FirstLeast (map (fault c) ps ++ gs)
group c lo [] gs x y z = z
group c lo (p ∷ ps) gs x y z = ap Some (sym (least_first (fault c p) (map (fault c) ps ++ gs) (behind_same c p (suc p) ps gs (omega arith) x.1 y)))

last_group : (c : Cause) (lo : ℕ) (ps : List ℕ) → Asc lo ps → FirstLeast (map (fault c) ps)
last_group c lo ps x = subst FirstLeast (append-nil (map (fault c) ps)) (group c lo ps [] x tt refl)

-- ---- all causes

module _ (p3 p4 p5 p6 p7 p8 : List ℕ) where
  abbrev F8 : List Refusal
  F8 = map (fault SecondDriver) p8

  abbrev F7 : List Refusal
  F7 = map (fault BadRow) p7 ++ F8

  abbrev F6 : List Refusal
  F6 = map (fault TooManySignals) p6 ++ F7

  abbrev F5 : List Refusal
  F5 = map (fault TooManyPins) p5 ++ F6

  abbrev F4 : List Refusal
  F4 = map (fault LongName) p4 ++ F5

  abbrev F3 : List Refusal
  F3 = map (fault BadLine) p3 ++ F4

  over : (n : ℕ) (c : Cause) (ps : List ℕ) (gs : List Refusal) → n < number_of c → AllByRecursion (Above n) gs → AllByRecursion (Above n) (map (fault c) ps ++ gs)
  over n c ps gs h x = All-append (Above n) (map (fault c) ps) gs (above_map n c ps h) x

  above8 : (n : ℕ) → n < 8 → AllByRecursion (Above n) F8
  above8 n h = above_map n SecondDriver p8 h

  above7 : (n : ℕ) → n < 7 → AllByRecursion (Above n) F7
  above7 n h = over n BadRow p7 F8 h (above8 n (omega arith))

  above6 : (n : ℕ) → n < 6 → AllByRecursion (Above n) F6
  above6 n h = over n TooManySignals p6 F7 h (above7 n (omega arith))

  above5 : (n : ℕ) → n < 5 → AllByRecursion (Above n) F5
  above5 n h = over n TooManyPins p5 F6 h (above6 n (omega arith))

  above4 : (n : ℕ) → n < 4 → AllByRecursion (Above n) F4
  above4 n h = over n LongName p4 F5 h (above5 n (omega arith))

  above3 : (n : ℕ) → n < 3 → AllByRecursion (Above n) F3
  above3 n h = over n BadLine p3 F4 h (above4 n (omega arith))

  six : (lo : ℕ) → Asc 0 p3 → Asc lo p4 → Asc 0 p5 → Asc lo p6 → Asc 0 p7 → Asc lo p8 → FirstLeast F3
  six lo a3 a4 a5 a6 a7 a8 =
      group BadLine 0 p3 F4 a3 (above4 3 (omega arith))
      (group LongName lo p4 F5 a4 (above5 4 (omega arith))
      (group TooManyPins 0 p5 F6 a5 (above6 5 (omega arith))
      (group TooManySignals lo p6 F7 a6 (above7 6 (omega arith))
      (group BadRow 0 p7 F8 a7 (above8 7 (omega arith)) (last_group SecondDriver lo p8 a8)))))

rule_above : (s : State) (at : ℕ) (st : Statement) → AllByRecursion (Above 2) (rule_faults s at st)
rule_above s at st = above3 (only_if (outside s.stage st) at) (long_names (names_of st)) (only_if (many_pins st) at) (too_many (mention_all s.signals (mentions_of st))) (only_if (wrong_row s st) at) (driven_twice s.signals [] (drives_of st)) 2 (omega arith)

rule_least : (s : State) (at : ℕ) (st : Statement) (lo : ℕ) → length s.signals ≤ max_signals → Rising lo st → FirstLeast (rule_faults s at st)
rule_least s at st lo h x =
    six (only_if (outside s.stage st) at) (long_names (names_of st)) (only_if (many_pins st) at) (too_many (mention_all s.signals (mentions_of st))) (only_if (wrong_row s st) at) (driven_twice s.signals [] (drives_of st)) lo
    (only_asc (outside s.stage st) at) (long_asc lo (names_of st) x.0) (only_asc (many_pins st) at)
    (many_asc s.signals lo (mentions_of st) h x.1.0) (only_asc (wrong_row s st) at) (twice_asc s.signals [] lo (drives_of st) x.1.1)

words_above : (s : State) (ws : List Piece) → AllByRecursion (Above 2) (word_faults s ws)
words_above s [] = tt
words_above s (w ∷ ws) = rule_above s w.place (statement_of (lexeme_of w) ws)

words_least : (s : State) (ws : List Piece) (lo : ℕ) → length s.signals ≤ max_signals → Asc lo (places_of ws) → FirstLeast (word_faults s ws)
words_least s [] lo h x = refl
words_least s (w ∷ ws) lo h x = rule_least s w.place (statement_of (lexeme_of w) ws) (suc w.place) h (statement_asc (suc w.place) (lexeme_of w) ws x.1)

pub first_is_least : (s : State) (line : Piece) → length s.signals ≤ max_signals → first_of (faults_of s line) ≡ least_of (faults_of s line)
first_is_least s line h =
    let ws = words line.place line.bytes in
    group BadByte line.place (bad_places line.place line.bytes) (word_faults s ws) (bad_asc line.place line.bytes) (words_above s ws) (words_least s ws line.place h (words_asc line.place line.bytes))
