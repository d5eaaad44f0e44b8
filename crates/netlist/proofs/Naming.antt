-- Signals are numbered by first mention. Assumes nothing.
use Rattle.std.proofs.Common.{◌≡◌, ℕ, zero, suc, ◌+◌, ◌<◌, ◌≤◌, Bool, true, false, cond, ◌⊎◌, List, [], ◌∷◌, ◌++◌, map, length, get_or, take, Some, None, fold, Option, sym, refl, ap, ◌∙◌, subst, inl, inr, ⊎_elim, arith, length-append}
use Rattle.std.specs.List.{ContainsAt as Has, AllByRecursion}
use Rattle.std.specs.Str.{bytes_eq}
use Rattle.std.proofs.ByRecursion.{All-get_or, All-append, All-weaker, all_has_itself}
use Rattle.std.proofs.lemmas.Slice.Eq.{bytes_eq-Decides}
use Rattle.std.proofs.lemmas.List.{map-append, get_or-map, get_or_append_left, length-map, take_all}
use Rattle.std.proofs.lemmas.Bool.{cases_Bool, cond_both, cond-true, cond-false}
use Rattle.rows.specs.Rows.{Row}
use Rattle.text.specs.Text.{Piece, piece, newline, widened, words, lines}
use Rattle.text.specs.Words.{Lexeme, keyword, unknown, plain, lexeme_of, places_of}
use Rattle.text.specs.declared.word.Command.{Command}
use Rattle.text.specs.declared.word.Command.TheVariants.{Model, Inputs, Outputs, Names, Latch, End}
use Rattle.netlist.specs.declared.stage.Stage.{Stage}
use Rattle.netlist.specs.declared.stage.Stage.TheVariants.{Before, Body, Rows, After}
use Rattle.netlist.specs.Effects.{state, add_row, row_at, row_done, effect, words_effect}
use Rattle.netlist.specs.Faults.{State}
use Rattle.netlist.specs.Laws.{part_of, words_in, name_of, Accepted}
use Rattle.netlist.specs.Reading.{step, ongoing}
use Rattle.netlist.specs.Signals.{Signal, no_signal, input, latched, gates, number_of, mention, mention_all, changed, on_named, on_each, driven, as_output, as_captured, numbers}
use Rattle.netlist.specs.Statements.{Statement, model, inputs, outputs, gate, latch, row, ending, wrong, latch_rest, statement_of, command_of, model_of, gate_of, latch_of, end_of, mentions_of}
use Rattle.netlist.proofs.Climbing.{Climb, climb_le, climb_wide, words_climb}
use Rattle.netlist.proofs.Accepting.{step_ongoing, all_lines, accepted}
use Rattle.netlist.proofs.Endings.{in_lines, lines_push}
use Rattle.netlist.proofs.Looking.{look, look_cons}
use Rattle.netlist.proofs.Shapes.{front_last}
use Rattle.netlist.proofs.Within.{same_self}

-- ---- the names alone

abbrev pub names : List Signal → List Piece
names ss = map (λ (s : Signal). s.name) ss

-- a name more, if it is new
abbrev noted : List Piece → Piece → List Piece
noted [] w = w ∷ []
noted (x ∷ xs) w = cond (bytes_eq x.bytes w.bytes) (x ∷ xs) (x ∷ noted xs w)

noted_ways : (xs : List Piece) (w : Piece) → (noted xs w ≡ xs) ⊎ (noted xs w ≡ xs ++ w ∷ [])
noted_ways [] w = inr refl
noted_ways (x ∷ xs) w =
    ⊎_elim
    (λ t. inl (cond-true (bytes_eq x.bytes w.bytes) _ _ t))
    (λ f. ⊎_elim
    (λ e. inl (cond-false (bytes_eq x.bytes w.bytes) _ _ f ∙ ap {B = List Piece} (λ ys. x ∷ ys) e))
    (λ e. inr (cond-false (bytes_eq x.bytes w.bytes) _ _ f ∙ ap {B = List Piece} (λ ys. x ∷ ys) e))
    (noted_ways xs w))
    (cases_Bool (bytes_eq x.bytes w.bytes))

map_cond : (b : Bool) (xs ys : List Signal) → names (cond b xs ys) ≡ cond b (names xs) (names ys)
map_cond true xs ys = refl
map_cond false xs ys = refl

names_mention : (ss : List Signal) (w : Piece) → names (mention ss w) ≡ noted (names ss) w
names_mention [] w = refl
names_mention (s ∷ ss) w =
    map_cond (bytes_eq s.name.bytes w.bytes) (s ∷ ss) (s ∷ mention ss w)
    ∙ ap (λ (ys : List Piece). cond (bytes_eq s.name.bytes w.bytes) (names (s ∷ ss)) (s.name ∷ ys)) (names_mention ss w)

names_all : (ws : List Piece) (ss : List Signal) → names (mention_all ss ws) ≡ fold noted (names ss) ws
names_all [] ss = refl
names_all (w ∷ ws) ss = names_all ws (mention ss w) ∙ ap (λ (xs : List Piece). fold noted xs ws) (names_mention ss w)

-- ---- changes keep names

abbrev Same : (Signal → Signal) → Type 0
Same g = (s : Signal) → (g s).name ≡ s.name

kept : (g : Signal → Signal) → Same g → (ss : List Signal) (k : ℕ) → names (changed g ss k) ≡ names ss
kept g h [] k = refl
kept g h (s ∷ ss) zero = ap {B = List Piece} (λ w. w ∷ names ss) (h s)
kept g h (s ∷ ss) (suc k) = ap {B = List Piece} (λ ws. s.name ∷ ws) (kept g h ss k)

each_kept : (g : Signal → Signal) → Same g → (ws : List Piece) (ss : List Signal) → names (on_each g ss ws) ≡ names ss
each_kept g h [] ss = refl
each_kept g h (w ∷ ws) ss = each_kept g h ws (on_named g ss w) ∙ kept g h ss (number_of ss w.bytes)

row_kept : (g : Stage) (ss : List Signal) (r : Row) → names (row_at g ss r) ≡ names ss
row_kept Before ss r = refl
row_kept Body ss r = refl
row_kept (Rows k) ss r = kept (add_row r) (λ z. refl) ss k
row_kept After ss r = refl

rows_kept : (g : Stage) (ss : List Signal) (r : Option Row) → names (row_done g ss r) ≡ names ss
rows_kept g ss None = refl
rows_kept g ss (Some r) = row_kept g ss r

effect_names : (s : State) (st : Statement) → names (effect s st).signals ≡ fold noted (names s.signals) (mentions_of st)
effect_names s (model n) = refl
effect_names s (inputs ns) = each_kept (driven input) (λ z. refl) ns (mention_all s.signals ns) ∙ names_all ns s.signals
effect_names s (outputs ns) = each_kept as_output (λ z. refl) ns (mention_all s.signals ns) ∙ names_all ns s.signals
effect_names s (gate ps q) =
    let now = mention_all s.signals (ps ++ q ∷ []) in
    kept (driven (gates (numbers now ps) _)) (λ z. refl) now (number_of now q.bytes) ∙ names_all (ps ++ q ∷ []) s.signals
effect_names s (latch d q ws) =
    let now = mention_all s.signals (d ∷ q ∷ []) in
    let mid = on_named (driven (latched (number_of now d.bytes) ws)) now q in
    kept as_captured (λ z. refl) mid (number_of mid d.bytes) ∙ (kept (driven (latched (number_of now d.bytes) ws)) (λ z. refl) now (number_of now q.bytes) ∙ names_all (d ∷ q ∷ []) s.signals)
effect_names s (row r) = rows_kept s.stage s.signals r
effect_names s ending = refl
effect_names s wrong = refl

words_names : (s : State) (ws : List Piece) → names (words_effect s ws).signals ≡ fold noted (names s.signals) (part_of mentions_of ws)
words_names s [] = refl
words_names s (w ∷ ws) = effect_names s (statement_of (lexeme_of w) ws)

folded_append : (xs ys zs : List Piece) → fold noted xs (ys ++ zs) ≡ fold noted (fold noted xs ys) zs
folded_append xs [] zs = refl
folded_append xs (y ∷ ys) zs = folded_append (noted xs y) ys zs

abbrev Noted : List Piece → State → Type 0
Noted past s = names s.signals ≡ fold noted [] (in_lines mentions_of past)

noted_more : (past : List Piece) (line : Piece) (s now : State) → step s line ≡ ongoing now → Noted past s → Noted (past ++ line ∷ []) now
noted_more past line s now e x =
    let ms = part_of mentions_of (words line.place line.bytes) in
    ap (λ (z : State). names z.signals) (sym (step_ongoing s line now e).1)
    ∙ (words_names s (words line.place line.bytes)
    ∙ (ap (λ (xs : List Piece). fold noted xs ms) x
    ∙ (sym (folded_append [] (in_lines mentions_of past) ms) ∙ ap (fold noted []) (sym (lines_push mentions_of past line)))))

text_names : (text : List ℕ) (ss : List Signal) → Accepted text ss → names ss ≡ fold noted [] (words_in mentions_of text)
text_names text ss e =
    let a = accepted text ss e in
    ap names (sym a.1.1.0) ∙ all_lines Noted noted_more (lines 0 text) [] (state Before []) a.0 a.1.0 refl

-- ---- names that differ

abbrev pub Apart : List Piece → Type 0
Apart [] = Unit {0}
Apart (x ∷ xs) = AllByRecursion (λ (y : Piece). bytes_eq x.bytes y.bytes ≡ false) xs × Apart xs

noted_all : (Q : Piece → Type 0) (xs : List Piece) (w : Piece) → AllByRecursion Q xs → Q w → AllByRecursion Q (noted xs w)
noted_all Q xs w x q = ⊎_elim (λ e. subst (AllByRecursion Q) (sym e) x) (λ e. subst (AllByRecursion Q) (sym e) (All-append Q xs (w ∷ []) x (q, tt))) (noted_ways xs w)

noted_apart : (xs : List Piece) (w : Piece) → Apart xs → Apart (noted xs w)
noted_apart [] w a = (tt, tt)
noted_apart (x ∷ xs) w a =
    cond_both (bytes_eq x.bytes w.bytes) (x ∷ xs) (x ∷ noted xs w) Apart (λ _. a)
    (λ f. (noted_all (λ (y : Piece). bytes_eq x.bytes y.bytes ≡ false) xs w a.0 f, noted_apart xs w a.1))

folded_apart : (ws xs : List Piece) → Apart xs → Apart (fold noted xs ws)
folded_apart [] xs a = a
folded_apart (w ∷ ws) xs a = folded_apart ws (noted xs w) (noted_apart xs w a)

folded_are : (Q : Piece → Type 0) (ws xs : List Piece) → AllByRecursion Q xs → AllByRecursion Q ws → AllByRecursion Q (fold noted xs ws)
folded_are Q [] xs x y = x
folded_are Q (w ∷ ws) xs x y = folded_are Q ws (noted xs w) (noted_all Q xs w x y.0) y.1

pub text_apart : (text : List ℕ) (ss : List Signal) → Accepted text ss → Apart (names ss)
text_apart text ss e = subst Apart (sym (text_names text ss e)) (folded_apart (words_in mentions_of text) [] tt)

-- ---- a test at a signal's own name

pub both : {A : Type 0} (P Q : A → Type 0) (xs : List A) → AllByRecursion P xs → AllByRecursion Q xs → AllByRecursion (λ x. P x × Q x) xs
both P Q [] p q = tt
both P Q (x ∷ xs) p q = ((p.0, q.0), both P Q xs p.1 q.1)

from_names : (Q : Piece → Type 0) (ss : List Signal) → AllByRecursion Q (names ss) → AllByRecursion (λ (s : Signal). Q s.name) ss
from_names Q [] x = tt
from_names Q (s ∷ ss) x = (x.0, from_names Q ss x.1)

pub look_own : (f : Signal → Bool) (ss : List Signal) → Apart (names ss) → AllByRecursion (λ (s : Signal). look f ss s.name.bytes ≡ f s) ss
look_own f [] a = tt
look_own f (s ∷ ss) a = (
  look_cons f s ss s.name.bytes ∙ cond-true (bytes_eq s.name.bytes s.name.bytes) (f s) _ (same_self s.name.bytes),
  All-weaker (λ (t : Signal). (bytes_eq s.name.bytes t.name.bytes ≡ false) × (look f ss t.name.bytes ≡ f t)) (λ (t : Signal). look f (s ∷ ss) t.name.bytes ≡ f t)
      (λ t q. look_cons f s ss t.name.bytes ∙ (cond-false (bytes_eq s.name.bytes t.name.bytes) (f s) _ q.0 ∙ q.1)) ss
      (both (λ (t : Signal). bytes_eq s.name.bytes t.name.bytes ≡ false) (λ (t : Signal). look f ss t.name.bytes ≡ f t) ss (from_names (λ (w : Piece). bytes_eq s.name.bytes w.bytes ≡ false) ss a.0) (look_own f ss a.1)),
)

-- ---- places that climb from lo up to below hi

climb_append : (lo mid hi : ℕ) (ps qs : List ℕ) → Climb lo mid ps → Climb mid hi qs → Climb lo hi (ps ++ qs)
climb_append lo mid hi [] qs x y = climb_wide lo hi mid hi qs x (omega arith) y
climb_append lo mid hi (p ∷ ps) qs x y = (x.0, climb_append (suc p) mid hi ps qs x.1 y)

climb_take : (k lo hi : ℕ) (ws : List Piece) → Climb lo hi (places_of ws) → Climb lo hi (places_of (take k ws))
climb_take zero lo hi ws x = climb_le lo hi (places_of ws) x
climb_take (suc k) lo hi [] x = x
climb_take (suc k) lo hi (w ∷ ws) x = (x.0, climb_take k (suc w.place) hi ws x.1)

climb_below : (lo hi : ℕ) (ws : List Piece) → Climb lo hi (places_of ws) → AllByRecursion (λ (w : Piece). w.place < hi) ws
climb_below lo hi [] x = tt
climb_below lo hi (w ∷ ws) x = (climb_le (suc w.place) hi (places_of ws) x.1, climb_below (suc w.place) hi ws x.1)

places_append : (xs ys : List Piece) → places_of (xs ++ ys) ≡ places_of xs ++ places_of ys
places_append xs ys = map-append (λ (w : Piece). w.place) xs ys

-- ---- words and mentions climb through the text

-- the mentions of a statement are the first of its words
abbrev Front : List Piece → List Piece → Type 0
Front ms ws = (k : ℕ) × (ms ≡ take k ws)

whole : (ws : List Piece) → Front ws ws
whole ws = (length ws, sym (take_all (length ws) ws (omega arith)))

gate_front : (ws : List Piece) → Front (mentions_of (gate_of ws)) ws
gate_front [] = (0, refl)
gate_front (w ∷ ws) = let f = whole (w ∷ ws) in (f.0, sym (front_last w ws) ∙ f.1)

latch_front : (ws : List Piece) → Front (mentions_of (latch_of ws)) ws
latch_front [] = (0, refl)
latch_front (d ∷ []) = (0, refl)
latch_front (d ∷ q ∷ ws) = cond_both (latch_rest ws) (latch d q ws) wrong (λ (st : Statement). Front (mentions_of st) (d ∷ q ∷ ws)) (λ _. (2, refl)) (λ _. (0, refl))

model_front : (ws : List Piece) → Front (mentions_of (model_of ws)) ws
model_front [] = (0, refl)
model_front (n ∷ []) = (0, refl)
model_front (n ∷ m ∷ ws) = (0, refl)

end_front : (ws : List Piece) → Front (mentions_of (end_of ws)) ws
end_front [] = (0, refl)
end_front (w ∷ ws) = (0, refl)

command_front : (c : Command) (ws : List Piece) → Front (mentions_of (command_of c ws)) ws
command_front Model ws = model_front ws
command_front Inputs ws = whole ws
command_front Outputs ws = whole ws
command_front Names ws = gate_front ws
command_front Latch ws = latch_front ws
command_front End ws = end_front ws

statement_front : (l : Lexeme) (ws : List Piece) → Front (mentions_of (statement_of l ws)) ws
statement_front (keyword c w) ws = command_front c ws
statement_front (unknown w) ws = (0, refl)
statement_front (plain w) ws = (0, refl)

part_climb : (lo hi : ℕ) (ws : List Piece) → Climb lo hi (places_of ws) → Climb lo hi (places_of (part_of mentions_of ws))
part_climb lo hi [] x = x
part_climb lo hi (w ∷ ws) x =
    let f = statement_front (lexeme_of w) ws in
    let q = x.0 in
    subst (λ (ms : List Piece). Climb lo hi (places_of ms)) (sym f.1) (climb_take f.0 lo hi ws (climb_wide lo hi (suc w.place) hi (places_of ws) (omega (arith, q)) (omega arith) x.1))

-- each line begins behind the one before
abbrev Chain : ℕ → List Piece → Type 0
Chain at [] = Unit {0}
Chain at (l ∷ ls) = (at ≤ l.place) × Chain (l.place + length l.bytes) ls

chain_low : (a b : ℕ) (ls : List Piece) → a ≤ b → Chain b ls → Chain a ls
chain_low a b [] h x = tt
chain_low a b (l ∷ ls) h x = let q = x.0 in (omega (arith, q), x.1)

widened_chain : (at b : ℕ) (ls : List Piece) → Chain (suc at) ls → Chain at (widened at b ls)
widened_chain at b [] x = (omega arith, tt)
widened_chain at b (l ∷ ls) x = let q = x.0 in (omega arith, chain_low (at + suc (length l.bytes)) (l.place + length l.bytes) ls (omega (arith, q)) x.1)

lines_chain : (at : ℕ) (xs : List ℕ) → Chain at (lines at xs)
lines_chain at [] = (omega arith, tt)
lines_chain at (b ∷ bs) =
    cond_both (newline b) _ _ (Chain at) (λ _. (omega arith, chain_low (at + 0) (suc at) (lines (suc at) bs) (omega arith) (lines_chain (suc at) bs)))
    (λ _. widened_chain at b (lines (suc at) bs) (lines_chain (suc at) bs))

mentions_climb : (at : ℕ) (ls : List Piece) → Chain at ls → (hi : ℕ) × Climb at hi (places_of (in_lines mentions_of ls))
mentions_climb at [] x = (at, omega arith)
mentions_climb at (l ∷ ls) x =
    let r = mentions_climb (l.place + length l.bytes) ls x.1 in
    let here = part_climb l.place (l.place + length l.bytes) (words l.place l.bytes) (words_climb l.place l.bytes) in (
      r.0,
      subst (Climb at r.0) (sym (places_append (part_of mentions_of (words l.place l.bytes)) (in_lines mentions_of ls)))
          (climb_wide at r.0 l.place r.0 _ x.0 (omega arith) (climb_append l.place (l.place + length l.bytes) r.0 (places_of (part_of mentions_of (words l.place l.bytes))) (places_of (in_lines mentions_of ls)) here r.1)),
    )

-- ---- names climb, and each mention finds its name

noted_climb : (lo hi : ℕ) (xs : List Piece) (w : Piece) → Climb lo hi (places_of xs) → hi ≤ w.place → Climb lo (suc w.place) (places_of (noted xs w))
noted_climb lo hi xs w x h =
    ⊎_elim
    (λ e. subst (λ (ys : List Piece). Climb lo (suc w.place) (places_of ys)) (sym e) (climb_wide lo (suc w.place) lo hi (places_of xs) (omega arith) (omega arith) x))
    (λ e. subst (λ (ys : List Piece). Climb lo (suc w.place) (places_of ys)) (sym e) (subst (Climb lo (suc w.place)) (sym (places_append xs (w ∷ []))) (climb_append lo hi (suc w.place) (places_of xs) (places_of (w ∷ [])) x (h, omega arith))))
    (noted_ways xs w)

folded_climb : (lo mid hi : ℕ) (ws xs : List Piece) → Climb lo mid (places_of xs) → Climb mid hi (places_of ws) → Climb lo hi (places_of (fold noted xs ws))
folded_climb lo mid hi [] xs x y = climb_wide lo hi lo mid (places_of xs) (omega arith) y x
folded_climb lo mid hi (w ∷ ws) xs x y = folded_climb lo (suc w.place) hi ws (noted xs w) (noted_climb lo mid xs w x y.0) y.1

abbrev no_name : Piece
no_name = piece 0 []

-- a name of the same bytes, no further right
abbrev Found : List Piece → Piece → Type 0
Found xs w = (k : ℕ) × ((k < length xs) × (((get_or xs k no_name).bytes ≡ w.bytes) × ((get_or xs k no_name).place ≤ w.place)))

found_more : (xs : List Piece) (v w : Piece) → Found xs w → Found (noted xs v) w
found_more xs v w f =
    ⊎_elim (λ e. subst (λ (ys : List Piece). Found ys w) (sym e) f)
    (λ e. subst (λ (ys : List Piece). Found ys w) (sym e) (pushed f))
    (noted_ways xs v)
  where
    pushed : Found xs w → Found (xs ++ v ∷ []) w
    pushed g =
        let h = g.1.0 in
        let same = get_or_append_left xs (v ∷ []) no_name g.0 h in
        (g.0, (omega (arith, h, length-append xs (v ∷ [])), (ap (λ (p : Piece). p.bytes) same ∙ g.1.1.0, subst (λ (p : Piece). p.place ≤ w.place) (sym same) g.1.1.1)))

found_here : (xs : List Piece) (w : Piece) → AllByRecursion (λ (x : Piece). x.place < suc w.place) xs → Found (noted xs w) w
found_here [] w a = (0, (omega arith, (refl, omega arith)))
found_here (x ∷ xs) w a =
    let l = a.0 in
    let r = found_here xs w a.1 in
    let below = r.1.0 in
    cond_both (bytes_eq x.bytes w.bytes) (x ∷ xs) (x ∷ noted xs w) (λ (ys : List Piece). Found ys w)
    (λ t. (0, (omega arith, ((bytes_eq-Decides x.bytes w.bytes).0 t, omega (arith, l)))))
    (λ _. (suc r.0, (omega (arith, below), (r.1.1.0, r.1.1.1))))

found_along : (ws xs : List Piece) (w : Piece) → Found xs w → Found (fold noted xs ws) w
found_along [] xs w f = f
found_along (v ∷ ws) xs w f = found_along ws (noted xs v) w (found_more xs v w f)

found_all : (lo mid hi : ℕ) (ws xs : List Piece) → Climb lo mid (places_of xs) → Climb mid hi (places_of ws) → AllByRecursion (Found (fold noted xs ws)) ws
found_all lo mid hi [] xs x y = tt
found_all lo mid hi (w ∷ ws) xs x y =
    let q = y.0 in (
      found_along ws (noted xs w) w (found_here xs w (All-weaker (λ (v : Piece). v.place < mid) (λ (v : Piece). v.place < suc w.place) (λ v h. omega (arith, h, q)) xs (climb_below lo mid xs x))),
      found_all lo (suc w.place) hi ws (noted xs w) (noted_climb lo mid xs w x y.0) y.1,
    )

-- ---- by number

climb_index : (lo hi j k : ℕ) (xs : List Piece) → Climb lo hi (places_of xs) → j < k → k < length xs → (get_or xs j no_name).place < (get_or xs k no_name).place
climb_index lo hi j k [] x h l = absurd (omega arith)
climb_index lo hi zero zero (p ∷ xs) x h l = absurd (omega arith)
climb_index lo hi (suc j) zero (p ∷ xs) x h l = absurd (omega arith)
climb_index lo hi zero (suc k) (p ∷ xs) x h l = first (suc p.place) k xs x.1 (omega arith)
  where
    first : (low i : ℕ) (ys : List Piece) → Climb low hi (places_of ys) → i < length ys → low ≤ (get_or ys i no_name).place
    first low i [] y m = absurd (omega arith)
    first low zero (q ∷ ys) y m = y.0
    first low (suc i) (q ∷ ys) y m = let a = y.0 in let b = first (suc q.place) i ys y.1 (omega arith) in omega (arith, a, b)
climb_index lo hi (suc j) (suc k) (p ∷ xs) x h l = climb_index (suc p.place) hi j k xs x.1 (omega arith) (omega arith)

apart_index : (j k : ℕ) (xs : List Piece) → Apart xs → j < k → k < length xs → bytes_eq (get_or xs j no_name).bytes (get_or xs k no_name).bytes ≡ false
apart_index j k [] a h l = absurd (omega arith)
apart_index zero zero (x ∷ xs) a h l = absurd (omega arith)
apart_index (suc j) zero (x ∷ xs) a h l = absurd (omega arith)
apart_index zero (suc k) (x ∷ xs) a h l = All-get_or (λ (y : Piece). bytes_eq x.bytes y.bytes ≡ false) xs k no_name (omega arith) a.0
apart_index (suc j) (suc k) (x ∷ xs) a h l = apart_index j k xs a.1 (omega arith) (omega arith)

name_at : (ss : List Signal) (k : ℕ) → k < length ss → get_or (names ss) k no_name ≡ name_of ss k
name_at ss k h = get_or-map (λ (s : Signal). s.name) ss k no_signal no_name h

-- ---- of an accepted text

module _ (text : List ℕ) (ss : List Signal) (e : Accepted text ss) where
  mentioned : (hi : ℕ) × Climb 0 hi (places_of (words_in mentions_of text))
  mentioned = mentions_climb 0 (lines 0 text) (lines_chain 0 text)

  climbing : Climb 0 mentioned.0 (places_of (names ss))
  climbing = subst (λ (xs : List Piece). Climb 0 mentioned.0 (places_of xs)) (sym (text_names text ss e)) (folded_climb 0 0 mentioned.0 (words_in mentions_of text) [] (omega arith) mentioned.1)

  pub names_climb : (j k : ℕ) → j < k → k < length ss → ((name_of ss j).place < (name_of ss k).place) × (bytes_eq (name_of ss j).bytes (name_of ss k).bytes ≡ false)
  names_climb j k h l =
      let m = length-map ss (λ (s : Signal). s.name) in
      let a : get_or (names ss) j no_name ≡ name_of ss j = name_at ss j (omega arith) in
      let b : get_or (names ss) k no_name ≡ name_of ss k = name_at ss k l in
      let p = climb_index 0 mentioned.0 j k (names ss) climbing h (omega (arith, m)) in
      let q = apart_index j k (names ss) (text_apart text ss e) h (omega (arith, m)) in (
        omega (arith, p, ap (λ (w : Piece). w.place) a, ap (λ (w : Piece). w.place) b),
        ap (λ (w : Piece). bytes_eq w.bytes (name_of ss k).bytes) (sym a) ∙ (ap (λ (w : Piece). bytes_eq (get_or (names ss) j no_name).bytes w.bytes) (sym b) ∙ q),
      )

  pub names_mentioned : AllByRecursion (λ (s : Signal). Has (words_in mentions_of text) s.name) ss
  names_mentioned =
      from_names (Has (words_in mentions_of text)) ss
      (subst (AllByRecursion (Has (words_in mentions_of text))) (sym (text_names text ss e)) (folded_are (Has (words_in mentions_of text)) (words_in mentions_of text) [] tt (all_has_itself (words_in mentions_of text))))

  pub mentions_named : AllByRecursion (λ (w : Piece). (k : ℕ) × ((k < length ss) × (((name_of ss k).bytes ≡ w.bytes) × ((name_of ss k).place ≤ w.place)))) (words_in mentions_of text)
  mentions_named =
      All-weaker (Found (names ss)) (λ (w : Piece). (k : ℕ) × ((k < length ss) × (((name_of ss k).bytes ≡ w.bytes) × ((name_of ss k).place ≤ w.place)))) named (words_in mentions_of text)
      (subst (λ (xs : List Piece). AllByRecursion (Found xs) (words_in mentions_of text)) (sym (text_names text ss e)) (found_all 0 0 mentioned.0 (words_in mentions_of text) [] (omega arith) mentioned.1))
    where
      named : (w : Piece) → Found (names ss) w → (k : ℕ) × ((k < length ss) × (((name_of ss k).bytes ≡ w.bytes) × ((name_of ss k).place ≤ w.place)))
      named w f =
          let h = f.1.0 in
          let k : f.0 < length ss = omega (arith, h, length-map ss (λ (s : Signal). s.name)) in
          let a = name_at ss f.0 k in
          (f.0, (k, (ap (λ (p : Piece). p.bytes) (sym a) ∙ f.1.1.0, subst (λ (p : Piece). p.place ≤ w.place) a f.1.1.1)))
