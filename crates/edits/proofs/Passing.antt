-- Edits that pass the checks, and edits that do not.
use Rattle.std.proofs.Common.{◌≡◌, ℕ, ◌*◌, ◌<◌, ◌≤◌, Bool, true, false, cond, not, ◌&&◌, ◌||◌, ltb, length, Some, None, Ok, Err, Option, Result, sym, refl, ap, ◌∙◌, subst, ap₂, ⊎_elim, arith}
use Rattle.std.proofs.lemmas.List.{get_or_past}
use Rattle.std.proofs.lemmas.Bool.{cases_lt, lt-ltb, le-ltb, ltb-true, ltb-false, and_parts, or_parts}
use Rattle.std.proofs.lemmas.Option.{none-some}
use Rattle.gauge.specs.Matrix.{edge_ops}
use Rattle.gauge.specs.Semirings.{Ops}
use Rattle.gauge.specs.declared.matrix.EdgeMatrix.{EdgeMatrix}
use Rattle.network.specs.Net.{signals, size, fanin}
use Rattle.network.specs.Wiring.{absent, number_of_pins}
use Rattle.network.specs.declared.network.Network.{Network}
use Rattle.network.specs.declared.signal.Signal.{Signal}
use Rattle.fields.specs.declared.edit.Edit.{Edit}
use Rattle.fields.specs.declared.edit.Edit.TheVariants.{SetDelay, SetStart, Rewire, Cut}
use Rattle.delays.specs.Outlines.{Pin, outline_of, has}
use Rattle.opening.specs.Boards.{View}
use Rattle.book.specs.declared.edit_fault.EditFault.{EditFault}
use Rattle.book.specs.declared.edit_fault.EditFault.TheVariants.{TooShort, LowLimit, NoSuchPart, EarlyAboveLate, ClosesCycle}
use Rattle.book.specs.Answers.{unless}
use Rattle.book.proofs.Judged.{no_fault, a_fault}
use Rattle.book.specs.Judging.{too_short, marks, crosses, known, closes, part_fault, judge}
use Rattle.board.specs.Books.{book_of, lent_of}
use Rattle.board.specs.Steps.{Stepped}
use Rattle.board.proofs.Webs.{book_long, pins_are, sources_are}
use Rattle.edits.specs.Checks.{has_parts, checked}

module _ (short low there cross : Bool) (at : ℕ) where
  abbrev all : Option EditFault → Option EditFault
  all rest = cond short (Some TooShort) (cond low (Some LowLimit) (cond (not there) (Some (NoSuchPart at)) (cond cross (Some (EarlyAboveLate at)) rest)))

-- a fault that is found first is the fault, and where none is found the rest decides
still : (short low there cross : Bool) (at : ℕ) (rest : Option EditFault) (d : EditFault) → all short low there cross at None ≡ Some d → all short low there cross at rest ≡ Some d
still true low there cross at rest d h = h
still false true there cross at rest d h = h
still false false false cross at rest d h = h
still false false true true at rest d h = h
still false false true false at rest d h = absurd (none-some d h)

pub record Clear (short low there cross : Bool) : Type 0 where
  pub is_long : short ≡ false
  pub is_high : low ≡ false
  pub is_there : there ≡ true
  pub is_right : cross ≡ false

clear : (short low there cross : Bool) (at : ℕ) → all short low there cross at None ≡ None → Clear short low there cross
clear true low there cross at h = absurd (none-some _ (sym h))
clear false true there cross at h = absurd (none-some _ (sym h))
clear false false false cross at h = absurd (none-some _ (sym h))
clear false false true true at h = absurd (none-some _ (sym h))
clear false false true false at h = record { is_long = refl; is_high = refl; is_there = refl; is_right = refl }

rest_decides : (short low there cross : Bool) (at : ℕ) (rest : Option EditFault) → Clear short low there cross → all short low there cross at rest ≡ rest
rest_decides short low there cross at rest h =
    ap (λ b. all b low there cross at rest) h.is_long ∙ ap (λ b. all false b there cross at rest) h.is_high
    ∙ ap (λ b. all false false b cross at rest) h.is_there ∙ ap (λ b. all false false true b at rest) h.is_right

-- a pin that is there belongs to a signal that is there
pub pinned : (net : Network) (g k : ℕ) → has (outline_of net) (Pin g k) ≡ true → (g < size net) × (k < fanin net g)
pinned net g k h = let both = and_parts (ltb g (size net)) (ltb k (fanin net g)) h in (ltb-true g (size net) both.0, ltb-true k (fanin net g) both.1)

pin_told : (net : Network) (g k : ℕ) → ltb k (fanin net g) ≡ has (outline_of net) (Pin g k)
pin_told net g k =
    ⊎_elim
    (λ l. ap (λ b. b && ltb k (fanin net g)) (sym (lt-ltb g (size net) l)))
    (λ past.
    let none : fanin net g ≡ 0 = ap (λ (x : Signal). number_of_pins x.driver) (get_or_past (signals net) g absent past) in
    le-ltb k (fanin net g) (omega arith) ∙ ap (λ b. b && ltb k (fanin net g)) (sym (le-ltb g (size net) past)))
    (cases_lt g (size net))

module _ {V : Type 0} (r : Ops V) (x : View V) where
  -- the book knows what the network has
  pub known_is : (e : Edit) → known r (book_of r x) e ≡ has_parts x.network e
  known_is (SetDelay g k t) = ap (ltb k) (pins_are r x g) ∙ pin_told x.network g k
  known_is (SetStart s t) = sources_are r x s
  known_is (Rewire g k u) = ap₂ ◌&&◌ (ap (ltb k) (pins_are r x g) ∙ pin_told x.network g k) (ap (ltb u) (book_long r x))
  known_is (Cut g k) = ap (ltb k) (pins_are r x g) ∙ pin_told x.network g k

  module _ (strip limit at : ℕ) (e : Edit) where
    judged : judge r (book_of r x) (lent_of x strip limit) at e
        ≡ all (too_short (marks e) (lent_of x strip limit) (size x.network)) (ltb limit (size x.network)) (has_parts x.network e) (crosses e) at
        (cond (closes r (book_of r x) e) (Some (ClosesCycle at)) None)
    unfolding judge
    judged =
        ap₂ (λ (n : ℕ) (b : Bool). all (too_short (marks e) (lent_of x strip limit) n) (ltb limit n) b (crosses e) at (cond (closes r (book_of r x) e) (Some (ClosesCycle at)) None))
        (book_long r x) (known_is e)

    -- what the checks refuse, the book refuses
    refused : (d : EditFault) → checked x strip limit at e ≡ Some d → judge r (book_of r x) (lent_of x strip limit) at e ≡ Some d
    refused d h =
        judged
        ∙ still (too_short (marks e) (lent_of x strip limit) (size x.network)) (ltb limit (size x.network)) (has_parts x.network e) (crosses e) at _ d h

    -- after the checks, only a cycle is left to judge, and there is room
    pub record Passed : Type 0 where
      pub decided : judge r (book_of r x) (lent_of x strip limit) at e ≡ cond (closes r (book_of r x) e) (Some (ClosesCycle at)) None
      pub parts : has_parts x.network e ≡ true
      pub starts : size x.network ≤ length x.starts
      pub weights : 4 * size x.network ≤ length x.weights
      pub values : size x.network ≤ length x.values
      pub marks_fit : marks e ≡ true → size x.network ≤ strip
      pub turns_fit : size x.network ≤ limit

    passed : checked x strip limit at e ≡ None → Passed
    passed h =
        let n = size x.network in
        let short = too_short (marks e) (lent_of x strip limit) n in
        let c = clear short (ltb limit n) (has_parts x.network e) (crosses e) at h in
        let both = or_parts (marks e && ltb strip n) (ltb (length x.starts) n || (ltb (length x.weights) (4 * n) || ltb (length x.values) n)) c.is_long in
        let tables = or_parts (ltb (length x.starts) n) (ltb (length x.weights) (4 * n) || ltb (length x.values) n) both.1 in
        let others = or_parts (ltb (length x.weights) (4 * n)) (ltb (length x.values) n) tables.1 in
        record {
          decided = judged ∙ rest_decides short (ltb limit n) (has_parts x.network e) (crosses e) at _ c;
          parts = c.is_there;
          starts = ltb-false _ _ tables.0;
          weights = ltb-false _ _ others.0;
          values = ltb-false _ _ others.1;
          marks_fit = λ m. ltb-false strip n (subst (λ (b : Bool). (b && ltb strip n) ≡ false) m both.0);
          turns_fit = ltb-false limit n c.is_high;
        }

    -- the same, of the answer of the checks to the limit as it was told
    module _ (told : ℕ) (is : told ≡ limit) where
      checked_alike : checked x strip limit at e ≡ checked x strip told at e
      checked_alike = sym (ap (λ (l : ℕ). checked x strip l at e) is)

      pub refused_told : (d : EditFault) → Err d ≡ unless (checked x strip told at e) (tt {0}) → judge r (book_of r x) (lent_of x strip limit) at e ≡ Some d
      refused_told d h = refused d (checked_alike ∙ a_fault _ d (tt {0}) h)

      pub passed_told : Ok (tt {0}) ≡ unless (checked x strip told at e) (tt {0}) → Passed
      passed_told h = passed (checked_alike ∙ no_fault _ (tt {0}) (tt {0}) h)

-- a refused edit leaves the board as it is
pub step_refused : {G : Type 0} (r : Ops G) (delays : ℕ → ℕ → G) (x : View (EdgeMatrix G)) (strip limit at : ℕ) (e : Edit) (a : Result ℕ EditFault) (d : EditFault)
    → a ≡ Err d → judge (edge_ops r) (book_of (edge_ops r) x) (lent_of x strip limit) at e ≡ Some d → Stepped r delays strip limit at e x x a
step_refused r delays x strip limit at e a d is h = subst (Stepped r delays strip limit at e x x) (sym is) (h, refl)

-- where nothing is marked, the strip does not matter
judged_alike : {V : Type 0} (r : Ops V) (x : View V) (strip strip' limit at : ℕ) (e : Edit) → marks e ≡ false
    → judge r (book_of r x) (lent_of x strip' limit) at e ≡ judge r (book_of r x) (lent_of x strip limit) at e
unfolding judge
judged_alike r x strip strip' limit at e unmarked =
    let n = length (book_of r x) in
    let tables = ltb (length x.starts) n || (ltb (length x.weights) (4 * n) || ltb (length x.values) n) in
    let by = λ (b c : Bool). cond ((b && c) || tables) (Some TooShort) (cond (ltb limit n) (Some LowLimit) (part_fault r (book_of r x) at e)) in
    ap (λ (b : Bool). by b (ltb strip' n)) unmarked ∙ sym (ap (λ (b : Bool). by b (ltb strip n)) unmarked)

pub any_strip : {G : Type 0} (r : Ops G) (delays : ℕ → ℕ → G) (x y : View (EdgeMatrix G)) (strip strip' limit at : ℕ) (e : Edit) (a : Result ℕ EditFault)
    → marks e ≡ false → Stepped r delays strip limit at e x y a → Stepped r delays strip' limit at e x y a
any_strip r delays x y strip strip' limit at e (Ok n) unmarked h = (judged_alike (edge_ops r) x strip strip' limit at e unmarked ∙ h.0, h.1)
any_strip r delays x y strip strip' limit at e (Err d) unmarked h = (judged_alike (edge_ops r) x strip strip' limit at e unmarked ∙ h.0, h.1)
