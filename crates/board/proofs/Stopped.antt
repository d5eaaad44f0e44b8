-- A script that is refused at a field leaves a board that its bytes before that field leave.
use Rattle.std.proofs.Common.{◌≡◌, ℕ, ◌+◌, true, List, [], ◌∷◌, ◌++◌, length, take, None, Ok, Err, Option, Result, sym, refl, ap, ◌∙◌, subst}
use Rattle.std.specs.List.{AllByRecursion}
use Rattle.fault.specs.declared.refusal.Refusal.{Refusal}
use Rattle.gauge.specs.Matrix.{edge_ops}
use Rattle.gauge.specs.Semirings.{Ops}
use Rattle.gauge.specs.declared.matrix.EdgeMatrix.{EdgeMatrix}
use Rattle.fields.specs.declared.edit.Edit.{Edit}
use Rattle.fields.specs.declared.faults.FieldFault.{FieldFault}
use Rattle.fields.specs.Lists.{fields}
use Rattle.fields.specs.declared.read.Placed.{Placed}
use Rattle.fields.specs.Says.{edit_of}
use Rattle.fields.proofs.Cutting.{cut_between}
use Rattle.fields.proofs.Refused.{Refused}
use Rattle.opening.specs.Boards.{View}
use Rattle.book.specs.declared.edit_fault.EditFault.{EditFault}
use Rattle.book.specs.declared.script_fault.ScriptFault.{ScriptFault}
use Rattle.book.specs.declared.script_fault.ScriptFault.TheVariants as fault
use Rattle.book.specs.Faults.{script_refusal}
use Rattle.book.specs.Judging.{Lent, room_fault}
use Rattle.book.specs.Answers.{as_call}
use Rattle.book.proofs.Judged.{ok-err, judge_place}
use Rattle.book.proofs.Stopping.{RefusedThere, fields_refused, script_room, script_take}
use Rattle.board.specs.Books.{book_of, lent_of}
use Rattle.board.specs.Steps.{Stepped}
use Rattle.board.specs.Runs.{FieldTaken, Onward, Taken, ScriptedBy}
use Rattle.board.specs.Laws.{StoppedScripts}
use Rattle.board.proofs.Lasting.{accepted_book_long, accepted_lent}

module _ {G : Type 0} (r : Ops G) (delays : ℕ → ℕ → G) (strip limit : ℕ) where
  -- what is lent suffices for an edit that marks
  abbrev Room : View (EdgeMatrix G) → Type 0
  Room x = room_fault true (lent_of x strip limit) (length (book_of (edge_ops r) x)) ≡ None

  step_room : (at : ℕ) (e : Edit) (x z : View (EdgeMatrix G)) (b : Result ℕ EditFault) → Stepped r delays strip limit at e x z b → Room x → Room z
  step_room at e x z (Ok n) (judged, done) room =
      ap (λ (l : Lent). room_fault true l (length (book_of (edge_ops r) z))) (accepted_lent r delays e x z n done strip limit)
      ∙ (ap (room_fault true (lent_of x strip limit)) (accepted_book_long r delays e x z n done) ∙ room)
  step_room at e x z (Err d) (judged, same) room = subst Room (sym same) room

  field_room : (at : ℕ) (said : Result Edit FieldFault) (x z : View (EdgeMatrix G)) (b : Result ℕ ScriptFault)
      → FieldTaken r delays strip limit at said x z b → Room x → Room z
  field_room at (Ok e) x z b (a, step, is) room = step_room at e x z a step room
  field_room at (Err d) x z b (same, is) room = subst Room (sym same) room

  -- a step that is refused, at its place, moves nothing
  step_stays : (at : ℕ) (e : Edit) (x z : View (EdgeMatrix G)) (b : Result ℕ EditFault) (c : ScriptFault) → Stepped r delays strip limit at e x z b
      → Err c ≡ as_call b → Room x → (z ≡ x) × ((script_refusal c).place ≡ at)
  step_stays at e x z (Ok n) c step is room = absurd (ok-err (sym is))
  step_stays at e x z (Err d) c (judged, same) is room =
      let edit : c ≡ fault.Edit d = cc in (
        same,
        ap (λ (f : ScriptFault). (script_refusal f).place) edit
            ∙ judge_place (edge_ops r) (book_of (edge_ops r) x) (lent_of x strip limit) at e d room judged,
      )

  field_stays : (at : ℕ) (said : Result Edit FieldFault) (x z : View (EdgeMatrix G)) (c : ScriptFault)
      → FieldTaken r delays strip limit at said x z (Err c) → Refused at said → Room x → (z ≡ x) × ((script_refusal c).place ≡ at)
  field_stays at (Ok e) x z c (b, step, is) there room = step_stays at e x z b c step is room
  field_stays at (Err d) x z c (same, is) there room =
      let field : c ≡ fault.Field d = cc in
      (same, ap (λ (f : ScriptFault). (script_refusal f).place) field ∙ ap (λ (f : Refusal). f.place) there)

  -- the field at which fields in order stop, and those before it, which are accepted and leave the same board
  record Stop (fs : List (Placed Edit)) (total : ℕ) (x y : View (EdgeMatrix G)) (d : ScriptFault) : Type 0 where
    before : List (Placed Edit)
    field : Placed Edit
    after : List (Placed Edit)
    whole : fs ≡ before ++ (field ∷ after)
    place : (script_refusal d).place ≡ field.at
    sum : ℕ
    taken : Taken r delays strip limit before total x y (Ok sum)

  module _ (f : Placed Edit) (fs : List (Placed Edit)) (total : ℕ) (x z y : View (EdgeMatrix G)) (d : ScriptFault) where
    stop_by : (b : Result ℕ ScriptFault) → FieldTaken r delays strip limit f.at f.said x z b
        → Onward r delays strip limit (λ n. Taken r delays strip limit fs (total + n) z y (Err d)) z y (Err d) b → RefusedThere f → Room x
        → ((n : ℕ) → Taken r delays strip limit fs (total + n) z y (Err d) → Stop fs (total + n) z y d)
        → Stop (f ∷ fs) total x y d
    stop_by (Ok n) here rest there room onward =
        let s = onward n rest in
        record {
          before = f ∷ s.before;
          field = s.field;
          after = s.after;
          whole = ap (λ (gs : List (Placed Edit)). f ∷ gs) s.whole;
          place = s.place;
          sum = s.sum;
          taken = (z, Ok n, here, s.taken);
        }
    stop_by (Err c) here (stays, is) there room onward =
        let same : d ≡ c = cc in
        let stood = field_stays f.at f.said x z c here there room in
        record {
          before = [];
          field = f;
          after = fs;
          whole = refl;
          place = ap (λ (g : ScriptFault). (script_refusal g).place) same ∙ stood.1;
          sum = total;
          taken = (stays ∙ stood.0, refl);
        }

  stop_at : (fs : List (Placed Edit)) (total : ℕ) (x y : View (EdgeMatrix G)) (d : ScriptFault) → AllByRecursion RefusedThere fs → Room x
      → Taken r delays strip limit fs total x y (Err d) → Stop fs total x y d
  stop_at [] total x y d there room (same, is) = absurd (ok-err (sym is))
  stop_at (f ∷ fs) total x y d there room (z, b, here, rest) =
      let on : Room z = field_room f.at f.said x z b here room in
      stop_by f fs total x z y d b here rest there.0 room (λ n more. stop_at fs (total + n) z y d there.1 on more)

pub stopped_scripts : {G : Type 0} (r : Ops G) (delays : ℕ → ℕ → G) → StoppedScripts r delays
stopped_scripts {G} r delays strip limit file x y d judged h =
    let l : Lent = lent_of x strip limit in
    let book = book_of (edge_ops r) x in
    let By : Option ScriptFault → Type 0 = λ o. ScriptedBy r delays strip limit o file x y (Err d) in
    let fs = fields edit_of file in
    let s = stop_at r delays strip limit fs 0 x y d (fields_refused file) (script_room r delays l book file judged) (subst By judged h) in
    let n : ℕ = (script_refusal d).place in
    let front : List ℕ = take n file in
    let Cut : Option ScriptFault → Type 0 = λ o. ScriptedBy r delays strip limit o front x y (Ok s.sum) in
    let Over : List (Placed Edit) → Type 0 = λ gs. Taken r delays strip limit gs 0 x y (Ok s.sum) in
    let cut : fields edit_of front ≡ s.before =
    ap (λ (k : ℕ). fields edit_of (take k file)) s.place ∙ cut_between edit_of file s.before s.after s.field s.whole in
    (s.sum, subst Cut (sym (script_take r delays l book file judged n)) (subst Over (sym cut) s.taken))
