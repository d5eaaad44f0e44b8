-- A script that is refused at a field leaves what its bytes before that field leave.
use Rattle.std.proofs.Common.{◌≡◌, ℕ, ◌+◌, ◌≤◌, true, false, cond, ltb, List, [], ◌∷◌, ◌++◌, length, take, is_ok, Some, None, Ok, Err, Option, Result, sym, refl, ap, ◌∙◌, arith}
use Rattle.std.specs.List.{AllByRecursion}
use Rattle.std.proofs.lemmas.List.{length-take}
use Rattle.std.proofs.lemmas.Bool.{ltb-false, le-ltb, cond-false}
use Rattle.std.proofs.lemmas.Option.{none-some}
use Rattle.fault.specs.declared.refusal.Refusal.{Refusal}
use Rattle.gauge.specs.Matrix.{edge_ops}
use Rattle.gauge.specs.Semirings.{Ops}
use Rattle.gauge.specs.declared.matrix.EdgeMatrix.{EdgeMatrix}
use Rattle.fields.specs.declared.edit.Edit.{Edit}
use Rattle.fields.specs.declared.faults.FieldFault.{FieldFault}
use Rattle.fault.specs.Limit.{max_bytes}
use Rattle.fields.specs.Forms.{edit_form}
use Rattle.fields.specs.Lists.{fields}
use Rattle.fields.specs.declared.read.Placed.{Placed}
use Rattle.fields.specs.Says.{edit_of}
use Rattle.fields.proofs.Cutting.{cut_between}
use Rattle.fields.proofs.Refused.{Refused, placed_refused}
use Rattle.book.specs.declared.edit_fault.EditFault.{EditFault}
use Rattle.book.specs.declared.script_fault.ScriptFault.{ScriptFault}
use Rattle.book.specs.declared.script_fault.ScriptFault.TheVariants as fault
use Rattle.book.specs.Books.{Book}
use Rattle.book.specs.Faults.{script_refusal}
use Rattle.book.specs.Judging.{Lent, room_fault, judge}
use Rattle.book.specs.Answers.{as_call, count, answer, field_answer, field_next, summed, fields_answer, fields_next, script_fault, judge_script, script_by, script_next_by}
use Rattle.book.specs.Laws.{StopsAsIfEnded}
use Rattle.book.proofs.Judged.{ok-err, a_fault, none_parts, judge_place}
use Rattle.book.proofs.Lengths.{field_next_long}

-- what a field lacks is refused at its place
abbrev pub RefusedThere : Placed Edit → Type 0
RefusedThere f = Refused f.at f.said

pub fields_refused : (file : List ℕ) → AllByRecursion RefusedThere (fields edit_of file)
fields_refused file = placed_refused edit_form 0 0 file

-- the fault of an edit among those of scripts
call_fault : (a : Result ℕ EditFault) (d : ScriptFault) → as_call a ≡ Err d → (b : EditFault) × (a ≡ Err b) × (d ≡ fault.Edit b)
call_fault (Ok n) d h = absurd (ok-err h)
call_fault (Err b) d h = let same : d ≡ fault.Edit b = cc in (b, refl, same)

module _ {G : Type 0} (r : Ops G) (delays : ℕ → ℕ → G) (l : Lent) where
  -- a script is judged without fault: the room suffices, and the file is not too long
  script_none : (o : Option EditFault) (file : List ℕ) → script_fault r delays l o file ≡ None → (o ≡ None) × (ltb max_bytes (length file) ≡ false)
  script_none (Some d) file h = absurd (none-some _ (sym h))
  script_none None file h = (refl, (none_parts (ltb max_bytes (length file)) fault.FileTooLong None h).0)

  module _ (book : Book (EdgeMatrix G)) (file : List ℕ) (judged : judge_script r delays l book file ≡ None) where
    pub script_room : room_fault true l (length book) ≡ None
    script_room = (script_none (room_fault true l (length book)) file judged).0

    -- no script of its first bytes has a fault either
    pub script_take : (n : ℕ) → judge_script r delays l book (take n file) ≡ None
    script_take n =
        let short : length file ≤ max_bytes = ltb-false max_bytes (length file) (script_none (room_fault true l (length book)) file judged).1 in
        let shorter : length (take n file) ≤ max_bytes = simp length-take (omega arith) in
        ap (λ (o : Option EditFault). script_fault r delays l o (take n file)) script_room ∙ cond-false _ _ _ (le-ltb _ _ shorter)

  -- a field is refused at its place
  field_place : (book : Book (EdgeMatrix G)) (at : ℕ) (said : Result Edit FieldFault) (d : ScriptFault) → Refused at said
      → room_fault true l (length book) ≡ None → field_answer r delays l book at said ≡ Err d → (script_refusal d).place ≡ at
  unfolding answer
  field_place book at (Ok e) d there room h =
      let bad = call_fault (answer r delays l book at e) d h in
      let judged = a_fault (judge (edge_ops r) book l at e) bad.0 (count r delays book e) (sym bad.1) in
      ap (λ (x : ScriptFault). (script_refusal x).place) bad.2 ∙ judge_place (edge_ops r) book l at e bad.0 room judged
  field_place book at (Err f) d there room h =
      let same : d ≡ fault.Field f = cc in
      ap (λ (x : ScriptFault). (script_refusal x).place) same ∙ ap (λ (x : Refusal). x.place) there

  -- the field at which fields in order stop, and those before it, which are accepted and leave the same book
  record Stop (book : Book (EdgeMatrix G)) (total : ℕ) (fs : List (Placed Edit)) (d : ScriptFault) : Type 0 where
    before : List (Placed Edit)
    field : Placed Edit
    after : List (Placed Edit)
    whole : fs ≡ before ++ (field ∷ after)
    place : (script_refusal d).place ≡ field.at
    sum : ℕ
    ended : fields_answer r delays l book total before ≡ Ok sum
    left : fields_next r delays l book before ≡ fields_next r delays l book fs

  module _ (book : Book (EdgeMatrix G)) (total : ℕ) (f : Placed Edit) (fs : List (Placed Edit)) (d : ScriptFault) where
    stop_by : (a : Result ℕ ScriptFault) → field_answer r delays l book f.at f.said ≡ a → RefusedThere f
        → room_fault true l (length book) ≡ None
        → summed r delays l total a (λ t. fields_answer r delays l (field_next r delays l book f.at f.said) t fs) ≡ Err d
        → ((n : ℕ) → fields_answer r delays l (field_next r delays l book f.at f.said) (total + n) fs ≡ Err d
        → Stop (field_next r delays l book f.at f.said) (total + n) fs d)
        → Stop book total (f ∷ fs) d
    stop_by (Ok n) is there room h onward =
        let s = onward n h in
        record {
          before = f ∷ s.before;
          field = s.field;
          after = s.after;
          whole = ap (λ (gs : List (Placed Edit)). f ∷ gs) s.whole;
          place = s.place;
          sum = s.sum;
          ended = ap (λ (a : Result ℕ ScriptFault). summed r delays l total a (λ t. fields_answer r delays l (field_next r delays l book f.at f.said) t s.before)) is ∙ s.ended;
          left = ap (λ (b : Book (EdgeMatrix G)). cond (is_ok (field_answer r delays l book f.at f.said)) b book) s.left;
        }
    stop_by (Err c) is there room h onward =
        let same : c ≡ d = cc in
        record {
          before = [];
          field = f;
          after = fs;
          whole = refl;
          place = field_place book f.at f.said d there room (is ∙ ap Err same);
          sum = total;
          ended = refl;
          left = sym (ap (λ (a : Result ℕ ScriptFault). cond (is_ok a) (fields_next r delays l (field_next r delays l book f.at f.said) fs) book) is);
        }

  stop_at : (fs : List (Placed Edit)) (book : Book (EdgeMatrix G)) (total : ℕ) (d : ScriptFault) → AllByRecursion RefusedThere fs
      → room_fault true l (length book) ≡ None → fields_answer r delays l book total fs ≡ Err d → Stop book total fs d
  stop_at [] book total d there room h = absurd (ok-err h)
  stop_at (f ∷ fs) book total d there room h =
      let same : length (field_next r delays l book f.at f.said) ≡ length book = field_next_long r delays l book f.at f.said in
      let on : room_fault true l (length (field_next r delays l book f.at f.said)) ≡ None = ap (room_fault true l) same ∙ room in
      stop_by book total f fs d (field_answer r delays l book f.at f.said) refl there.0 room h
      (λ n k. stop_at fs (field_next r delays l book f.at f.said) (total + n) d there.1 on k)

pub stops : {G : Type 0} (r : Ops G) (delays : ℕ → ℕ → G) → StopsAsIfEnded r delays
stops r delays l book file d judged h =
    let fs = fields edit_of file in
    let refused : fields_answer r delays l book 0 fs ≡ Err d = sym (ap (λ (o : Option ScriptFault). script_by r delays l o book file) judged) ∙ h in
    let s = stop_at r delays l fs book 0 d (fields_refused file) (script_room r delays l book file judged) refused in
    let n : ℕ = (script_refusal d).place in
    let front : List ℕ = take n file in
    let fine : judge_script r delays l book front ≡ None = script_take r delays l book file judged n in
    let cut : fields edit_of front ≡ s.before =
    ap (λ (k : ℕ). fields edit_of (take k file)) s.place ∙ cut_between edit_of file s.before s.after s.field s.whole in (
      (
        s.sum,
        ap (λ (o : Option ScriptFault). script_by r delays l o book front) fine ∙ (ap (fields_answer r delays l book 0) cut ∙ s.ended),
      ),
      ap (λ (o : Option ScriptFault). script_next_by r delays l o book front) fine
          ∙ (ap (fields_next r delays l book) cut
          ∙ (s.left ∙ sym (ap (λ (o : Option ScriptFault). script_next_by r delays l o book file) judged))),
    )
