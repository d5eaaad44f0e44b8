-- Scripts and chains of calls follow the book.
use Rattle.std.proofs.Common.{◌≡◌, ℕ, ◌+◌, Bool, true, false, cond, List, [], ◌∷◌, map, is_ok, Some, None, Ok, Err, Option, Result, sym, refl, ap, ◌∙◌, subst, ap₂}
use Rattle.std.proofs.lemmas.Bool.{both_ways}
use Rattle.gauge.specs.Matrix.{edge_ops}
use Rattle.gauge.specs.Semirings.{Ops, Laws}
use Rattle.gauge.specs.declared.matrix.EdgeMatrix.{EdgeMatrix}
use Rattle.fields.specs.declared.edit.Edit.{Edit}
use Rattle.fields.specs.declared.faults.FieldFault.{FieldFault}
use Rattle.fields.specs.Lists.{fields}
use Rattle.fields.specs.declared.read.Placed.{Placed}
use Rattle.fields.specs.Says.{edit_of}
use Rattle.opening.specs.Boards.{View}
use Rattle.book.specs.declared.edit_fault.EditFault.{EditFault}
use Rattle.book.specs.declared.script_fault.ScriptFault.{ScriptFault}
use Rattle.book.specs.declared.script_fault.ScriptFault.TheVariants as fault
use Rattle.book.specs.Books.{Book}
use Rattle.book.specs.Judging.{Lent}
use Rattle.book.specs.Answers.{as_call, Call, edit, script, answer, field_answer, field_next, summed, fields_answer, fields_next, script_by, script_next_by, answers, last}
use Rattle.board.specs.Books.{book_of, Sums, lent_of}
use Rattle.board.specs.Steps.{Stepped}
use Rattle.board.specs.Runs.{Made, FieldTaken, Taken, ScriptedBy, Called, CallFollows, lendings}
use Rattle.board.specs.Laws.{ChainsFollow}
use Rattle.board.proofs.Carrying.{field_carries, call_carries}
use Rattle.board.proofs.Following.{step_lends, answer_by, follows}

module _ {G : Type 0} (r : Ops G) (delays : ℕ → ℕ → G) where
  abbrev Lends : (x y : View (EdgeMatrix G)) → Type 0
  Lends x y = (strip limit : ℕ) → lent_of y strip limit ≡ lent_of x strip limit

  -- so the calls of a chain are lent the same
  pub lendings_same : (x y : View (EdgeMatrix G)) → ((strip limit : ℕ) → lent_of y strip limit ≡ lent_of x strip limit)
      → (ms : List Made) → lendings r delays y ms ≡ lendings r delays x ms
  lendings_same x y lends ms = λ i. map (λ m. record { lent = lends m.strip m.limit i; call = m.call }) ms

  lends_none : (x : View (EdgeMatrix G)) → Lends x x
  lends_none x strip limit = refl

  lends_more : (x y z : View (EdgeMatrix G)) → Lends x y → Lends y z → Lends x z
  lends_more x y z a b strip limit = b strip limit ∙ a strip limit

  -- what a field and what a call is lent stays as long
  field_lends : (strip limit at : ℕ) (said : Result Edit FieldFault) (x z : View (EdgeMatrix G)) (a : Result ℕ ScriptFault)
      → FieldTaken r delays strip limit at said x z a → Lends x z
  field_lends = field_carries r delays Lends lends_none lends_more (step_lends r delays)

  pub call_lends : (strip limit : ℕ) (c : Call) (x y : View (EdgeMatrix G)) (a : Result ℕ ScriptFault) → Called r delays strip limit c x y a
      → (strip' limit' : ℕ) → lent_of y strip' limit' ≡ lent_of x strip' limit'
  call_lends = call_carries r delays Lends lends_none lends_more (step_lends r delays)

  -- whatever the values, the answer is a refusal exactly where the book's is, and then nothing has moved
  record Told (x z : View (EdgeMatrix G)) (a says : Result ℕ ScriptFault) : Type 0 where
    same : is_ok a ≡ is_ok says
    still : is_ok a ≡ false → z ≡ x

  module _ (strip limit : ℕ) where
    step_told : (at : ℕ) (e : Edit) (x z : View (EdgeMatrix G)) (b : Result ℕ EditFault) → Stepped r delays strip limit at e x z b
        → Told x z (as_call b) (as_call (answer r delays (lent_of x strip limit) (book_of (edge_ops r) x) at e))
    step_told at e x z (Ok n) h = record {
      same = rw (answer_by r delays strip limit at e x h.0);
      still = λ no. absurd (both_ways true no refl);
    }
    step_told at e x z (Err d) h = record {
      same = rw (answer_by r delays strip limit at e x h.0);
      still = λ no. h.1;
    }

    field_told : (at : ℕ) (said : Result Edit FieldFault) (x z : View (EdgeMatrix G)) (a : Result ℕ ScriptFault)
        → FieldTaken r delays strip limit at said x z a
        → Told x z a (field_answer r delays (lent_of x strip limit) (book_of (edge_ops r) x) at said)
    field_told at (Ok e) x z a (b, stepped, is) =
        subst (λ (o : Result ℕ ScriptFault). Told x z o (field_answer r delays (lent_of x strip limit) (book_of (edge_ops r) x) at (Ok e))) (sym is)
        (step_told at e x z b stepped)
    field_told at (Err d) x z a (still, is) = record { same = ap is_ok is; still = λ no. still }

  -- the board x becomes y with the answer a, where the book becomes this one and says this
  pub record Goes (x y : View (EdgeMatrix G)) (a : Result ℕ ScriptFault) (becomes : Book (EdgeMatrix G)) (says : Result ℕ ScriptFault) : Type 0 where
    pub book : book_of (edge_ops r) y ≡ becomes
    pub sums : Sums (edge_ops r) x → Sums (edge_ops r) y
    pub told : Sums (edge_ops r) x → a ≡ says

  stays : (x y : View (EdgeMatrix G)) (a says : Result ℕ ScriptFault) → y ≡ x → a ≡ says → Goes x y a (book_of (edge_ops r) x) says
  stays x y a says still is = record { book = ap (book_of (edge_ops r)) still; sums = subst (Sums (edge_ops r)) (sym still); told = λ was. is }

  module _ (laws : Laws r) (strip limit : ℕ) where
    field_goes : (at : ℕ) (said : Result Edit FieldFault) (x z : View (EdgeMatrix G)) (a : Result ℕ ScriptFault)
        → FieldTaken r delays strip limit at said x z a
        → Goes x z a (field_next r delays (lent_of x strip limit) (book_of (edge_ops r) x) at said)
        (field_answer r delays (lent_of x strip limit) (book_of (edge_ops r) x) at said)
    field_goes at (Ok e) x z a (b, stepped, is) =
        let f = follows r delays laws strip limit at e x z b stepped in
        record { book = f.book; sums = f.sums; told = λ was. is ∙ ap as_call (f.told was) }
    field_goes at (Err d) x z a (still, is) = stays x z a (Err (fault.Field d)) still is

    -- a field, and then what the book says of the others
    module _ (f : Placed Edit) (fs : List (Placed Edit)) (x z : View (EdgeMatrix G)) (b : Result ℕ ScriptFault)
        (taken : FieldTaken r delays strip limit f.at f.said x z b) where
      front_next : cond (is_ok b) (fields_next r delays (lent_of x strip limit) (book_of (edge_ops r) z) fs) (book_of (edge_ops r) x)
          ≡ fields_next r delays (lent_of x strip limit) (book_of (edge_ops r) x) (f ∷ fs)
      front_next =
          ap₂ (λ (ok : Bool) (next : Book (EdgeMatrix G)). cond ok (fields_next r delays (lent_of x strip limit) next fs) (book_of (edge_ops r) x))
          (field_told strip limit f.at f.said x z b taken).same (field_goes f.at f.said x z b taken).book

      front_answer : (total : ℕ) → Sums (edge_ops r) x
          → summed r delays (lent_of x strip limit) total b (λ t. fields_answer r delays (lent_of x strip limit) (book_of (edge_ops r) z) t fs)
          ≡ fields_answer r delays (lent_of x strip limit) (book_of (edge_ops r) x) total (f ∷ fs)
      front_answer total was =
          let first = field_goes f.at f.said x z b taken in
          ap₂ (λ (o : Result ℕ ScriptFault) (next : Book (EdgeMatrix G)).
          summed r delays (lent_of x strip limit) total o (λ t. fields_answer r delays (lent_of x strip limit) next t fs))
          (first.told was) first.book

    -- so it is with the fields of a script
    pub fields_go : (fs : List (Placed Edit)) (total : ℕ) (x y : View (EdgeMatrix G)) (a : Result ℕ ScriptFault)
        → Taken r delays strip limit fs total x y a
        → Goes x y a (fields_next r delays (lent_of x strip limit) (book_of (edge_ops r) x) fs)
        (fields_answer r delays (lent_of x strip limit) (book_of (edge_ops r) x) total fs)
    fields_go [] total x y a (still, is) = stays x y a (Ok total) still is
    fields_go (f ∷ fs) total x y a (z, Ok n, taken, rest) =
        let first = field_goes f.at f.said x z (Ok n) taken in
        let others = fields_go fs (total + n) z y a rest in
        let lends = field_lends strip limit f.at f.said x z (Ok n) taken strip limit in
        record {
          book = others.book ∙ ap (λ (l : Lent). fields_next r delays l (book_of (edge_ops r) z) fs) lends ∙ front_next f fs x z (Ok n) taken;
          sums = λ was. others.sums (first.sums was);
          told = λ was. others.told (first.sums was)
              ∙ ap (λ (l : Lent). fields_answer r delays l (book_of (edge_ops r) z) (total + n) fs) lends ∙ front_answer f fs x z (Ok n) taken total was;
        }
    fields_go (f ∷ fs) total x y a (z, Err d, taken, rest) =
        let still : y ≡ x = rest.0 ∙ (field_told strip limit f.at f.said x z (Err d) taken).still refl in
        record {
          book = ap (book_of (edge_ops r)) still ∙ front_next f fs x z (Err d) taken;
          sums = subst (Sums (edge_ops r)) (sym still);
          told = λ was. rest.1 ∙ front_answer f fs x z (Err d) taken total was;
        }

    script_goes : (o : Option ScriptFault) (file : List ℕ) (x y : View (EdgeMatrix G)) (a : Result ℕ ScriptFault)
        → ScriptedBy r delays strip limit o file x y a
        → Goes x y a (script_next_by r delays (lent_of x strip limit) o (book_of (edge_ops r) x) file)
        (script_by r delays (lent_of x strip limit) o (book_of (edge_ops r) x) file)
    script_goes (Some d) file x y a h = stays x y a (Err d) h.0 h.1
    script_goes None file x y a h = fields_go (fields edit_of file) 0 x y a h

    pub calls_follow : (c : Call) (x y : View (EdgeMatrix G)) (a : Result ℕ ScriptFault) → Called r delays strip limit c x y a
        → CallFollows r delays strip limit c x y a
    calls_follow (edit e) x y a h = let f = field_goes 0 (Ok e) x y a h in record { book = f.book; sums = f.sums; told = f.told }
    calls_follow (script file) x y a h = let f = script_goes _ file x y a h in record { book = f.book; sums = f.sums; told = f.told }

  pub chains_follow : Laws r → ChainsFollow r delays
  chains_follow laws [] x y h = record { book = ap (book_of (edge_ops r)) h; sums = subst (Sums (edge_ops r)) (sym h); told = λ was. refl }
  chains_follow laws (m ∷ ms) x y (z, called, rest) =
      let first = calls_follow laws m.strip m.limit m.call x z m.said called in
      let others = chains_follow laws ms z y rest in
      let lends = call_lends m.strip m.limit m.call x z m.said called in
      let same = lendings_same x z lends ms in
      record {
        book = others.book ∙ ap₂ (last r delays) first.book same;
        sums = λ was. others.sums (first.sums was);
        told = λ was. ap₂ ◌∷◌ (first.told was) (others.told (first.sums was) ∙ ap₂ (answers r delays) first.book same);
      }
