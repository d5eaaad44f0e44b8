-- The fields of a script, taken one after another.
use Rattle.std.proofs.Common.{◌≡◌, ℕ, ◌+◌, ◌≤◌, List, [], ◌∷◌, Ok, Err, Result, sym, refl, subst, arith}
use Rattle.gauge.specs.Matrix.{edge_ops}
use Rattle.gauge.specs.Semirings.{Ops}
use Rattle.gauge.specs.declared.matrix.EdgeMatrix.{EdgeMatrix}
use Rattle.paths.proofs.Reaching.{count_most}
use Rattle.fields.specs.declared.edit.Edit.{Edit}
use Rattle.fields.specs.declared.faults.FieldFault.{FieldFault}
use Rattle.fields.specs.declared.read.Placed.{Placed}
use Rattle.opening.specs.Boards.{View}
use Rattle.book.specs.declared.edit_fault.EditFault.{EditFault}
use Rattle.book.specs.declared.script_fault.ScriptFault.{ScriptFault}
use Rattle.book.specs.declared.script_fault.ScriptFault.TheVariants as fault
use Rattle.book.specs.Answers.{as_call}
use Rattle.book.specs.Books.{web}
use Rattle.book.specs.Changes.{edited_by}
use Rattle.board.specs.Books.{book_of, value_of}
use Rattle.board.specs.Steps.{Stepped}
use Rattle.board.specs.Runs.{FieldTaken, Onward, Taken}
use Rattle.board.proofs.Webs.{book_long}

module _ {G : Type 0} (r : Ops G) (delays : ℕ → ℕ → G) where
  -- an edit works no more than all signals, and is counted once
  pub count_few : (strip limit at : ℕ) (e : Edit) (x y : View (EdgeMatrix G)) (n : ℕ) → Stepped r delays strip limit at e x y (Ok n) → n ≤ 256
  count_few strip limit at e x y n h =
      omega (arith, h.1.count, count_most (edge_ops r) (edited_by e) (web (edge_ops r) (book_of (edge_ops r) y)) (value_of (edge_ops r) x) (value_of (edge_ops r) y), book_long (edge_ops r) y, y.network.few)

  module _ (strip limit : ℕ) (all : List (Placed Edit)) (x : View (EdgeMatrix G)) where
    -- the board is z now: what the fields that are left do from there, all fields do from x
    abbrev pub Onto : (z : View (EdgeMatrix G)) (left : List (Placed Edit)) (total : ℕ) → Type 0
    Onto z left total = (y : View (EdgeMatrix G)) (a : Result ℕ ScriptFault)
        → Taken r delays strip limit left total z y a → Taken r delays strip limit all 0 x y a

    module _ (z : View (EdgeMatrix G)) (left : List (Placed Edit)) (total : ℕ) (onto : Onto z left total) where
      -- no field is left
      pub ends : left ≡ [] → Taken r delays strip limit all 0 x z (Ok total)
      ends none = onto z (Ok total) (subst (λ (fs : List (Placed Edit)). Taken r delays strip limit fs total z z (Ok total)) (sym none) (refl, refl))

      module _ (f : Placed Edit) (after : List (Placed Edit)) (is : left ≡ f ∷ after) where
        -- what is answered at a field
        taken : (w y : View (EdgeMatrix G)) (a b : Result ℕ ScriptFault) → FieldTaken r delays strip limit f.at f.said z w b
            → Onward r delays strip limit (λ n. Taken r delays strip limit after (total + n) w y a) w y a b → Taken r delays strip limit all 0 x y a
        taken w y a b step on = onto y a (subst (λ (fs : List (Placed Edit)). Taken r delays strip limit fs total z y a) (sym is) (w, b, step, on))

        -- a field that lacks something
        pub stops : (d : FieldFault) → f.said ≡ Err d → Taken r delays strip limit all 0 x z (Err (fault.Field d))
        stops d said =
            let a : Result ℕ ScriptFault = Err (fault.Field d) in
            taken z z a a (subst (λ (s : Result Edit FieldFault). FieldTaken r delays strip limit f.at s z z a) (sym said) (refl, refl)) (refl, refl)

        -- an edit, made with a strip as long and a list of the same limit
        module _ (e : Edit) (said : f.said ≡ Ok e) (strip' limit' : ℕ) (long : strip' ≡ strip) (same : limit' ≡ limit) (w : View (EdgeMatrix G)) where
          made : (b : Result ℕ EditFault) → Stepped r delays strip' limit' f.at e z w b → FieldTaken r delays strip limit f.at f.said z w (as_call b)
          made b step =
              let here = subst (λ (n : ℕ). Stepped r delays n limit f.at e z w b) long (subst (λ (n : ℕ). Stepped r delays strip' n f.at e z w b) same step) in
              subst (λ (s : Result Edit FieldFault). FieldTaken r delays strip limit f.at s z w (as_call b)) (sym said) (b, here, refl)

          -- an edit that is refused
          pub refuses : (d : EditFault) → Stepped r delays strip' limit' f.at e z w (Err d) → Taken r delays strip limit all 0 x w (Err (fault.Edit d))
          refuses d step = taken w w _ _ (made (Err d) step) (refl, refl)

          -- on to the next field
          pub goes : (n : ℕ) → Stepped r delays strip' limit' f.at e z w (Ok n) → Onto w after (total + n)
          goes n step y a rest = taken w y a (Ok n) (made (Ok n) step) rest
