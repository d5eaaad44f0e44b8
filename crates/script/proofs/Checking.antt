-- What is judged of a script before its first field.
use Rattle.std.proofs.Common.{◌≡◌, ℕ, ◌≤◌, Bool, true, false, cond, ◌||◌, ltb, List, length, Some, None, Ok, Err, Option, Result, sym, refl, ap, ◌∙◌}
use Rattle.std.proofs.lemmas.Bool.{ltb-false}
use Rattle.std.proofs.lemmas.Option.{none-some}
use Rattle.std.specs.Result.{result_map_both}
use Rattle.gauge.specs.Matrix.{edge_ops}
use Rattle.gauge.specs.Semirings.{Ops}
use Rattle.gauge.specs.declared.matrix.EdgeMatrix.{EdgeMatrix}
use Rattle.fault.specs.declared.room_fault.RoomFault.{RoomFault}
use Rattle.fault.specs.declared.room_fault.RoomFault.TheVariants as rooms
use Rattle.network.specs.Net.{size}
use Rattle.fault.specs.Limit.{max_bytes}
use Rattle.opening.specs.Boards.{View, is_short, room_in}
use Rattle.book.specs.declared.edit_fault.EditFault.{EditFault}
use Rattle.book.specs.declared.edit_fault.EditFault.TheVariants.{TooShort, LowLimit}
use Rattle.book.specs.declared.script_fault.ScriptFault.{ScriptFault}
use Rattle.book.specs.declared.script_fault.ScriptFault.TheVariants as fault
use Rattle.book.specs.Faults.{no_room}
use Rattle.book.proofs.Judged.{no_fault, a_fault}
use Rattle.book.specs.Answers.{unless, script_fault, judge_script}
use Rattle.book.specs.Judging.{room_fault}
use Rattle.board.specs.Books.{book_of, lent_of}
use Rattle.board.proofs.Webs.{book_long}

-- the same by the book as by the board
same_room : (short low : Bool) → result_map_both (λ done. done) no_room (cond short (Err rooms.TooShort) (cond low (Err rooms.LowLimit) (Ok (tt {0})))) ≡ unless (cond short (Some TooShort) (cond low (Some LowLimit) None)) tt
same_room true low = refl
same_room false true = refl
same_room false false = refl

module _ {G : Type 0} (r : Ops G) (delays : ℕ → ℕ → G) (x : View (EdgeMatrix G)) (strip limit : ℕ) (file : List ℕ) where
  abbrev room : Option EditFault
  room = room_fault true (lent_of x strip limit) (size x.network)

  judged : judge_script r delays (lent_of x strip limit) (book_of (edge_ops r) x) file ≡ script_fault r delays (lent_of x strip limit) room file
  judged = ap (λ (n : ℕ). script_fault r delays (lent_of x strip limit) (room_fault true (lent_of x strip limit) n) file) (book_long (edge_ops r) x)

  by_room : (o : Option EditFault) → room ≡ o → judge_script r delays (lent_of x strip limit) (book_of (edge_ops r) x) file ≡ script_fault r delays (lent_of x strip limit) o file
  by_room o h = judged ∙ ap (λ (p : Option EditFault). script_fault r delays (lent_of x strip limit) p file) h

  room_told : (o : Result (Unit {0}) RoomFault) → o ≡ room_in x (Some strip) limit → result_map_both (λ done. done) no_room o ≡ unless room (tt {0})
  room_told o h = ap (result_map_both (λ done. done) no_room) h ∙ same_room (ltb strip (size x.network) || is_short x) (ltb limit (size x.network))

  -- no room
  pub room_refused : (d : RoomFault) (a : Result (Unit {0}) ScriptFault) → Err d ≡ room_in x (Some strip) limit → a ≡ Err (fault.Edit (no_room d))
      → a ≡ unless (judge_script r delays (lent_of x strip limit) (book_of (edge_ops r) x) file) (tt {0})
  room_refused d a h is = is ∙ sym (ap (λ (o : Option ScriptFault). unless o (tt {0})) (by_room (Some (no_room d)) (a_fault room (no_room d) (tt {0}) (room_told (Err d) h))))

  -- room, and then the length
  pub length_judged : Ok (tt {0}) ≡ room_in x (Some strip) limit → (b : Bool) → b ≡ ltb max_bytes (length file)
      → cond b (Err fault.FileTooLong) (Ok (tt {0})) ≡ unless (judge_script r delays (lent_of x strip limit) (book_of (edge_ops r) x) file) (tt {0})
  length_judged h b is =
      by_length b ∙ ap (λ (c : Bool). unless (cond c (Some fault.FileTooLong) None) (tt {0})) is
      ∙ sym (ap (λ (o : Option ScriptFault). unless o (tt {0})) (by_room None (no_fault room (tt {0}) (tt {0}) (room_told (Ok tt) h))))
    where
      by_length : (c : Bool) → cond c (Err fault.FileTooLong) (Ok (tt {0})) ≡ unless (cond c (Some fault.FileTooLong) None) (tt {0})
      by_length true = refl
      by_length false = refl

-- a script that is not refused before its first field is not too long
pub not_long : {G : Type 0} (r : Ops G) (delays : ℕ → ℕ → G) (x : View (EdgeMatrix G)) (strip limit : ℕ) (file : List ℕ)
    → judge_script r delays (lent_of x strip limit) (book_of (edge_ops r) x) file ≡ None → length file ≤ max_bytes
not_long r delays x strip limit file h = by_room (room_fault true (lent_of x strip limit) (length (book_of (edge_ops r) x))) h
  where
    by_length : (b : Bool) → cond b (Some fault.FileTooLong) None ≡ None → b ≡ false
    by_length true e = absurd (none-some _ (sym e))
    by_length false e = refl

    by_room : (o : Option EditFault) → script_fault r delays (lent_of x strip limit) o file ≡ None → length file ≤ max_bytes
    by_room None e = ltb-false max_bytes (length file) (by_length (ltb max_bytes (length file)) e)
    by_room (Some d) e = absurd (none-some _ (sym e))
