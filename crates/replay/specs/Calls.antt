-- Calls as the book is told them.
use Rattle.std.specs.Prelude.{List, map}
use Rattle.book.specs.Answers as book
use Rattle.replay.specs.declared.call.Call.{Call}
use Rattle.replay.specs.declared.call.Call.TheVariants.{Edit, Script}

abbrev pub call_of : Call → book.Call
call_of (Edit e) = book.edit e
call_of (Script file) = book.script file.now

abbrev pub calls_of : List Call → List book.Call
calls_of cs = map call_of cs
