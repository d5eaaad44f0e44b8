-- What a line without fault does.
use Rattle.std.specs.Prelude.{List, [], ◌∷◌, Some, None, Option}
use Rattle.text.specs.Text.{Piece}
use Rattle.text.specs.Words.{lexeme_of}
use Rattle.rows.specs.Rows.{Row, no_rows, with_row}
use Rattle.netlist.specs.declared.stage.Stage.{Stage}
use Rattle.netlist.specs.declared.stage.Stage.TheVariants.{Before, Body, Rows, After}
use Rattle.netlist.specs.Signals.{Signal, Driver, undriven, input, latched, gates, number_of, mention_all, changed, on_named, on_each, driven, as_output, as_captured, numbers}
use Rattle.netlist.specs.Statements.{Statement, model, inputs, outputs, gate, latch, row, ending, wrong, statement_of, mentions_of}
use Rattle.netlist.specs.Faults.{State}

abbrev pub state : Stage → List Signal → State
state s ss = record { stage = s; signals = ss }

-- one row more
abbrev pub rowed : Driver → Row → Driver
rowed undriven r = undriven
rowed input r = input
rowed (latched d ws) r = latched d ws
rowed (gates ps c) r = gates ps (with_row r c)

abbrev pub add_row : Row → Signal → Signal
add_row r s = driven (rowed s.driver r) s

abbrev pub row_at : Stage → List Signal → Row → List Signal
row_at Before ss r = ss
row_at Body ss r = ss
row_at (Rows g) ss r = changed (add_row r) ss g
row_at After ss r = ss

abbrev pub row_done : Stage → List Signal → Option Row → List Signal
row_done s ss None = ss
row_done s ss (Some r) = row_at s ss r

-- `ss` has the line's mentions already
abbrev pub done : Stage → List Signal → Statement → State
done s ss (model n) = state Body ss
done s ss (inputs ns) = state Body (on_each (driven input) ss ns)
done s ss (outputs ns) = state Body (on_each as_output ss ns)
done s ss (gate ps q) = state (Rows (number_of ss q.bytes)) (on_named (driven (gates (numbers ss ps) no_rows)) ss q)
done s ss (latch d q ws) = state Body (on_named as_captured (on_named (driven (latched (number_of ss d.bytes) ws)) ss q) d)
done s ss (row r) = state s (row_done s ss r)
done s ss ending = state After ss
done s ss wrong = state s ss

abbrev pub effect : State → Statement → State
effect s st = done s.stage (mention_all s.signals (mentions_of st)) st

-- a line without words does nothing
abbrev pub words_effect : State → List Piece → State
words_effect s [] = s
words_effect s (w ∷ ws) = effect s (statement_of (lexeme_of w) ws)
