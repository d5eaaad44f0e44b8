use Rattle.std.proofs.Common.{◌≡◌, ◌-◌, ◌≤◌, ◌++◌, length, drop, vec_items, vec_len}
use Rattle.text.specs.Text.{words}
use Rattle.netlist.specs.Views.{pieces}
use Rattle.netlist.proofs.line_words.LineWords.fill.Given as goal

abbrev pub invariant-loop-word : goal.invariant-loop-word
invariant-loop-word l =
    (pieces l.text (vec_items l.self.items) ++ words l.at (drop l.at l.text) ≡ words l.from (drop l.from l.text))
    × (vec_len l.self.items ≤ l.at)

abbrev pub decreases-loop-word : goal.decreases-loop-word
decreases-loop-word l = length l.text - l.at
