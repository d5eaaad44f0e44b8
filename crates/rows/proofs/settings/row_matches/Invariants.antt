use Rattle.std.proofs.Common.{◌≡◌, drop}
use Rattle.rows.specs.Rows.{matches}
use Rattle.rows.proofs.settings.row_matches.Given as goal

abbrev pub invariant-loop-m : goal.invariant-loop-m
invariant-loop-m l = matches (drop l.m-index l.marks) l.rest ≡ matches l.marks l.setting
