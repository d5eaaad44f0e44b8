-- What is named so far, in cells: cell 4 × signal + pin for a pin, and a cell for each source.
use Rattle.std.specs.Prelude.{ℕ, ◌+◌, ◌*◌, Bool, true, false, List, replicate, Some, None, Option, slice_index_or, slice_set}
use Rattle.network.specs.Limit.{max_signals}
use Rattle.weights.specs.declared.times.Times.{Times}
use Rattle.fields.specs.declared.entry.Entry.{Entry}
use Rattle.fields.specs.declared.entry.Entry.TheVariants as entry
use Rattle.delays.specs.declared.faults.DelayFault.{DelayFault}
use Rattle.delays.specs.declared.marks.Named.{Named}
use Rattle.delays.specs.Outlines.{Part, Pin, Source}
use Rattle.delays.specs.Tables.{too_early, part_fault}

-- no part is marked
abbrev pub unmarked : Named
unmarked = record { pins = replicate (4 * max_signals) false; sources = replicate max_signals false }

abbrev pub is_marked : List Bool → ℕ → Bool
is_marked cells i = slice_index_or cells i false

-- what is wrong with a part by its cell, where it has one
abbrev pub cell_fault : List Bool → Option ℕ → Times → ℕ → Option DelayFault
cell_fault cells None t at = part_fault false (too_early t) false at
cell_fault cells (Some i) t at = part_fault true (too_early t) (is_marked cells i) at

-- the cells with one more marked
abbrev pub with_cell : List Bool → Option ℕ → List Bool
with_cell cells None = cells
with_cell cells (Some i) = slice_set cells i true

-- the part is marked
abbrev pub marks : Named → Part → Bool
marks m (Pin g p) = is_marked m.pins (4 * g + p)
marks m (Source s) = is_marked m.sources s

-- the marks with what an entry names
abbrev pub marked_with : Named → Entry → Named
marked_with m (entry.Clock c) = m
marked_with m (entry.Delay g p t) = record { pins = slice_set m.pins (4 * g + p) true; sources = m.sources }
marked_with m (entry.Start s t) = record { pins = m.pins; sources = slice_set m.sources s true }
