-- What there is for a delay table to name.
use Rattle.std.specs.Prelude.{ℕ, Bool, false, ◌&&◌, ◌==◌, nat_lt}
use Rattle.network.specs.Net.{size, fanin, is_source_of}
use Rattle.network.specs.declared.network.Network.{Network}

-- how many signals there are, how many pins each has, and which are sources
pub record Outline : Type 0 where
  pub signals : ℕ
  pub pins : ℕ → ℕ
  pub source : ℕ → Bool

abbrev pub outline_of : Network → Outline
outline_of net = record { signals = size net; pins = fanin net; source = is_source_of net }

-- what an entry can name: a pin of a signal's gate, or a source
pub data Part : Type 0 where
  Pin : (gate pin : ℕ) → Part
  Source : (source : ℕ) → Part

-- the part is there
abbrev pub has : Outline → Part → Bool
has outline (Pin g p) = nat_lt g outline.signals && nat_lt p (outline.pins g)
has outline (Source s) = nat_lt s outline.signals && outline.source s

-- the parts are one
abbrev pub same_part : Part → Part → Bool
same_part (Pin g p) (Pin h q) = g == h && p == q
same_part (Pin g p) (Source s) = false
same_part (Source s) (Pin g p) = false
same_part (Source s) (Source u) = s == u
