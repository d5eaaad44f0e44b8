-- What is proved of webs and path sums: the statements.
use Rattle.std.specs.Prelude.{◌≡◌, ℕ, ◌<◌, Bool, true, ◌≢◌, ◌↔◌, List}
use Rattle.gauge.specs.Semirings.{Ops}
use Rattle.paths.specs.Web.{Web, Incoming, Wire, Path, Rankable, Leads, EndsAt, weight, SameExcept, Agree, edited_at}
use Rattle.paths.specs.Listing.{paths, In, Distinct}
use Rattle.paths.specs.Sums.{path_sum, worked, gathered, Consistent, AreSums}
use Rattle.paths.specs.Edits.{only, fed, Settled, edit_count}
use Rattle.paths.specs.Reach.{reached}

-- the list has the paths that end at s and nothing else, each once
pub record Listed {V : Type 0} (web : Web V) (s : ℕ) : Type 0 where
  pub has : (p : Path V) → EndsAt web s p ↔ In p (paths web s)
  pub once : Distinct (paths web s)

-- so it is at every signal of a ranked web
abbrev pub ListsPaths : Type 0 → Type 0
ListsPaths V = (web : Web V) → Rankable web → (s : ℕ) → s < web.size → Listed web s

-- the test says yes exactly where some wires, perhaps none, lead from a to s
abbrev pub ReachTold : Type 0 → Type 0
ReachTold V = (web : Web V) → Rankable web → (a s : ℕ) → s < web.size
    → (reached web a s ≡ true) ↔ ((ws : List (Wire V)) × Leads web a ws s)

module _ {V : Type 0} (r : Ops V) where
  -- path sums agree with the wires
  abbrev pub Unfolds : Type 0
  Unfolds = (web : Web V) → Rankable web → Consistent r web (path_sum r web)

  -- no other values do
  abbrev pub Unique : Type 0
  Unique = (web : Web V) → Rankable web → (v : ℕ → V) → Consistent r web v → AreSums r web v

  -- a loop over the wires that begins at the start does the same work
  abbrev pub Gathers : Type 0
  Gathers = (web : Web V) (v : ℕ → V) (s : ℕ) → gathered r v (web.start s) (web.into s) ≡ worked r web v s

  -- webs that agree have the same path sums
  abbrev pub AgreeInSums : Type 0
  AgreeInSums = (old new : Web V) → Rankable old → Agree old new → AreSums r new (path_sum r old)

  -- after an edit of any signals, the new path sums are settled cells
  abbrev pub SumsAreSettled : Type 0
  SumsAreSettled = (edited : ℕ → Bool) (old new : Web V) → Rankable old → Rankable new → SameExcept edited old new
      → (before : ℕ → V) → AreSums r old before → Settled r edited new before (path_sum r new)

  -- whatever the cells held before, they settle in one way
  abbrev pub SettledUnique : Type 0
  SettledUnique = (edited : ℕ → Bool) (web : Web V) → Rankable web → (before one two : ℕ → V)
      → Settled r edited web before one → Settled r edited web before two → (s : ℕ) → s < web.size → one s ≡ two s

  -- the cells are the new path sums, and a changed cell feeds a signal exactly where a changed path sum does
  pub record Renewed (old new : Web V) (before after : ℕ → V) : Type 0 where
    pub sums : AreSums r new after
    pub changes : (s : ℕ) → s < new.size → fed r new before after s ≡ fed r new (path_sum r old) (path_sum r new) s

  -- cells that have settled from path sums after an edit of any signals
  abbrev pub SettledAreSums : Type 0
  SettledAreSums = (edited : ℕ → Bool) (old new : Web V) → Rankable old → Rankable new → SameExcept edited old new
      → (before after : ℕ → V) → AreSums r old before → Settled r edited new before after → Renewed old new before after

  -- the cells are the new path sums, and the count of an edit at e is the same over cells and over path sums
  pub record EditRight (e : ℕ) (old new : Web V) (before after : ℕ → V) : Type 0 where
    pub sums : AreSums r new after
    pub count : edit_count r e new before after ≡ edit_count r e new (path_sum r old) (path_sum r new)

  -- cells that have settled from path sums after an edit at one signal
  abbrev pub EditsRight : Type 0
  EditsRight = (e : ℕ) (old new : Web V) → Rankable old → Rankable new → SameExcept (only e) old new
      → (before after : ℕ → V) → AreSums r old before → Settled r (only e) new before after → EditRight e old new before after

  -- edits at two signals give the same path sums in either order
  abbrev pub EditsCommute : Type 0
  EditsCommute = (web : Web V) (e f : ℕ) → e ≢ f → (v w : V) (xs ys : List (Incoming V)) (s : ℕ)
      → path_sum r (edited_at e v xs (edited_at f w ys web)) s ≡ path_sum r (edited_at f w ys (edited_at e v xs web)) s

  -- under a selective sum, a path sum that is not zero is the weight of some path that ends there
  abbrev pub SumIsWeight : Type 0
  SumIsWeight = (web : Web V) → Rankable web → (s : ℕ) → s < web.size → path_sum r web s ≢ r.zero
      → (p : Path V) × EndsAt web s p × (weight r web p ≡ path_sum r web s)

  -- and the weight of every path that ends there is absorbed
  abbrev pub WeightsAbsorbed : Type 0
  WeightsAbsorbed = (web : Web V) → Rankable web → (s : ℕ) → s < web.size → (p : Path V) → EndsAt web s p
      → r.plus (weight r web p) (path_sum r web s) ≡ path_sum r web s
