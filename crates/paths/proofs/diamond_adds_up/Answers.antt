-- All but the ranking is by computation.
use Rattle.std.proofs.Common.{ℕ, zero, suc, ◌<◌, refl, lit<}
use Rattle.std.specs.List.{AllByRecursion}
use Rattle.paths.specs.Listing.{paths}
use Rattle.paths.specs.Sums.{path_sum}
use Rattle.paths.specs.Edits.{fed, edit_count}
use Rattle.paths.specs.Example.{diamond}
use Rattle.paths.proofs.diamond_adds_up.Goals as goal

climbs : (s : ℕ) → AllByRecursion (λ x. (x.from < 5) × (x.from < s)) (diamond.into s)
climbs zero = tt
climbs (suc zero) = ((lit< tt, lit< tt), tt)
climbs (suc (suc zero)) = ((lit< tt, lit< tt), ((lit< tt, lit< tt), tt))
climbs (suc (suc (suc zero))) = ((lit< tt, lit< tt), ((lit< tt, lit< tt), tt))
climbs (suc (suc (suc (suc s)))) = tt

pub returns : goal.returns
unfolding paths path_sum fed edit_count
returns c = record {
  ranked = record { below = λ s in'. in'; climbs = λ s in'. climbs s };
  counts = refl;
  weights = refl;
  sums = refl;
  raises = refl;
  edit = refl;
}
