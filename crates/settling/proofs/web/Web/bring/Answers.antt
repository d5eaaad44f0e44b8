use Rattle.std.proofs.Common.{arith, rules}
use Rattle.std.proofs.lemmas.Grind.{common_steps}
use Rattle.settling.proofs.Shapes.{tap_fits}
use Rattle.settling.proofs.web.Web.bring.Goals as goal

pub offset_bounds-values-tap : goal.offset_bounds-values-tap
offset_bounds-values-tap g c = let fits = tap_fits (g.N.Wiring.sound _) c.args.self.now.fit c.args.values.now c.requires.room _ _ _ c.requires.signal c.requires.place c.tap-tap.ensures in search rules

pub bounds-values-tap : goal.bounds-values-tap
bounds-values-tap g c = let fits = tap_fits (g.N.Wiring.sound _) c.args.self.now.fit c.args.values.now c.requires.room _ _ _ c.requires.signal c.requires.place c.tap-tap.ensures in fits.0

pub returns : goal.returns
returns g c = let fits = tap_fits (g.N.Wiring.sound _) c.args.self.now.fit c.args.values.now c.requires.room _ _ _ c.requires.signal c.requires.place c.tap-tap.ensures in grind (arith, common_steps)
