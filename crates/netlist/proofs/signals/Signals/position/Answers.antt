use Rattle.std.proofs.Common.{vec_items, rules, tests}
use Rattle.std.proofs.lemmas.Iterator.{YieldsList-from_slice}
use Rattle.std.proofs.lemmas.Iterator.Search.{position_from_yields_List}
use Rattle.netlist.specs.Views.{piece_on}
use Rattle.netlist.proofs.Numbering.{called, position_is}
use Rattle.netlist.proofs.signals.Signals.position.Goals as goal

pub returns : goal.returns
returns c =
    let t = c.args.text.now in
    let n = (piece_on t c.args.name).bytes in
    let ss = vec_items c.args.self.now.items in
    position_is t n ss (position_from_yields_List (called t n) _ _ _ c.position.ensures.ran (YieldsList-from_slice ss cc) (λ x b q k. search (rules, tests)))
