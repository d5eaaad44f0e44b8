use Rattle.std.proofs.Common.{◌∙◌, rules, tests}
use Rattle.std.proofs.lemmas.Iterator.{YieldsList-from_slice}
use Rattle.std.proofs.lemmas.Iterator.Search.{any_from_yields_List}
use Rattle.std.specs.Str.{bytes_eq}
use Rattle.network.specs.declared.span.Span.{Span}
use Rattle.netlist.specs.Views.{piece_on}
use Rattle.netlist.proofs.Numbering.{any_named}
use Rattle.netlist.proofs.names.is_among.Goals as goal

pub returns : goal.returns
returns c =
    let t = c.args.text.now in
    let n = (piece_on t c.args.name).bytes in
    any_from_yields_List (λ (w : Span). bytes_eq (piece_on t w).bytes n) _ _ _ c.any.ensures.ran (YieldsList-from_slice c.args.names.now cc) (λ x b q k. search (rules, tests))
    ∙ any_named t n c.args.names.now
