use Rattle.std.proofs.Common.{◌∙◌, rules, tests}
use Rattle.std.proofs.lemmas.Iterator.{YieldsList-from_slice}
use Rattle.std.proofs.lemmas.Iterator.Search.{any_from_yields_List}
use Rattle.network.specs.declared.span.Span.{Span}
use Rattle.text.specs.Text.{Piece}
use Rattle.text.specs.Words.{dotted}
use Rattle.netlist.specs.Views.{piece_on}
use Rattle.netlist.proofs.Numbering.{any_over}
use Rattle.netlist.proofs.names.has_dotted.Goals as goal

pub returns : goal.returns
returns c =
    any_from_yields_List (λ (w : Span). dotted (piece_on c.args.text.now w).bytes) _ _ _ c.any.ensures.ran (YieldsList-from_slice c.args.names.now cc) (λ x b q k. search (rules, tests))
    ∙ any_over (λ (w : Piece). dotted w.bytes) (piece_on c.args.text.now) c.args.names.now
