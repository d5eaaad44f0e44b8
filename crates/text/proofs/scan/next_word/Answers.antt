use Rattle.std.proofs.Common.{rules, ◌+◌, ◌∙◌}
use Rattle.std.proofs.lemmas.List.{take_rest}
use Rattle.text.specs.Text.{blank, solid}
use Rattle.text.proofs.Wordwise.{reaches, next_found}
use Rattle.text.proofs.scan.next_word.Goals as goal

pub returns-clause-found : goal.returns-clause-found
returns-clause-found c =
    let xs = c.args.text.now in
    next_found xs c.args.from _ _ (reaches blank xs _ c.args.from _ (c.in_ok-get.ensures.lookup.0.2 ∙ take_rest xs c.args.from) c.blanks_len.ensures.is)
    (reaches solid xs _ (c.args.from + c.blanks_len.result) _ (c.in_ok-get-2.ensures.lookup.0.2 ∙ take_rest xs (c.args.from + c.blanks_len.result)) c.word_len.ensures.is) _ c.then.result c.then.ensures.variant c.then.ensures.some (λ w p. search (rules, p))
