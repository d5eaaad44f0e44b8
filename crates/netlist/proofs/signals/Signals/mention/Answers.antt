use Rattle.std.proofs.Common.{vec_items, Some, sym, ap, ◌∙◌, arith}
use Rattle.std.proofs.lemmas.List.{length-map}
use Rattle.netlist.specs.Outcomes.{first_of, refusal_of}
use Rattle.netlist.specs.Views.{piece_on, signal_on, signals_in}
use Rattle.netlist.proofs.Firsts.{some_none}
use Rattle.netlist.proofs.Mentions.{Many, mention_old, one_many, few_none, few_new, code_pushed}
use Rattle.netlist.proofs.Numbering.{few_in, is_known, is_new}
use Rattle.netlist.proofs.signals.Signals.mention.Goals as goal

pub returns-then-is_some : goal.returns-then-is_some
returns-then-is_some c =
    let ss = signals_in c.args.text.now c.args.self.now in
    let w = piece_on c.args.text.now c.args.name in
    let old = mention_old ss w (is_known ss w.bytes c.position.result c.if-is_some.ensures c.position.ensures) in
    record { fault = sym (ap (λ ps. first_of (Many ps)) (few_none ss _ (few_in c.args.text.now c.args.self.now) old)); done = λ _. old }

pub returns-then-len-ge-MAX_SIGNALS : goal.returns-then-len-ge-MAX_SIGNALS
returns-then-len-ge-MAX_SIGNALS c =
    let ss = signals_in c.args.text.now c.args.self.now in
    let w = piece_on c.args.text.now c.args.name in
    let new = is_new ss w.bytes c.position.result c.if-is_some.ensures c.position.ensures in
    record {
      fault =
          ap (λ f. Some (refusal_of f)) c.new.ensures
          ∙ sym (ap (λ ps. first_of (Many ps)) (one_many ss w (omega (arith, few_in c.args.text.now c.args.self.now, length-map (vec_items c.args.self.now.items) (signal_on c.args.text.now), c.args.self.now.items.ok.0)) new));
      done = λ e. absurd (some_none e);
    }

pub returns : goal.returns
returns c =
    let ss = signals_in c.args.text.now c.args.self.now in
    let w = piece_on c.args.text.now c.args.name in
    let new = is_new ss w.bytes c.position.result c.if-is_some.ensures c.position.ensures in
    record {
      fault = sym (ap (λ ps. first_of (Many ps)) (few_new ss w (omega (arith, length-map (vec_items c.args.self.now.items) (signal_on c.args.text.now), c.args.self.now.items.ok.0)) new));
      done = λ _. code_pushed c.args.text.now (vec_items c.args.self.now.items) c.args.name _ c.push_reserved.ensures.items new;
    }
