use Rattle.std.proofs.Common.{◌≡◌, rules, fold, refl, ap, ◌∙◌, arith}
use Rattle.std.specs.Int.{bit_at}
use Rattle.std.specs.List.{range_with_len}
use Rattle.std.proofs.iter.Yields.{nat_range_steps}
use Rattle.std.proofs.lemmas.Fn.{fold_over}
use Rattle.std.proofs.lemmas.Iterator.{YieldsList-from_range}
use Rattle.std.proofs.lemmas.List.Sums.{fold_push}
use Rattle.std.proofs.lemmas.Nat.Bits.{bit_at-zero}
use Rattle.std.proofs.lemmas.Bool.{le-ltb}
use Rattle.rows.specs.Rows.{matches}
use Rattle.rows.proofs.Matching.{more, covers}
use Rattle.rows.proofs.settings.row_settings.Goals as goal

pub returns : goal.returns
returns c =
    let m = matches c.args.marks.now in
    let is : c.fold.result ≡ fold (more m) 0 (range_with_len 0 16) =
    fold_over nat_range_steps (λ k. k) _ (λ ks y. y ≡ fold (more m) 0 ks) _ (λ ks y k z f' was ran. let push = fold_push (more m) 0 ks k in search rules)
    (record { start = 0; end = 16 }) (range_with_len 0 16) 0 c.fold.result (YieldsList-from_range 0 16 16 refl (omega arith)).runs refl c.fold.ensures.ran in
    λ s h. ap (λ t. bit_at t s) is ∙ covers m 16 0 0 refl (λ k l. bit_at-zero k ∙ simp (le-ltb k 0 (omega arith))) s h
