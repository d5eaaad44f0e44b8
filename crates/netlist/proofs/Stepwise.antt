-- A line, and line after line. Assumes nothing.
use Rattle.std.proofs.Common.{◌≡◌, ℕ, ◌≤◌, List, [], ◌∷◌, ◌++◌, map, length, Some, None, Ok, Err, fold, Option, Result, sym, refl, ap, ◌∙◌}
use Rattle.fault.specs.declared.cause.Cause.TheVariants as cause
use Rattle.fault.specs.declared.refusal.Refusal.{Refusal}
use Rattle.network.specs.Limit.{max_signals}
use Rattle.text.specs.Refusals as words
use Rattle.text.specs.Refusals.{refusing}
use Rattle.text.specs.Text as text
use Rattle.text.specs.Text.{Piece, bad_places}
use Rattle.text.specs.declared.word_fault.WordFault.{WordFault}
use Rattle.text.specs.declared.word_fault.WordFault.TheVariants.{BadByte}
use Rattle.netlist.specs.Outcomes.{first_of, words_judged}
use Rattle.netlist.specs.Effects.{words_effect}
use Rattle.netlist.specs.Faults.{State, fault, word_faults}
use Rattle.netlist.specs.Reading.{Reading, refused, ongoing, judged, step, step_on}
use Rattle.netlist.proofs.Ascending.{first_is_least}
use Rattle.netlist.proofs.Firsts.{ok_err, first_on}

-- ---- a whole line

module _ (s : State) (line : Piece) (few : length s.signals ≤ max_signals) where
  abbrev Bad : List ℕ
  Bad = bad_places line.place line.bytes

  abbrev Words : List Piece
  Words = text.words line.place line.bytes

  by_first : judged (first_of (map (fault cause.BadByte) Bad ++ word_faults s Words)) (words_effect s Words) ≡ step s line
  by_first = ap (λ (o : Option Refusal). judged o (words_effect s Words)) (first_is_least s line few)

  bad_first : (ps : List ℕ) (f : WordFault) (fs : List Refusal) → Err f ≡ refusing BadByte ps → Some (words.refusal_of f) ≡ first_of (map (fault cause.BadByte) ps ++ fs)
  bad_first [] f fs e = absurd (ok_err (sym e))
  bad_first (p ∷ ps) f fs e = ap (λ (r : Result (Unit {0}) WordFault). Some (words.refusal_of (err_or f r))) e
    where
      err_or : WordFault → Result (Unit {0}) WordFault → WordFault
      err_or g (Ok x) = g
      err_or g (Err h) = h

  bad_none : (ps : List ℕ) {x : Unit {0}} → Ok x ≡ refusing BadByte ps → None ≡ first_of (map (fault cause.BadByte) ps)
  bad_none [] e = refl
  bad_none (p ∷ ps) e = absurd (ok_err e)

  pub line_bad : (f : WordFault) → Err f ≡ refusing BadByte Bad → refused (words.refusal_of f) ≡ step s line
  line_bad f e = ap (λ (o : Option Refusal). judged o (words_effect s Words)) (bad_first Bad f (word_faults s Words) e) ∙ by_first

  pub line_good : (ws : List Piece) {x : Unit {0}} → Ok x ≡ refusing BadByte Bad → Words ≡ ws → words_judged s ws ≡ step s line
  line_good ws e q =
      ap (words_judged s) (sym q)
      ∙ (ap (λ (o : Option Refusal). judged o (words_effect s Words)) (first_on (map (fault cause.BadByte) Bad) (word_faults s Words) (bad_none Bad e) refl) ∙ by_first)

-- ---- all lines

pub refused_stays : (f : Refusal) (ls : List Piece) → refused f ≡ fold step_on (refused f) ls
refused_stays f [] = refl
refused_stays f (l ∷ ls) = refused_stays f ls

module _ (s : State) (line : Piece) (rest all : List Piece) (r : Reading) (e : all ≡ line ∷ rest) (inv : fold step_on (ongoing s) all ≡ r) where
  pub lines_refused : (f : Refusal) → refused f ≡ step s line → refused f ≡ r
  lines_refused f q = refused_stays f rest ∙ (ap (λ (x : Reading). fold step_on x rest) q ∙ (ap (fold step_on (ongoing s)) (sym e) ∙ inv))

  pub lines_on : (now : State) → ongoing now ≡ step s line → fold step_on (ongoing now) rest ≡ r
  lines_on now q = ap (λ (x : Reading). fold step_on x rest) q ∙ (ap (fold step_on (ongoing s)) (sym e) ∙ inv)
