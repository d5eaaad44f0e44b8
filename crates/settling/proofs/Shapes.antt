-- Sound shapes: their turns, their taps and their webs.
use Rattle.std.proofs.Common.{◌≡◌, ℕ, ◌<◌, ◌≤◌, ◌&&◌, eqb, ltb, List, length, sym, ap, ◌∙◌, ⊎_elim, arith}
use Rattle.std.proofs.ByRecursion.{All-get_or, All-map}
use Rattle.std.proofs.lemmas.Bool.{cases_lt}
use Rattle.std.proofs.lemmas.Bool.Decides.{nat_tests}
use Rattle.gauge.specs.Semirings.{Ops}
use Rattle.paths.specs.Web.{Ranked}
use Rattle.settling.specs.declared.tap.Tap.{Tap}
use Rattle.settling.specs.Shapes.{Shape, Sound, tap_at}
use Rattle.settling.specs.Tables.{wire_of, web_on, WebFits, Ranks}

pub ranked : {V : Type 0} (r : Ops V) {shape : Shape} → Sound shape → (starts weights : List V) → Ranked (web_on r shape starts weights) shape.turn
ranked r {shape} sound starts weights = record {
  below = sound.turn_below;
  climbs = λ s in'. All-map _ (wire_of r weights) (shape.taps s) (sound.climbs s in');
}

pub ranks : (V : Type 0) → Ranks V
ranks V r shape sound starts weights = (shape.turn, ranked r sound starts weights)

-- no two signals have one turn
pub one_turn : {shape : Shape} → Sound shape → (s u : ℕ) → s < shape.size → u < shape.size → shape.turn s ≡ shape.turn u → s ≡ u
one_turn {shape} sound s u in' in'' e = sym (sound.turn_back s in') ∙ ap shape.signal_at e ∙ sound.turn_back u in''

-- a tap reads within the tables
pub tap_fits : {V : Type 0} {shape : Shape} → Sound shape → {starts weights : List V} → WebFits shape starts weights → (values : List V) → shape.size ≤ length values
    → (s k : ℕ) (x : Tap) → s < shape.size → k < length (shape.taps s) → x ≡ tap_at shape s k → (x.from < length values) × (x.cell < length weights)
tap_fits {shape} sound {weights} fit values room s k x in' there e =
    let from : (tap_at shape s k).from < shape.size = (All-get_or _ (shape.taps s) k _ there (sound.climbs s in')).0 in
    let cell : (tap_at shape s k).cell < length weights = All-get_or _ (shape.taps s) k _ there (fit.weights_long s in') in
    (omega (arith, ap (λ y. y.from) e, room, from), omega (arith, ap (λ y. y.cell) e, cell))

-- only the signal p has its turn
pub is_turn : {shape : Shape} → Sound shape → (p t : ℕ) → p < shape.size → eqb t (shape.turn p) ≡ (ltb t shape.size && eqb (shape.signal_at t) p)
is_turn {shape} sound p t in' =
    ⊎_elim
    (λ (l : t < shape.size).
    let back = sound.signal_back t l in
    let on = λ (e : t ≡ shape.turn p). ap shape.signal_at e ∙ sound.turn_back p in' in
    let off = λ (e : shape.signal_at t ≡ p). sym back ∙ ap shape.turn e in
    grind (arith, nat_tests))
    (λ (l : shape.size ≤ t). let under = sound.turn_below p in' in grind (arith, nat_tests))
    (cases_lt t shape.size)
