-- The list of paths has each path once, and nothing else.
use Rattle.std.proofs.Common.{◌≡◌, ℕ, zero, suc, ◌+◌, ◌≤◌, List, [], ◌∷◌, ◌++◌, map, length, sym, refl, ap, ◌∙◌, subst, inl, inr, append_assoc, append-nil, arith, length-append}
use mathlib.Core.Option.{Option, some, some-injective, none-ne-some}
use lib.ListN.{get_elem?}
use Rattle.std.specs.List.{flat_map}
use Rattle.std.proofs.lemmas.List.{same_from_push}
use Rattle.paths.specs.Web.{Web, Incoming, Wire, incoming_of, Path, IsWire, Leads, EndsAt}
use Rattle.paths.specs.Listing.{numbered, wires_into, empty_at, extended, paths_under, paths, In, Distinct}
use Rattle.paths.specs.Theorems.{ListsPaths}
use Rattle.paths.proofs.Members.{in_map, of_map, in_joined, of_joined, distinct_append, distinct_map}
use Rattle.paths.proofs.Sums.{paths_end}

module _ {V : Type 0} where
  -- a numbered wire stands in its slot
  of_numbered : (s i : ℕ) (xs : List (Incoming V)) (w : Wire V) → In w (numbered s i xs)
      → (j : ℕ) × (w.slot ≡ i + j) × (w.to ≡ s) × (get_elem? xs j ≡ some (incoming_of w))
  of_numbered s i [] w m = absurd m
  of_numbered s i (x ∷ xs) w (inl e) =
      (0, (let h : w.slot ≡ i = ap (λ y. y.slot) e in omega arith), ap (λ y. y.to) e, ap {B = Option (Incoming V)} (λ y. some (incoming_of y)) (sym e))
  of_numbered s i (x ∷ xs) w (inr m) =
      let h = of_numbered s (suc i) xs w m in (suc h.0, omega (arith, h.1), h.2, h.3)

  in_numbered : (s i j : ℕ) (xs : List (Incoming V)) (w : Wire V) → w.slot ≡ i + j → w.to ≡ s → get_elem? xs j ≡ some (incoming_of w) → In w (numbered s i xs)
  in_numbered s i j [] w n t e = absurd (none-ne-some (incoming_of w) e)
  in_numbered s i zero (x ∷ xs) w n t e =
      let h : incoming_of w ≡ x = sym (some-injective x (incoming_of w) e) in
      let k : w.slot ≡ i = omega arith in
      inl (λ z. record { from = (h z).from; to = t z; slot = k z; weight = (h z).weight })
  in_numbered s i (suc j) (x ∷ xs) w n t e = inr (in_numbered s (suc i) j xs w (omega arith) t e)

  extended_inj : (w : Wire V) (p q : Path V) → extended w p ≡ extended w q → p ≡ q
  extended_inj w p q e =
      let h = same_from_push p.wires q.wires w w (ap (λ y. y.wires) e) in
      λ z. record { first = (e z).first; wires = h.0 z }

  -- the paths that go on by the wires from slot i on, each once
  through_distinct : (ps : ℕ → List (Path V)) → ((u : ℕ) → Distinct (ps u)) → (s i : ℕ) (xs : List (Incoming V))
      → Distinct (flat_map (λ w. map (extended w) (ps w.from)) (numbered s i xs))
  through_distinct ps d s i [] = tt
  through_distinct ps d s i (x ∷ xs) =
      let w : Wire V = record { from = x.from; to = s; slot = i; weight = x.weight } in
      distinct_append (map (extended w) (ps x.from)) _
      (distinct_map (extended w) (extended_inj w) (ps x.from) (d x.from))
      (through_distinct ps d s (suc i) xs)
      (λ y m n.
      let a = of_map (extended w) y (ps x.from) m in
      let b = of_joined (λ w. map (extended w) (ps w.from)) y (numbered s (suc i) xs) n in
      let c = of_numbered s (suc i) xs b.0 b.1 in
      let o = of_map (extended b.0) y (ps b.0.from) b.2 in
      let same = same_from_push a.0.wires o.0.wires w b.0 (ap (λ q. q.wires) (sym a.2 ∙ o.2)) in
      omega (arith, c.1, ap (λ q. q.slot) same.1))

module _ {V : Type 0} (web : Web V) where
  leads_push : (a : ℕ) (ws : List (Wire V)) (w : Wire V) (s : ℕ) → Leads web a ws w.from → IsWire web w → w.to ≡ s → Leads web a (ws ++ (w ∷ [])) s
  leads_push a [] w s h is t = (is, h, t)
  leads_push a (x ∷ ws) w s h is t = (h.0, h.1, leads_push x.to ws w s h.2 is t)

  is_wire : (s : ℕ) (w : Wire V) → In w (wires_into web s) → IsWire web w × (w.to ≡ s)
  is_wire s w m =
      let h = of_numbered s 0 (web.into s) w m in
      let k : h.0 ≡ w.slot = omega (arith, h.1) in
      (subst (λ j. get_elem? (web.into w.to) j ≡ some (incoming_of w)) k (subst (λ t. get_elem? (web.into t) h.0 ≡ some (incoming_of w)) (sym h.2) h.3), h.2)

  -- what is listed is a path
  listed_ends : (n s : ℕ) (p : Path V) → In p (paths_under web n s) → EndsAt web s p
  listed_ends zero s p m = absurd m
  listed_ends (suc n) s p (inl e) = subst (EndsAt web s) (sym e) refl
  listed_ends (suc n) s p (inr m) =
      let a = of_joined (λ w. map (extended w) (paths_under web n w.from)) p (wires_into web s) m in
      let b = of_map (extended a.0) p (paths_under web n a.0.from) a.2 in
      let c = is_wire s a.0 a.1 in
      subst (EndsAt web s) (sym b.2)
      (leads_push b.0.first b.0.wires a.0 s (listed_ends n a.0.from b.0 b.1) c.0 c.1)

  -- one wire more
  in_extended : (n : ℕ) (w : Wire V) (p : Path V) → IsWire web w → In p (paths_under web n w.from) → In (extended w p) (paths_under web (suc n) w.to)
  in_extended n w p is m =
      inr (in_joined (λ w. map (extended w) (paths_under web n w.from)) (extended w p) w (wires_into web w.to)
      (in_numbered w.to 0 w.slot (web.into w.to) w (omega arith) refl is)
      (in_map (extended w) p (paths_under web n w.from) m))

  -- a listed path that goes on by more wires is listed among longer ones
  led_on : (a s n : ℕ) (p : Path V) (ws : List (Wire V)) → In p (paths_under web n a) → Leads web a ws s
      → (m : ℕ) × (n ≤ m) × In (record { first = p.first; wires = p.wires ++ ws }) (paths_under web m s)
  led_on a s n p [] m e = (
    n,
    omega arith,
    subst (λ t. In (record { first = p.first; wires = p.wires ++ [] }) (paths_under web n t)) e
        (subst (λ l. In (record { first = p.first; wires = l }) (paths_under web n a)) (sym (append-nil p.wires)) m),
  )
  led_on a s n p (w ∷ ws) m l =
      let more = led_on w.to s (suc n) (extended w p) ws (in_extended n w p l.0 (subst (λ u. In p (paths_under web n u)) l.1 m)) l.2 in
      (more.0, omega (arith, more.1), subst (λ l. In (record { first = p.first; wires = l }) (paths_under web more.0 s)) (append_assoc p.wires (w ∷ []) ws) more.2)

  under_distinct : (n s : ℕ) → Distinct (paths_under web n s)
  under_distinct zero s = tt
  under_distinct (suc n) s = (
    λ m.
        let a = of_joined (λ w. map (extended w) (paths_under web n w.from)) (empty_at s) (wires_into web s) m in
        let b = of_map (extended a.0) (empty_at s) (paths_under web n a.0.from) a.2 in
        omega (arith, ap (λ q. length q.wires) b.2, length-append b.0.wires (a.0 ∷ [])),
    through_distinct (paths_under web n) (under_distinct n) s 0 (web.into s),
  )

pub lists_paths : (V : Type 0) → ListsPaths V
unfolding paths
lists_paths V web ranking s in' = record {
  has = λ p. (
    λ l.
        let m = led_on web p.first s (suc web.size) (empty_at p.first) p.wires (inl refl) l in
        let h = ranking.1.below s in' in
        subst (In p) (paths_end web ranking m.0 web.size s in' (omega (arith, m.1)) h) m.2,
    listed_ends web web.size s p,
  );
  once = under_distinct web web.size s;
}
