-- Runs of calls on an opened board follow the book that begins as the two files say.
use Rattle.std.proofs.Common.{◌≡◌, ℕ, false, List, [], ◌∷◌, ◌++◌, map, length, Result, refl, ap, ◌∙◌, subst, ap₂, arith}
use Rattle.gauge.specs.Semirings.{Ops, Laws}
use Rattle.gauge.specs.declared.matrix.EdgeMatrix.{EdgeMatrix}
use Rattle.opening.specs.Boards.{View, is_short}
use Rattle.opening.specs.Opens.{opened_view}
use Rattle.opening.proofs.Holding.{opened_holds}
use Rattle.book.specs.declared.script_fault.ScriptFault.{ScriptFault}
use Rattle.book.specs.Answers.{Call, Lending, answers, last}
use Rattle.board.specs.Books.{lent_of}
use Rattle.board.specs.Runs.{Made, made_of, Called, Chained, lendings}
use Rattle.board.specs.Laws.{RunsFollow}
use Rattle.board.proofs.Chaining.{lendings_same, chains_follow}
use Rattle.board.proofs.Opened.{opened_is_filed, opened_sums}
use Rattle.board.proofs.Still.{chain_keeps}

module _ {G : Type 0} (r : Ops G) (delays : ℕ → ℕ → G) where
  -- opening leaves the tables as long as they were
  pub opened_lends : (file : List ℕ) (x : View (EdgeMatrix G)) → is_short x ≡ false → (strip limit : ℕ)
      → lent_of (opened_view r delays file x) strip limit ≡ lent_of x strip limit
  opened_lends file x fits strip limit =
      let holds = opened_holds G r delays file x fits in
      λ i. record {
        starts = holds.starts_past.long i;
        weights = holds.weights_past.long i;
        values = holds.values_past.long i;
        strip = strip;
        limit = limit;
      }

  pub runs_follow : Laws r → RunsFollow r delays
  runs_follow laws file ms x y fits chained =
      let opened = opened_view r delays file x in
      let chain = chains_follow r delays laws ms opened y chained in
      let filed-book = opened_is_filed r delays file x fits in
      let was = opened_sums r delays laws file x fits in
      let same = lendings_same r delays x opened (opened_lends file x fits) ms in
      record {
        book = chain.book ∙ ap₂ (last r delays) filed-book same;
        sums = chain.sums was;
        told = chain.told was ∙ ap₂ (answers r delays) filed-book same;
        kept = chain_keeps r delays ms opened y chained;
      }

  -- one more call at the end of a chain
  pub chain_more : (ms : List Made) (m : Made) (x z y : View (EdgeMatrix G)) → Chained r delays ms x z
      → Called r delays m.strip m.limit m.call z y m.said → Chained r delays (ms ++ (m ∷ [])) x y
  chain_more [] m x z y still called = (y, subst (λ (v : View (EdgeMatrix G)). Called r delays m.strip m.limit m.call v y m.said) still called, refl)
  chain_more (n ∷ ms) m x z y (v, first, rest) called = (v, first, chain_more ms m v z y rest called)

  module _ (strip limit : ℕ) where
    pub made_lendings : (x : View (EdgeMatrix G)) (cs : List Call) (replies : List (Result ℕ ScriptFault)) → length replies ≡ length cs
        → lendings r delays x (made_of strip limit cs replies) ≡ map (λ c. record { lent = lent_of x strip limit; call = c }) cs
    made_lendings x [] replies h = refl
    made_lendings x (c ∷ cs) [] h = absurd (omega arith)
    made_lendings x (c ∷ cs) (a ∷ replies) h = ap (λ (ls : List Lending). record { lent = lent_of x strip limit; call = c } ∷ ls) (made_lendings x cs replies (omega arith))

module _ (strip limit : ℕ) where
  pub made_said : (cs : List Call) (replies : List (Result ℕ ScriptFault)) → length replies ≡ length cs → map (λ m. m.said) (made_of strip limit cs replies) ≡ replies
  made_said [] [] h = refl
  made_said [] (a ∷ replies) h = absurd (omega arith)
  made_said (c ∷ cs) [] h = absurd (omega arith)
  made_said (c ∷ cs) (a ∷ replies) h = ap (λ (bs : List (Result ℕ ScriptFault)). a ∷ bs) (made_said cs replies (omega arith))

  -- one more call and its answer
  pub made_more : (cs : List Call) (replies : List (Result ℕ ScriptFault)) (c : Call) (a : Result ℕ ScriptFault) → length replies ≡ length cs
      → made_of strip limit (cs ++ (c ∷ [])) (replies ++ (a ∷ []))
      ≡ made_of strip limit cs replies ++ (record { strip = strip; limit = limit; call = c; said = a } ∷ [])
  made_more [] [] c a h = refl
  made_more [] (b ∷ replies) c a h = absurd (omega arith)
  made_more (d ∷ cs) [] c a h = absurd (omega arith)
  made_more (d ∷ cs) (b ∷ replies) c a h =
      ap (λ (ms : List Made). record { strip = strip; limit = limit; call = d; said = b } ∷ ms) (made_more cs replies c a (omega arith))
