-- A round that is given one symbol more.
use Rattle.std.proofs.lemmas.Grind.{common_steps}
use Rattle.std.proofs.Common.{◌≡◌, ℕ, ◌+◌, ◌-◌, ◌*◌, ◌<◌, ◌≤◌, List, [], ◌∷◌, ◌++◌, Some, None, Option, length, sym, ap, ◌∙◌, inl, inr, arith}
use Rattle.std.proofs.lemmas.Bool.{cases_lt, cases_eq}
use Rattle.std.proofs.lemmas.List.{get_or_push, get_or_append_left, length_push}
use Rattle.field.specs.Laws.{Operations, Laws}
use Rattle.code.specs.declared.record.Code.{Code}
use Rattle.round.specs.Wanted.{made, α_power}
use Rattle.round.specs.States.{Wants, Holds, of_column, AllSymbols}
use Rattle.round.specs.declared.state.Wanting.{Wanting}
use Rattle.round.specs.declared.state.Holding.{Holding}
use Rattle.round.proofs.Making.{made_one, data_more, coded_more, made_same}

-- the symbols stay symbols
pub symbols_more : (F : Operations) (symbols : List ℕ) (v : ℕ) → AllSymbols F symbols → v < F.q → AllSymbols F (symbols ++ v ∷ [])
symbols_more F symbols v all h p below = grind (arith, common_steps)

-- What a round makes of one symbol more for column c, v.
pub record Joins (F : Operations) (code : Code) (c : ℕ) (so_far : Option ℕ) (weight v r : ℕ) : Type 0 where
  pub first : so_far ≡ None → r ≡ v
  pub in_data : (x : ℕ) → so_far ≡ Some x → c < code.m → r ≡ F.sub x v
  pub in_coded : (x : ℕ) → so_far ≡ Some x → code.m ≤ c → r ≡ F.add x (F.mul weight v)

module _ (F : Operations) (L : Laws F) (code : Code) (symbols : List ℕ) (c s : ℕ) (so_far : Option ℕ) (weight v r : ℕ)
    (count : c * code.m + s ≡ length symbols) (all : AllSymbols F symbols) (below : v < F.q)
    (none_yet : s ≡ 0 → so_far ≡ None)
    (is_made : 0 < s → so_far ≡ Some (made F code c s (of_column code symbols c)))
    (factor : weight ≡ α_power F ((c - code.m) * s))
    (joins : Joins F code c so_far weight v r) where
  before : ℕ → ℕ
  before = of_column code symbols c

  after : ℕ → ℕ
  after = of_column code (symbols ++ v ∷ []) c

  kept : (u : ℕ) → u < s → before u ≡ after u
  unfolding before after
  kept u h = sym (get_or_append_left symbols (v ∷ []) 0 (c * code.m + u) (omega arith))

  last : after s ≡ v
  unfolding after
  last = get_or_push symbols v 0 (c * code.m + s) (sym count)

  symbol_at : (u : ℕ) → u ≤ s → after u < F.q
  unfolding after
  symbol_at u h = symbols_more F symbols v all below (c * code.m + u) (rw length_push (omega arith))

  same : 0 < s → so_far ≡ Some (made F code c s after)
  unfolding before
  same pos = is_made pos ∙ ap Some (made_same F code c s before after pos kept)

  pub joined_is : r ≡ made F code c (s + 1) (of_column code (symbols ++ v ∷ []) c)
  unfolding after
  joined_is =
      elim (cases_eq s 0) [
        | inl z ↦
            let e : after 0 ≡ v = ap after (sym z) ∙ last in
            joins.first (none_yet z) ∙ sym e ∙ sym (made_one F L code c after (symbol_at 0 (omega arith))) ∙ ap (λ k. made F code c (k + 1) after) (sym z)
        | inr n ↦
            let pos : 0 < s = omega arith in
            elim (cases_lt c code.m) [
              | inl l ↦
                  let j = joins.in_data (made F code c s after) (same pos) l in
                  let e = data_more F L code c s after l pos in
                  let v_is = last in
                  cc
              | inr l ↦
                  let j = joins.in_coded (made F code c s after) (same pos) l in
                  let e = coded_more F code c s after l in
                  let v_is = last in
                  cc
            ]
      ]

-- the symbol given was the last one for its column
pub now_holds : {X : Type 0} (F : Operations) (L : Laws F) (code : Code) (f : ℕ) (symbols : List ℕ) (w : Wanting X) (v : ℕ) (h : Holding X)
    → Wants F code f symbols w → v < F.q
    → h.code ≡ w.code → h.node ≡ w.node → h.column ≡ w.column → w.place + 1 ≡ w.code.m
    → Joins F w.code w.column w.made w.weight v h.made
    → Holds F code f (symbols ++ v ∷ []) h
now_holds F L code f symbols w v h was below hc hn hcol full joins = grind (arith, common_steps, joined_is, length_push, symbols_more)

-- the factor of the next symbol
factor_more : (F : Operations) (d s : ℕ) → α_power F (d * s + d) ≡ α_power F (d * (s + 1))
factor_more F d s =
    let e : d * s + d ≡ d * (s + 1) = omega arith in ap (α_power F) e

-- the symbol given was not the last one for its column
pub still_wants : {X : Type 0} (F : Operations) (L : Laws F) (code : Code) (f : ℕ) (symbols : List ℕ) (w : Wanting X) (v r : ℕ) (w' : Wanting X)
    → Wants F code f symbols w → v < F.q
    → w'.code ≡ w.code → w'.node ≡ w.node → w'.column ≡ w.column → w'.place ≡ w.place + 1
    → w'.weight ≡ α_power F ((w.column - code.m) * w.place + (w.column - code.m))
    → w'.made ≡ Some r
    → Joins F w.code w.column w.made w.weight v r
    → Wants F code f (symbols ++ v ∷ []) w'
still_wants F L code f symbols w v r w' was below hc hn hcol one_more hw made_is joins =
    let factor = factor_more F (w.column - code.m) w.place in
    grind (arith, common_steps, joined_is, length_push, symbols_more)
