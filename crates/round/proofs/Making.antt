-- What the symbols given for a column make, one symbol after the other.
use Rattle.std.proofs.lemmas.Grind.{common_steps}
use Rattle.std.proofs.Common.{◌≡◌, ℕ, zero, suc, ◌+◌, ◌-◌, ◌*◌, ◌<◌, ◌≤◌, List, None, length, sym, ap, ◌∙◌, add-one, arith}
use Rattle.std.proofs.lemmas.Bool.{lt-ltb, le-ltb}
use Rattle.field.specs.Laws.{Operations, Laws}
use Rattle.algebra.specs.Sums.{sum}
use Rattle.algebra.proofs.Numbers.{power-times-zero, sub-zero, sub-sub, one-mul, sum_one, sum_next, sum_same}
use Rattle.code.specs.declared.record.Code.{Code}
use Rattle.round.specs.Wanted.{made, α_power}
use Rattle.round.specs.States.{Wants, AllSymbols}
use Rattle.round.specs.declared.state.Wanting.{Wanting}

-- a round that was given all symbols for the columns before the present one, and none for it
pub at_start : {X : Type 0} (F : Operations) (code : Code) (f : ℕ) (symbols : List ℕ) (w : Wanting X)
    → w.code ≡ code → w.node ≡ f → w.column * code.m ≡ length symbols → AllSymbols F symbols → w.place ≡ 0
    → w.made ≡ None → w.weight ≡ 1
    → Wants F code f symbols w
at_start F code f symbols w hc hn count all hp hm hw = grind (arith, common_steps, power-times-zero)

-- in a data column: the first minus the sum of the others
pub made_data : (F : Operations) (code : Code) (c s : ℕ) (y : ℕ → ℕ) → c < code.m
    → made F code c s y ≡ F.sub (y 0) (sum F (s - 1) (λ u. y (u + 1)))
unfolding made
made_data F code c s y h = let t = lt-ltb c code.m h in rw t

-- in a coded column: the sum of the symbols times the powers of the generator
pub made_coded : (F : Operations) (code : Code) (c s : ℕ) (y : ℕ → ℕ) → code.m ≤ c
    → made F code c s y ≡ sum F s (λ u. F.mul (α_power F ((c - code.m) * u)) (y u))
unfolding made
made_coded F code c s y h = let t = le-ltb c code.m h in rw t

-- one symbol makes itself
pub made_one : (F : Operations) → Laws F → (code : Code) (c : ℕ) (y : ℕ → ℕ) → y 0 < F.q → made F code c 1 y ≡ y 0
unfolding sum
made_one F L code c y h = grind (arith, common_steps, made_coded, made_data, one-mul, power-times-zero, sub-zero, sum_one)

-- in a data column one symbol more is taken away
pub data_more : (F : Operations) → Laws F → (code : Code) (c s : ℕ) (y : ℕ → ℕ) → c < code.m → 0 < s
    → made F code c (s + 1) y ≡ F.sub (made F code c s y) (y s)
unfolding sum
data_more F L code c zero y l pos = absurd (omega arith)
data_more F L code c (suc s) y l pos =
    let others : ℕ → ℕ = λ u. y (u + 1) in
    let e : suc s + 1 - 1 ≡ suc s = omega arith in
    let d : suc s - 1 ≡ s = omega arith in
    let last : y (s + 1) ≡ y (suc s) = ap y (add-one s) in
    made_data F code c (suc s + 1) y l
    ∙ ap (λ k. F.sub (y 0) (sum F k others)) e
    ∙ sym (sub-sub F L (y 0) (sum F s others) (y (s + 1)))
    ∙ ap (λ v. F.sub (F.sub (y 0) (sum F s others)) v) last
    ∙ ap (λ v. F.sub v (y (suc s))) (sym (made_data F code c (suc s) y l ∙ ap (λ k. F.sub (y 0) (sum F k others)) d))

-- in a coded column one symbol more is added, times its factor
pub coded_more : (F : Operations) (code : Code) (c s : ℕ) (y : ℕ → ℕ) → code.m ≤ c
    → made F code c (s + 1) y ≡ F.add (made F code c s y) (F.mul (α_power F ((c - code.m) * s)) (y s))
coded_more F code c s y l = grind (arith, common_steps, made_coded, sum_next)

-- only the symbols given count
pub made_same : (F : Operations) (code : Code) (c s : ℕ) (y z : ℕ → ℕ) → 0 < s → ((u : ℕ) → u < s → y u ≡ z u)
    → made F code c s y ≡ made F code c s z
made_same F code c s y z pos same = grind (arith, common_steps, made_coded, made_data, sum_same)
