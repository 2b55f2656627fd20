-- The smallest refusal that holds, from what the system decides.
use Rattle.std.proofs.Common.{◌≡◌, ℕ, ◌+◌, ◌*◌, ◌<◌, ◌≤◌, List, ◌++◌, drop, length, get_or, Some, Ok, Err, Result, sym, ◌∙◌, mul-le-mul_left, arith, lit≤, rules}
use Rattle.std.specs.Prelude.{OnErr}
use Rattle.std.proofs.lemmas.Grind.{common_steps}
use Rattle.std.proofs.lemmas.List.{places}
use Rattle.field.specs.Laws.{Operations}
use Rattle.code.specs.declared.record.Code.{Code}
use Rattle.code.specs.declared.refusal.Refusal.{Refusal}
use Rattle.code.specs.declared.refusal.Refusal.TheVariants.{Bounds, Shape, Length, Work, Outside, Symbol, Foreign, Lost, Contradiction, Ambiguous, Allowance}
use Rattle.code.specs.Refusals.{Least, number}
use Rattle.code.specs.Stripe.{Held, Fits}
use Rattle.code.specs.Held.{Inside, ForeignAt, First}
use Rattle.code.specs.Work.{front, WorkAfter, Cleared}
use Rattle.solve.specs.Answers.{SharedHolds, SharedSymbol, OnlyHolds, OnlyIn, OnlyFile}
use Rattle.solve.specs.Decisions.{NoForeign, Fails, Decided, DifferAt, TwoFit, OnlyDecided, OnlyFront}

module _ (F : Operations) (code : Code) (held : Held) where
  module _ (row column work : ℕ) (room : front code ≤ work) (inside : (row < code.k) × (column < code.m)) where
    shared_7 : (f : Refusal) → SharedHolds F code held row column work f → 7 ≤ number f
    shared_7 f h = grind (arith, common_steps)

    shared_9 : NoForeign F code held → (f : Refusal) → SharedHolds F code held row column work f → 9 ≤ number f
    shared_9 proper Bounds h = absurd h
    shared_9 proper Shape h = absurd h
    shared_9 proper Length h = absurd h
    shared_9 proper Work h = absurd (omega arith)
    shared_9 proper Outside h = absurd (h inside)
    shared_9 proper Symbol h = absurd h
    shared_9 proper (Foreign v c) h = absurd (proper v c h.0 h.1)
    shared_9 proper (Lost v c) h = absurd h
    shared_9 proper Contradiction h = lit≤ tt
    shared_9 proper Ambiguous h = lit≤ tt
    shared_9 proper Allowance h = absurd h

    shared_10 : NoForeign F code held → (u : List ℕ) → Fits F code held u → (f : Refusal) → SharedHolds F code held row column work f → 10 ≤ number f
    shared_10 proper u U f h =
        let no : ((v : List ℕ) → Fits F code held v → ⊥) → ⊥ = λ k. k u U in grind (arith, common_steps, proper, no)

    pub shared_answer : (r : Result ℕ Refusal) → Decided F code held (row * code.m + column) r → SharedSymbol F code held row column work r
    shared_answer (Ok v) D = (none, D.1)
      where
        none : (e : Refusal) → SharedHolds F code held row column work e → ⊥
        none e h =
            let no : (v c : ℕ) → First (Inside code) (ForeignAt F held) v c → ⊥ = λ v c k. D.0 v c k.0 k.1 in
            let some : ((u : List ℕ) → Fits F code held u → ⊥) → ⊥ = λ k. k D.1.fitting D.1.fits in
            let same : DifferAt F code held (row * code.m + column) → ⊥ = λ k. k.4 (D.1.shared k.0 k.2 ∙ sym (D.1.shared k.1 k.3)) in
            grind (arith, common_steps, no, some, same)
    shared_answer (Err Bounds) D = absurd D
    shared_answer (Err Shape) D = absurd D
    shared_answer (Err Length) D = absurd D
    shared_answer (Err Work) D = absurd D
    shared_answer (Err Outside) D = absurd D
    shared_answer (Err Symbol) D = absurd D
    shared_answer (Err (Foreign v c)) D = (D, shared_7)
    shared_answer (Err (Lost v c)) D = absurd D
    shared_answer (Err Contradiction) D = (D.1, shared_9 D.0)
    shared_answer (Err Ambiguous) D = (D.1, shared_10 D.0 D.1.0 D.1.2)
    shared_answer (Err Allowance) D = absurd D

  -- the front is cleared whatever is decided
  pub work_cleared : (Open : Type 0) (before after : List ℕ) → Cleared code before after → (e : Refusal) → Fails F code held Open e
      → WorkAfter code before (Err e) after
  work_cleared Open before after C e D = grind (arith, common_steps)

  pub decided_cleared : (place : ℕ) (before after : List ℕ) → Cleared code before after → (r : Result ℕ Refusal) → Decided F code held place r
      → WorkAfter code before r after
  decided_cleared place before after C (Ok v) D = C
  decided_cleared place before after C (Err e) D = work_cleared (DifferAt F code held place) before after C e D

  module _ (work : ℕ) (room : front code ≤ work) where
    only_7 : (f : Refusal) → OnlyHolds F code held work f → 7 ≤ number f
    only_7 f h = grind (arith, common_steps)

    only_9 : NoForeign F code held → (f : Refusal) → OnlyHolds F code held work f → 9 ≤ number f
    only_9 proper Bounds h = absurd h
    only_9 proper Shape h = absurd h
    only_9 proper Length h = absurd h
    only_9 proper Work h = absurd (omega arith)
    only_9 proper Outside h = absurd h
    only_9 proper Symbol h = absurd h
    only_9 proper (Foreign v c) h = absurd (proper v c h.0 h.1)
    only_9 proper (Lost v c) h = absurd h
    only_9 proper Contradiction h = lit≤ tt
    only_9 proper Ambiguous h = lit≤ tt
    only_9 proper Allowance h = absurd h

    only_10 : NoForeign F code held → (u : List ℕ) → Fits F code held u → (f : Refusal) → OnlyHolds F code held work f → 10 ≤ number f
    only_10 proper u U f h =
        let no : ((v : List ℕ) → Fits F code held v → ⊥) → ⊥ = λ k. k u U in grind (arith, common_steps, proper, no)

    pub only_none : (w : List ℕ) → NoForeign F code held → OnlyFront F code held w → (e : Refusal) → OnlyHolds F code held work e → ⊥
    only_none w proper O e h =
        let no : (v c : ℕ) → First (Inside code) (ForeignAt F held) v c → ⊥ = λ v c k. proper v c k.0 k.1 in
        let some : ((u : List ℕ) → Fits F code held u → ⊥) → ⊥ = λ k. k O.fitting O.fits in
        let same : TwoFit F code held → ⊥ = λ k. k.4 (O.only k.0 k.2 ∙ sym (O.only k.1 k.3)) in
        grind (arith, common_steps, no, some, same)

    pub only_least : (e : Refusal) → Fails F code held (TwoFit F code held) e → Least (OnlyHolds F code held work) (Some e)
    only_least Bounds D = absurd D
    only_least Shape D = absurd D
    only_least Length D = absurd D
    only_least Work D = absurd D
    only_least Outside D = absurd D
    only_least Symbol D = absurd D
    only_least (Foreign v c) D = (D, only_7)
    only_least (Lost v c) D = absurd D
    only_least Contradiction D = (D.1, only_9 D.0)
    only_least Ambiguous D = (D.1, only_10 D.0 D.1.0 D.1.2)
    only_least Allowance D = absurd D

-- a memory of which the front was lent and came back as `last`
pub used_length : (size : ℕ) (before last : List ℕ) → size ≤ length before → length last ≡ size → length (last ++ drop size before) ≡ length before
used_length size before last h e = search (rules, places)

pub used_behind : (size : ℕ) (before last : List ℕ) → size ≤ length before → length last ≡ size → (p : ℕ) → size ≤ p
    → get_or (last ++ drop size before) p 0 ≡ get_or before p 0
used_behind size before last h e p l = search (rules, places)

pub used_inside : (size : ℕ) (before last : List ℕ) → size ≤ length before → length last ≡ size → (p : ℕ) → p < size
    → get_or (last ++ drop size before) p 0 ≡ get_or last p 0
used_inside size before last h e p l = search (rules, places)

-- the only file in the front of a memory
pub only_in : (F : Operations) (code : Code) (held : Held) (size : ℕ) (before last : List ℕ) → size ≡ front code → size ≤ length before → length last ≡ size
    → code.k * code.m ≤ front code → OnlyFront F code held last → OnlyIn F code held before (last ++ drop size before)
only_in F code held size before last e room long below O = record {
  fitting = O.fitting;
  fits = O.fits;
  only = O.only;
  long = used_length size before last room long;
  symbols = λ p l. used_inside size before last room long p (omega arith) ∙ O.symbols p l;
  zeros = λ p l m. used_inside size before last room long p (omega arith) ∙ O.zeros p l;
  behind = λ p l. used_behind size before last room long p (omega arith);
}

pub file_in_front : (code : Code) → code.k * code.m ≤ front code
file_in_front code = let m : code.k * code.m * 1 ≤ code.k * code.m * (code.k * code.m + 1) = mul-le-mul_left (code.k * code.m) (omega arith) in omega arith

-- a memory of which the front was let go as zeros
pub front_zeros : (code : Code) (size : ℕ) (before zeros : List ℕ) → size ≡ front code → size ≤ length before → length zeros ≡ size
    → ((p : ℕ) → get_or zeros p 0 ≡ 0) → Cleared code before (zeros ++ drop size before)
front_zeros code size before zeros e l long none = record {
  long = search (rules, places);
  zeros = λ p h. search (rules, places);
  behind = λ p h. search (rules, places);
}

pub only_answer : (F : Operations) (code : Code) (held : Held) (size : ℕ) (before last : List ℕ) → size ≡ front code → size ≤ length before → length last ≡ size
    → (r : Result ℕ Refusal) → OnlyDecided F code held last r → OnErr r ((p : ℕ) → get_or last p 0 ≡ 0) → OnlyFile F code held before r (last ++ drop size before)
only_answer F code held size before last e room long (Ok n) D none =
    (only_none F code held (length before) (omega arith) last D.0 D.2, D.1, only_in F code held size before last e room long (file_in_front code) D.2)
only_answer F code held size before last e room long (Err r) D none =
    (only_least F code held (length before) (omega arith) r D, work_cleared F code held (TwoFit F code held) before _ (front_zeros code size before last e room long none) r D)
