-- Files and stripes whose every condition is a test that antt computes.
use Rattle.std.proofs.Common.{◌≡◌, ℕ, ◌+◌, ◌*◌, ◌<◌, Bool, true, ◌&&◌, ◌||◌, eqb, ltb, List, [], length, get_or, refl, inl, inr}
use Rattle.std.proofs.lemmas.List.{get_or_past}
use Rattle.std.proofs.lemmas.Bool.{and_parts, or_cases, eqb-true, ltb-true, cases_lt}
use Rattle.field.specs.Laws.{Operations, power}
use Rattle.field.specs.Tables.{passes, passes_at}
use Rattle.algebra.specs.Sums.{sum}
use Rattle.code.specs.declared.record.Code.{Code}
use Rattle.code.specs.Positions.{ahead, behind}
use Rattle.code.specs.Stripe.{Symbols, IsFile, StripeOf, parity, width}
use Rattle.theorems.specs.Linear.{SingleFile}
use Rattle.losses.specs.Losses.{SameOutside}
use Rattle.losses.proofs.Counting.{listed, listed_true}

-- The test f passes at every pair of numbers below n and m.
abbrev pub all_pass : ℕ → ℕ → (ℕ → ℕ → Bool) → Bool
all_pass n m f = passes n (λ i. passes m (f i))

pub all_pass_at : (n m : ℕ) (f : ℕ → ℕ → Bool) → all_pass n m f ≡ true → (i j : ℕ) → i < n → j < m → f i j ≡ true
all_pass_at n m f t i j li lj = passes_at m (f i) (passes_at n (λ i. passes m (f i)) t i li) j lj

-- the symbols of an array that is given node by node
abbrev pub cells : List (List ℕ) → Symbols
cells nodes j c = get_or (get_or nodes j []) c 0

module _ (F : Operations) (code : Code) where
  abbrev pub file_test : List ℕ → Bool
  file_test file = eqb (length file) (code.k * code.m) && passes (length file) (λ p. ltb (get_or file p 0) F.q)

  pub file_by_test : (file : List ℕ) → file_test file ≡ true → IsFile F code file
  file_by_test file t = record {
    long = eqb-true (length file) (code.k * code.m) parts.0;
    symbols = λ p l. ltb-true (get_or file p 0) F.q (passes_at (length file) (λ p. ltb (get_or file p 0) F.q) parts.1 p l);
  }
    where
      parts : (eqb (length file) (code.k * code.m) ≡ true) × (passes (length file) (λ p. ltb (get_or file p 0) F.q) ≡ true)
      parts = and_parts _ _ t

  -- the four conditions of a stripe at one cell, one column's sum and one group
  abbrev pub starts_at : List ℕ → Symbols → ℕ → ℕ → Bool
  starts_at file x j t = eqb (x j t) (get_or file (j * code.m + t) 0)

  abbrev pub symbol_at : Symbols → ℕ → ℕ → Bool
  symbol_at x j c = ltb (x j c) F.q

  abbrev pub column_at : Symbols → ℕ → ℕ → Bool
  column_at x t i = eqb (sum F code.n (λ j. F.mul (power F F.α (i * j)) (x j t))) 0

  abbrev pub group_at : Symbols → ℕ → ℕ → Bool
  group_at x j i =
      eqb (x (ahead code.n j i) (code.m + i))
      (sum F code.m (λ t. F.mul (power F F.α (i * t)) (x (behind code.n j (t + 1)) t)))

  pub record StripeTest (file : List ℕ) (x : Symbols) : Type 0 where
    pub starts : all_pass code.k code.m (starts_at file x) ≡ true
    pub symbols : all_pass code.n (width code) (symbol_at x) ≡ true
    pub columns : all_pass code.m (parity code) (column_at x) ≡ true
    pub groups : all_pass code.n code.a (group_at x) ≡ true

  pub stripe_by_test : (file : List ℕ) (x : Symbols) → StripeTest file x → StripeOf F code file x
  stripe_by_test file x t = record {
    starts = λ j c lj lc. eqb-true _ _ (all_pass_at code.k code.m (starts_at file x) t.starts j c lj lc);
    symbols = λ j c lj lc. ltb-true _ _ (all_pass_at code.n (width code) (symbol_at x) t.symbols j c lj lc);
    columns = λ c i lc li. eqb-true _ _ (all_pass_at code.m (parity code) (column_at x) t.columns c i lc li);
    groups = λ j i lj li. eqb-true _ _ (all_pass_at code.n code.a (group_at x) t.groups j i lj li);
  }

  -- the file that is 0 but at place p
  pub single_by_test : (p : ℕ) (file : List ℕ) → file_test file ≡ true
      → passes (length file) (λ o. eqb o p || eqb (get_or file o 0) 0) ≡ true → SingleFile F code p (get_or file p 0) file
  single_by_test p file is t = record {
    is_file = file_by_test file is;
    there = refl;
    elsewhere = λ o away. elim (cases_lt o (length file)) [
      | inl l ↦ elim (or_cases (eqb o p) (eqb (get_or file o 0) 0) (passes_at (length file) (λ o. eqb o p || eqb (get_or file o 0) 0) t o l)) [
        | inl e ↦ absurd (away (eqb-true o p e))
        | inr e ↦ eqb-true (get_or file o 0) 0 e
      ]
      | inr h ↦ get_or_past file o 0 h
    ];
  }

-- two arrays have the same symbols outside these nodes
pub same_by_test : (code : Code) (nodes : List ℕ) (x y : Symbols)
    → all_pass code.n (width code) (λ j c. listed j nodes || eqb (x j c) (y j c)) ≡ true → SameOutside code nodes x y
same_by_test code nodes x y t j c lj lc out =
    elim (or_cases (listed j nodes) (eqb (x j c) (y j c)) (all_pass_at code.n (width code) (λ j c. listed j nodes || eqb (x j c) (y j c)) t j c lj lc)) [
      | inl h ↦ absurd (out (listed_true j nodes h))
      | inr h ↦ eqb-true (x j c) (y j c) h
    ]
