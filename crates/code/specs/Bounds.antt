-- Which four numbers make a code, and what making one answers.
use Rattle.std.specs.Prelude.{◌≡◌, ℕ, ◌+◌, ◌<◌, ◌≤◌, Ok, Err, Result}
use Rattle.code.specs.declared.record.Code.{Code}
use Rattle.code.specs.declared.refusal.Refusal.{Refusal}
use Rattle.code.specs.declared.refusal.Refusal.TheVariants.{Bounds}

-- n nodes, k of them for data, m data columns, a coded columns
pub record Lawful (n k m a : ℕ) : Type 0 where
  pub nodes : (2 ≤ n) × (n ≤ 64)
  pub data_nodes : (1 ≤ k) × (k < n)
  pub data_columns : (1 ≤ m) × (m ≤ 8)
  pub coded_columns : (1 ≤ a) × (a ≤ 3)
  pub room : m + a ≤ n

-- a record of the four numbers exactly if they are lawful, and otherwise refusal 1
abbrev pub Made : ℕ → ℕ → ℕ → ℕ → Result Code Refusal → Type 0
Made n k m a (Ok code) = Lawful n k m a × (code.n ≡ n) × (code.k ≡ k) × (code.m ≡ m) × (code.a ≡ a)
Made n k m a (Err e) = (Lawful n k m a → ⊥) × (e ≡ Bounds)
