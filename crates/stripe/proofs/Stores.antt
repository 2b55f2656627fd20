-- Stores of a code's shape: blank ones, ones that hold a whole stripe, and what can be done with them.
use Rattle.std.proofs.lemmas.Grind.{common_steps}
use Rattle.std.proofs.Common.{◌≡◌, ℕ, zero, suc, ◌*◌, ◌<◌, ◌≤◌, false, cond, ◌&&◌, ltb, List, Some, None, Ok, Option, refl, le_refl, suc-mul, arith}
use Rattle.std.proofs.lemmas.Bool.{false≢true}
use Rattle.field.specs.Laws.{Operations}
use Rattle.code.specs.declared.record.Code.{Code}
use Rattle.code.specs.Stripe.{Symbols, IsFile, StripeOf, width}
use Rattle.store.specs.Meaning.{Meaning, Cells}
use Rattle.code.specs.Held.{Inside}
use Rattle.stripe.specs.Reasons.{total, one_if_lost, lost_cells}
use Rattle.stripe.specs.Calls.{Kept, Lay, LoseNode, without_node}
use Rattle.stripe.specs.Ledger.{HoldsFile}
use Rattle.stripe.specs.Survival.{BlankStores}

-- a store of the code's shape with these cells
abbrev pub store : Code → ℕ → Cells → Meaning
store code allowance cells = record { nodes = code.n; columns = width code; cell = cells; allowance = allowance }

pub blank_stores : BlankStores
blank_stores code allowance = (store code allowance (λ j c. None), λ j c lj lc. refl, (refl, refl), refl)

-- such a store keeps its shape and may keep its allowance
pub same_shape : (code : Code) (allowance : ℕ) (before after : Cells) (count : ℕ) → Kept (store code allowance before) count (store code allowance after)
same_shape code allowance before after count = record { nodes = refl; columns = refl; most = le_refl allowance; least = omega arith }

-- a sum of n numbers that are at most b is at most n·b
pub total_most : (n b : ℕ) (f : ℕ → ℕ) → ((i : ℕ) → f i ≤ b) → total n f ≤ n * b
total_most zero b f h = omega arith
total_most (suc n) b f h = omega (arith, total_most n b f h, h n, suc-mul n b)

-- no more cells are lost than the code has
pub lost_most : (code : Code) (m : Meaning) → lost_cells code m ≤ code.n * width code
lost_most code m =
    total_most code.n (width code) (λ j. total (width code) (λ c. one_if_lost (m.cell j c))) (λ j.
    omega (arith, total_most (width code) 1 (λ c. one_if_lost (m.cell j c)) (λ c. at_most (m.cell j c))))
  where
    at_most : (o : Option ℕ) → one_if_lost o ≤ 1
    at_most None = omega arith
    at_most (Some v) = omega arith

-- the whole stripe x in the cells of the code
pub whole_cells : Code → Symbols → Cells
whole_cells code x j c = cond (ltb j code.n && ltb c (width code)) (Some (x j c)) None

pub inside_whole : (code : Code) (x : Symbols) (j c : ℕ) → Inside code j c → whole_cells code x j c ≡ Some (x j c)
unfolding whole_cells
inside_whole code x j c inside = grind (arith, common_steps)

pub outside_whole : (code : Code) (x : Symbols) (j c : ℕ) → (Inside code j c → ⊥) → whole_cells code x j c ≡ None
unfolding whole_cells
outside_whole code x j c out = grind (arith, common_steps)

module _ (F : Operations) (code : Code) (allowance : ℕ) (enough : code.n * width code ≤ allowance) where
  -- a store of the whole stripe of a file holds the file
  pub whole_holds : (file : List ℕ) → IsFile F code file → (x : Symbols) → StripeOf F code file x
      → HoldsFile F code (store code allowance (whole_cells code x)) (λ j c. false) file
  whole_holds file I x X = grind (arith, common_steps, false≢true, inside_whole)

  -- a file can be laid on a blank store
  pub lays : (file : List ℕ) → IsFile F code file → (x : Symbols) → StripeOf F code file x
      → Lay F code file (store code allowance (λ j c. None)) (Ok (code.n * width code)) (store code allowance (whole_cells code x))
  lays file I x X = grind (arith, common_steps, inside_whole, outside_whole, same_shape, whole_cells)

  -- there is room for all cells of a node
  pub node_room : width code ≤ allowance
  node_room = grind (arith, common_steps)

  -- a node can be lost
  pub loses : (cells : Cells) (v : ℕ) → v < code.n
      → LoseNode code v (store code allowance cells) (Ok (width code)) (store code allowance (without_node code cells v))
  loses cells v l = grind (arith, common_steps)
