-- The wanted cell by column and place.
use Rattle.std.proofs.lemmas.Grind.{common_steps}
use Rattle.std.proofs.Common.{◌≡◌, ℕ, ◌+◌, ◌-◌, ◌*◌, ◌/◌, ◌%◌, ◌<◌, ◌≤◌, arith}
use lib.Arith.{digits_div, digits_mod}
use Rattle.std.proofs.lemmas.Bool.{lt-ltb, le-ltb, le-leb, lt-leb, ne_eqb}
use Rattle.std.proofs.lemmas.Bool.Decides.{nat_tests}
use Rattle.code.specs.declared.record.Code.{Code}
use Rattle.code.specs.Positions.{ahead, behind}
use Rattle.code.proofs.CountedRound.{behind_small}
use Rattle.round.specs.Wanted.{without, wanted_for, wanted}

-- after c whole columns and s symbols more
pub wanted_at : (code : Code) (f c s : ℕ) → s < code.m → wanted code f (c * code.m + s) ≡ wanted_for code f c s
wanted_at code f c s h =
    let d : (c * code.m + s) / code.m ≡ c = digits_div c h in
    let r : (c * code.m + s) % code.m ≡ s = digits_mod c h in
    cc

pub without_le : (t s : ℕ) → without t s ≤ s
without_le t s = grind (arith, nat_tests)

-- the columns left of t keep their places, counted from 1, and those right of it move down by one
pub without_before : (t s : ℕ) → s ≤ t → without t s ≡ s - 1
without_before t s h = rw (le-leb s t h)

pub without_after : (t s : ℕ) → t < s → without t s ≡ s
without_after t s h = rw (lt-leb s t h)

-- the three kinds of wanted cells
pub first_cell : (code : Code) (f c s : ℕ) → c < code.m → s ≡ 0 → wanted code f (c * code.m + s) ≡ (ahead code.n f (c + 1), code.m)
first_cell code f c s h z = grind (arith, common_steps, lt-ltb, wanted_at)

pub other_cell : (code : Code) (f c s : ℕ) → c < code.m → (s ≡ 0 → ⊥) → s < code.m
    → wanted code f (c * code.m + s) ≡ (behind code.n (f + c) (without c s), without c s)
other_cell code f c s hc nz h = grind (arith, common_steps, lt-ltb, ne_eqb, wanted_at)

pub coded_cell : (code : Code) (f c s : ℕ) → code.m ≤ c → s < code.m
    → wanted code f (c * code.m + s) ≡ (behind code.n f (c - code.m + s + 1), s)
coded_cell code f c s lo h = grind (arith, common_steps, le-ltb, wanted_at)

-- the same with one remainder
pub wanted_first : (code : Code) (f c s : ℕ) → c < code.m → s ≡ 0
    → wanted code f (c * code.m + s) ≡ ((f + c + 1) % code.n, code.m)
wanted_first code f c s h z = grind (arith, common_steps, first_cell)

pub wanted_other : (code : Code) (f c s u : ℕ) → c < code.m → (s ≡ 0 → ⊥) → s < code.m → without c s ≡ u
    → wanted code f (c * code.m + s) ≡ ((f + c + code.n - u) % code.n, u)
wanted_other code f c s u hc nz h is = grind (arith, common_steps, behind_small, other_cell, without_le)

pub wanted_coded : (code : Code) (f c s : ℕ) → code.m ≤ c → c < code.m + code.a → s < code.m
    → wanted code f (c * code.m + s) ≡ ((f + code.n - (c - code.m + s + 1)) % code.n, s)
wanted_coded code f c s lo hi h = grind (arith, common_steps, behind_small, coded_cell)
