-- The field of 257 symbols: the numbers modulo the prime 257.
use Rattle.std.specs.Prelude.{ℕ, ◌+◌, ◌-◌, ◌*◌, ◌%◌}
use Rattle.field.specs.Laws.{Operations, symbol}
use Rattle.field.specs.Reciprocals.{reciprocal}

-- The sum modulo 257.
abbrev pub sum : ℕ → ℕ → ℕ
sum u v = (symbol 257 u + symbol 257 v) % 257

-- The difference modulo 257; 257 is added first, so that it is not below 0.
abbrev pub difference : ℕ → ℕ → ℕ
difference u v = (symbol 257 u + (257 - symbol 257 v)) % 257

-- The product modulo 257.
abbrev pub product : ℕ → ℕ → ℕ
product u v = symbol 257 u * symbol 257 v % 257

-- The field. Its generator is 3.
abbrev pub prime : Operations
prime = record {
  q = 257;
  α = 3;
  add = sum;
  sub = difference;
  mul = product;
  inv = reciprocal product 257;
}
