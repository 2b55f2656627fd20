-- The field of 256 symbols: bytes, as polynomials over two elements modulo x^8 + x^4 + x^3 + x^2 + 1, which is 0x11D.
use Rattle.std.specs.Prelude.{ℕ, bit_xor}
use Rattle.field.specs.Laws.{Operations, symbol}
use Rattle.field.specs.Polynomials.{times}
use Rattle.field.specs.Reciprocals.{reciprocal}

-- The sum of two polynomials over two elements, which is their difference too.
unfoldable pub sum : ℕ → ℕ → ℕ
sum u v = bit_xor (symbol 256 u) (symbol 256 v)

-- The product of two polynomials of eight terms, reduced.
unfoldable pub product : ℕ → ℕ → ℕ
product u v = times 7 0x11D 8 (symbol 256 u) (symbol 256 v)

-- The field. Its generator is 2, that is, x.
abbrev pub bytes : Operations
bytes = record {
  q = 256;
  α = 2;
  add = sum;
  sub = sum;
  mul = product;
  inv = reciprocal product 256;
}
