-- Polynomials over the field of two elements, modulo a polynomial of degree j + 1. A polynomial is a number: bit b is
-- the coefficient of x^b. The sum of two is their exclusive or.
use Rattle.std.specs.Prelude.{ℕ, zero, suc, ◌*◌, ◌/◌, ◌%◌, ◌^◌, bit_xor}

-- x times v: each term moves up by one, and where v has the term x^j, the modulus takes the new term x^(j+1) off.
unfoldable pub xtime : ℕ → ℕ → ℕ → ℕ
xtime j modulus v = bit_xor (v * 2) (v / 2 ^ j % 2 * modulus)

-- The product of u and v: the sum of x^b v over the terms x^b of u with b below n.
-- Bit 0 of u counts v itself, and the bits above it count x v, x^2 v and so on.
unfoldable pub times : ℕ → ℕ → ℕ → ℕ → ℕ → ℕ
times j modulus zero u v = 0
times j modulus (suc n) u v = bit_xor (u % 2 * v) (times j modulus n (u / 2) (xtime j modulus v))
