-- The sum and the product of bytes: the laws that need no table.
use Rattle.std.specs.Prelude.{◌≡◌, ℕ, ◌<◌, bit_xor, refl}
use Rattle.std.proofs.Common.{sym, ap, ap₂, ◌∙◌, subst, lit<}
use Rattle.std.proofs.lemmas.Nat.{xor_lt, xor_comm}
use Rattle.std.specs.Int.Bits.{xor_assoc, xor_self, xor_zero_r}
use Rattle.field.specs.Laws.{symbol}
use Rattle.field.specs.Polynomials.{times}
use Rattle.field.specs.Bytes.{sum, product}
use Rattle.field.specs.Operands.{symbol_of, symbol_below}
use Rattle.field.specs.PolynomialRing.{times_below, times_comm, times_assoc, times-one, times_linear, times_zero}
use Rattle.field.specs.Powers.{Multiplies}

abbrev polynomial : ℕ → ℕ → ℕ
polynomial u v = times 7 0x11D 8 u v

pub sum_is : (u v : ℕ) → u < 256 → v < 256 → sum u v ≡ bit_xor u v
unfolding sum
sum_is u v hu hv = ap₂ bit_xor (symbol_of 256 u hu) (symbol_of 256 v hv)

pub product_is : (u v : ℕ) → u < 256 → v < 256 → product u v ≡ polynomial u v
unfolding product
product_is u v hu hv = ap₂ (times 7 0x11D 8) (symbol_of 256 u hu) (symbol_of 256 v hv)

pub sum_below : (u v : ℕ) → sum u v < 256
unfolding sum
sum_below u v = xor_lt 8 (symbol 256 u) (symbol 256 v) (symbol_below 256 u (lit< tt)) (symbol_below 256 v (lit< tt))

pub product_below : (u v : ℕ) → product u v < 256
unfolding product
product_below u v = times_below 7 0x11D 0x1D (lit< tt) refl 8 (symbol 256 u) (symbol 256 v) (symbol_below 256 v (lit< tt))

-- an operand counts by its symbol alone
pub sum_operands : (u v : ℕ) → sum u v ≡ sum (symbol 256 u) (symbol 256 v)
unfolding sum
sum_operands u v =
    sym (sum_is (symbol 256 u) (symbol 256 v) (symbol_below 256 u (lit< tt)) (symbol_below 256 v (lit< tt)))

pub product_operands : (u v : ℕ) → product u v ≡ product (symbol 256 u) (symbol 256 v)
unfolding product
product_operands u v =
    sym (product_is (symbol 256 u) (symbol 256 v) (symbol_below 256 u (lit< tt)) (symbol_below 256 v (lit< tt)))

pub product_comm : (u v : ℕ) → u < 256 → v < 256 → product u v ≡ product v u
product_comm u v hu hv = product_is u v hu hv ∙ times_comm 7 0x11D u v hu hv ∙ sym (product_is v u hv hu)

pub product_assoc : (u v w : ℕ) → u < 256 → v < 256 → w < 256 → product (product u v) w ≡ product u (product v w)
product_assoc u v w hu hv hw =
    product_is (product u v) w (product_below u v) hw ∙ ap (λ (x : ℕ). polynomial x w) (product_is u v hu hv)
    ∙ times_assoc 7 0x11D u v w hu hv hw (subst (λ (x : ℕ). x < 256) (product_is u v hu hv) (product_below u v))
    ∙ sym (product_is u (product v w) hu (product_below v w) ∙ ap (polynomial u) (product_is v w hv hw))

pub product-one : (u : ℕ) → u < 256 → product u 1 ≡ u
product-one u hu = product_is u 1 hu (lit< tt) ∙ times-one 7 0x11D u hu

pub product-sum : (u v w : ℕ) → u < 256 → v < 256 → w < 256 → product u (sum v w) ≡ sum (product u v) (product u w)
product-sum u v w hu hv hw =
    product_is u (sum v w) hu (sum_below v w) ∙ ap (polynomial u) (sum_is v w hv hw)
    ∙ (times_linear 7 0x11D 8 u).adds v w
    ∙ ap₂ bit_xor (sym (product_is u v hu hv)) (sym (product_is u w hu hw))
    ∙ sym (sum_is (product u v) (product u w) (product_below u v) (product_below u w))

pub sum_comm : (u v : ℕ) → u < 256 → v < 256 → sum u v ≡ sum v u
sum_comm u v hu hv = sum_is u v hu hv ∙ xor_comm u v ∙ sym (sum_is v u hv hu)

pub sum_assoc : (u v w : ℕ) → u < 256 → v < 256 → w < 256 → sum (sum u v) w ≡ sum u (sum v w)
sum_assoc u v w hu hv hw =
    sum_is (sum u v) w (sum_below u v) hw ∙ ap (λ (x : ℕ). bit_xor x w) (sum_is u v hu hv) ∙ xor_assoc u v w
    ∙ sym (sum_is u (sum v w) hu (sum_below v w) ∙ ap (bit_xor u) (sum_is v w hv hw))

pub sum-zero : (u : ℕ) → u < 256 → sum u 0 ≡ u
sum-zero u hu = sum_is u 0 hu (lit< tt) ∙ xor_zero_r u

-- adding v twice changes nothing
pub sum_twice : (u v : ℕ) → u < 256 → v < 256 → sum (sum u v) v ≡ u
sum_twice u v hu hv =
    sum_assoc u v v hu hv hv ∙ sum_is u (sum v v) hu (sum_below v v)
    ∙ ap (bit_xor u) (sum_is v v hv hv ∙ xor_self v) ∙ xor_zero_r u

-- a product with 0 is 0
pub product_zero_right : (u v : ℕ) → symbol 256 v ≡ 0 → product u v ≡ 0
unfolding product
product_zero_right u v h = ap (times 7 0x11D 8 (symbol 256 u)) h ∙ times_zero 7 0x11D 8 (symbol 256 u)

pub product_zero_left : (u v : ℕ) → symbol 256 u ≡ 0 → product u v ≡ 0
product_zero_left u v h =
    product_operands u v
    ∙ product_comm (symbol 256 u) (symbol 256 v) (symbol_below 256 u (lit< tt)) (symbol_below 256 v (lit< tt))
    ∙ sym (product_operands v u) ∙ product_zero_right v u h

pub multiplies : Multiplies 256 product
multiplies = record {
  one_below = lit< tt;
  below = product_below;
  comm = product_comm;
  assoc = product_assoc;
  one = product-one;
}
