-- Polynomials over two elements modulo one of degree j + 1, at every j and every modulus: the laws of their product.
-- The product is linear in its right operand and commutes with x. So u (v w) = v (u w), and since u 1 = u, the product
-- is commutative and associative.
use Rattle.std.specs.Prelude.{◌≡◌, ℕ, zero, suc, ◌+◌, ◌*◌, ◌/◌, ◌%◌, ◌^◌, ◌<◌, ◌≤◌, bit_xor}
use Rattle.std.proofs.Math.Path.{refl, sym, ap, ap₂, subst}
use Rattle.std.proofs.Common.{◌∙◌, one-mul, mul-one, mul_assoc, add-mul, add-zero, zero-lt-suc, mod-eq_of_lt}
use Rattle.std.proofs.Common.{div-add-mod', div-lt_iff_lt-mul}
use Rattle.std.proofs.Math.Nat.{zero-mul, mul_comm, pow-suc, mod-lt, div-eq_of_lt}
use native.Mathlib.Omega.{arith}
use Rattle.std.proofs.Math.Arith.{lt-one}
use Rattle.std.proofs.Math.Pow.{pow_pos, pow-lt, split}
use Rattle.std.specs.Int.Bits.{xor_assoc, xor_self, xor_zero_r, xor_block, xor_shifted, xor_lt}
use Rattle.std.proofs.lemmas.Nat.{xor_comm, xor_shr, xor_mod}
use Rattle.field.specs.Polynomials.{xtime, times}

pub two_positive : 0 < 2
two_positive = zero-lt-suc 1

bit_below : (n : ℕ) → n % 2 < 2
bit_below n = mod-lt n two_positive

-- Exclusive or, which is the sum.

-- the middle two of four terms change places
sum_of_sums : (a b c d : ℕ) → bit_xor (bit_xor a b) (bit_xor c d) ≡ bit_xor (bit_xor a c) (bit_xor b d)
sum_of_sums a b c d =
    xor_assoc a b (bit_xor c d)
    ∙ ap (bit_xor a) (sym (xor_assoc b c d) ∙ ap (λ (x : ℕ). bit_xor x d) (xor_comm b c) ∙ xor_assoc c b d)
    ∙ sym (xor_assoc a c (bit_xor b d))

double_sum : (a b : ℕ) → bit_xor a b * 2 ≡ bit_xor (a * 2) (b * 2)
double_sum a b =
    sym (ap₂ bit_xor (sym (add-zero (a * 2))) (sym (add-zero (b * 2))) ∙ xor_block 1 a b 0 0 two_positive two_positive
    ∙ add-zero (bit_xor a b * 2))

-- a bit times a number is linear in the bit, and in the number
sum_of_bits : (x y p : ℕ) → x < 2 → y < 2 → bit_xor x y * p ≡ bit_xor (x * p) (y * p)
sum_of_bits zero y p hx hy = sym (ap (λ (z : ℕ). bit_xor z (y * p)) (zero-mul p))
sum_of_bits (suc zero) zero p hx hy = sym (ap (bit_xor (1 * p)) (zero-mul p) ∙ xor_zero_r (1 * p))
sum_of_bits (suc zero) (suc zero) p hx hy = zero-mul p ∙ sym (xor_self (1 * p))
sum_of_bits (suc zero) (suc (suc y)) p hx hy = absurd (omega arith)
sum_of_bits (suc (suc x)) y p hx hy = absurd (omega arith)

bit_of_sum : (c a b : ℕ) → c < 2 → c * bit_xor a b ≡ bit_xor (c * a) (c * b)
bit_of_sum zero a b h = zero-mul (bit_xor a b) ∙ sym (ap₂ bit_xor (zero-mul a) (zero-mul b))
bit_of_sum (suc zero) a b h = one-mul (bit_xor a b) ∙ sym (ap₂ bit_xor (one-mul a) (one-mul b))
bit_of_sum (suc (suc c)) a b h = absurd (omega arith)

bit_doubled : (c p : ℕ) → c < 2 → 0 < p → c * p < p * 2
bit_doubled zero p h k = omega arith
bit_doubled (suc zero) p h k = omega arith
bit_doubled (suc (suc c)) p h k = absurd (omega arith)

pub bit_times_below : (c v m : ℕ) → c < 2 → v < m → c * v < m
bit_times_below zero v m h k = omega arith
bit_times_below (suc zero) v m h k = omega arith
bit_times_below (suc (suc c)) v m h k = absurd (omega arith)

pub half_below : (n u : ℕ) → u < 2 ^ suc n → u / 2 < 2 ^ n
half_below n u h = (div-lt_iff_lt-mul two_positive).1 (subst (λ (x : ℕ). u < x) (pow-suc 2 n) h)

-- the lowest bit of u and the rest of it, joined again
pub join_bits : (b u : ℕ) → bit_xor (u % 2 * 2 ^ b) (u / 2 * 2 ^ suc b) ≡ u * 2 ^ b
join_bits b u =
    xor_comm (u % 2 * 2 ^ b) (u / 2 * 2 ^ suc b)
    ∙ xor_shifted (u / 2) (suc b) (u % 2 * 2 ^ b)
    (subst (λ (x : ℕ). u % 2 * 2 ^ b < x) (sym (pow-suc 2 b)) (bit_doubled (u % 2) (2 ^ b) (bit_below u) (pow_pos b)))
    ∙ ap (λ (x : ℕ). u / 2 * x + u % 2 * 2 ^ b) (pow-suc 2 b ∙ mul_comm (2 ^ b) 2)
    ∙ ap (λ (x : ℕ). x + u % 2 * 2 ^ b) (sym (mul_assoc (u / 2) 2 (2 ^ b)))
    ∙ sym (add-mul (u / 2 * 2) (u % 2) (2 ^ b))
    ∙ ap (λ (x : ℕ). x * 2 ^ b) (div-add-mod' u 2)

-- Maps that are linear over exclusive or.
pub record Linear (h : ℕ → ℕ) : Type 0 where
  pub adds : (a b : ℕ) → h (bit_xor a b) ≡ bit_xor (h a) (h b)

pub linear_zero : (h : ℕ → ℕ) → Linear h → h 0 ≡ 0
linear_zero h l = l.adds 0 0 ∙ xor_self (h 0)

pub linear_bit : (h : ℕ → ℕ) → Linear h → (c v : ℕ) → c < 2 → h (c * v) ≡ c * h v
linear_bit h l zero v k = ap h (zero-mul v) ∙ linear_zero h l ∙ sym (zero-mul (h v))
linear_bit h l (suc zero) v k = ap h (one-mul v) ∙ sym (one-mul (h v))
linear_bit h l (suc (suc c)) v k = absurd (omega arith)

module _ (j modulus : ℕ) where
  pub xtime_linear : Linear (xtime j modulus)
  unfolding xtime
  xtime_linear = record {
    adds = λ a b.
        ap₂ bit_xor (double_sum a b)
        (ap (λ (x : ℕ). x % 2 * modulus) (xor_shr a b j)
        ∙ ap (λ (x : ℕ). x * modulus) (xor_mod (a / 2 ^ j) (b / 2 ^ j) 1)
        ∙ sum_of_bits (a / 2 ^ j % 2) (b / 2 ^ j % 2) modulus (bit_below (a / 2 ^ j)) (bit_below (b / 2 ^ j)))
        ∙ sum_of_sums (a * 2) (b * 2) (a / 2 ^ j % 2 * modulus) (b / 2 ^ j % 2 * modulus);
  }

  -- what is linear and commutes with x commutes with the product
  pub linear_times : (h : ℕ → ℕ) → Linear h → ((v : ℕ) → h (xtime j modulus v) ≡ xtime j modulus (h v))
      → (n u v : ℕ) → h (times j modulus n u v) ≡ times j modulus n u (h v)
  unfolding times
  linear_times h l x zero u v = linear_zero h l
  linear_times h l x (suc n) u v =
      l.adds (u % 2 * v) (times j modulus n (u / 2) (xtime j modulus v))
      ∙ ap₂ bit_xor (linear_bit h l (u % 2) v (bit_below u))
      (linear_times h l x n (u / 2) (xtime j modulus v) ∙ ap (times j modulus n (u / 2)) (x v))

  -- the product is linear in its right operand
  times_adds : (n u a b : ℕ) → times j modulus n u (bit_xor a b) ≡ bit_xor (times j modulus n u a) (times j modulus n u b)
  unfolding times
  times_adds zero u a b = refl
  times_adds (suc n) u a b =
      ap₂ bit_xor (bit_of_sum (u % 2) a b (bit_below u))
      (ap (times j modulus n (u / 2)) (xtime_linear.adds a b)
      ∙ times_adds n (u / 2) (xtime j modulus a) (xtime j modulus b))
      ∙ sum_of_sums (u % 2 * a) (u % 2 * b)
      (times j modulus n (u / 2) (xtime j modulus a)) (times j modulus n (u / 2) (xtime j modulus b))

  pub times_linear : (n u : ℕ) → Linear (times j modulus n u)
  times_linear n u = record { adds = times_adds n u }

  pub times_zero : (n u : ℕ) → times j modulus n u 0 ≡ 0
  times_zero n u = linear_zero (times j modulus n u) (times_linear n u)

  pub times-xtime : (n u v : ℕ) → times j modulus n u (xtime j modulus v) ≡ xtime j modulus (times j modulus n u v)
  times-xtime n u v = sym (linear_times (xtime j modulus) xtime_linear (λ w. refl) n u v)

  -- u (v w) = v (u w)
  pub times_exchange : (n m u v w : ℕ)
      → times j modulus n u (times j modulus m v w) ≡ times j modulus m v (times j modulus n u w)
  times_exchange n m u v w = linear_times (times j modulus n u) (times_linear n u) (times-xtime n u) m v w

  -- x times x^b is x^(b+1), where b is below j
  xtime-power : (b : ℕ) → b < j → xtime j modulus (2 ^ b) ≡ 2 ^ suc b
  unfolding xtime
  xtime-power b h =
      ap (λ (x : ℕ). bit_xor (2 ^ b * 2) (x % 2 * modulus)) (div-eq_of_lt (pow-lt h))
      ∙ ap (bit_xor (2 ^ b * 2)) (zero-mul modulus) ∙ xor_zero_r (2 ^ b * 2) ∙ sym (pow-suc 2 b)

  -- u x^b needs no reduction, where u has n terms and b + n is at most j + 1
  times_power : (n b u : ℕ) → u < 2 ^ n → b + n ≤ suc j → times j modulus n u (2 ^ b) ≡ u * 2 ^ b
  unfolding times
  times_power zero b u hu hb = sym (ap (λ (x : ℕ). x * 2 ^ b) (lt-one hu) ∙ zero-mul (2 ^ b))
  times_power (suc zero) b u hu hb = xor_zero_r (u % 2 * 2 ^ b) ∙ ap (λ (x : ℕ). x * 2 ^ b) (mod-eq_of_lt hu)
  times_power (suc (suc n)) b u hu hb =
      ap (bit_xor (u % 2 * 2 ^ b))
      (ap (times j modulus (suc n) (u / 2)) (xtime-power b (omega arith))
      ∙ times_power (suc n) (suc b) (u / 2) (half_below (suc n) u hu) (omega arith))
      ∙ join_bits b u

  pub times-one : (u : ℕ) → u < 2 ^ suc j → times j modulus (suc j) u 1 ≡ u
  times-one u h = times_power (suc j) 0 u h (omega arith) ∙ mul-one u

  pub times_comm : (u v : ℕ) → u < 2 ^ suc j → v < 2 ^ suc j
      → times j modulus (suc j) u v ≡ times j modulus (suc j) v u
  times_comm u v hu hv =
      ap (times j modulus (suc j) u) (sym (times-one v hv)) ∙ times_exchange (suc j) (suc j) u v 1
      ∙ ap (times j modulus (suc j) v) (times-one u hu)

  pub times_assoc : (u v w : ℕ) → u < 2 ^ suc j → v < 2 ^ suc j → w < 2 ^ suc j → times j modulus (suc j) u v < 2 ^ suc j
      → times j modulus (suc j) (times j modulus (suc j) u v) w ≡ times j modulus (suc j) u (times j modulus (suc j) v w)
  times_assoc u v w hu hv hw huv =
      times_comm (times j modulus (suc j) u v) w huv hw ∙ times_exchange (suc j) (suc j) w u v
      ∙ ap (times j modulus (suc j) u) (times_comm w v hw hv)

  -- Where the modulus is x^(j+1) and lower terms, every result has terms up to x^j only.
  module _ (low : ℕ) (low_below : low < 2 ^ suc j) (is : modulus ≡ 2 ^ suc j + low) where
    pub xtime_below : (v : ℕ) → v < 2 ^ suc j → xtime j modulus v < 2 ^ suc j
    unfolding xtime
    xtime_below v h =
        by_top_bit (v / 2 ^ j) refl
        ((div-lt_iff_lt-mul (pow_pos j)).1 (subst (λ (x : ℕ). v < x) (pow-suc 2 j ∙ mul_comm (2 ^ j) 2) h))
      where
        by_top_bit : (q : ℕ) → v / 2 ^ j ≡ q → q < 2 → xtime j modulus v < 2 ^ suc j
        by_top_bit zero e k =
            let parts : 0 * 2 ^ j + v % 2 ^ j ≡ v = subst (λ (q : ℕ). q * 2 ^ j + v % 2 ^ j ≡ v) e (split v j) in
            let rest_below : v % 2 ^ j < 2 ^ j = mod-lt v (pow_pos j) in
            let top : 2 ^ suc j ≡ 2 ^ j * 2 = pow-suc 2 j in
            let value : bit_xor (v * 2) (v / 2 ^ j % 2 * modulus) ≡ v * 2
            = ap (λ (x : ℕ). bit_xor (v * 2) (x % 2 * modulus)) e ∙ ap (bit_xor (v * 2)) (zero-mul modulus)
            ∙ xor_zero_r (v * 2) in
            omega arith
        by_top_bit (suc zero) e k =
            let parts : 1 * 2 ^ j + v % 2 ^ j ≡ v = subst (λ (q : ℕ). q * 2 ^ j + v % 2 ^ j ≡ v) e (split v j) in
            let rest_below : v % 2 ^ j < 2 ^ j = mod-lt v (pow_pos j) in
            let top : 2 ^ suc j ≡ 2 ^ j * 2 = pow-suc 2 j in
            let double_below : v % 2 ^ j * 2 < 2 ^ suc j = omega arith in
            let double : v * 2 ≡ 1 * 2 ^ suc j + v % 2 ^ j * 2 = omega arith in
            let one_modulus : 1 * modulus ≡ 1 * 2 ^ suc j + low = omega arith in
            let value : bit_xor (v * 2) (v / 2 ^ j % 2 * modulus) ≡ 0 * 2 ^ suc j + bit_xor (v % 2 ^ j * 2) low
            = ap (λ (x : ℕ). bit_xor (v * 2) (x % 2 * modulus)) e ∙ ap₂ bit_xor double one_modulus
            ∙ xor_block (suc j) 1 1 (v % 2 ^ j * 2) low double_below low_below in
            let small : bit_xor (v % 2 ^ j * 2) low < 2 ^ suc j = xor_lt (suc j) (v % 2 ^ j * 2) low double_below low_below in
            omega arith
        by_top_bit (suc (suc q)) e k = absurd (omega arith)

    pub times_below : (n u v : ℕ) → v < 2 ^ suc j → times j modulus n u v < 2 ^ suc j
    unfolding times
    times_below zero u v h = pow_pos (suc j)
    times_below (suc n) u v h =
        xor_lt (suc j) (u % 2 * v) (times j modulus n (u / 2) (xtime j modulus v))
        (bit_times_below (u % 2) v (2 ^ suc j) (bit_below u) h)
        (times_below n (u / 2) (xtime j modulus v) (xtime_below v h))
