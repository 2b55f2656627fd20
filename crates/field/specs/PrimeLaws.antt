-- The laws of the numbers modulo 257, and the rule of the table of inverses.
use Rattle.std.specs.Prelude.{◌≡◌, ℕ, zero, suc, ◌+◌, ◌-◌, ◌*◌, ◌%◌, ◌<◌, Bool, true, List, ◌==◌, ◌≢◌}
use Rattle.std.specs.Prelude.{slice_index, refl}
use Rattle.std.proofs.Common.{sym, ap, ap₂, ◌∙◌, mod-lt, mod-eq_of_lt, add_comm, add-zero, zero-mul, mul-one}
use Rattle.std.proofs.Common.{mul_comm, le_of_suc-le-suc, arith, lit<, lit≤}
use Rattle.std.proofs.lemmas.Bool.{eqb-true}
use Rattle.field.specs.Laws.{Laws, symbol}
use Rattle.field.specs.Reciprocals.{reciprocal}
use Rattle.field.specs.Prime.{prime, product}
use Rattle.field.specs.Operands.{symbol_of, symbol_below}
use Rattle.field.specs.Powers.{Multiplies}
use Rattle.field.specs.Remainders.{add_assoc_mod, mul_assoc_mod, mul_add_mod}
use Rattle.field.specs.ReciprocalsLemmas.{reciprocal_below, reciprocal_operand, reciprocal_zero, reciprocal_is}
use Rattle.field.specs.Tables.{passes, passes_at, own_place, multiples, place, values, values_at, powers_apart}

positive : 0 < 257
positive = lit< tt

below : (n : ℕ) → n % 257 < 257
below n = mod-lt n positive

is : (u : ℕ) → u < 257 → symbol 257 u ≡ u
is u h = symbol_of 257 u h

operand_below : (u : ℕ) → symbol 257 u < 257
operand_below u = symbol_below 257 u positive

again : (u : ℕ) → symbol 257 (symbol 257 u) ≡ symbol 257 u
again u = is (symbol 257 u) (operand_below u)

symbol-mod : (n : ℕ) → symbol 257 (n % 257) ≡ n % 257
symbol-mod n = is (n % 257) (below n)

product_operands : (u v : ℕ) → product u v ≡ product (symbol 257 u) (symbol 257 v)
product_operands u v = sym (ap₂ (λ (x y : ℕ). x * y % 257) (again u) (again v))

multiplies : Multiplies 257 product
multiplies = record {
  one_below = lit< tt;
  below = λ u v. below (symbol 257 u * symbol 257 v);
  comm = λ u v _ _. ap (λ (x : ℕ). x % 257) (mul_comm (symbol 257 u) (symbol 257 v));
  assoc = λ u v w _ _ _.
      ap (λ (x : ℕ). x * symbol 257 w % 257) (symbol-mod (symbol 257 u * symbol 257 v))
      ∙ mul_assoc_mod 257 (symbol 257 u) (symbol 257 v) (symbol 257 w)
      ∙ sym (ap (λ (x : ℕ). symbol 257 u * x % 257) (symbol-mod (symbol 257 v * symbol 257 w)));
  one = λ u hu. ap (λ (x : ℕ). x * 1 % 257) (is u hu) ∙ ap (λ (x : ℕ). x % 257) (mul-one u) ∙ mod-eq_of_lt hu;
}

-- u to the power whose exponent has n binary digits, all 1, modulo 257. With eight that is u^255, which inverts u.
unfoldable pub square_times : ℕ → ℕ → ℕ
square_times u x = x * x * u % 257

unfoldable pub ones_power : ℕ → ℕ → ℕ
ones_power zero u = 1
ones_power (suc n) u = square_times u (ones_power n u)

-- The table of inverses, computed.
unfoldable pub inverses : List ℕ
inverses = values (ones_power 8) 257 0

unfoldable right : ℕ → Bool
right u = suc u * ones_power 8 (suc u) % 257 == 1

all_right : passes 256 right ≡ true
unfolding right ones_power square_times
all_right = refl

ones_below : (u : ℕ) → ones_power 8 u < 257
unfolding ones_power square_times
ones_below u = below (ones_power 7 u * ones_power 7 u * u)

ones_inverts : (u : ℕ) → u < 256 → product (suc u) (ones_power 8 (suc u)) ≡ 1
unfolding right
ones_inverts u h =
    let small : suc u < 257 = omega arith in
    ap₂ (λ (x y : ℕ). x * y % 257) (is (suc u) small) (is (ones_power 8 (suc u)) (ones_below (suc u)))
    ∙ eqb-true (suc u * ones_power 8 (suc u) % 257) 1 (passes_at 256 right all_right u h)

zeros : (s : ℕ) → product 0 s ≡ 0
zeros s = ap (λ (x : ℕ). x % 257) (zero-mul (symbol 257 s))

ones_is : (u : ℕ) → u < 257 → ones_power 8 u ≡ reciprocal product 257 u
unfolding ones_power square_times
ones_is zero h = sym (reciprocal_zero 257 product 0 zeros)
ones_is (suc u) h =
    sym (reciprocal_is 257 product multiplies (suc u) (ones_power 8 (suc u)) h (ones_below (suc u))
    (ones_inverts u (le_of_suc-le-suc h)))

-- The entry at the symbol of u is the inverse of u.
pub inverses_rule : (u : ℕ) → slice_index inverses (symbol 257 u) ≡ reciprocal product 257 u
unfolding inverses
inverses_rule u =
    values_at (ones_power 8) 257 (symbol 257 u) (operand_below u) ∙ ones_is (symbol 257 u) (operand_below u)
    ∙ sym (reciprocal_operand 257 product positive product_operands u)

inverts : (u : ℕ) → u < 257 → (u ≢ 0) → product u (reciprocal product 257 u) ≡ 1
inverts zero h nonzero = absurd (nonzero refl)
inverts (suc u) h nonzero =
    ap (product (suc u)) (sym (ones_is (suc u) h)) ∙ ones_inverts u (le_of_suc-le-suc h)

-- The powers 0 to 127 of 3 all differ.
apart : passes 128 (own_place (multiples product 128 3 1)) ≡ true
unfolding own_place multiples place
apart = refl

pub prime_laws : Laws prime
prime_laws = record {
  one_below = lit< tt;
  size_bound = lit≤ tt;
  generator_below = lit< tt;
  add_below = λ u v. below (symbol 257 u + symbol 257 v);
  sub_below = λ u v. below (symbol 257 u + (257 - symbol 257 v));
  mul_below = multiplies.below;
  inv_below = λ u. reciprocal_below product 257 u positive;
  add_operands = λ u v. sym (ap₂ (λ (x y : ℕ). (x + y) % 257) (again u) (again v));
  sub_operands = λ u v. sym (ap₂ (λ (x y : ℕ). (x + (257 - y)) % 257) (again u) (again v));
  mul_operands = product_operands;
  inv_operand = reciprocal_operand 257 product positive product_operands;
  inv-zero = reciprocal_zero 257 product 0 zeros;
  add_comm = λ u v _ _. ap (λ (x : ℕ). x % 257) (add_comm (symbol 257 u) (symbol 257 v));
  add_assoc = λ u v w _ _ _.
      ap (λ (x : ℕ). (x + symbol 257 w) % 257) (symbol-mod (symbol 257 u + symbol 257 v))
      ∙ add_assoc_mod 257 (symbol 257 u) (symbol 257 v) (symbol 257 w)
      ∙ sym (ap (λ (x : ℕ). (symbol 257 u + x) % 257) (symbol-mod (symbol 257 v + symbol 257 w)));
  add-zero = λ u hu. ap (λ (x : ℕ). (x + 0) % 257) (is u hu) ∙ ap (λ (x : ℕ). x % 257) (add-zero u) ∙ mod-eq_of_lt hu;
  add-sub = λ u v hu hv.
      ap (λ (x : ℕ). (x + (257 - symbol 257 v)) % 257) (symbol-mod (symbol 257 u + symbol 257 v))
      ∙ ap₂ (λ (x y : ℕ). ((x + y) % 257 + (257 - y)) % 257) (is u hu) (is v hv) ∙ omega arith;
  sub-add = λ u v hu hv.
      ap (λ (x : ℕ). (x + symbol 257 v) % 257) (symbol-mod (symbol 257 u + (257 - symbol 257 v)))
      ∙ ap₂ (λ (x y : ℕ). ((x + (257 - y)) % 257 + y) % 257) (is u hu) (is v hv) ∙ omega arith;
  mul_comm = multiplies.comm;
  mul_assoc = multiplies.assoc;
  mul-one = multiplies.one;
  mul-add = λ u v w _ _ _.
      ap (λ (x : ℕ). symbol 257 u * x % 257) (symbol-mod (symbol 257 v + symbol 257 w))
      ∙ mul_add_mod 257 (symbol 257 u) (symbol 257 v) (symbol 257 w)
      ∙ sym (ap₂ (λ (x y : ℕ). (x + y) % 257)
      (symbol-mod (symbol 257 u * symbol 257 v)) (symbol-mod (symbol 257 u * symbol 257 w)));
  mul-inv = inverts;
  powers_differ = powers_apart prime 3 128 apart;
}
