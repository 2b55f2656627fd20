-- The symbols of a field of numbers as a field over a carrier, and the way there and back.
-- A theorem over `field_of F L` is brought back to numbers in three steps: `to_injective` turns the equation of numbers
-- below q into one of the carrier, `simp (to-add, to-sub, to-mul, ..)` moves `to` inward, and the theorem closes it.
-- Nothing here asks that an operand be below q: one of q or more counts as 0 on both sides.
use Rattle.std.proofs.lemmas.Grind.{common_steps}
use Rattle.std.proofs.Common.{◌≡◌, ℕ, zero, suc, ◌<◌, sym, refl, ap, ◌∙◌, ap₂, arith}
use mathlib.Core.Path.{fun_ext}
use mathlib.Core.HLevel.{Σ_prop_path}
use native.Mathlib.Bridge.{le_prop}
use native.Mathlib.Decide.{ℕ_discrete}
use Rattle.field.specs.Laws.{Operations, Laws, symbol, power}
use Rattle.field.specs.Operands.{symbol_of, symbol_below}
use Rattle.algebra.specs.Sums.{sum, syndrome}
use Rattle.algebra.proofs.Carrier.{AbstractField}
use Rattle.algebra.proofs.Ring.{pow, pow-zero, pow-suc, add_right_cancel, sub-add}
use Rattle.algebra.proofs.CarrierSums.{total, total_none, total_more, total_ext}
use Rattle.algebra.proofs.CarrierVandermonde.{syn}

abbrev Sym : ℕ → Type 0
Sym q = (u : ℕ) × (u < q)

sym_path : {q : ℕ} (a b : Sym q) → a.0 ≡ b.0 → a ≡ b
sym_path a b p = Σ_prop_path (λ x. le_prop) p

module _ (F : Operations) (L : Laws F) where
  pub zero_below : 0 < F.q
  zero_below = omega (arith, L.one_below)

  -- the numbers below q, each with the proof that it is
  pub field_of : AbstractField
  field_of = record {
    K = Sym F.q;
    ◌⊕◌ = λ a b. (F.add a.0 b.0, L.add_below a.0 b.0);
    ◌⊗◌ = λ a b. (F.mul a.0 b.0, L.mul_below a.0 b.0);
    neg = λ a. (F.sub 0 a.0, L.sub_below 0 a.0);
    inv = λ a. (F.inv a.0, L.inv_below a.0);
    𝟘 = (0, zero_below);
    𝟙 = (1, L.one_below);
    add_comm = λ a b. sym_path _ _ (L.add_comm a.0 b.0 a.1 b.1);
    add_assoc = λ a b c. sym_path _ _ (L.add_assoc a.0 b.0 c.0 a.1 b.1 c.1);
    add-zero = λ a. sym_path _ _ (L.add-zero a.0 a.1);
    add-neg = λ a. sym_path _ _ (L.add_comm a.0 (F.sub 0 a.0) a.1 (L.sub_below 0 a.0) ∙ L.sub-add 0 a.0 zero_below a.1);
    mul_comm = λ a b. sym_path _ _ (L.mul_comm a.0 b.0 a.1 b.1);
    mul_assoc = λ a b c. sym_path _ _ (L.mul_assoc a.0 b.0 c.0 a.1 b.1 c.1);
    mul-one = λ a. sym_path _ _ (L.mul-one a.0 a.1);
    mul-add = λ a b c. sym_path _ _ (L.mul-add a.0 b.0 c.0 a.1 b.1 c.1);
    mul-inv = λ a n. sym_path _ _ (L.mul-inv a.0 a.1 (λ e. n (sym_path _ _ e)));
    zero≢one = λ e. let z : ◌≡◌ {A = ℕ} 0 1 = ap (λ (a : Sym F.q). a.0) e in omega arith;
    equal? = λ a b. elim (ℕ_discrete a.0 b.0) [ yes e ↦ yes (sym_path _ _ e) | no n ↦ no (λ p. n (ap (λ (a : Sym F.q). a.0) p)) ];
  }

  open field_of use {K, ◌⊕◌, ◌⊗◌, neg, inv, 𝟘, 𝟙}

  infixl 65 ◌⊕◌
  infixl 70 ◌⊗◌
  -- the number of a symbol
  pub val : K → ℕ
  unfolding field_of
  val a = a.0

  -- the symbol of a number; one of q or more counts as 0
  pub to : ℕ → K
  unfolding field_of
  to u = (symbol F.q u, symbol_below F.q u zero_below)

  pub val_below : (a : K) → val a < F.q
  unfolding field_of val
  val_below a = a.1

  pub val_injective : (a b : K) → val a ≡ val b → a ≡ b
  unfolding field_of val
  val_injective a b e = sym_path a b e

  pub val-to : (u : ℕ) → u < F.q → val (to u) ≡ u
  unfolding field_of val to
  val-to u h = symbol_of F.q u h

  pub to-val : (a : K) → to (val a) ≡ a
  to-val a = val_injective (to (val a)) a (val-to (val a) (val_below a))

  pub to_injective : (u v : ℕ) → u < F.q → v < F.q → to u ≡ to v → u ≡ v
  to_injective u v hu hv e = sym (val-to u hu) ∙ ap val e ∙ val-to v hv

  -- what `val` makes of each operation

  pub val_zero : val 𝟘 ≡ 0
  unfolding field_of val
  val_zero = refl

  pub val_one : val 𝟙 ≡ 1
  unfolding field_of val
  val_one = refl

  pub val_add : (a b : K) → val (a ⊕ b) ≡ F.add (val a) (val b)
  unfolding field_of val
  val_add a b = refl

  pub val_mul : (a b : K) → val (a ⊗ b) ≡ F.mul (val a) (val b)
  unfolding field_of val
  val_mul a b = refl

  pub val-neg : (a : K) → val (neg a) ≡ F.sub 0 (val a)
  unfolding field_of val
  val-neg a = refl

  pub val-inv : (a : K) → val (inv a) ≡ F.inv (val a)
  unfolding field_of val
  val-inv a = refl

  pub val-pow : (a : K) (e : ℕ) → val (pow field_of a e) ≡ power F (val a) e
  unfolding power
  val-pow a zero = ap val (pow-zero field_of a) ∙ val_one
  val-pow a (suc e) = ap val (pow-suc field_of a e) ∙ val_mul a (pow field_of a e) ∙ ap (λ t. F.mul (val a) t) (val-pow a e)

  pub val-total : (n : ℕ) (f : ℕ → K) → val (total field_of n f) ≡ sum F n (λ j. val (f j))
  unfolding sum
  val-total zero f = ap val (total_none field_of f) ∙ val_zero
  val-total (suc n) f =
      ap val (total_more field_of n f) ∙ val_add (total field_of n f) (f n) ∙ ap (λ t. F.add t (val (f n))) (val-total n f)

  -- what `to` makes of each operation, at any numbers

  pub to-zero : to 0 ≡ 𝟘
  to-zero = val_injective (to 0) 𝟘 (val-to 0 zero_below ∙ sym val_zero)

  pub to_one : to 1 ≡ 𝟙
  to_one = val_injective (to 1) 𝟙 (val-to 1 L.one_below ∙ sym val_one)

  val_symbol : (u : ℕ) → val (to u) ≡ symbol F.q u
  unfolding field_of val to
  val_symbol u = refl

  pub to-add : (u v : ℕ) → to (F.add u v) ≡ to u ⊕ to v
  to-add u v =
      val_injective (to (F.add u v)) (to u ⊕ to v)
      (val-to (F.add u v) (L.add_below u v) ∙ L.add_operands u v ∙ sym (val_add (to u) (to v) ∙ ap₂ F.add (val_symbol u) (val_symbol v)))

  pub to-mul : (u v : ℕ) → to (F.mul u v) ≡ to u ⊗ to v
  to-mul u v =
      val_injective (to (F.mul u v)) (to u ⊗ to v)
      (val-to (F.mul u v) (L.mul_below u v) ∙ L.mul_operands u v ∙ sym (val_mul (to u) (to v) ∙ ap₂ F.mul (val_symbol u) (val_symbol v)))

  pub to_inv : (u : ℕ) → to (F.inv u) ≡ inv (to u)
  to_inv u = grind (arith, common_steps, to, val-inv, val-to, val_injective, val_symbol)

  to-symbol : (u : ℕ) → to (symbol F.q u) ≡ to u
  to-symbol u =
      val_injective (to (symbol F.q u)) (to u) (val-to (symbol F.q u) (symbol_below F.q u zero_below) ∙ sym (val_symbol u))

  -- the difference is what gives u with v added to it
  pub to-sub : (u v : ℕ) → to (F.sub u v) ≡ to u ⊕ neg (to v)
  to-sub u v = ap to (L.sub_operands u v) ∙ add_right_cancel field_of (to (F.sub s t)) (to u ⊕ neg (to v)) (to v) restored
    where
      s : ℕ
      s = symbol F.q u

      t : ℕ
      t = symbol F.q v

      restored : to (F.sub s t) ⊕ to v ≡ to u ⊕ neg (to v) ⊕ to v
      restored =
          ap (λ x. to (F.sub s t) ⊕ x) (sym (to-symbol v))
          ∙ sym (to-add (F.sub s t) t)
          ∙ ap to (L.sub-add s t (symbol_below F.q u zero_below) (symbol_below F.q v zero_below))
          ∙ to-symbol u
          ∙ sym (sub-add field_of (to u) (to v))

  pub to-power : (u e : ℕ) → to (power F u e) ≡ pow field_of (to u) e
  unfolding power
  to-power u zero = to_one ∙ sym (pow-zero field_of (to u))
  to-power u (suc e) = to-mul u (power F u e) ∙ ap (λ t. to u ⊗ t) (to-power u e) ∙ sym (pow-suc field_of (to u) e)

  pub to-sum : (n : ℕ) (f : ℕ → ℕ) → to (sum F n f) ≡ total field_of n (λ j. to (f j))
  unfolding sum
  to-sum zero f = to-zero ∙ sym (total_none field_of (λ j. to (f j)))
  to-sum (suc n) f =
      to-add (sum F n f) (f n) ∙ ap (λ t. t ⊕ to (f n)) (to-sum n f) ∙ sym (total_more field_of n (λ j. to (f j)))

  pub to-syndrome : (n : ℕ) (z y : ℕ → ℕ) (i : ℕ)
      → to (syndrome F n z y i) ≡ syn field_of n (λ v. to (z v)) (λ v. to (y v)) i
  unfolding syn
  to-syndrome n z y i = grind (arith, common_steps, field_of, pow, to, to-mul, to-power, to-sum, total_ext)

  pub val-syn : (n : ℕ) (z y : ℕ → K) (i : ℕ)
      → val (syn field_of n z y i) ≡ syndrome F n (λ v. val (z v)) (λ v. val (y v)) i
  unfolding syn
  val-syn n z y i = val-total n (λ v. pow field_of (z v) i ⊗ y v) ∙ ap (sum F n) (fun_ext (λ v. val_mul (pow field_of (z v) i) (y v) ∙ ap (λ t. F.mul t (val (y v))) (val-pow (z v) i)))

  -- for `simp`: all that moves `to` inward
  pub ruleset inward = (to-zero, to_one, to-add, to-sub, to-mul, to_inv, to-power, to-sum)
