-- A number as an operand: itself below q, and always below q.
use Rattle.std.specs.Prelude.{◌≡◌, ℕ, ◌<◌, cond, nat_lt}
use Rattle.std.proofs.Common.{sym, ap, ◌∙◌}
use Rattle.std.proofs.lemmas.Bool.{lt-ltb, cond_both, ltb-true}
use Rattle.field.specs.Laws.{symbol}

pub symbol_of : (q u : ℕ) → u < q → symbol q u ≡ u
symbol_of q u h = ap (λ b. cond b u 0) (lt-ltb u q h)

pub symbol_below : (q u : ℕ) → 0 < q → symbol q u < q
symbol_below q u p = cond_both (nat_lt u q) u 0 (λ n. n < q) (ltb-true u q) (λ _. p)

-- Where an operation sees only the symbols of its operands, an operand may be replaced by its symbol.
pub left_operand : (q : ℕ) (op : ℕ → ℕ → ℕ) → 0 < q → ((u v : ℕ) → op u v ≡ op (symbol q u) (symbol q v))
    → (u v : ℕ) → op u v ≡ op (symbol q u) v
left_operand q op p operands u v =
    operands u v
    ∙ ap (λ (x : ℕ). op x (symbol q v)) (sym (symbol_of q (symbol q u) (symbol_below q u p)))
    ∙ sym (operands (symbol q u) v)

pub right_operand : (q : ℕ) (op : ℕ → ℕ → ℕ) → 0 < q → ((u v : ℕ) → op u v ≡ op (symbol q u) (symbol q v))
    → (u v : ℕ) → op u v ≡ op u (symbol q v)
right_operand q op p operands u v =
    operands u v
    ∙ ap (op (symbol q u)) (sym (symbol_of q (symbol q v) (symbol_below q v p)))
    ∙ sym (operands u (symbol q v))
