-- From the data columns to the stripe, and what is known where nothing is refused.
use Rattle.std.proofs.Common.{◌≡◌, ℕ, ◌+◌, ◌-◌, ◌*◌, ◌<◌, ◌≤◌, List, length, get_or, None, sym, ap, ◌∙◌, inl, inr, arith}
use native.Mathlib.Nat.{add-sub_cancel_left}
use Rattle.std.proofs.lemmas.Bool.{cases_eq, cases_lt, cond_below, cond_above}
use Rattle.field.specs.Laws.{Operations, Laws, power}
use Rattle.algebra.specs.Sums.{sum}
use Rattle.algebra.proofs.Numbers as numbers
use Rattle.code.specs.declared.record.Code.{Code}
use Rattle.code.specs.declared.refusal.Refusal.TheVariants.{Shape, Length, Symbol}
use Rattle.code.specs.Refusals.{Least}
use Rattle.code.specs.Positions.{ahead, behind}
use Rattle.code.specs.Stripe.{Symbols, IsFile, StripeOf, width}
use Rattle.code.proofs.CountedRound.{ahead_below, behind-ahead, behind_below}
use Rattle.encode.specs.Encoding.{Declined, cell_count}
use Rattle.encode.specs.Rules.{group_sum}
use Rattle.encode.specs.Scratch.{DataColumns, cell_of}

-- where nothing is refused, the file is a file of the code
pub accepted_file : (F : Operations) (code : Code) (file : List ℕ) (room : ℕ) → Least (Declined F code file room) None → IsFile F code file
accepted_file F code file room none = record {
  long = elim (cases_eq (length file) (code.k * code.m)) [ inl e ↦ e | inr ne ↦ absurd (none Length ne) ];
  symbols = λ p h. elim (cases_lt (get_or file p 0) F.q) [ inl l ↦ l | inr high ↦ absurd (none Symbol (p, h, high)) ];
}

-- and the memory has room for all cells
pub accepted_room : (F : Operations) (code : Code) (file : List ℕ) (room : ℕ) → Least (Declined F code file room) None → cell_count code ≤ room
accepted_room F code file room none = elim (cases_lt room (cell_count code)) [ inl l ↦ absurd (none Shape l) | inr high ↦ high ]

-- the two kinds of cells
pub cell_data : (F : Operations) (code : Code) (x : Symbols) (v c : ℕ) → c < code.m → cell_of F code x v c ≡ x v c
unfolding cell_of
cell_data F code x v c l = sym (cond_below c code.m (x v c) (group_sum F code x (behind code.n v (c - code.m)) (c - code.m)) l)

pub cell_coded : (F : Operations) (code : Code) (x : Symbols) (v i : ℕ) → cell_of F code x v (code.m + i) ≡ group_sum F code x (behind code.n v i) i
unfolding cell_of
cell_coded F code x v i =
    let sums : ℕ → ℕ = λ i. group_sum F code x (behind code.n v i) i in
    sym (cond_above (code.m + i) code.m (x v (code.m + i)) (sums (code.m + i - code.m)) (sums i) (omega arith) (ap sums (sym (add-sub_cancel_left code.m i))))

-- the cells that follow from the data columns of a file are its stripe
pub stripe_of : (F : Operations) → Laws F → (code : Code) (file : List ℕ) (x y : Symbols) → DataColumns F code file x
    → ((v c : ℕ) → v < code.n → c < width code → y v c ≡ cell_of F code x v c) → StripeOf F code file y
stripe_of F L code file x y whole made = record { starts = starts; symbols = symbols; columns = columns; groups = groups }
  where
    pos : 0 < code.n
    pos = omega arith

    plain : (v t : ℕ) → v < code.n → t < code.m → y v t ≡ x v t
    plain v t hv ht = made v t hv (omega arith) ∙ cell_data F code x v t ht

    sums : (v i : ℕ) → v < code.n → i < code.a → y v (code.m + i) ≡ group_sum F code x (behind code.n v i) i
    sums v i hv hi = made v (code.m + i) hv (omega arith) ∙ cell_coded F code x v i

    starts : (j t : ℕ) → j < code.k → t < code.m → y j t ≡ get_or file (j * code.m + t) 0
    starts j t hj ht = plain j t (omega arith) ht ∙ whole.starts j t hj ht

    symbols : (j c : ℕ) → j < code.n → c < width code → y j c < F.q
    symbols j c hj hc =
        elim (cases_lt c code.m) [
          | inl l ↦ rw (plain j c hj l) (whole.symbols j c hj l)
          | inr h ↦
              let e : code.m + (c - code.m) ≡ c = omega arith in
              let s : y j (code.m + (c - code.m)) < F.q =
              rw (sums j (c - code.m) hj (omega arith)) (numbers.sum_below F L code.m (λ t. F.mul (power F F.α ((c - code.m) * t)) (x (behind code.n (behind code.n j (c - code.m)) (t + 1)) t))) in
              rw e at s
        ]

    columns : (t i : ℕ) → t < code.m → i < code.n - code.k → sum F code.n (λ j. F.mul (power F F.α (i * j)) (y j t)) ≡ 0
    columns t i ht hi =
        numbers.sum_ext F L code.n (λ j. F.mul (power F F.α (i * j)) (y j t)) (λ j. F.mul (power F F.α (i * j)) (x j t))
        (λ j l. ap (F.mul (power F F.α (i * j))) (plain j t l ht))
        ∙ whole.columns t i ht hi

    groups : (j i : ℕ) → j < code.n → i < code.a
        → y (ahead code.n j i) (code.m + i) ≡ sum F code.m (λ t. F.mul (power F F.α (i * t)) (y (behind code.n j (t + 1)) t))
    groups j i hj hi =
        sums (ahead code.n j i) i (ahead_below code.n j i pos) hi
        ∙ ap (λ v. group_sum F code x v i) (behind-ahead code.n j i hj)
        ∙ numbers.sum_ext F L code.m
        (λ t. F.mul (power F F.α (i * t)) (x (behind code.n j (t + 1)) t))
        (λ t. F.mul (power F F.α (i * t)) (y (behind code.n j (t + 1)) t))
        (λ t l. ap (F.mul (power F F.α (i * t))) (sym (plain (behind code.n j (t + 1)) t (behind_below code.n j (t + 1) pos) l)))
