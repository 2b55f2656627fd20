use Rattle.std.proofs.Common.{◌≡◌, ℕ, ◌+◌, ◌-◌, ◌*◌, ◌<◌, get_or, sym, ap, ◌∙◌, inl, inr, arith}
use Rattle.std.proofs.lemmas.Bool.{cases_lt}
use Rattle.std.proofs.lemmas.Nat.{mul-add-lt}
use Rattle.field.specs.Laws.{power}
use Rattle.algebra.proofs.Numbers as numbers
use Rattle.encode.specs.Scratch.{in_columns}
use Rattle.encode.proofs.PointParts.{column_sum_zero}
use Rattle.encode.proofs.columns.complete.Goals as goal

pub returns : goal.returns
returns g c =
    let F = g.F.Field.ops in
    let L = g.met.F.Field.laws in
    let n = c.args.code.now.n in
    let k = c.args.code.now.k in
    let m = c.args.code.now.m in
    let placed = c.place_file.new.columns in
    let x = c.solve_all.new.columns in
    let same : (j t : ℕ) → j < c.args.code.now.k → in_columns c.solve_all.new.columns j t ≡ in_columns c.place_file.new.columns j t =
    λ j t l. c.solve_all.ensures.kept j t l ∙ c.all_targets.ensures.kept j t l in
    let starts : (j t : ℕ) → j < c.args.code.now.k → t < c.args.code.now.m → in_columns c.solve_all.new.columns j t ≡ get_or c.args.file.now (j * c.args.code.now.m + t) 0 =
    λ j t l h. same j t l ∙ c.place_file.ensures j t l h in
    record {
      starts = starts;
      symbols = λ j t hj ht.
          elim (cases_lt j c.args.code.now.k) [
            | inl l ↦
                let low : j * c.args.code.now.m + t < c.args.code.now.m * c.args.code.now.k = mul-add-lt j m t k l ht in
                rw (starts j t l ht) (c.requires.symbols (j * m + t) (omega (arith, c.requires.long)))
            | inr l ↦
                let e : c.args.code.now.k + (j - c.args.code.now.k) ≡ j = omega arith in
                rw e at (c.solve_all.ensures.below (j - k) t (omega arith) ht)
          ];
      columns = λ t i ht hi.
          column_sum_zero F L n k i (λ j. in_columns x j t) (omega arith)
          (c.solve_all.ensures.reached i t hi ht
          ∙ c.all_targets.ensures.made i t hi ht
          ∙ ap (F.sub 0)
          (numbers.sum_ext F L k (λ j. F.mul (power F F.α (i * j)) (in_columns placed j t)) (λ j. F.mul (power F F.α (i * j)) (in_columns x j t))
          (λ j l. ap (F.mul (power F F.α (i * j))) (sym (same j t l)))));
    }
