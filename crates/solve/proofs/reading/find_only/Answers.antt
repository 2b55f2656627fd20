use Rattle.std.proofs.Common.{rules, ◌≡◌, ℕ, ◌*◌, ◌<◌, Some, None, sym, ap, ◌∙◌, subst, slice_index, arith}
use Rattle.solve.specs.Systems.{entry}
use Rattle.solve.specs.Decisions.{Lone, OnlyFront}
use Rattle.solve.proofs.Deciding.{all_lone_only, some_open}
use Rattle.solve.proofs.reading.find_only.Goals as goal

pub returns-then-not-all_lone-clause-decided : goal.returns-then-not-all_lone-clause-decided
returns-then-not-all_lone-clause-decided g c =
    let n = c.solve.ensures.size ∙ c.new-equations.ensures.size ∙ c.file_length.ensures in
    let w = c.solve.new.equations.numbers.now in
    let S = c.in_ok-solve.ensures.built in
    let one : (p : ℕ) × (p < c.args.code.now.k * c.args.code.now.m) × Lone (c.args.code.now.k * c.args.code.now.m) (entry (c.args.code.now.k * c.args.code.now.m) c.solve.new.equations.numbers.now) p None =
    subst (λ t. (p : ℕ) × (p < t) × Lone t (entry t w) p None) n c.if-not-all_lone.ensures in
    (S.proper, some_open g.F.Field.ops g.met.F.Field.laws c.args.code.now (g.S.Store.meaning c.args.store.now).cell w S one.0 one.1 one.2)

pub returns-clause-decided : goal.returns-clause-decided
returns-clause-decided g c =
    let n = c.solve.ensures.size ∙ c.new-equations.ensures.size ∙ c.file_length.ensures in
    let w = c.solve.new.equations.numbers.now in
    let S = c.in_ok-solve.ensures.built in
    let after = c.clear_from.new.numbers in
    let back : c.keep.new.self.0 ≡ c.clear_from.new.numbers = c.keep.ensures ∙ search rules in
    let moved : (p : ℕ) → p < c.args.code.now.k * c.args.code.now.m → slice_index c.move_right_sides.new.self.numbers.now p ≡ entry (c.args.code.now.k * c.args.code.now.m) c.solve.new.equations.numbers.now p (c.args.code.now.k * c.args.code.now.m) =
    subst (λ t. (p : ℕ) → p < t → slice_index c.move_right_sides.new.self.numbers.now p ≡ entry t w p t) n c.move_right_sides.ensures.moved in
    let held = (g.S.Store.meaning c.args.store.now).cell in (
      S.proper,
      c.file_length-3.ensures,
      subst (OnlyFront g.F.Field.ops c.args.code.now held) (sym back) (all_lone_only g.F.Field.ops g.met.F.Field.laws c.args.code.now held w S after
          (subst (λ t. (p : ℕ) → p < t → Lone t (entry t w) p (Some (entry t w p t))) n c.if-not-all_lone.ensures)
          (λ p l. c.clear_from.ensures.kept p (omega (arith, c.file_length-2.ensures)) ∙ ap (λ t. slice_index t p) (search rules) ∙ moved p l)
          (λ p l. c.clear_from.ensures.zeros p (omega (arith, c.file_length-2.ensures)))),
    )
