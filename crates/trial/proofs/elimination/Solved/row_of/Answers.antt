-- The rows before the one found were tried, and the unknown is not alone in them.
use Rattle.std.proofs.Common.{rules, ℕ, refl}
use borrow.Author.Tests.{tests}
use Rattle.std.proofs.lemmas.Iterator.{first_from_find, YieldsList-from_range}
use Rattle.trial.specs.Rows.{Alone}
use Rattle.trial.proofs.Chains.{found_below, found_between}
use Rattle.trial.proofs.elimination.Solved.row_of.Goals as goal

pub returns : goal.returns
returns c =
    let yes : ℕ → Type 0 = λ row. Alone c.args.self.now.unknowns c.args.self.now.numbers.now row c.args.p in
    let no : ℕ → Type 0 = λ row. yes row → ⊥ in
    let rank : ℕ = c.args.self.now.rank in
    found_below yes no rank c.find.result (found_between yes no 0 rank c.find.result
    (first_from_find _ _ c.find.result yes no c.find.ensures.ran (YieldsList-from_range 0 rank _ refl refl)
    (λ x q k. search (rules, tests)) (λ x q k. search (rules, tests))))
