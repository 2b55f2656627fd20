-- The rows before the one found were tried, and their right side is 0.
use Rattle.std.proofs.Common.{rules, ◌≡◌, ◌≢◌, ℕ, refl}
use borrow.Author.Tests.{tests}
use Rattle.std.proofs.lemmas.Iterator.{first_from_find, YieldsList-from_range}
use Rattle.trial.specs.Rows.{entry}
use Rattle.trial.proofs.Chains.{found_between, only_found}
use Rattle.trial.proofs.elimination.Solved.contradiction.Goals as goal

pub returns : goal.returns
returns c =
    let n : ℕ = c.args.self.now.unknowns in
    let yes : ℕ → Type 0 = λ row. entry n c.args.self.now.numbers.now row n ≢ 0 in
    let no : ℕ → Type 0 = λ row. entry n c.args.self.now.numbers.now row n ≡ 0 in
    let end : ℕ = c.args.self.now.count in
    only_found yes end _ c.find.result (found_between yes no c.args.self.now.rank end c.find.result
    (first_from_find _ _ c.find.result yes no c.find.ensures.ran (YieldsList-from_range c.args.self.now.rank end _ refl refl)
    (λ x q k. search (rules, tests)) (λ x q k. search (rules, tests))))
