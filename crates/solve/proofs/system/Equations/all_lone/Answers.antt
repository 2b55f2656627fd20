use Rattle.std.proofs.Common.{rules, ℕ, Some, None, refl}
use borrow.Author.Tests.{tests}
use Rattle.std.proofs.lemmas.Iterator.{cases_from_all, YieldsList-from_range}
use Rattle.solve.proofs.Chains.{all_of_range}
use Rattle.solve.specs.Systems.{entry}
use Rattle.solve.specs.Decisions.{Lone}
use Rattle.solve.proofs.system.Equations.all_lone.Goals as goal

pub returns : goal.returns
returns c =
    let A = entry c.args.self.now.n c.args.self.now.numbers.now in
    let yes : ℕ → Type 0 = λ p. Lone c.args.self.now.n A p (Some (A p c.args.self.now.n)) in
    let no : ℕ → Type 0 = λ p. Lone c.args.self.now.n A p None in
    all_of_range yes no c.args.self.now.n c.all.result
    (cases_from_all _ _ c.all.result yes no c.all.ensures.ran (YieldsList-from_range 0 c.args.self.now.n _ refl refl)
    (λ x q k. search (rules, tests)) (λ x q k. search (rules, tests)))
