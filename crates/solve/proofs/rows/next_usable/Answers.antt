use Rattle.std.proofs.Common.{rules, ◌≡◌, ℕ, ◌+◌, ◌-◌, ◌*◌, slice_index, ◌≢◌, refl}
use borrow.Author.Tests.{tests}
use Rattle.std.proofs.lemmas.Iterator.{first_from_find, YieldsList-from_range}
use Rattle.solve.proofs.Chains.{first_of_range}
use Rattle.solve.proofs.rows.next_usable.Goals as goal

pub returns : goal.returns
returns c =
    let at : ℕ → ℕ = λ s. slice_index c.args.work.now (s * c.args.width + c.args.symbol) in
    let yes : ℕ → Type 0 = λ s. at s ≢ 0 in
    let no : ℕ → Type 0 = λ s. at s ≡ 0 in
    first_of_range yes no c.args.from (c.args.width - 1) c.find.result
    (first_from_find _ _ c.find.result yes no c.find.ensures.ran (YieldsList-from_range c.args.from (c.args.width - 1) _ refl refl)
    (λ x q k. search (rules, tests)) (λ x q k. search (rules, tests)))
