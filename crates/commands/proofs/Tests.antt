-- The test whether commands are on cells inside.
use Rattle.std.proofs.Common.{◌≡◌, ℕ, true, List, [], ◌∷◌, refl, arith}
use Rattle.std.proofs.lemmas.Bool.Decides.{nat_tests}
use Rattle.std.specs.List.{AllByRecursion}
use Rattle.commands.specs.declared.command.Command.{Command}
use Rattle.commands.specs.declared.command.Command.TheVariants.{Write, Lose}
use Rattle.commands.specs.Commands.{Inside, is_inside, all_inside}

inside_from : (nodes columns : ℕ) (x : Command) → is_inside nodes columns x ≡ true → Inside nodes columns x
inside_from nodes columns (Write i d s) h = (grind (arith, nat_tests), grind (arith, nat_tests), grind (arith, nat_tests))
inside_from nodes columns (Lose i d) h = (grind (arith, nat_tests), grind (arith, nat_tests), tt)

pub inside_test : (nodes columns : ℕ) (x : Command) → Inside nodes columns x → is_inside nodes columns x ≡ true
inside_test nodes columns (Write i d s) h = let a = h.0 in let b = h.1 in let e = h.2 in grind (arith, nat_tests)
inside_test nodes columns (Lose i d) h = let a = h.0 in let b = h.1 in grind (arith, nat_tests)

pub all_from : (nodes columns : ℕ) (xs : List Command) → all_inside nodes columns xs ≡ true → AllByRecursion (Inside nodes columns) xs
all_from nodes columns [] h = tt
all_from nodes columns (x ∷ xs) h =
    (inside_from nodes columns x (grind (arith, nat_tests)), all_from nodes columns xs (grind (arith, nat_tests)))

pub all_test : (nodes columns : ℕ) (xs : List Command) → AllByRecursion (Inside nodes columns) xs → all_inside nodes columns xs ≡ true
all_test nodes columns [] h = refl
all_test nodes columns (x ∷ xs) h =
    let a = inside_test nodes columns x h.0 in let b = all_test nodes columns xs h.1 in grind (arith, nat_tests)
