-- The latest command on a cell, found in a walk from the front.
use Rattle.std.proofs.Common.{◌≡◌, ℕ, Bool, true, false, cond, List, [], ◌∷◌, Some, None, Option, refl, ◌∙◌}
use Rattle.std.specs.List.{fold}
use Rattle.commands.specs.declared.command.Command.{Command}
use Rattle.commands.specs.Commands.{value_of, is_on, later, latest, left_by}

left_later : (y : Option Command) (b : Bool) (x : Command) (v : Option ℕ)
    → left_by y (cond b (value_of x) v) ≡ left_by (later y (cond b (Some x) None)) v
left_later (Some y) b x v = refl
left_later None true x v = refl
left_later None false x v = refl

-- each command on the cell stands over what the earlier ones left
pub fold_latest : (xs : List Command) (j c : ℕ) (v : Option ℕ)
    → fold (λ v x. cond (is_on x j c) (value_of x) v) v xs ≡ left_by (latest xs j c) v
fold_latest [] j c v = refl
fold_latest (x ∷ xs) j c v = fold_latest xs j c (cond (is_on x j c) (value_of x) v) ∙ left_later (latest xs j c) (is_on x j c) x v
