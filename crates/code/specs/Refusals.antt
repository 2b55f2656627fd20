-- The number of each refusal, and the cell that it names.
use Rattle.std.specs.Prelude.{ℕ, ◌≤◌, Some, None, Option, List, ◌++◌, codes, decimal}
use Rattle.code.specs.declared.refusal.Refusal.{Refusal}
use Rattle.code.specs.declared.refusal.Refusal.TheVariants.{Bounds, Shape, Length, Work, Outside, Symbol}
use Rattle.code.specs.declared.refusal.Refusal.TheVariants.{Foreign, Lost, Contradiction, Ambiguous, Allowance}

-- the number by which a caller knows a refusal
abbrev pub number : Refusal → ℕ
number Bounds = 1
number Shape = 2
number Length = 3
number Work = 4
number Outside = 5
number Symbol = 6
number (Foreign node column) = 7
number (Lost node column) = 8
number Contradiction = 9
number Ambiguous = 10
number Allowance = 11

-- the cell that a refusal names, (node, column): only 7 and 8 have one
abbrev pub place : Refusal → Option (ℕ × ℕ)
place Bounds = None
place Shape = None
place Length = None
place Work = None
place Outside = None
place Symbol = None
place (Foreign node column) = Some (node, column)
place (Lost node column) = Some (node, column)
place Contradiction = None
place Ambiguous = None
place Allowance = None

-- the text that says what is wrong, with the cell where the refusal names one
abbrev pub text : Refusal → List ℕ
text Bounds = codes "the four numbers are out of a code's bounds"
text Shape = codes "the store has not the code's nodes and columns"
text Length = codes "the file has not the code's length"
text Work = codes "the work memory is too short"
text Outside = codes "a node, a row or a column is outside"
text Symbol = codes "a number given is no symbol of the field"
text (Foreign node column) = codes "node "
    ++ (decimal node ++ (codes ", column " ++ (decimal column ++ codes " holds no symbol of the field")))
text (Lost node column) = codes "node " ++ (decimal node ++ (codes ", column " ++ (decimal column ++ codes " is lost")))
text Contradiction = codes "no file fits"
text Ambiguous = codes "two fitting files differ"
text Allowance = codes "the allowance is too small"

-- What is answered where several refusals may hold: none exactly if none holds, and otherwise one that
-- holds and whose number is the smallest.
abbrev pub Least : (Refusal → Type 0) → Option Refusal → Type 0
Least Holds None = (e : Refusal) → Holds e → ⊥
Least Holds (Some e) = Holds e × ((f : Refusal) → Holds f → number e ≤ number f)
