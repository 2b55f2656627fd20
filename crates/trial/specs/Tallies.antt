-- How a tally is printed.
use Rattle.std.specs.Prelude.{ℕ, List, ◌++◌, codes, decimal}

-- so many values compared, and so many of them different
abbrev pub tally_text : ℕ → ℕ → List ℕ
tally_text compared differing = decimal compared ++ (codes " compared, " ++ (decimal differing ++ codes " differ"))
