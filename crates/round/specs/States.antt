-- What each state of a round stands for, and what giving and taking answer.
use Rattle.std.specs.Prelude.{◌≡◌, ℕ, ◌+◌, ◌-◌, ◌*◌, ◌<◌, ◌≤◌, List, [], ◌∷◌, ◌++◌, length}
use Rattle.std.specs.Prelude.{Some, None, Ok, Err, Result, slice_index}
use Rattle.field.specs.Laws.{Operations}
use Rattle.code.specs.declared.record.Code.{Code}
use Rattle.code.specs.declared.refusal.Refusal.{Refusal}
use Rattle.code.specs.declared.refusal.Refusal.TheVariants.{Outside, Symbol}
use Rattle.code.specs.Stripe.{width}
use Rattle.round.specs.Wanted.{made, rebuilt, whole, α_power}
use Rattle.round.specs.declared.state.Wanting.{Wanting}
use Rattle.round.specs.declared.state.Holding.{Holding}
use Rattle.round.specs.declared.state.Over.{Over}
use Rattle.round.specs.declared.state.Given.{Given}
use Rattle.round.specs.declared.state.Given.TheVariants as given
use Rattle.round.specs.declared.state.Taken.{Taken}
use Rattle.round.specs.declared.state.Taken.TheVariants as taken
use Rattle.round.specs.declared.state.Declined.{Declined}

-- how many symbols a round was given: m for each finished column, and those for the present one
abbrev pub given_wanting : {X : Type 0} → Wanting X → ℕ
given_wanting w = w.column * w.code.m + w.place

abbrev pub given_holding : {X : Type 0} → Holding X → ℕ
given_holding h = (h.column + 1) * h.code.m

abbrev pub given_over : {X : Type 0} → Over X → ℕ
given_over o = whole o.code

-- the symbols given for column c, where these were given in all
abbrev pub of_column : Code → List ℕ → ℕ → ℕ → ℕ
of_column code symbols c s = slice_index symbols (c * code.m + s)

-- each of these is a symbol of the field
abbrev pub AllSymbols : Operations → List ℕ → Type 0
AllSymbols F symbols = (p : ℕ) → p < length symbols → slice_index symbols p < F.q

-- w is the round for node f of the code that was given these symbols and wants another.
pub record Wants {X : Type 0} (F : Operations) (code : Code) (f : ℕ) (symbols : List ℕ)
    (w : Wanting X) : Type 0 where
  pub code_is : w.code ≡ code
  pub node_is : w.node ≡ f
  pub count : given_wanting w ≡ length symbols
  pub accepted : AllSymbols F symbols
  pub none_yet : w.place ≡ 0 → w.made ≡ None
  pub so_far : 0 < w.place → w.made ≡ Some (made F code w.column w.place (of_column code symbols w.column))
  pub factor : w.weight ≡ α_power F ((w.column - code.m) * w.place)

-- h is the round for node f of the code that was given these symbols and has finished one of its own.
pub record Holds {X : Type 0} (F : Operations) (code : Code) (f : ℕ) (symbols : List ℕ)
    (h : Holding X) : Type 0 where
  pub code_is : h.code ≡ code
  pub node_is : h.node ≡ f
  pub count : given_holding h ≡ length symbols
  pub accepted : AllSymbols F symbols
  pub finished : h.made ≡ rebuilt F code h.column (of_column code symbols h.column)

-- o is the round for node f of the code that was given these symbols, m·(m + a) of them, and is over.
pub record Ends {X : Type 0} (F : Operations) (code : Code) (f : ℕ) (symbols : List ℕ)
    (o : Over X) : Type 0 where
  pub code_is : o.code ≡ code
  pub node_is : o.node ≡ f
  pub count : length symbols ≡ whole code
  pub accepted : AllSymbols F symbols

-- Beginning: a node of the code gets a round that was given nothing, any other refusal 5.
abbrev pub Begun : {X : Type 0} → Operations → Code → ℕ → Result (Wanting X) Refusal → Type 0
Begun F code f (Ok w) = (f < code.n) × Wants F code f [] w
Begun F code f (Err e) = (code.n ≤ f) × (e ≡ Outside)

-- Giving v made the Wanting round w the Wanting round w': v is a symbol of the field and not the last one for
-- the column, and w' was given v after all that w was given.
pub record GoesOn {X : Type 0} (F : Operations) (w : Wanting X) (v : ℕ) (w' : Wanting X) : Type 0 where
  pub symbol : v < F.q
  pub more : w.place + 1 < w.code.m
  pub code_kept : w'.code ≡ w.code
  pub node_kept : w'.node ≡ w.node
  pub column_kept : w'.column ≡ w.column
  pub counted : given_wanting w' ≡ given_wanting w + 1
  pub given_too : (code : Code) (f : ℕ) (symbols : List ℕ)
      → Wants F code f symbols w → Wants F code f (symbols ++ v ∷ []) w'

-- Giving v made the Wanting round w the Holding round h: v is a symbol of the field and the last one for the
-- column, and h was given v after all that w was given.
pub record Finishes {X : Type 0} (F : Operations) (w : Wanting X) (v : ℕ) (h : Holding X) : Type 0 where
  pub symbol : v < F.q
  pub last : w.place + 1 ≡ w.code.m
  pub code_kept : h.code ≡ w.code
  pub node_kept : h.node ≡ w.node
  pub column_kept : h.column ≡ w.column
  pub counted : given_holding h ≡ given_wanting w + 1
  pub given_too : (code : Code) (f : ℕ) (symbols : List ℕ)
      → Wants F code f symbols w → Holds F code f (symbols ++ v ∷ []) h

-- v was declined: it is no symbol of the field, the refusal is 6, and the round is as it was.
pub record Declines {X : Type 0} (F : Operations) (w : Wanting X) (v : ℕ) (d : Declined X) : Type 0 where
  pub no_symbol : F.q ≤ v
  pub why : d.refusal ≡ Symbol
  pub same : d.round ≡ w

-- what giving v answers
abbrev pub Gives : {X : Type 0} → Operations → Wanting X → ℕ → Result (Given X) (Declined X) → Type 0
Gives F w v (Ok (given.Wanting w')) = GoesOn F w v w'
Gives F w v (Ok (given.Holding h)) = Finishes F w v h
Gives F w v (Err d) = Declines F w v d

-- Taking v from the Holding round h made it the Wanting round w, for the next column. Nothing is given by
-- taking.
pub record NextColumn {X : Type 0} (F : Operations) (h : Holding X) (v : ℕ) (w : Wanting X) : Type 0 where
  pub symbol : v ≡ h.made
  pub more : h.column + 1 < width h.code
  pub code_kept : w.code ≡ h.code
  pub node_kept : w.node ≡ h.node
  pub column : w.column ≡ h.column + 1
  pub counted : given_wanting w ≡ given_holding h
  pub given_same : (code : Code) (f : ℕ) (symbols : List ℕ)
      → Holds F code f symbols h → Wants F code f symbols w

-- Taking v from the Holding round h, whose column is the last, ended it.
pub record LastColumn {X : Type 0} (F : Operations) (h : Holding X) (v : ℕ) (o : Over X) : Type 0 where
  pub symbol : v ≡ h.made
  pub last : h.column + 1 ≡ width h.code
  pub code_kept : o.code ≡ h.code
  pub node_kept : o.node ≡ h.node
  pub counted : given_over o ≡ given_holding h
  pub given_same : (code : Code) (f : ℕ) (symbols : List ℕ)
      → Holds F code f symbols h → Ends F code f symbols o

-- what taking answers: the symbol, and what the round became
abbrev pub Takes : {X : Type 0} → Operations → Holding X → ℕ × Taken X → Type 0
Takes F h (v, taken.Wanting w) = NextColumn F h v w
Takes F h (v, taken.Over o) = LastColumn F h v o
