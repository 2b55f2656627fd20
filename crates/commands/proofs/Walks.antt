-- A walk over the commands of a card, and where it ends.
use Rattle.std.proofs.Common.{◌≡◌, ℕ, ◌+◌, ◌-◌, ◌<◌, ◌≤◌, List, [], ◌∷◌, ◌++◌, length, get_or, take, Err, sym, ap, ◌∙◌, subst, inl, inr, append_assoc, arith, length-append}
use Rattle.std.proofs.lemmas.List.{flat_map_more, length_push}
use Rattle.std.specs.List.{AllByRecursion}
use Rattle.commands.specs.declared.command.Command.{Command}
use Rattle.commands.specs.declared.command.Command.TheVariants.{Write, Lose}
use Rattle.commands.specs.declared.command.CardFault.{CardFault}
use Rattle.commands.specs.declared.command.CardFault.TheVariants.{Letter, Short, Outside}
use Rattle.commands.specs.Commands.{bytes_of, all_bytes, commands_in, Inside, Holds}
use Rattle.commands.specs.Faults.{Faulty, place, Begins, Checked}
use Rattle.commands.proofs.Reading.{command_same, reads_back, Stuck, longest}

-- Walked over `count` commands on cells inside, the bytes `rest` are left.
pub record Walked (nodes columns : ℕ) (bytes : List ℕ) (count : ℕ) (rest : List ℕ) : Type 0 where
  pub commands : List Command
  pub front : bytes ≡ all_bytes commands ++ rest
  pub inside : AllByRecursion (Inside nodes columns) commands
  pub counted : count ≡ length commands

all_push : {A : Type 0} (P : A → Type 0) (xs : List A) (y : A) → AllByRecursion P xs → P y → AllByRecursion P (xs ++ y ∷ [])
all_push P [] y h p = (p, tt)
all_push P (x ∷ xs) y h p = (h.0, all_push P xs y h.1 p)

pub walked_more : (nodes columns : ℕ) (bytes : List ℕ) (count : ℕ) (rest after : List ℕ) (x : Command)
    → Walked nodes columns bytes count rest → Begins nodes columns rest x after → Walked nodes columns bytes (count + 1) after
walked_more nodes columns bytes count rest after x w b = record {
  commands = w.commands ++ x ∷ [];
  front = w.front ∙ ap (λ (l : List ℕ). all_bytes w.commands ++ l) b.front
      ∙ sym (append_assoc (all_bytes w.commands) (bytes_of x) after)
      ∙ ap (λ (l : List ℕ). l ++ after) (flat_map_more bytes_of [] w.commands x);
  inside = all_push (Inside nodes columns) w.commands x w.inside b.inside;
  counted = let e = w.counted in omega (arith, length_push w.commands x);
}

pub walked_place : (nodes columns : ℕ) (bytes : List ℕ) (count : ℕ) (rest : List ℕ) (w : Walked nodes columns bytes count rest)
    → length (all_bytes w.commands) + length rest ≡ length bytes
walked_place nodes columns bytes count rest w = omega (arith, simp length-append at (ap length w.front))

pub faulty_place : (nodes columns at : ℕ) (bytes : List ℕ) (f : CardFault) → Faulty nodes columns at bytes f → place f ≡ at
faulty_place nodes columns at bytes (Letter p) h = h.0
faulty_place nodes columns at bytes (Short p) h = h.0
faulty_place nodes columns at bytes (Outside p) h = h.0

-- the first byte of a command is its letter, and the command's bytes are there
front_write : (j c s : ℕ) (bytes rest : List ℕ) → bytes ≡ bytes_of (Write j c s) ++ rest → (get_or bytes 0 0 ≡ 87) × (5 ≤ length bytes)
front_write j c s bytes rest e = (ap (λ (l : List ℕ). get_or l 0 0) e, rw e (omega arith))

front_lose : (j c : ℕ) (bytes rest : List ℕ) → bytes ≡ bytes_of (Lose j c) ++ rest → (get_or bytes 0 0 ≡ 76) × (3 ≤ length bytes)
front_lose j c bytes rest e = (ap (λ (l : List ℕ). get_or l 0 0) e, rw e (omega arith))

-- no command on a cell inside begins faulty bytes
pub faulty_stuck : (nodes columns at : ℕ) (bytes : List ℕ) (f : CardFault) → Faulty nodes columns at bytes f → Stuck nodes columns bytes
faulty_stuck nodes columns at bytes (Letter p) h (Write j c s) rest i e = h.1.1 (front_write j c s bytes rest e).0
faulty_stuck nodes columns at bytes (Letter p) h (Lose j c) rest i e = h.1.2 (front_lose j c bytes rest e).0
faulty_stuck nodes columns at bytes (Short p) h (Write j c s) rest i e =
    let w = front_write j c s bytes rest e in
    elim h.1 [ inl n ↦ omega arith | inr m ↦ elim m [ inl n ↦ omega arith | inr n ↦ omega arith ] ]
faulty_stuck nodes columns at bytes (Short p) h (Lose j c) rest i e =
    let w = front_lose j c bytes rest e in
    elim h.1 [ inl n ↦ omega arith | inr m ↦ elim m [ inl n ↦ omega arith | inr n ↦ omega arith ] ]
faulty_stuck nodes columns at bytes (Outside p) h x rest i e =
    let n = h.1 in
    let same = command_same n.command x n.rest rest (sym n.begins ∙ e) in
    n.outside (rw same.0 (i.0, i.1))

-- a walk that stops at a fault has the fault's place behind it
pub checked_fault : (nodes columns at : ℕ) (bytes : List ℕ) (count : ℕ) (rest : List ℕ) (f : CardFault)
    → Walked nodes columns bytes count rest → 0 < length rest → at ≡ length bytes - length rest → Faulty nodes columns at rest f
    → Checked nodes columns bytes (Err f)
checked_fault nodes columns at bytes count rest f w some a h =
    let p = walked_place nodes columns bytes count rest w in
    let here : place f ≡ at = faulty_place nodes columns at rest f h in (
      w.commands,
      rest,
      longest nodes columns bytes rest w.commands (place f) w.front (omega arith) w.inside (faulty_stuck nodes columns at rest f h),
      w.front,
      some,
      subst (λ (n : ℕ). Faulty nodes columns n rest f) (sym here) h,
    )

-- a command takes three bytes at least
pub begins_shorter : (nodes columns : ℕ) (bytes rest : List ℕ) (x : Command) → Begins nodes columns bytes x rest → length rest + 3 ≤ length bytes
begins_shorter nodes columns bytes rest (Write j c s) b = rw b.front (omega arith)
begins_shorter nodes columns bytes rest (Lose j c) b = rw b.front (omega arith)

-- the commands of a beginning are those that its bytes are read as
pub holds_reads : (nodes columns : ℕ) (bytes : List ℕ) (used : ℕ) (xs : List Command) → Holds nodes columns bytes used xs → commands_in (take used bytes) ≡ xs
holds_reads nodes columns bytes used xs h = ap commands_in h.front ∙ reads_back xs
