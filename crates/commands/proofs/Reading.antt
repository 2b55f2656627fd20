-- Bytes can be read as commands in one way only.
use Rattle.std.proofs.Common.{◌≡◌, ℕ, ◌/◌, ◌%◌, ◌≤◌, List, [], ◌∷◌, ◌++◌, length, take, drop, sym, refl, ap, ◌∙◌, append_assoc, div-add-mod', arith, length-append}
use Rattle.std.proofs.lemmas.List.{take_at, take-append-drop, length-take-le}
use Rattle.std.specs.List.{AllByRecursion}
use Rattle.commands.specs.declared.command.Command.{Command}
use Rattle.commands.specs.declared.command.Command.TheVariants.{Write, Lose}
use Rattle.commands.specs.Commands.{bytes_of, all_bytes, Inside, Longest, commands_in, ReadsBack, OneReading}

-- two commands that the same bytes begin with are one
pub command_same : (x y : Command) (xs ys : List ℕ) → bytes_of x ++ xs ≡ bytes_of y ++ ys → (x ≡ y) × (xs ≡ ys)
command_same (Write j c s) (Write i d t) xs ys e =
    let high : s / 256 ≡ t / 256 = cc in
    let low : s % 256 ≡ t % 256 = cc in
    let same : s ≡ t = omega (arith, div-add-mod' s 256, div-add-mod' t 256) in
    ((cc), (cc))
command_same (Write j c s) (Lose i d) xs ys e = let z : ◌≡◌ {A = ℕ} 87 76 = cc in absurd (omega arith)
command_same (Lose j c) (Write i d t) xs ys e = let z : ◌≡◌ {A = ℕ} 87 76 = cc in absurd (omega arith)
command_same (Lose j c) (Lose i d) xs ys e = ((cc), (cc))

-- a command has a byte at least
pub some_bytes : (x : Command) (xs : List ℕ) → bytes_of x ++ xs ≡ [] → ⊥
some_bytes (Write j c s) xs e = let z : ◌≡◌ {A = ℕ} 0 (length (bytes_of (Write j c s) ++ xs)) = ap length (sym e) in omega arith
some_bytes (Lose j c) xs e = let z : ◌≡◌ {A = ℕ} 0 (length (bytes_of (Lose j c) ++ xs)) = ap length (sym e) in omega arith

pub one_reading : OneReading
one_reading [] ys rest e = (ys, refl, e)
one_reading (x ∷ xs) [] rest e = absurd (some_bytes x (all_bytes xs ++ rest) (sym (append_assoc (bytes_of x) (all_bytes xs) rest) ∙ e))
one_reading (x ∷ xs) (y ∷ ys) rest e =
    let both = command_same x y (all_bytes xs ++ rest) (all_bytes ys) (sym (append_assoc (bytes_of x) (all_bytes xs) rest) ∙ e) in
    let more = one_reading xs ys rest both.1 in
    (more.0, cc (both.0, more.1), more.2)

-- what follows is read on after a command
pub read_on : (x : Command) (rest : List ℕ) → commands_in (bytes_of x ++ rest) ≡ x ∷ commands_in rest
read_on (Write j c s) rest = ap (λ (v : ℕ). Write j c v ∷ commands_in rest) (div-add-mod' s 256)
read_on (Lose j c) [] = refl
read_on (Lose j c) (h ∷ []) = refl
read_on (Lose j c) (h ∷ l ∷ rest) = refl

pub reads_back : ReadsBack
reads_back [] = refl
reads_back (x ∷ xs) = read_on x (all_bytes xs) ∙ ap (λ (zs : List Command). x ∷ zs) (reads_back xs)

-- bytes that no command on a cell inside begins
abbrev pub Stuck : ℕ → ℕ → List ℕ → Type 0
Stuck nodes columns bytes = (x : Command) (rest : List ℕ) → Inside nodes columns x → bytes ≡ bytes_of x ++ rest → ⊥

-- where the bytes are stuck after some commands, no longer beginning is made of commands
pub no_longer : (nodes columns : ℕ) (xs ys : List Command) (r t : List ℕ) → AllByRecursion (Inside nodes columns) ys → Stuck nodes columns r
    → all_bytes xs ++ r ≡ all_bytes ys ++ t → length (all_bytes ys) ≤ length (all_bytes xs)
no_longer nodes columns xs [] r t h s e = omega arith
no_longer nodes columns [] (y ∷ ys) r t h s e = absurd (s y (all_bytes ys ++ t) h.0 (e ∙ append_assoc (bytes_of y) (all_bytes ys) t))
no_longer nodes columns (x ∷ xs) (y ∷ ys) r t h s e =
    let both = command_same x y (all_bytes xs ++ r) (all_bytes ys ++ t)
    (sym (append_assoc (bytes_of x) (all_bytes xs) r) ∙ e ∙ append_assoc (bytes_of y) (all_bytes ys) t) in
    let less = no_longer nodes columns xs ys r t h.1 s both.1 in
    let same : length (bytes_of x) ≡ length (bytes_of y) = ap (λ (z : Command). length (bytes_of z)) both.0 in
    omega (arith, length-append (bytes_of x) (all_bytes xs), length-append (bytes_of y) (all_bytes ys))

-- the commands up to where the bytes are stuck are the longest beginning
pub longest : (nodes columns : ℕ) (bytes rest : List ℕ) (xs : List Command) (used : ℕ) → bytes ≡ all_bytes xs ++ rest → used ≡ length (all_bytes xs)
    → AllByRecursion (Inside nodes columns) xs → Stuck nodes columns rest → Longest nodes columns bytes used xs
longest nodes columns bytes rest xs used e u h s = record {
  holds = record {
    within = rw e (simp length-append (omega arith));
    front = rw e (take_at (all_bytes xs) rest used (sym u));
    inside = h;
  };
  longest = λ n ys other.
      let whole : bytes ≡ all_bytes ys ++ drop n bytes = sym (take-append-drop n bytes) ∙ ap (λ (l : List ℕ). l ++ drop n bytes) other.front in
      let less = no_longer nodes columns xs ys rest (drop n bytes) other.inside s (sym e ∙ whole) in
      let long : length (take n bytes) ≡ n = length-take-le n bytes other.within in
      let same = ap length other.front in
      omega arith;
}
