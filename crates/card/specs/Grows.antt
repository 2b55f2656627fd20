-- A command put behind the used part of a card: what the proofs in Shown stand on.
use Rattle.std.proofs.Common.{◌≡◌, ℕ, cond, Some, ◌+◌, ◌-◌, ◌<◌, ◌≤◌, true, List, [], ◌∷◌, ◌++◌, length, take}
use Rattle.std.proofs.Common.{drop, sym, refl, ap, ◌∙◌, append_assoc, arith, length-append}
use mathlib.Core.Path.{fun_ext}
use Rattle.std.proofs.lemmas.Grind.{common_steps}
use Rattle.std.proofs.lemmas.List.{take_at, drop_at, length-take-le, length-drop, flat_map_more}
use Rattle.std.proofs.lemmas.Bool.Decides.{nat_tests}
use Rattle.store.specs.Meaning.{Changed, allowed, put}
use Rattle.commands.specs.declared.command.Command.{Command}
use Rattle.commands.specs.declared.command.Command.TheVariants.{Write, Lose}
use Rattle.card.specs.declared.lent.Card.{Card}
use Rattle.commands.specs.Commands.{bytes_of, all_bytes, commands_in, node_of, column_of, value_of, Inside}
use Rattle.commands.specs.Commands.{all_inside, is_inside, card, cells, is_on, latest}
use Rattle.card.specs.Cards.{lent_bytes, meaning_of}
use Rattle.commands.proofs.Tests.{inside_test}
use Rattle.commands.proofs.Reading.{reads_back}

latest_push : (xs : List Command) (x : Command) (j c : ℕ)
    → latest (xs ++ x ∷ []) j c ≡ cond (is_on x j c) (Some x) (latest xs j c)
latest_push [] x j c = refl
latest_push (y ∷ xs) x j c = let before = latest_push xs x j c in grind (arith, common_steps)

-- one command more changes its cell alone
cells_push : (xs : List Command) (x : Command)
    → cells (xs ++ x ∷ []) ≡ put (cells xs) (node_of x) (column_of x) (value_of x)
cells_push xs x = fun_ext λ j. fun_ext λ c. let e = latest_push xs x j c in grind (arith, common_steps)

-- the facts that a card of these numbers and bytes keeps
abbrev pub Sound : ℕ → ℕ → ℕ → List ℕ → Type 0
Sound used nodes columns bytes = record {
  room : used ≤ length bytes;
  whole : take used bytes ≡ all_bytes (commands_in (take used bytes));
  inside : all_inside nodes columns (commands_in (take used bytes)) ≡ true;
}

pub sound_of : (k : Card) → Sound k.used k.shape.nodes k.shape.columns (lent_bytes k)
sound_of k = record { room = k.room; whole = k.whole; inside = k.inside }

-- the bytes used with a command more
abbrev pub more : ℕ → Command → ℕ
more used x = used + length (bytes_of x)

-- the bytes with a command behind the used part
abbrev pub with_command : List ℕ → ℕ → Command → List ℕ
with_command bytes used x = take used bytes ++ (bytes_of x ++ drop (more used x) bytes)

-- the used part and the command behind it, counted
grown_length : (bytes : List ℕ) (used : ℕ) (x : Command) → used ≤ length bytes
    → length (take used bytes ++ bytes_of x) ≡ more used x
grown_length bytes used x h =
    length-append (take used bytes) (bytes_of x) ∙ ap (λ (n : ℕ). more n x) (length-take-le used bytes h)

grown_part : (bytes : List ℕ) (used : ℕ) (x : Command) → used ≤ length bytes
    → take (more used x) (with_command bytes used x) ≡ take used bytes ++ bytes_of x
grown_part bytes used x h =
    rw (← append_assoc (take used bytes) (bytes_of x) (drop (more used x) bytes))
    (take_at (take used bytes ++ bytes_of x) (drop (more used x) bytes) (more used x) (grown_length bytes used x h))

-- the command is read behind those before it
grown_bytes : (bytes : List ℕ) (used : ℕ) (x : Command) → used ≤ length bytes
    → take used bytes ≡ all_bytes (commands_in (take used bytes))
    → take (more used x) (with_command bytes used x) ≡ all_bytes (commands_in (take used bytes) ++ x ∷ [])
grown_bytes bytes used x h w =
    grown_part bytes used x h ∙ ap (λ (l : List ℕ). l ++ bytes_of x) w
    ∙ flat_map_more bytes_of [] (commands_in (take used bytes)) x

grown_reads : (bytes : List ℕ) (used : ℕ) (x : Command) → used ≤ length bytes
    → take used bytes ≡ all_bytes (commands_in (take used bytes))
    → commands_in (take (more used x) (with_command bytes used x)) ≡ commands_in (take used bytes) ++ x ∷ []
grown_reads bytes used x h w =
    ap commands_in (grown_bytes bytes used x h w) ∙ reads_back (commands_in (take used bytes) ++ x ∷ [])

all_inside_push : (nodes columns : ℕ) (xs : List Command) (x : Command)
    → all_inside nodes columns xs ≡ true → is_inside nodes columns x ≡ true
    → all_inside nodes columns (xs ++ x ∷ []) ≡ true
all_inside_push nodes columns [] x h p = grind (arith, nat_tests)
all_inside_push nodes columns (y ∷ xs) x h p =
    let before = all_inside_push nodes columns xs x (grind (arith, nat_tests)) p in
    grind (arith, nat_tests)

width_le : (x : Command) → (length (bytes_of x) ≤ 5) × (3 ≤ length (bytes_of x))
width_le (Write j c s) = (omega arith, omega arith)
width_le (Lose j c) = (omega arith, omega arith)

length_grown : (bytes : List ℕ) (used : ℕ) (x : Command) → used + 5 ≤ length bytes
    → length (with_command bytes used x) ≡ length bytes
length_grown bytes used x h =
    let w = width_le x in
    let t = length-take-le used bytes (omega arith) in
    let d = length-drop (more used x) bytes in
    simp length-append (omega arith)

pub sound_grown : (used nodes columns : ℕ) (bytes : List ℕ) (x : Command)
    → used + 5 ≤ length bytes → Inside nodes columns x
    → Sound used nodes columns bytes → Sound (more used x) nodes columns (with_command bytes used x)
sound_grown used nodes columns bytes x h i s =
    let w = width_le x in
    let e = length_grown bytes used x h in
    let reads = grown_reads bytes used x s.room s.whole in
    record {
      room = omega arith;
      whole = grown_bytes bytes used x s.room s.whole ∙ ap all_bytes (sym reads);
      inside = ap (all_inside nodes columns) reads
          ∙ all_inside_push nodes columns (commands_in (take used bytes)) x s.inside (inside_test nodes columns x i);
    }

-- a change that is taken is of a cell inside, and five bytes are free
pub allowed_parts : (k : Card) (j c : ℕ) → allowed (meaning_of k) j c ≡ true
    → (j < k.shape.nodes) × (c < k.shape.columns) × (k.used + 5 ≤ length (lent_bytes k))
allowed_parts k j c h =
    let r = k.room in
    (grind (arith, nat_tests), grind (arith, nat_tests), grind (arith, nat_tests))

-- what the appended command does to the meaning
pub changed_grown : (used nodes columns : ℕ) (bytes : List ℕ) (used' nodes' columns' : ℕ) (after : List ℕ) (x : Command)
    → used' ≡ more used x → nodes' ≡ nodes → columns' ≡ columns → after ≡ with_command bytes used x
    → used + 5 ≤ length bytes → Inside nodes columns x → take used bytes ≡ all_bytes (commands_in (take used bytes))
    → Changed (card (commands_in (take used bytes)) nodes columns (length bytes - used))
    (node_of x) (column_of x) (value_of x) true
    (card (commands_in (take used' after)) nodes' columns' (length after - used'))
changed_grown used nodes columns bytes used' nodes' columns' after x longer en ec same h i w =
    let long : length after ≡ length bytes = ap length same ∙ length_grown bytes used x h in
    let wide = width_le x in
    record {
      answer = let a = i.0 in let b = i.1 in grind (arith, nat_tests);
      nodes = en;
      columns = ec;
      cell = rw (longer, same)
          (ap cells (grown_reads bytes used x (omega arith) w) ∙ cells_push (commands_in (take used bytes)) x);
      most = omega arith;
      least = omega arith;
    }

pub kept_grown : (bytes after : List ℕ) (used : ℕ) (x : Command)
    → after ≡ with_command bytes used x → used ≤ length bytes → take used after ≡ take used bytes
kept_grown bytes after used x same h =
    ap (take used) same
    ∙ take_at (take used bytes) (bytes_of x ++ drop (more used x) bytes) used (length-take-le used bytes h)

pub untouched_grown : (bytes after : List ℕ) (used : ℕ) (x : Command)
    → after ≡ with_command bytes used x → used ≤ length bytes → drop (more used x) after ≡ drop (more used x) bytes
untouched_grown bytes after used x same h =
    ap (drop (more used x)) (same ∙ sym (append_assoc (take used bytes) (bytes_of x) (drop (more used x) bytes)))
    ∙ drop_at (take used bytes ++ bytes_of x) (drop (more used x) bytes) (more used x) (grown_length bytes used x h)
