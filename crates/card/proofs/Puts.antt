-- The facts of a card after a command is put behind its used part.
use Rattle.std.proofs.Common.{◌≡◌, ℕ, ◌+◌, ◌-◌, ◌≤◌, List, length, sym, subst, refl, arith}
use Rattle.std.proofs.lemmas.List.{drop-drop}
use borrow.Rule.Slice.PartMut.{put_mid}
use Rattle.commands.specs.declared.command.Command.{Command}
use Rattle.commands.specs.Commands.{bytes_of, Inside}
use Rattle.card.specs.declared.lent.Card.{Card}
use Rattle.card.specs.Grows.{Sound, sound_of, sound_grown, more, with_command}

pub put_command : (k : Card) (x : Command) (ys : List ℕ)
    → ys ≡ bytes_of x → k.used + 5 ≤ length k.bytes.now → Inside k.shape.nodes k.shape.columns x
    → Sound (more k.used x) k.shape.nodes k.shape.columns (put_mid k.used (more k.used x - k.used) k.bytes.now ys)
put_command k x ys e room inside =
    let n : more k.used x - k.used ≡ length (bytes_of x) = omega arith in
    let same : put_mid k.used (more k.used x - k.used) k.bytes.now ys ≡ with_command k.bytes.now k.used x =
    rw (n, e, drop-drop (length (bytes_of x)) k.used k.bytes.now) refl in
    subst (λ (l : List ℕ). Sound (more k.used x) k.shape.nodes k.shape.columns l) (sym same)
    (sound_grown k.used k.shape.nodes k.shape.columns k.bytes.now x room inside (sound_of k))
