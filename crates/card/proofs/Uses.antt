-- What a card is taken up with, and its used part, taken up alone.
use Rattle.std.proofs.Common.{◌≡◌, ℕ, ◌-◌, true, List, length, take, subst, sym, ap, ◌∙◌, arith}
use Rattle.std.proofs.lemmas.List.{take_all}
use Rattle.store.specs.Sizes.{counted_columns, counted_nodes}
use Rattle.commands.specs.declared.command.Command.{Command}
use Rattle.commands.specs.Commands.{commands_in, all_inside, card, Holds, Longest}
use Rattle.commands.proofs.Tests.{all_from}
use Rattle.commands.proofs.Walks.{holds_reads}
use Rattle.card.specs.declared.lent.Card.{Card}
use Rattle.card.specs.Cards.{used_part, commands_of, TakesUpAgain}

-- the commands of the longest beginning are those that its bytes are read as
pub longest_read : (nodes columns : ℕ) (bytes : List ℕ) (used : ℕ) (xs : List Command) → Longest nodes columns bytes used xs
    → Longest nodes columns bytes used (commands_in (take used bytes))
longest_read nodes columns bytes used xs l =
    subst (λ (zs : List Command). Longest nodes columns bytes used zs) (sym (holds_reads nodes columns bytes used xs l.holds)) l

pub used_again : (k : Card) → TakesUpAgain k (used_part k)
used_again k used meaning t =
    let bytes = used_part k in
    let n = counted_nodes k.shape.nodes k.shape.columns in
    let w = counted_columns k.shape.columns in
    let all : take (length bytes) bytes ≡ bytes = take_all (length bytes) bytes (omega arith) in
    let inside : all_inside n w (commands_of k) ≡ true = rw (← k.shape.nodes_as_counted, ← k.shape.columns_as_counted) k.inside in
    let whole : Holds n w bytes (length bytes) (commands_of k) = record { within = omega arith; front = all ∙ k.whole; inside = all_from n w (commands_of k) inside } in
    let most = t.longest.longest (length bytes) (commands_of k) whole in
    let least = t.longest.holds.within in
    let same : used ≡ length bytes = omega arith in
    let read : commands_of k ≡ t.commands =
    ap commands_in (sym (ap (λ (i : ℕ). take i bytes) same ∙ all)) ∙ holds_reads n w bytes used t.commands t.longest.holds in
    let none : length bytes - used ≡ 0 = omega arith in (
      same,
      t.means
          ∙ ap (λ (i : ℕ). card t.commands n w i) none
          ∙ ap (λ (xs : List Command). card xs n w 0) (sym read)
          ∙ ap (λ (i : ℕ). card (commands_of k) i w 0) (sym k.shape.nodes_as_counted)
          ∙ ap (λ (i : ℕ). card (commands_of k) k.shape.nodes i 0) (sym k.shape.columns_as_counted),
    )
