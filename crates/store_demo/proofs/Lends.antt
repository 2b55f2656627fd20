-- What lent bytes hold, from what the card over them keeps.
use Rattle.std.proofs.Common.{◌≡◌, ℕ, Bool, true, List, take, drop, None, ap, ◌∙◌}
use Rattle.store.specs.Meaning.{Meaning, Changed}
use Rattle.card.specs.declared.lent.Card.{Card}
use Rattle.commands.specs.Commands.{all_inside}
use Rattle.card.specs.Cards.{lent_bytes, commands_of, meaning_of, Later}
use Rattle.commands.specs.Commands.{TakenUp}
use Rattle.commands.proofs.Tests.{all_from}
use Rattle.store_demo.specs.Lending.{LostInBytes}

pub lost_in_bytes : (n w : ℕ) (before after : List ℕ) (j c : ℕ) (taken : Bool) (k l : Card)
    → TakenUp n w before k.used (meaning_of k) → lent_bytes k ≡ before → Changed (meaning_of k) j c None taken (meaning_of l) → Later k l
    → after ≡ lent_bytes l → LostInBytes n w before j c taken after
lost_in_bytes n w before after j c taken k l t e h f g =
    let nodes : l.shape.nodes ≡ n = f.nodes ∙ ap (λ (m : Meaning). m.nodes) t.means in
    let columns : l.shape.columns ≡ w = f.columns ∙ ap (λ (m : Meaning). m.columns) t.means in
    let inside : all_inside n w (commands_of l) ≡ true = rw (← nodes, ← columns) l.inside in
    record {
      used = k.used;
      meaning = meaning_of k;
      first = t;
      more = l.used;
      commands = commands_of l;
      holds = record { within = rw g l.room; front = rw g l.whole; inside = all_from n w (commands_of l) inside };
      lost = rw (g, ← nodes, ← columns) h;
      longer = f.longer;
      kept = ap (take k.used) g ∙ f.kept ∙ ap (take k.used) e;
      untouched = ap (drop l.used) g ∙ f.untouched ∙ ap (drop l.used) e;
    }
