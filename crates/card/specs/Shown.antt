-- Every card keeps the laws of a meaning, an edit changes one cell, and later states are a frame.
use Rattle.std.specs.Prelude.{◌≡◌, ℕ, ◌+◌, ◌-◌, ◌<◌, ◌≤◌, Bool, true, false, cond, ◌&&◌, List, [], ◌∷◌, take}
use Rattle.std.specs.Prelude.{drop, Some, None, Option, nat_lt, refl}
use Rattle.std.proofs.Common.{subst, sym, ap, ◌∙◌, arith}
use Rattle.std.proofs.lemmas.List.{take-take, drop-drop}
use Rattle.std.proofs.lemmas.Bool.Decides.{nat_tests}
use Rattle.store.specs.Meaning.{Lawful, Changed, Edits, Frames, Framed, allowed}
use Rattle.commands.specs.declared.command.Command.{Command}
use Rattle.card.specs.declared.lent.Card.{Card}
use Rattle.commands.specs.declared.command.Command.TheVariants.{Write, Lose}
use Rattle.commands.specs.Commands.{value_of, node_of, column_of, TwoBytes, is_inside, all_inside, is_on}
use Rattle.commands.specs.Commands.{later, latest, left_by, cells}
use Rattle.card.specs.Cards.{meaning_of, lent_bytes, commands_of, command_of, PutCommand, Edited, Later}
use Rattle.card.specs.Grows.{allowed_parts, changed_grown, kept_grown, untouched_grown}

-- no command is on a cell outside
latest_outside : (nodes columns j c : ℕ) (xs : List Command) → all_inside nodes columns xs ≡ true
    → (nat_lt j nodes && nat_lt c columns) ≡ false → latest xs j c ≡ None
latest_outside nodes columns j c [] h o = refl
latest_outside nodes columns j c (x ∷ xs) h o =
    let before = latest_outside nodes columns j c xs (grind (arith, nat_tests)) o in
    let off : is_on x j c ≡ false = grind (arith, nat_tests) in
    rw (before, off) refl

-- a command on a cell inside leaves no number above 65,535
value_small : (nodes columns v : ℕ) (x : Command)
    → is_inside nodes columns x ≡ true → value_of x ≡ Some v → v < 65536
value_small nodes columns v (Write j c s) h e = grind (arith, nat_tests)
value_small nodes columns v (Lose j c) h e = grind (arith, nat_tests)

later_small : (nodes columns v : ℕ) (y : Option Command) (x : Command) (on : Bool)
    → is_inside nodes columns x ≡ true → (left_by y None ≡ Some v → v < 65536)
    → left_by (later y (cond on (Some x) None)) None ≡ Some v → v < 65536
later_small nodes columns v (Some y) x on h before e = before e
later_small nodes columns v None x true h before e = value_small nodes columns v x h e
later_small nodes columns v None x false h before e = before e

small : (nodes columns j c v : ℕ) (xs : List Command)
    → all_inside nodes columns xs ≡ true → cells xs j c ≡ Some v → v < 65536
small nodes columns j c v [] h e = grind (arith, nat_tests)
small nodes columns j c v (x ∷ xs) h e =
    later_small nodes columns v (latest xs j c) x (is_on x j c) (grind (arith, nat_tests))
    (small nodes columns j c v xs (grind (arith, nat_tests))) e

pub card_lawful : (k : Card) → Lawful (meaning_of k)
card_lawful k = record {
  outside = λ j c h.
      ap (λ (o : Option Command). left_by o None)
      (latest_outside k.shape.nodes k.shape.columns j c (commands_of k) k.inside h);
  symbols = λ j c v e. small k.shape.nodes k.shape.columns j c v (commands_of k) k.inside e;
}

-- a command that is put behind the others changes its cell alone
put_means : (old new : Card) (x : Command)
    → allowed (meaning_of old) (node_of x) (column_of x) ≡ true → TwoBytes (value_of x) → PutCommand old x new
    → Changed (meaning_of old) (node_of x) (column_of x) (value_of x) true (meaning_of new)
put_means old new x taken two e =
    let p = allowed_parts old (node_of x) (column_of x) taken in
    changed_grown old.used old.shape.nodes old.shape.columns (lent_bytes old)
    new.used new.shape.nodes new.shape.columns (lent_bytes new)
    x e.appended.1 e.nodes e.columns e.appended.0 p.2 (p.0, p.1, two) old.whole

-- an edit of a card changes one cell of what it means
pub card_edits : Edits meaning_of Edited
card_edits old new j c (Some s) cell taken e = put_means old new (Write j c s) taken cell e
card_edits old new j c None cell taken e = put_means old new (Lose j c) taken tt e

-- an edit of a card makes a later state of it
put_later : (old new : Card) (x : Command) → PutCommand old x new → Later old new
put_later old new x e = record {
  lent = e.memory;
  nodes = e.nodes;
  columns = e.columns;
  longer = let u = e.appended.1 in omega arith;
  kept = kept_grown (lent_bytes old) (lent_bytes new) old.used x e.appended.0 old.room;
  untouched = subst (λ (n : ℕ). drop n (lent_bytes new) ≡ drop n (lent_bytes old)) (sym e.appended.1)
      (untouched_grown (lent_bytes old) (lent_bytes new) old.used x e.appended.0 old.room);
}

pub edits_later : Framed meaning_of Edited Later
edits_later old new j c v cell taken e = put_later old new (command_of j c v) e

-- what is the same behind a place is the same behind a later one
drop_same : (m n : ℕ) (xs ys : List ℕ) → m ≤ n → drop m xs ≡ drop m ys → drop n xs ≡ drop n ys
drop_same m n xs ys h e =
    let s : m + (n - m) ≡ n = omega arith in
    ap (λ (i : ℕ). drop i xs) (sym s) ∙ sym (drop-drop (n - m) m xs) ∙ ap (drop (n - m)) e
    ∙ drop-drop (n - m) m ys ∙ ap (λ (i : ℕ). drop i ys) s

pub later_frames : Frames Later
later_frames = record {
  same = λ s.
      record { lent = refl; nodes = refl; columns = refl; longer = omega arith; kept = refl; untouched = refl };
  joined = λ r s t p q. record {
    lent = q.lent ∙ p.lent;
    nodes = q.nodes ∙ p.nodes;
    columns = q.columns ∙ p.columns;
    longer = let a = p.longer in let b = q.longer in omega arith;
    kept = sym (take-take r.used s.used (lent_bytes t) p.longer) ∙ ap (take r.used) q.kept
        ∙ take-take r.used s.used (lent_bytes s) p.longer ∙ p.kept;
    untouched = q.untouched ∙ drop_same s.used t.used (lent_bytes s) (lent_bytes r) q.longer p.untouched;
  };
}
