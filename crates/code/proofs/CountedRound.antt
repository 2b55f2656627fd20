-- Nodes counted round: what ⟨v + s⟩ and ⟨v − s⟩ come to.
use Rattle.std.proofs.lemmas.Grind.{common_steps}
use Rattle.std.proofs.Common.{◌≡◌, ℕ, ◌+◌, ◌-◌, ◌%◌, ◌<◌, ◌≤◌, ◌⊎◌, sym, ap, ◌∙◌, mod-lt, mod-eq_of_lt, arith}
use native.Mathlib.Nat.{mod-mod, mod-eq-sub-mod, mod-add-mod, add-mod, add-mod-mod, add-mod_right}
use Rattle.code.specs.Positions.{ahead, behind, BehindUndoesAhead}

-- a step back that is followed by one ahead, before the remainder is taken
there_and_back : (n v s : ℕ) → 0 < n → (v + (n - s % n) + s) % n ≡ v % n
there_and_back n v s pos =
    let small : s % n < n = mod-lt s pos in
    let whole : v + (n - s % n) + s % n ≡ v + n = omega arith in
    sym (add-mod-mod (v + (n - s % n)) s n) ∙ ap (λ (x : ℕ). x % n) whole ∙ add-mod_right v n

pub behind_undoes_ahead : BehindUndoesAhead
behind_undoes_ahead n v s pos = (
  mod-lt (v + (n - s % n)) pos,
  mod-add-mod (v + (n - s % n)) n s ∙ there_and_back n v s pos,
  λ w below lands.
      let swapped : w + s + (n - s % n) ≡ w + (n - s % n) + s = omega arith in
      sym (mod-eq_of_lt below) ∙ sym (there_and_back n w s pos) ∙ ap (λ (x : ℕ). x % n) (sym swapped)
      ∙ sym (mod-add-mod (w + s) n (n - s % n)) ∙ ap (λ (x : ℕ). (x + (n - s % n)) % n) lands ∙ mod-add-mod v n (n - s % n),
)

-- both are nodes
pub ahead_below : (n v s : ℕ) → 0 < n → ahead n v s < n
ahead_below n v s pos = mod-lt (v + s) pos

pub behind_below : (n v s : ℕ) → 0 < n → behind n v s < n
behind_below n v s pos = (behind_undoes_ahead n v s pos).0

-- ⟨v − s⟩ is the only node from which s places ahead lead to ⟨v⟩
pub only_behind : (n v s w : ℕ) → w < n → ahead n w s ≡ v % n → w ≡ behind n v s
only_behind n v s w l = let pos : 0 < n = omega arith in (behind_undoes_ahead n v s pos).2 w l

-- Two steps in turn.

-- ⟨⟨v − s⟩ + s⟩ is ⟨v⟩
pub back_again : (n v s : ℕ) → 0 < n → ahead n (behind n v s) s ≡ v % n
back_again n v s pos = (behind_undoes_ahead n v s pos).1

-- ⟨⟨v − s⟩ + s⟩ is v, for a node v
pub ahead-behind : (n v s : ℕ) → v < n → ahead n (behind n v s) s ≡ v
ahead-behind n v s l = let pos : 0 < n = omega arith in back_again n v s pos ∙ mod-eq_of_lt l

-- ⟨⟨v + s⟩ − s⟩ is v, for a node v
pub behind-ahead : (n v s : ℕ) → v < n → behind n (ahead n v s) s ≡ v
behind-ahead n v s l = sym (only_behind n (ahead n v s) s v l (sym (mod-mod (v + s) n)))

-- ⟨⟨v⟩ − s⟩ is ⟨v − s⟩
pub behind_rounded : (n v s : ℕ) → behind n (v % n) s ≡ behind n v s
behind_rounded n v s = mod-add-mod v n (n - s % n)

-- ⟨⟨v⟩ + ⟨s⟩⟩ is ⟨v + s⟩, and ⟨⟨v⟩ − ⟨s⟩⟩ is ⟨v − s⟩
pub ahead_both : (n v s : ℕ) → ahead n (v % n) (s % n) ≡ ahead n v s
ahead_both n v s = sym (add-mod v s n)

pub behind_both : (n v s : ℕ) → behind n (v % n) (s % n) ≡ behind n v s
behind_both n v s = ap (λ (x : ℕ). (v % n + (n - x)) % n) (mod-mod s n) ∙ behind_rounded n v s

-- ⟨⟨v + s⟩ + t⟩ is ⟨v + (s + t)⟩
pub ahead-ahead : (n v s t : ℕ) → ahead n (ahead n v s) t ≡ ahead n v (s + t)
ahead-ahead n v s t =
    let e : v + s + t ≡ v + (s + t) = omega arith in mod-add-mod (v + s) n t ∙ ap (λ (x : ℕ). x % n) e

-- ⟨⟨v − s⟩ − t⟩ is ⟨v − (s + t)⟩
pub behind-behind : (n v s t : ℕ) → 0 < n → behind n (behind n v s) t ≡ behind n v (s + t)
behind-behind n v s t pos =
    let j : ℕ = behind n v s in
    let w : ℕ = behind n j t in
    let order : w + (s + t) ≡ w + t + s = omega arith in
    only_behind n v (s + t) w (behind_below n j t pos)
    (ap (λ (x : ℕ). x % n) order ∙ sym (mod-add-mod (w + t) n s) ∙ ap (λ (x : ℕ). (x + s) % n) (back_again n j t pos)
    ∙ mod-add-mod j n s ∙ back_again n v s pos)

-- ⟨⟨v − s⟩ + t⟩ is ⟨v − (s − t)⟩
pub behind_then_ahead : (n v s t : ℕ) → 0 < n → t ≤ s → ahead n (behind n v s) t ≡ behind n v (s - t)
behind_then_ahead n v s t pos le =
    let j : ℕ = behind n v s in
    let order : j + t + (s - t) ≡ j + s = omega arith in
    only_behind n v (s - t) (ahead n j t) (ahead_below n j t pos)
    (mod-add-mod (j + t) n (s - t) ∙ ap (λ (x : ℕ). x % n) order ∙ back_again n v s pos)

-- ⟨⟨v + s⟩ − (s + t)⟩ is ⟨v − t⟩
pub ahead_then_behind : (n v s t : ℕ) → 0 < n → behind n (ahead n v s) (s + t) ≡ behind n v t
ahead_then_behind n v s t pos =
    let w : ℕ = behind n v t in
    let order : w + (s + t) ≡ w + t + s = omega arith in
    sym (only_behind n (ahead n v s) (s + t) w (behind_below n v t pos)
    (ap (λ (x : ℕ). x % n) order ∙ sym (mod-add-mod (w + t) n s) ∙ ap (λ (x : ℕ). (x + s) % n) (back_again n v t pos)
    ∙ mod-add-mod v n s ∙ sym (mod-mod (v + s) n)))

-- one shift leads from different nodes to different nodes
pub ahead_injective : (n v w s : ℕ) → v < n → w < n → ahead n v s ≡ ahead n w s → v ≡ w
ahead_injective n v w s lv lw e = sym (behind-ahead n v s lv) ∙ ap (λ (x : ℕ). behind n x s) e ∙ behind-ahead n w s lw

-- The values, for shifts below n: each goes round once or not at all.

-- the remainder of a number that goes round once
mod_once : (n x : ℕ) → n ≤ x → x < n + n → x % n ≡ x - n
mod_once n x low high = let small : x - n < n = omega arith in mod-eq-sub-mod low ∙ mod-eq_of_lt small

-- a shift below n is its own remainder
pub behind_small : (n v s : ℕ) → s < n → behind n v s ≡ (v + n - s) % n
behind_small n v s small = grind (arith, common_steps, mod-eq_of_lt)

pub ahead_within : (n v s : ℕ) → v + s < n → ahead n v s ≡ v + s
ahead_within n v s low = mod-eq_of_lt low

pub ahead_round : (n v s : ℕ) → v < n → s < n → n ≤ v + s → ahead n v s ≡ v + s - n
ahead_round n v s hv hs over = mod_once n (v + s) over (omega arith)

pub behind_within : (n v s : ℕ) → v < n → s ≤ v → behind n v s ≡ v - s
behind_within n v s hv low = grind (arith, common_steps, behind_small, mod_once)

pub behind_round : (n v s : ℕ) → v < s → s < n → behind n v s ≡ v + n - s
behind_round n v s low small =
    let under : v + n - s < n = omega arith in behind_small n v s small ∙ mod-eq_of_lt under

-- the two ways of going ahead, as sums
pub ahead_cases : (n v s : ℕ) → v < n → s < n
    → ((v + s < n) × (ahead n v s ≡ v + s)) ⊎ ((n ≤ v + s) × (ahead n v s + n ≡ v + s))
ahead_cases n v s hv hs = grind (arith, common_steps, ahead_round, ahead_within)

-- and of going back
pub behind_cases : (n v s : ℕ) → v < n → s < n
    → ((s ≤ v) × (behind n v s + s ≡ v)) ⊎ ((v < s) × (behind n v s + s ≡ v + n))
behind_cases n v s hv hs = grind (arith, common_steps, behind_round, behind_within)

-- numbers less than n apart with the same remainder are the same
pub mod_same : (n v w : ℕ) → v < w + n → w < v + n → v % n ≡ w % n → v ≡ w
mod_same n v w near near' e = grind (arith, common_steps, ahead_cases, mod-lt)
