-- The wanted cells are all different.
use Rattle.std.proofs.lemmas.Grind.{common_steps}
use Rattle.std.proofs.Common.{◌≡◌, ℕ, ◌+◌, ◌-◌, ◌*◌, ◌/◌, ◌%◌, ◌<◌, ◌≤◌, ◌⊎◌, sym, refl, ap, ◌∙◌, inl, inr, arith}
use Rattle.std.proofs.lemmas.Bool.{cases_lt, cases_eq}
use Rattle.code.specs.declared.record.Code.{Code}
use Rattle.code.specs.Stripe.{width}
use Rattle.code.proofs.CountedRound.{mod_same}
use Rattle.code.proofs.Places.{place_parts}
use Rattle.round.specs.Wanted.{wanted, without, whole}
use Rattle.round.proofs.Places.{without_le, wanted_first, wanted_other, wanted_coded}

-- column and place of a count
pub counted : (code : Code) (p : ℕ) → p < whole code
    → (p / code.m < width code) × (p % code.m < code.m) × (p / code.m * code.m + p % code.m ≡ p)
counted code p h = place_parts (width code) code.m p (omega arith) (omega arith)

-- no place has the column t itself, and each column is in one place
pub without_apart : (t s : ℕ) → (s ≡ 0 → ⊥) → without t s ≡ t → ⊥
without_apart t s nz e = grind (arith, common_steps)

pub without_same : (t s s' : ℕ) → (s ≡ 0 → ⊥) → (s' ≡ 0 → ⊥) → without t s ≡ without t s' → s ≡ s'
without_same t s s' nz nz' e = grind (arith, common_steps)

-- A wanted cell by the column c that it is for and its place s there: its node is the remainder of v, its column is u.
pub record Cell (code : Code) (f c s v u : ℕ) : Type 0 where
  pub node_is : (wanted code f (c * code.m + s)).0 ≡ v % code.n
  pub column_is : (wanted code f (c * code.m + s)).1 ≡ u

-- the three kinds of wanted cells
abbrev pub Kinds : Code → ℕ → ℕ → ℕ → Type 0
Kinds code f c s =
    ((c < code.m) × (s ≡ 0) × Cell code f c s (f + c + 1) code.m)
    ⊎ (((c < code.m) × (s ≡ 0 → ⊥) × Cell code f c s (f + c + code.n - without c s) (without c s))
    ⊎ ((code.m ≤ c) × Cell code f c s (f + code.n - (c - code.m + s + 1)) s))

pub kinds : (code : Code) (f c s : ℕ) → c < width code → s < code.m → Kinds code f c s
kinds code f c s hc hs =
    elim (cases_lt c code.m) [
      | inl l ↦ elim (cases_eq s 0) [
        | inl z ↦ let e = wanted_first code f c s l z in inl (l, z, record { node_is = ap (λ (x : ℕ × ℕ). x.0) e; column_is = ap (λ (x : ℕ × ℕ). x.1) e })
        | inr z ↦ let e = wanted_other code f c s (without c s) l z hs refl in
            inr (inl (l, z, record { node_is = ap (λ (x : ℕ × ℕ). x.0) e; column_is = ap (λ (x : ℕ × ℕ). x.1) e }))
      ]
      | inr l ↦ let e = wanted_coded code f c s l hc hs in
          inr (inr (l, record { node_is = ap (λ (x : ℕ × ℕ). x.0) e; column_is = ap (λ (x : ℕ × ℕ). x.1) e }))
    ]

module _ (code : Code) (f : ℕ) (known : f < code.n) (c s c' s' : ℕ)
    (hc : c < width code) (hs : s < code.m) (hc' : c' < width code) (hs' : s' < code.m)
    (same : wanted code f (c * code.m + s) ≡ wanted code f (c' * code.m + s')) where
  same_node : (v u v' u' : ℕ) → Cell code f c s v u → Cell code f c' s' v' u' → v % code.n ≡ v' % code.n
  same_node v u v' u' k k' = sym k.node_is ∙ ap (λ (x : ℕ × ℕ). x.0) same ∙ k'.node_is

  same_column : (v u v' u' : ℕ) → Cell code f c s v u → Cell code f c' s' v' u' → u ≡ u'
  same_column v u v' u' k k' = sym k.column_is ∙ ap (λ (x : ℕ × ℕ). x.1) same ∙ k'.column_is

  pub same_place : Kinds code f c s → Kinds code f c' s' → (c ≡ c') × (s ≡ s')
  same_place (inl (l, z, k)) (inl (l', z', k')) =
      let room = code.room in
      let e = mod_same code.n (f + c + 1) (f + c' + 1) (omega arith) (omega arith) (same_node _ _ _ _ k k') in
      (omega arith, omega arith)
  same_place (inl (l, z, k)) (inr (inl (l', z', k'))) =
      absurd (omega (arith, same_column _ _ _ _ k k', without_le c' s'))
  same_place (inl (l, z, k)) (inr (inr (l', k'))) = absurd (omega (arith, same_column _ _ _ _ k k'))
  same_place (inr (inl (l, z, k))) (inl (l', z', k')) =
      absurd (omega (arith, same_column _ _ _ _ k k', without_le c s))
  same_place (inr (inl (l, z, k))) (inr (inl (l', z', k'))) =
      let room = code.room in
      let u : without c s ≡ without c' s' = same_column _ _ _ _ k k' in
      let small = without_le c s in
      let e = mod_same code.n (f + c + code.n - without c s) (f + c' + code.n - without c' s')
      (omega arith) (omega arith) (same_node _ _ _ _ k k') in
      let columns : c ≡ c' = omega arith in
      (columns, without_same c s s' z z' (u ∙ ap (λ t. without t s') (sym columns)))
  same_place (inr (inl (l, z, k))) (inr (inr (l', k'))) =
      let room = code.room in
      let u : without c s ≡ s' = same_column _ _ _ _ k k' in
      let small = without_le c s in
      let e = mod_same code.n (f + c + code.n - without c s) (f + code.n - (c' - code.m + s' + 1))
      (omega arith) (omega arith) (same_node _ _ _ _ k k') in
      absurd (omega arith)
  same_place (inr (inr (l, k))) (inl (l', z', k')) = absurd (omega (arith, same_column _ _ _ _ k k'))
  same_place (inr (inr (l, k))) (inr (inl (l', z', k'))) =
      let room = code.room in
      let u : s ≡ without c' s' = same_column _ _ _ _ k k' in
      let small = without_le c' s' in
      let e = mod_same code.n (f + code.n - (c - code.m + s + 1)) (f + c' + code.n - without c' s')
      (omega arith) (omega arith) (same_node _ _ _ _ k k') in
      absurd (omega arith)
  same_place (inr (inr (l, k))) (inr (inr (l', k'))) =
      let room = code.room in
      let u : s ≡ s' = same_column _ _ _ _ k k' in
      let e = mod_same code.n (f + code.n - (c - code.m + s + 1)) (f + code.n - (c' - code.m + s' + 1))
      (omega arith) (omega arith) (same_node _ _ _ _ k k') in
      (omega arith, u)

-- the count of a cell
pub cells_apart : (code : Code) (f p p' : ℕ) → f < code.n → p < whole code → p' < whole code → wanted code f p ≡ wanted code f p' → p ≡ p'
cells_apart code f p p' known h h' same =
    let c = p / code.m in
    let s = p % code.m in
    let c' = p' / code.m in
    let s' = p' % code.m in
    let at = counted code p h in
    let at' = counted code p' h' in
    let e = same_place code f known c s c' s' at.0 at.1 at'.0 at'.1
    (ap (wanted code f) at.2 ∙ same ∙ ap (wanted code f) (sym at'.2))
    (kinds code f c s at.0 at.1) (kinds code f c' s' at'.0 at'.1) in
    sym at.2 ∙ ap (λ x. x * code.m + s) e.0 ∙ ap (λ x. c' * code.m + x) e.1 ∙ at'.2
