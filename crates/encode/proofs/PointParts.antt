-- The points α^k .. α^(n − 1), as a part of the list of the first 64 powers, and the column rule from their syndromes.
use Rattle.std.proofs.Common.{◌≡◌, ℕ, ◌+◌, ◌-◌, ◌*◌, ◌<◌, ◌≤◌, List, length, get_or, take, drop, sym, ap, ◌∙◌, arith}
use Rattle.field.specs.Laws.{Operations, Laws, power}
use Rattle.algebra.specs.Sums.{sum, syndrome}
use Rattle.algebra.proofs.Bridge.{zero_below}
use Rattle.algebra.proofs.Numbers as numbers
use Rattle.encode.specs.Systems.{AllBelow, AllDiffer, Reaches}
use Rattle.encode.specs.Scratch.{PowersOf}
use Rattle.encode.proofs.Windows.{window_length, window_at}

module _ (F : Operations) (L : Laws F) (points : List ℕ) (long : length points ≡ 64) (are : PowersOf F F.α points) (k K : ℕ) (top : k + K ≤ 64) where
  pub point_at : (v : ℕ) → v < K → get_or (take K (drop k points)) v 0 ≡ power F F.α (k + v)
  point_at v l = window_at k K points v l ∙ are (k + v) (omega arith)

  pub points_length : length (take K (drop k points)) ≡ K
  points_length = window_length k K points (omega arith)

  pub points_below : AllBelow F.q (take K (drop k points))
  points_below v l = let m : v < K = omega (arith, points_length) in rw (point_at v m) (numbers.power_below F L F.α (k + v))

  pub points_differ : AllDiffer (take K (drop k points))
  points_differ v w hv hw e =
      let mv : v < K = omega (arith, points_length) in
      let mw : w < K = omega (arith, points_length) in
      let same : k + v ≡ k + w = L.powers_differ (k + v) (k + w) (omega arith) (omega arith) (sym (point_at v mv) ∙ e ∙ point_at w mw) in
      omega arith

  -- what reaches the targets at these points, with the points and the lists written as functions
  pub reached_at : (targets after : List ℕ) (x : ℕ → ℕ) → Reaches F (take K (drop k points)) targets after
      → ((v : ℕ) → v < K → get_or after v 0 ≡ x v)
      → (i : ℕ) → i < K → syndrome F K (λ v. power F F.α (k + v)) x i ≡ get_or targets i 0
  reached_at targets after x reaches same i l =
      numbers.sum_ext F L K (λ v. F.mul (power F (power F F.α (k + v)) i) (x v)) (λ v. F.mul (power F (get_or (take K (drop k points)) v 0) i) (get_or after v 0))
      (λ v m. cc (point_at v m, same v m))
      ∙ ap (λ n. syndrome F n (λ v. get_or (take K (drop k points)) v 0) (λ v. get_or after v 0) i) (sym points_length)
      ∙ reaches i (omega (arith, points_length))

-- The i-th syndrome of the k data symbols and that of the parity symbols, which is the first taken from 0, sum up to 0.
pub column_sum_zero : (F : Operations) → Laws F → (n k i : ℕ) (x : ℕ → ℕ) → k ≤ n
    → syndrome F (n - k) (λ v. power F F.α (k + v)) (λ v. x (k + v)) i ≡ F.sub 0 (sum F k (λ j. F.mul (power F F.α (i * j)) (x j)))
    → sum F n (λ j. F.mul (power F F.α (i * j)) (x j)) ≡ 0
column_sum_zero F L n k i x le cancels =
    let whole : n ≡ k + (n - k) = omega arith in
    ap (λ t. sum F t (λ j. F.mul (power F F.α (i * j)) (x j))) whole
    ∙ numbers.sum_split F L k (n - k) (λ j. F.mul (power F F.α (i * j)) (x j))
    ∙ ap (F.add (sum F k (λ j. F.mul (power F F.α (i * j)) (x j))))
    (numbers.sum_ext F L (n - k) (λ v. F.mul (power F F.α (i * (k + v))) (x (k + v))) (λ v. F.mul (power F (power F F.α (k + v)) i) (x (k + v)))
    (λ v l. ap (λ t. F.mul t (x (k + v))) (numbers.power-mul F L F.α i (k + v)))
    ∙ cancels)
    ∙ numbers.add_comm F L (sum F k (λ j. F.mul (power F F.α (i * j)) (x j))) (F.sub 0 (sum F k (λ j. F.mul (power F F.α (i * j)) (x j))))
    ∙ numbers.sub-add F L 0 (sum F k (λ j. F.mul (power F F.α (i * j)) (x j))) (zero_below F L)
