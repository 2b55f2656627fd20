-- All cells of a memory hold symbols exactly if its first n·(m + a) numbers do.
use Rattle.std.proofs.Common.{◌≡◌, ℕ, ◌+◌, ◌*◌, ◌/◌, ◌%◌, ◌<◌, ◌≤◌, List, length, take, arith}
use Rattle.std.proofs.lemmas.List.{get_or-take, length-take-le}
use Rattle.code.specs.declared.record.Code.{Code}
use Rattle.code.specs.Stripe.{width}
use Rattle.code.proofs.Places.{place_below, place_parts}
use Rattle.encode.specs.Encoding.{cell_count, in_memory}
use Rattle.encode.specs.Systems.{AllBelow}

module _ (q : ℕ) (code : Code) (cells : List ℕ) (K : ℕ) (count : K ≡ cell_count code) (room : K ≤ length cells) where
  pub cells_below : AllBelow q (take K cells) → (j c : ℕ) → j < code.n → c < width code → in_memory code cells j c < q
  cells_below all j c hj hc =
      let low : j * width code + c < K = omega (arith, place_below code.n (width code) j c hj hc) in
      let long : length (take K cells) ≡ K = length-take-le K cells room in
      rw get_or-take at (all (j * width code + c) (omega arith))

  pub numbers_below : ((j c : ℕ) → j < code.n → c < width code → in_memory code cells j c < q) → AllBelow q (take K cells)
  numbers_below all p h =
      let long : length (take K cells) ≡ K = length-take-le K cells room in
      let low : p < K = omega arith in
      let at = place_parts code.n (width code) p (omega arith) (omega arith) in
      let here : in_memory code cells (p / width code) (p % width code) < q = all (p / width code) (p % width code) at.0 at.1 in
      rw get_or-take (rw at.2 at here)
