-- The statements of specs/Consequences, each from the lemmas over numbers.
use Rattle.algebra.specs.Consequences.{ZeroProducts, NonzeroPowers, PowerLaws, LinearSums, SwappedSums, SplitSums, SumsByTerms}
use Rattle.algebra.proofs.Numbers.{zero-mul, mul-zero, zero_factor, power_ne, generator_ne, power-add, power-mul, sum_add, sum_sub, sum_mul, sum_swap, sum_split, sum_ext, sum_zeros, sum_single}

pub zero_products : ZeroProducts
zero_products F L = (λ u. (zero-mul F L u, mul-zero F L u), zero_factor F L)

pub nonzero_powers : NonzeroPowers
nonzero_powers F L = (power_ne F L, generator_ne F L)

pub power_laws : PowerLaws
power_laws F L u d e = (power-add F L u d e, power-mul F L u d e)

pub linear_sums : LinearSums
linear_sums F L n f g = (sum_add F L n f g, sum_sub F L n f g, λ a. sum_mul F L n a f)

pub swapped_sums : SwappedSums
swapped_sums = sum_swap

pub split_sums : SplitSums
split_sums = sum_split

pub sums_by_terms : SumsByTerms
sums_by_terms F L n f = (λ g h. sum_ext F L n f g h, λ h. sum_zeros F L n f h, λ k l b h. sum_single F L n k f l b h)
