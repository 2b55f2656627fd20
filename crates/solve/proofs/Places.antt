-- Cells by node and column, and by number.
use Rattle.std.proofs.Common.{◌≡◌, ℕ, ◌+◌, ◌*◌, ◌/◌, ◌%◌, ◌<◌, ◌≤◌, mul-le-mul, arith}
use lib.Arith.{digits_div, digits_mod}
use Rattle.code.specs.declared.record.Code.{Code}
use Rattle.code.specs.Stripe.{width}
use Rattle.code.proofs.Places.{place_below}
use Rattle.encode.specs.Encoding.{cell_count}

-- a place in a row of w, among n rows
pub place_split : (n w j c : ℕ) → j < n → c < w → (j * w + c < n * w) × ((j * w + c) / w ≡ j) × ((j * w + c) % w ≡ c)
place_split n w j c lj lc = (place_below n w j c lj lc, digits_div j lc, digits_mod j lc)

pub width_positive : (code : Code) → 0 < width code
width_positive code = omega (arith, code.data_columns)

-- a code has at most 64·11 cells
pub few_cells : (code : Code) → cell_count code ≤ 704
few_cells code =
    let w : width code ≤ 11 = omega (arith, code.data_columns, code.coded_columns) in
    omega (arith, mul-le-mul code.nodes.1 w)

-- a file has at most 63·8 symbols
pub few_symbols : (code : Code) → code.k * code.m < 505
few_symbols code =
    let k : code.k ≤ 63 = omega (arith, code.data_nodes, code.nodes) in
    omega (arith, mul-le-mul k code.data_columns.1)
