-- what a field is, and the two fields
pub mod Laws
pub mod Polynomials
pub mod Reciprocals
pub mod Bytes
pub mod Prime
-- that the two fields keep the laws: proofs, which stand here because an implementation names them as its laws
pub mod BytesLaws
pub mod Operands
pub mod ReciprocalsLemmas
pub mod Powers
pub mod BytesRing
pub mod PolynomialRing
pub mod BytesTables
pub mod Tables
pub mod PrimeLaws
pub mod Remainders
