-- SELECT speaks for APPLY: what the proofs of this crate and those above cite of it.
pub use Rattle.operators.specs.Selecting.{well_spelled, rowful_computed, apply_as_selected}
