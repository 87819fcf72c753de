pub mod WholeSet
