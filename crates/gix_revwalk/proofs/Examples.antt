-- Places of parents that agree with a store, and one that doesn't.
pub mod AgreeingRows
