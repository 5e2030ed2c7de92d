-- What the functions of a visit promise: the outcome sets of a node by its kind.
pub mod Sets
