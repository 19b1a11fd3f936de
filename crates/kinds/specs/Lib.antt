-- What the contracts cite (Modes, Ops, Matchers), the law behind the proofs (Every), and laws for callers' proofs (Laws, ModeLaws).
pub mod Every
pub mod Modes
pub mod Ops
pub mod Matchers
pub mod Laws
pub mod ModeLaws
