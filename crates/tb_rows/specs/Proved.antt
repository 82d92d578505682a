-- What the ghost items of types cite by name: proofs, and no definition of a contract. They stand below specs/ since a ghost item can name nothing of its own crate's proofs/.
pub mod KeyTests
