-- Theorems over the definitions. docs/PROOFS.md lists them.
pub mod OlderKinds
pub mod Plain
pub mod SoundParts
pub mod Bound
pub mod Forget
pub mod CallsKeeps
pub mod AdmitKeeps
pub mod Cards
pub mod ReconcileKeeps
pub mod Decided
pub mod NoHolder
pub mod Arguments
pub mod Signed
