-- The changing calls: what refuses, what becomes of each record, the next area.
pub mod VerdictAs
pub mod PlanAs
pub mod FinishAs
pub mod WriteAs
pub mod CallsAs
pub mod ReopenAs
pub mod AdmitAs
pub mod ClashAs
pub mod TouchAs
pub mod OwnAs
pub mod ReleaseAs
pub mod RanksAs
pub mod ReconcileAs
pub mod LentAs
