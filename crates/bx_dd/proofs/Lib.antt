pub mod BlockLemmas
pub mod RecordsLemmas
pub mod ConvertLemmas
pub mod TransferLemmas
pub mod StreamLemmas
pub mod FlowLemmas
pub mod UnitLemmas
pub mod CopyLemmas
pub mod OperandsLemmas
pub mod PlanLemmas
mod Rows
pub mod LawLemmas
pub mod NumberLemmas
pub mod NumberLaws
pub mod OperandLaws
pub mod BehindLemmas
