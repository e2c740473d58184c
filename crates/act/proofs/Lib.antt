-- What the proofs of act's functions cite.
pub mod ConditionLaws
pub mod JumpLaws
pub mod CallLaws
pub mod RepeatLaws
pub mod ValueLaws
