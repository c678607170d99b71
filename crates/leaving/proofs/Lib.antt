pub mod WithdrawSearch
pub mod WithdrawJoin
pub mod WithdrawCut
pub mod WithdrawPlanted
pub mod WithdrawPages
pub mod WithdrawRemoved
pub mod Withdrawn
pub mod WithdrawRoot
