pub mod MoreDigits
pub mod FittingKeys
