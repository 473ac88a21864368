pub mod FindingsText
pub mod RangeWord
